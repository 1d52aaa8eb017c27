use Rattle.std.proofs.Common.{◌≡◌, ◌∙◌, ◌==◌, refl, sym, rules, tests}
use Rattle.std.specs.Prelude.{Option, Some, None}
use Rattle.std.specs.Option.{option_map}
use Rattle.std.proofs.lemmas.Iterator.{YieldsList-from_slice, YieldsList-from_map}
use Rattle.std.proofs.lemmas.Iterator.Consumers.{YieldsList-at, YieldsList-from_chain, YieldsList-from_copied}
use Rattle.std.proofs.lemmas.Iterator.Search.{find_from_yields_List}
use Rattle.size_classes.specs.declared.key.TheConstants.Key.{ALL}
use Rattle.metronome_c.specs.declared.status.Status.TheVariants.{SettingOutOfRange}
use Rattle.metronome_c.specs.declared.status.TheConstants.Status.{BEFORE_SETTINGS, BEHIND_SETTINGS}
use Rattle.metronome_c.specs.Status.{status_number}
use Rattle.metronome_c.proofs.status.Status.numbered.Goals as goal

as_found : {A : Type 0} (o : Option A) → option_map (λ x. x) o ≡ o
as_found (Some x) = refl
as_found None = refl

pub returns : goal.returns
returns c = sym (as_found _) ∙ find_from_yields_List (λ s. status_number s == c.args.number) _ _ _ c.find.ensures.ran
    (YieldsList-from_chain
    (YieldsList-at c.chain-2.ensures.first (YieldsList-from_chain
    (YieldsList-from_copied (YieldsList-from_slice BEFORE_SETTINGS cc))
    (YieldsList-at c.chain.ensures.second (YieldsList-from_map _ SettingOutOfRange (YieldsList-from_slice ALL cc) c.map-settings.ensures.closure (λ x r q k. search rules)))
    (cc) cc))
    (YieldsList-at c.chain-2.ensures.second (YieldsList-from_copied (YieldsList-from_slice BEHIND_SETTINGS cc))) (cc) cc)
    (λ x b q k. search (rules, tests))
