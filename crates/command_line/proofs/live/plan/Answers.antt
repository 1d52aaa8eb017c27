use Rattle.std.proofs.Common.{List, ℕ, Option, ◌∙◌, map, subst, sym, refl}
use Rattle.std.specs.Prelude.{codes, option_map}
use Rattle.std.specs.List.{AllZip}
use Rattle.clap.specs.Words.{found_of}
use Rattle.command_line.specs.Words.{AreAsked, AreClassesOf, IsLiveData}
use Rattle.command_line.proofs.Found.{all_found, words_in}
use Rattle.command_line.proofs.live.plan.Goals as goal

pub returns-clause-asked : goal.returns-clause-asked
returns-clause-asked c =
    let sizes = c.get_strs.ensures ∙ sym (all_found (found_of c.args.found.now) (codes "classes")) in
    let objects = c.get_strs-2.ensures ∙ sym (all_found (found_of c.args.found.now) (codes "objects")) in
    let asks = words_in c.get_strs-3.result (λ s. map (λ v. v.now) s.now) _ _ c.unwrap_or.result (c.get_strs-3.ensures ∙ sym (all_found (found_of c.args.found.now) (codes "asks"))) refl c.unwrap_or.ensures in (
      refl,
      record {
        words = c.long_number.result;
        counted = c.long_number.ensures;
        live = subst (λ (said : Option (List (List ℕ))). IsLiveData c.long_number.result said c.in_ok-live.live) objects c.in_ok-live.ensures.said;
        largest = (c.long_number-2.result, c.long_number-2.ensures, c.unwrap_or-2.ensures);
        classes = subst (λ (said : Option (List (List ℕ))). AreClassesOf said (option_map (λ classes. classes.items) c.in_ok-classes.classes)) sizes c.in_ok-classes.ensures;
        asks = subst (λ (words : List (List ℕ)). AllZip AreAsked words c.in_ok-asks.asks.items) asks c.in_ok-asks.ensures.said;
      },
    )
