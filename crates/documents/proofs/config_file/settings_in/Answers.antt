use Rattle.std.proofs.Common.{◌≡◌, ◌∙◌, None, refl, true, SFits, w64, rules, arith}
use Rattle.std.proofs.lemmas.Int.{ints, to_z-of_z}
use Rattle.size_classes.specs.declared.key.Key.TheVariants.{Pages, Mutators, Slots, Statics, Identities, DefragBelow, DefragPages, CollectorTicks, MutatorTicks, Rate, Live}
use Rattle.size_classes.specs.declared.settings.Settings.{Settings}
use Rattle.size_classes.specs.declared.ranges.Ranges.TheVariants.{File}
use Rattle.size_classes.specs.Keys.{is_allowed}
use Rattle.size_classes.specs.Config.{first_outside}
use Rattle.toml.specs.Data.{Members}
use Rattle.toml.specs.View.{table_view}
use Rattle.documents.specs.ConfigFile.{mutators_of, number_for, HasRange}
use Rattle.documents.proofs.Values.{mutators_same, some_live}
use Rattle.documents.proofs.config_file.settings_in.Goals as goal

-- Each setting is in its range, if the range has a number.
settings_within : (document : Members) (s : Settings) → s.mutators ≡ number_for document Mutators
    → (HasRange document Pages → is_allowed File (mutators_of document) Pages s.pages ≡ true)
    → (HasRange document Mutators → is_allowed File (mutators_of document) Mutators s.mutators ≡ true)
    → (HasRange document Slots → is_allowed File (mutators_of document) Slots s.slots ≡ true)
    → (HasRange document Statics → is_allowed File (mutators_of document) Statics s.statics ≡ true)
    → (HasRange document Identities → is_allowed File (mutators_of document) Identities s.identities ≡ true)
    → (HasRange document DefragBelow → is_allowed File (mutators_of document) DefragBelow s.defrag_below ≡ true)
    → (HasRange document DefragPages → is_allowed File (mutators_of document) DefragPages s.defrag_pages ≡ true)
    → (HasRange document CollectorTicks → is_allowed File (mutators_of document) CollectorTicks s.collector_ticks ≡ true)
    → (HasRange document MutatorTicks → is_allowed File (mutators_of document) MutatorTicks s.mutator_ticks ≡ true)
    → (HasRange document Rate → is_allowed File (mutators_of document) Rate s.rate ≡ true)
    → (HasRange document Live → is_allowed File (mutators_of document) Live s.live ≡ true)
    → first_outside File s ≡ None
settings_within document s same pages mutators slots statics identities defrag_below defrag_pages collector_ticks mutator_ticks rate live =
    let e : s.mutators ≡ mutators_of document = same ∙ mutators_same document in
    let m : is_allowed File (mutators_of document) Mutators (mutators_of document) ≡ true = rw e at (mutators (omega (arith, ints))) in
    rw (e, m, pages (omega (arith, ints)), slots (omega (arith, ints)), statics (omega (arith, ints)), identities (omega (arith, ints)), defrag_below (omega (arith, ints)), defrag_pages (omega (arith, ints)), collector_ticks (omega (arith, ints)), mutator_ticks (omega (arith, ints)), rate (omega (arith, ints)), live (some_live _ m)) refl

pub returns-clause-ranges : goal.returns-clause-ranges
returns-clause-ranges c =
    let pages : SFits w64 c.in_ok-number_at.field-0 = search rules in
    let mutators : SFits w64 c.in_ok-number_at-2.field-0 = search rules in
    let slots : SFits w64 c.in_ok-number_at-3.field-0 = search rules in
    let statics : SFits w64 c.in_ok-number_at-4.field-0 = search rules in
    let identities : SFits w64 c.in_ok-number_at-5.field-0 = search rules in
    let defrag_below : SFits w64 c.in_ok-number_at-6.field-0 = search rules in
    let defrag_pages : SFits w64 c.in_ok-number_at-7.field-0 = search rules in
    let collector_ticks : SFits w64 c.in_ok-number_at-8.field-0 = search rules in
    let mutator_ticks : SFits w64 c.in_ok-number_at-9.field-0 = search rules in
    let rate : SFits w64 c.in_ok-number_at-10.field-0 = search rules in
    let live : SFits w64 c.in_ok-number_at-11.field-0 = search rules in
    let s : Settings = record {
      pages = c.in_ok-number_at.field-0;
      mutators = c.in_ok-number_at-2.field-0;
      slots = c.in_ok-number_at-3.field-0;
      statics = c.in_ok-number_at-4.field-0;
      identities = c.in_ok-number_at-5.field-0;
      defrag_below = c.in_ok-number_at-6.field-0;
      defrag_pages = c.in_ok-number_at-7.field-0;
      collector_ticks = c.in_ok-number_at-8.field-0;
      mutator_ticks = c.in_ok-number_at-9.field-0;
      rate = c.in_ok-number_at-10.field-0;
      live = c.in_ok-number_at-11.field-0;
    } in
    let ranges = settings_within (table_view c.args.document.now) s c.in_ok-number_at-2.ensures.value c.in_ok-number_at.ensures.within c.in_ok-number_at-2.ensures.within c.in_ok-number_at-3.ensures.within c.in_ok-number_at-4.ensures.within c.in_ok-number_at-5.ensures.within c.in_ok-number_at-6.ensures.within c.in_ok-number_at-7.ensures.within c.in_ok-number_at-8.ensures.within c.in_ok-number_at-9.ensures.within c.in_ok-number_at-10.ensures.within c.in_ok-number_at-11.ensures.within in
    rw (to_z-of_z w64 s.pages pages, to_z-of_z w64 s.mutators mutators, to_z-of_z w64 s.slots slots, to_z-of_z w64 s.statics statics, to_z-of_z w64 s.identities identities, to_z-of_z w64 s.defrag_below defrag_below, to_z-of_z w64 s.defrag_pages defrag_pages, to_z-of_z w64 s.collector_ticks collector_ticks, to_z-of_z w64 s.mutator_ticks mutator_ticks, to_z-of_z w64 s.rate rate, to_z-of_z w64 s.live live) ranges
