-- A window of a paced run, and its share.
use Rattle.std.proofs.Common.{◌≡◌, ℕ, ◌+◌, ◌-◌, ◌*◌, ◌<◌, ◌≤◌, List, [], ◌∷◌, ◌++◌, ap, ◌∙◌, sym, subst, arith, refl, append_assoc}
use Rattle.std.specs.Prelude.{◌/◌, sum_by}
use Rattle.std.specs.Int.{div_ceil}
use Rattle.std.specs.List.{AllByRecursion}
use Rattle.std.proofs.lemmas.Grind.{div_ceil_times}
use Rattle.std.proofs.lemmas.List.{map-append}
use Rattle.std.proofs.lemmas.List.Sums.{sum_by-cons}
use Rattle.std.proofs.Math.Nat.{div-mul-le_self, lt_of_mul-lt-mul_right, mul-le-mul_left, mul-le-mul_right}
use Rattle.size_classes.specs.declared.config.Config.{Config}
use Rattle.heap_model.specs.Event.{quanta_in}
use Rattle.paced.specs.declared.plan.Plan.{Plan}
use Rattle.paced.specs.Pacing.{PacedState, KeepsPlan}
use Rattle.paced.specs.Bounds.{Deed, AreDone, events_of, quanta_paid, words_asked, LastsWith, LiveWithinPlan, KeepsToWords}
use Rattle.paced.proofs.Paths.{path_then}
use Rattle.paced.proofs.Deeds.{deeds_path, events_then}
use Rattle.paced.proofs.Reached.{metered_first}
use Rattle.paced.proofs.Stretches.{stretches_keep}
use Rattle.plans.specs.Utilisation.{TimedDeed, TakesAtMost, Window, deeds_of, IsPaced, KeepsShare, most_quanta}

-- deeds that are done one after the other are those that come first, and then the others
done_parts : (ds es : List Deed) (old new : PacedState) → AreDone old (ds ++ es) new → (mid : PacedState) × AreDone old ds mid × AreDone mid es new
done_parts [] es old new done = (old, refl, done)
done_parts (d ∷ ds) es old new done = let r = done_parts ds es done.0 new done.2 in (r.0, (done.0, done.1, r.1), r.2)

all_first : {X : Type 0} (P : X → Type 0) (xs ys : List X) → AllByRecursion P (xs ++ ys) → AllByRecursion P xs
all_first P [] ys all = tt
all_first P (x ∷ xs) ys all = (all.0, all_first P xs ys all.1)

all_last : {X : Type 0} (P : X → Type 0) (xs ys : List X) → AllByRecursion P (xs ++ ys) → AllByRecursion P ys
all_last P [] ys all = all
all_last P (x ∷ xs) ys all = all_last P xs ys all.1

-- as many quanta as words take, rounded up, are no more than those of more words
rounded_up : (paid asked words each : ℕ) → 1 ≤ each → paid ≤ (asked + (each - 1)) / each → asked ≤ words → paid ≤ div_ceil words each
rounded_up paid asked words each some few more =
    let a = mul-le-mul_right each few in
    let b = div-mul-le_self (asked + (each - 1)) each in
    let c = (div_ceil_times words each some).0 in
    let n : (div_ceil words each + 1) * each ≡ div_ceil words each * each + each = next (div_ceil words each) each in
    let l : paid < div_ceil words each + 1 = lt_of_mul-lt-mul_right each (let z : paid * each < (div_ceil words each + 1) * each = omega (arith, a, b, c, n, some, more) in z) in
    omega (arith, l)
  where
    next : (a b : ℕ) → (a + 1) * b ≡ a * b + b
    next a b = grind arith

-- the program waits for no more than the quanta of its deeds
waits_quanta : (longest : ℕ) (run : List TimedDeed) → AllByRecursion (TakesAtMost longest) run → sum_by (λ t. t.waits) run ≤ quanta_paid (deeds_of run) * longest
waits_quanta longest [] all = omega arith
waits_quanta longest (t ∷ ts) all =
    let rest = waits_quanta longest ts all.1 in
    let first = all.0 in
    let s = sum_by-cons (λ (t : TimedDeed). t.waits) t ts in
    let e = both (quanta_in t.deed.work) (quanta_paid (deeds_of ts)) longest in
    omega (arith, rest, first, s, e)
  where
    both : (a b c : ℕ) → (a + b) * c ≡ a * c + b * c
    both a b c = grind arith

module _ (config : Config) (plan : Plan) (live largest longest words : ℕ) (run : List TimedDeed) (lasts : LastsWith config plan live largest) (paced : IsPaced config plan live largest run) (times : AllByRecursion (TakesAtMost longest) run) (w : Window run) (asks : words_asked (deeds_of w.stretch) ≤ words) where
  -- the deeds before the window, in it, and after it
  abbrev early : List Deed
  early = deeds_of w.before

  abbrev inside : List Deed
  inside = deeds_of w.stretch

  abbrev late : List Deed
  late = deeds_of w.after

  parts : deeds_of run ≡ early ++ (inside ++ late)
  parts = ap deeds_of w.parts ∙ map-append (λ (t : TimedDeed). t.deed) w.before (w.stretch ++ w.after) ∙ ap (λ z. early ++ z) (map-append (λ (t : TimedDeed). t.deed) w.stretch w.after)

  keeps : KeepsToWords plan (config.collector_ticks * config.rate) inside
  keeps =
      let a = done_parts early (inside ++ late) paced.first paced.last (subst (λ ds. AreDone paced.first ds paced.last) parts paced.done) in
      let b = done_parts inside late a.0 paced.last a.2 in
      let small = all_first _ inside late (all_last _ early (inside ++ late) (subst (AllByRecursion _) parts paced.small)) in
      let leads = path_then KeepsPlan paced.events (events_of early) paced.made paced.first a.0 paced.leads (deeds_path early paced.first a.0 a.1) in
      let all : paced.events ++ events_of (deeds_of run) ≡ ((paced.events ++ events_of early) ++ events_of inside) ++ events_of late =
      ap (λ ds. paced.events ++ events_of ds) parts ∙ ap (λ z. paced.events ++ z) (events_then early (inside ++ late) ∙ ap (λ z. events_of early ++ z) (events_then inside late))
      ∙ sym (append_assoc paced.events (events_of early) (events_of inside ++ events_of late)) ∙ sym (append_assoc (paced.events ++ events_of early) (events_of inside) (events_of late)) in
      let lives = metered_first _ _ ((paced.events ++ events_of early) ++ events_of inside) (events_of late) _ (subst (λ es. LiveWithinPlan config plan live es) all paced.lives) in
      stretches_keep config plan live largest paced.made paced.is_made lasts (paced.events ++ events_of early) a.0 b.0 inside leads b.1 small lives

  pub share_kept : KeepsShare plan words longest w
  share_kept =
      let quanta = rounded_up (quanta_paid inside) (words_asked inside) words plan.quantum_words lasts.some keeps.quanta asks in
      let cut = waits_quanta longest w.stretch (all_first _ w.stretch w.after (all_last _ w.before (w.stretch ++ w.after) (subst (AllByRecursion _) w.parts times))) in
      let time = mul-le-mul_right longest quanta in
      let waits : w.waits ≤ most_quanta plan words * longest = let a = w.within in omega (arith, a, cut, time) in
      record {
        quanta = quanta;
        waits = waits;
        share = mul-le-mul_left w.own (let z : w.own + w.waits ≤ w.own + most_quanta plan words * longest = omega (arith, waits) in z);
      }
