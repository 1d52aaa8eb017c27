use Rattle.std.proofs.Common.{◌≡◌, ◌≤◌, length, map, take, sum, ap, ◌∙◌, sym, arith, ℕ, List, false, not, eqb, subst}
use Rattle.std.specs.Prelude.{IsPermutation}
use Rattle.std.specs.List.{AllZip}
use Rattle.std.proofs.lemmas.List.{length-map}
use Rattle.std.proofs.lemmas.List.Sums.{sum-map}
use Rattle.std.proofs.lemmas.List.Sorted.{IsPermutation-refl}
use Rattle.heap_model.specs.ReachedFrom.{IsReachedFrom}
use Rattle.heap_server.specs.Views.{SeatView, PacerView}
use Rattle.heap_server.specs.Seats.{mutators_of}
use Rattle.heap_server.specs.Played.{IsCollected, HasFronts}
use Rattle.heap_server.proofs.Counting.{seats_count}
use Rattle.heap_server.proofs.Settling.{first_sum, lengths_of, played_within, not_torn}
use Rattle.heap_server.proofs.Fronted.{has_fronts, fronts_merge}
use Rattle.heap_server.proofs.play.settled.Goals as goal

pub count_calls-requires-clause-count : goal.count_calls-requires-clause-count
count_calls-requires-clause-count g c = omega (arith, ap length c.as_slice.ensures.value, seats_count c.args.seats.items g.N.Naming.names.settings.limits.mutators c.requires.1.1.1.0.all, c.requires.1.1.0)

pub is_whole-whole-requires : goal.is_whole-whole-requires
is_whole-whole-requires g c = omega (arith, c.count_calls.ensures.len, c.as_slice-2.ensures.len)

pub close-recorded-requires : goal.close-recorded-requires
close-recorded-requires g c = subst (λ (ms : List ℕ). IsPermutation (mutators_of c.args.seats.items) ms) c.requires.1.1.1.0.all (IsPermutation-refl (mutators_of c.args.seats.items))

pub returns : goal.returns
returns g c =
    let scripts = map (λ s. s.items) c.args.scripts.now in
    let k = length scripts in
    let seats = c.args.seats.items in
    let calls = λ (s : SeatView). s.calls in
    let n = g.N.Naming.names.settings.limits.mutators in
    let h = c.close-recorded.result.0.course.history in
    let done = c.count_calls.new.done.items in
    let long : k ≡ length c.args.scripts.now = length-map c.args.scripts.now (λ s. s.items) in
    let played = c.requires.1.1.1.0 in
    let counts : done ≡ map calls (take k seats) = c.count_calls.ensures.items ∙ (ap (λ (w : List SeatView). map calls (take (length c.args.scripts.now) w)) c.as_slice.ensures.value ∙ ap (λ (j : ℕ). map calls (take j seats)) (sym long)) in
    let counted = c.close-recorded.ensures.counted ∙ first_sum k seats played.rest in
    let fronts : not (eqb c.close-recorded.result.1 (length c.history.result.now)) ≡ false → HasFronts h scripts done = λ torn.
    let found = not_torn c.close-recorded.result.1 (length c.history.result.now) torn in
    subst (λ (w : List ℕ). HasFronts h scripts w) (sym counts) (has_fronts seats h scripts n (c.close-recorded.ensures.found.told (found ∙ ap length c.history.ensures.history)) played.all (omega (arith, long, c.requires.1.1.0)) played.played counted) in
    let whole = c.is_whole-whole.ensures in
    let value = c.as_slice-2.ensures.value in
    let lengths = lengths_of c.args.scripts.now in
    let both = c.is_all-all.ensures in
    record {
      sound = c.close-recorded.ensures.sound;
      counted = counted ∙ (sym (sum-map calls (take k seats)) ∙ ap sum (sym counts));
      within = subst (λ (w : List ℕ). AllZip (λ n most. n ≤ most) w (map length scripts)) (sym counts) (played_within (take k seats) scripts played.played);
      fronts = fronts;
      reached_from = subst (λ (p : PacerView). IsReachedFrom c.close-recorded.result.0.course p.begun p.quanta p.spent) (c.requires.1.0 ∙ sym c.new.ensures) c.close-recorded.ensures.reached_from;
      collected = subst (IsCollected c.args.budgets.now c.args.used) (sym c.new.ensures) c.requires.1.1.1.1.0;
      all = (λ yes. (let b = both.0 yes in (b.0, sym value ∙ whole.0 b.1 ∙ lengths, b.2)), λ b. both.1 (b.0, whole.1 (value ∙ (b.1 ∙ sym lengths)), b.2));
      merge = λ yes. (let b = both.0 yes in fronts_merge h scripts done (fronts b.0) (sym value ∙ whole.0 b.1 ∙ lengths));
    }
