use Rattle.std.proofs.Common.{◌≡◌, ◌+◌, ◌∷◌, [], ◌++◌, ap, ◌∙◌, arith, append_assoc}
use Rattle.std.specs.List.{sum_by}
use Rattle.std.proofs.lemmas.List.Sums.{sum_by-append, sum_by-cons}
use Rattle.heap_server.specs.Views.{SeatView}
use Rattle.heap_server.proofs.Fronts.{prefix_trans}
use Rattle.heap_server.proofs.Closing.{each_grows}
use Rattle.heap_server.proofs.server.gathered.Goals as goal

pub loop-seat-preserved : goal.loop-seat-preserved
loop-seat-preserved g c =
    let i = c.loop-seat.invariant in
    let pop = c.in-Some-pop.ensures in
    let given = c.given.ensures in
    let rest = c.pop-in-loop-seat.new.self.items in
    let seat = c.in-Some-pop.seat in
    let f = λ (t : SeatView). t.calls in
    let sum : sum_by f c.loop-seat.seats.items ≡ sum_by f rest + seat.calls = omega (arith, ap (sum_by f) pop.items, sum_by-append f rest (seat ∷ []), sum_by-cons f seat []) in
    record {
      parts = omega (arith, i.parts, c.merge.ensures.parts, given.parts, pop.len);
      amount = omega (arith, i.amount, c.merge.ensures.amount, given.amount, sum);
      grows = prefix_trans c.args.front.now c.loop-seat.front c.given.new.front i.grows given.grows;
      known = (
        seat ∷ i.known.0,
        i.known.1 ∙ (ap (λ w. w ++ i.known.0) pop.items ∙ append_assoc rest (seat ∷ []) i.known.0),
        (given.known, each_grows i.known.0 c.loop-seat.front c.given.new.front given.grows i.known.2),
      );
    }
