use Rattle.std.proofs.Common.{slice_index_or, subst, arith}
use Rattle.heap_server.specs.Views.{SeatView}
use Rattle.heap_server.specs.Played.{IsPlayed}
use Rattle.heap_server.proofs.Settling.{each_played}
use Rattle.heap_server.proofs.workers.play_scripts.Goals as goal

pub returns : goal.returns
returns g c =
    let new = c.for_each_mut.new.s in
    let each = each_played (λ s. s.items) c.args.scripts.now c.args.seats.now new c.requires.count (omega (arith, c.for_each_mut.auto.s)) (λ i d e lt.
    let at = (c.for_each_mut.ensures i d lt).1 in
    let script = (slice_index_or c.args.scripts.now i e).items in
    let one = subst (λ (s : SeatView). IsPlayed script s (slice_index_or new i d)) at.argument_is (subst (λ (t : SeatView). IsPlayed script at.argument.now t) {y = slice_index_or new i d} at.left (at.call e)) in
    (one.mutator, record { within = one.within; told = one.told })) in
    record { mutators = each.0; played = each.1 }
