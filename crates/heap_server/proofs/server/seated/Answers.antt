use Rattle.std.proofs.Common.{◌∙◌, rules, arith}
use Rattle.heap_server.proofs.Counting.{new_seats-more}
use Rattle.heap_server.proofs.server.seated.Goals as goal

pub loop-mutator-init : goal.loop-mutator-init
loop-mutator-init c = search rules

pub loop-mutator-preserved : goal.loop-mutator-preserved
loop-mutator-preserved g c =
    let i = c.loop-mutator.invariant in
    record {
      parts = omega (arith, i.parts, c.split_off.ensures.parts_left);
      amount = omega (arith, i.amount, c.split_off.ensures.amount_left);
      seats = new_seats-more c.loop-mutator.mutator _ _ _ _ i.seats c.split_off.ensures.amount (c.again.ensures ∙ c.requires.front) c.in_ok-push.ensures.items;
    }
