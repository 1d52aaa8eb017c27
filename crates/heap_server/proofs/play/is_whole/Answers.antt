use Rattle.std.proofs.Common.{refl, arith, vec_len}
use Rattle.heap_server.proofs.Settling.{same_sizes}
use Rattle.heap_server.proofs.play.is_whole.Goals as goal

pub returns : goal.returns
returns c = (λ all. same_sizes vec_len c.args.scripts.now c.args.done.now c.requires (λ m e lt. c.loop-i.invariant m e (omega (arith, lt, c.loop-i-test.false, c.loop-i.auto.i-end))), λ same. refl)
