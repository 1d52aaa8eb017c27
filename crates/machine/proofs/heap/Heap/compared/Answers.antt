use Rattle.std.proofs.Common.{inl, inr, refl}
use Rattle.machine.proofs.Finding.{root_names}
use Rattle.machine.proofs.heap.Heap.compared.Goals as goal

pub returns-then-referent-expected : goal.returns-then-referent-expected
returns-then-referent-expected c g a = (_, root_names _ _ refl c.args.source _ c.requires refl _ refl g a, inl (c.if-referent-expected.true, c.reply.ensures))

pub returns : goal.returns
returns c g a = (c.referent.result, c.referent.ensures g a, inr (c.if-referent-expected.false, rw c.write.ensures refl))
