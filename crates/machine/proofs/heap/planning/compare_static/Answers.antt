use Rattle.std.proofs.Common.{refl}
use Rattle.graph_heap.specs.declared.command.Command.TheVariants as commands
use Rattle.graph_heap.specs.declared.command.Change.TheVariants as changes
use Rattle.machine.specs.declared.plan.Write.TheVariants as writes
use Rattle.machine.proofs.Effects.{stored_static_effect, kept_static_effect}
use Rattle.machine.proofs.Plans.{placed, placed_static, compared_plans, within}
use Rattle.machine.proofs.heap.planning.compare_static.Goals as goal

pub returns : goal.returns
returns c g a =
    let w = c.compared.ensures g a in
    let expected = c.in_ok-expected.ensures.names g a in
    let source = placed c.heap.view_is c.args.mutator c.args.new c.in_ok-source.source c.in_ok-source.ensures.place in
    let cell = placed_static c.heap.view_is c.args.k c.in_ok-cell.cell c.in_ok-cell.ensures.place in
    compared_plans c.args.heap.now g c.args.mutator (commands.CompareStatic c.args.k c.args.expect c.args.new) c.referent.result.identity c.in_ok-expected.expected.identity (writes.Root c.in_ok-cell.cell w.0.reference) c.compared.result (changes.Root c.in_ok-cell.cell _) w.2
    (kept_static_effect c.args.heap.now g a c.args.mutator c.args.k c.args.expect c.args.new expected.cell c.in_ok-source.source c.in_ok-cell.cell c.referent.result c.in_ok-expected.expected expected.place source cell (c.referent.ensures g a) expected.names)
    (stored_static_effect c.args.heap.now g a c.args.mutator c.args.k c.args.expect c.args.new expected.cell c.in_ok-source.source c.in_ok-cell.cell c.referent.result c.in_ok-expected.expected expected.place source cell (c.referent.ensures g a) expected.names)
    (_, refl, within c.heap.view_is c.in_ok-cell.cell c.in_ok-cell.ensures.within, w.1.known, w.1.main)
