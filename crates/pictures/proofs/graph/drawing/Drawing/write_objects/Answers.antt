use Rattle.std.proofs.Common.{ap, refl, arith}
use Rattle.std.proofs.lemmas.List.{drop_all}
use Rattle.pictures.specs.Drawing.{shown_in}
use Rattle.pictures.specs.GraphDrawing.{objects_drawn}
use Rattle.pictures.proofs.graph.Drawn.{objects_on}
use Rattle.pictures.proofs.Parts.{at_err, none_yet, further, cut_short, all_of}
use Rattle.pictures.proofs.Lines.{dot_is}
use Rattle.pictures.proofs.graph.drawing.Drawing.write_objects.Goals as goal

pub loop-object-init : goal.loop-object-init
loop-object-init g c = record { written = none_yet dot_is _ _; failures = refl }

pub returns-in_err-write_object-clause-err : goal.returns-in_err-write_object-clause-err
returns-in_err-write_object-clause-err g c =
    let shown = shown_in c.args.self.now in
    at_err c.from_residual.result _ (cut_short dot_is _ _ _ _ c.loop-object.invariant.written _ _ (objects_on c.args.self.now.graph.now shown c.args.objects.now c.loop-object.object-index _ c.loop-object-test.true) _ c.in_err-write_object.ensures.err)

pub loop-object-preserved : goal.loop-object-preserved
loop-object-preserved g c =
    let shown = shown_in c.args.self.now in
    record {
      written = further dot_is _ _ _ _ c.loop-object.invariant.written _ _ (objects_on c.args.self.now.graph.now shown c.args.objects.now c.loop-object.object-index _ c.loop-object-test.true) _ c.in_ok-write_object.ensures.ok;
      failures = omega (arith, c.in_ok-write_object.ensures.cause, c.loop-object.invariant.failures);
    }

pub returns-clause-ok : goal.returns-clause-ok
returns-clause-ok g c =
    all_of _ _ _ _ c.loop-object.invariant.written
    (ap (objects_drawn c.args.self.now.graph.now (shown_in c.args.self.now)) (drop_all c.loop-object.object-index c.args.objects.now c.loop-object-test.false))
