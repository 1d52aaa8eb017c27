use Rattle.std.proofs.Common.{subst, sym}
use Rattle.graph_heap.specs.Graph.{Graph}
use Rattle.space.specs.Demand.{blocks_of}
use Rattle.sizing.specs.Counts.{AreBlocks}
use Rattle.trace.specs.Observing.{run_by}
use Rattle.plans.specs.Live.{IsMostLive}
use Rattle.plans.proofs.surveying.LiveMeterSurvey.finish.Goals as goal

pub returns : goal.returns
returns c = λ config given run there lines seen. record {
  words = subst (IsMostLive (run_by run.played).steps) (sym c.found.ensures.words) seen.most;
  blocks = subst (λ (g : Graph). AreBlocks c.found.result.blocks (blocks_of g.objects)) seen.graph (c.found.ensures.blocks seen.shapes);
}
