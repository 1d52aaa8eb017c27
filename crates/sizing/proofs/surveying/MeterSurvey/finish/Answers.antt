use Rattle.std.proofs.Common.{subst}
use Rattle.heap_model.specs.Event.{Runs}
use Rattle.heap_model.specs.ReachedFrom.{opened}
use Rattle.size_classes.specs.declared.config.TheConstants.{LEAST_BUDGET}
use Rattle.trace.proofs.LinesSeen.{events_brought}
use Rattle.sizing.specs.Measured.{IsMeasured}
use Rattle.sizing.proofs.Promises.{run_budgets, promised}
use Rattle.sizing.proofs.surveying.MeterSurvey.finish.Goals as goal

pub measured-requires : goal.measured-requires
measured-requires c =
    let seen = c.requires.1 in
    (seen.measures.needs.budget LEAST_BUDGET).0 (run_budgets _ _ _ seen.runs)

pub returns : goal.returns
returns c = λ config given run there lines seen.
    let h = run.old.course.heap in
    let same = events_brought _ _ _ _ _ run.played.over.done in
    let is = subst (λ es. IsMeasured h.limits es c.measured.result) same (c.measured.ensures _ _ _ seen.measures) in
    record {
      is = is;
      promises = promised config h run.played.over.events _ c.measured.result run.is_new.heap run.is_new.settings (subst (λ es. Runs (opened h) es run.new.player.course) same seen.runs) is;
    }
