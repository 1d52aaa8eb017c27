use Rattle.heap_model.proofs.Action.Shading.{shade_kept, shade_main, shade_records}
use Rattle.heap_model.proofs.mutator.shade_keeps.Goals as goal

pub returns : goal.returns
returns c = record { kept = shade_kept; main = shade_main; recorded = shade_records }
