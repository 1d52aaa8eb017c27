use Rattle.heap_shared.proofs.Merging.{merges}
use Rattle.heap_shared.proofs.laws.histories_merge.Goals as goal

pub returns : goal.returns
returns c mutators log accounts bears below covers = merges mutators log accounts bears below covers
