use Rattle.heap_model.specs.Event.{present_of, snapshot_of}
use Rattle.heap_model.proofs.Event.Freed.{reached_kept, reached_allocated, runs_back}
use Rattle.heap_model.proofs.events.freed_is_unreachable.Goals as goal

pub returns-clause-kept : goal.returns-clause-kept
returns-clause-kept c = λ r id w reach. reached_kept r.heap (present_of r) (snapshot_of r) w.represents.consistent id reach

pub returns-clause-allocated : goal.returns-clause-allocated
returns-clause-allocated c = λ r id w reach. reached_allocated r.heap (present_of r) (snapshot_of r) w.represents.consistent id reach

pub returns-clause-never_back : goal.returns-clause-never_back
returns-clause-never_back c = runs_back
