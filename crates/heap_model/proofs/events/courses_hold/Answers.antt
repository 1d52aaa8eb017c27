use Rattle.heap_model.specs.Event.{present_of, snapshot_of}
use Rattle.heap_model.proofs.Agreements.Implied.{consistent_agrees}
use Rattle.heap_model.proofs.Swept.{allocated_is_kept}
use Rattle.heap_model.proofs.Represents.{represents_chain, represents_limit}
use Rattle.heap_model.proofs.events.courses_hold.Goals as goal

pub returns-clause-agrees : goal.returns-clause-agrees
returns-clause-agrees c = λ r w. consistent_agrees r.heap (present_of r) (snapshot_of r) w.represents.consistent

pub returns-clause-within : goal.returns-clause-within
returns-clause-within c = λ r spent h w chain. let s = represents_chain r.heap h spent (present_of r) (snapshot_of r) w.represents chain in (s, consistent_agrees h (present_of r) (snapshot_of r) s.consistent)

pub returns-clause-allocated : goal.returns-clause-allocated
returns-clause-allocated c = λ r w. allocated_is_kept r.heap (present_of r) (snapshot_of r) w.represents.consistent

pub returns-clause-units : goal.returns-clause-units
returns-clause-units c = λ r w. represents_limit r.heap (present_of r) (snapshot_of r) w.represents
