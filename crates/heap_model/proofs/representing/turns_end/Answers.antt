use Rattle.heap_model.proofs.QuantumSpending.Costs.{turn_left}
use Rattle.heap_model.proofs.Represents.{represents_chain, idle_chain}
use Rattle.heap_model.proofs.representing.turns_end.Goals as goal

pub returns-clause-idle : goal.returns-clause-idle
returns-clause-idle c = λ h after budget spent i t. idle_chain h after spent t.chain i

pub returns-clause-ends : goal.returns-clause-ends
returns-clause-ends c = λ h after budget spent p s w t. let v = represents_chain h after spent p s w t.chain in turn_left h after budget spent v.pages t
