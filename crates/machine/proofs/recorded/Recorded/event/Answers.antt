use Rattle.heap_model.specs.Event.{Command_done}
use Rattle.machine.specs.Recorded.{begin_done, quantum_done}
use Rattle.machine.proofs.Courses.{one_done, begin_asked, quantum_asked, refused_one}
use Rattle.machine.proofs.recorded.Recorded.event.Goals as goal

pub returns-in_err-call-in-Command-clause-runs : goal.returns-in_err-call-in-Command-clause-runs
returns-in_err-call-in-Command-clause-runs c =
    refused_one c.args.self.now.course c.call.new.self.course c.in-Command.mutator c.in-Command.command c.args.event c.in-Command.is c.in_err-call-in-Command.ensures.err c.from_residual.result c.from_residual.ensures.0

pub returns-in_ok-call-in-Command-clause-runs : goal.returns-in_ok-call-in-Command-clause-runs
returns-in_ok-call-in-Command-clause-runs c =
    one_done c.args.self.now.course c.call.new.self.course (Command_done c.in-Command.mutator c.in-Command.command c.in_ok-call-in-Command.field-0.entry.reply) c.args.event c.in_ok-call-in-Command.ensures.does c.in-Command.is

pub returns-in-Begin-clause-runs : goal.returns-in-Begin-clause-runs
returns-in-Begin-clause-runs c =
    one_done c.args.self.now.course c.begin-on.new.self.course (begin_done c.begin-on.result) c.args.event c.begin-on.ensures.does (begin_asked c.args.event c.begin-on.result c.in-Begin.is)

pub returns-in-Quantum-clause-runs : goal.returns-in-Quantum-clause-runs
returns-in-Quantum-clause-runs c =
    one_done c.args.self.now.course c.quantum-refused.new.self.course (quantum_done c.in-Quantum.budget c.quantum-refused.result) c.args.event c.quantum-refused.ensures.does (quantum_asked c.args.event c.in-Quantum.budget c.quantum-refused.result c.in-Quantum.is)
