use Rattle.std.proofs.Common.{rules, ◌≡◌}
use Rattle.graph_heap.specs.declared.command.Command.TheVariants as commands
use Rattle.heap_shared.specs.Members.{Calls}
use Rattle.metronome_c.specs.Answer.{answered, shape_told}
use Rattle.metronome_c.specs.Asking.{told_by}
use Rattle.metronome_c.specs.Either.{flat}
use Rattle.metronome_c.specs.Status.{not_done_status}
use Rattle.metronome_c.specs.Steps.{StepsTold, DoesCommand, TellsShape}
use Rattle.metronome_c.proofs.Asking.{asks_so}
use Rattle.metronome_c.proofs.Handles.{asked_either}
use Rattle.metronome_c.proofs.Members.{member_told}
use Rattle.metronome_c.proofs.Stepping.{step_told, steps, tells_shape}
use Rattle.metronome_c.proofs.metronome.Metronome.describe.Goals as goal

pub returns : goal.returns
returns c =
    let m = c.args.mutator in let d = commands.Describe c.args.a in
    let tells : c.from_outcome.result ≡ answered (flat c.ask-found.result) = search rules in
    let shape : c.told_by.result ≡ shape_told c.args.shape.now (flat c.ask-found.result) = search rules in
    asked_either _ _ (λ h k. DoesCommand h m d k c.from_outcome.result × TellsShape h m d c.args.shape.now c.told_by.result) _ _ c.ask-found.result _
    (λ h k asked. let s = step_told m d h c.ask-found.result k (asks_so _ (λ x r y. StepsTold x m d r y) (λ x r y met. search rules) h _ k asked) in (
      steps m d h _ k _ s tells,
      tells_shape m d h _ k c.args.shape.now c.told_by.result s shape,
    ))
    (λ v w asked. member_told (λ s r t. Calls s m d r t) (told_by not_done_status) (λ found. (c.from_outcome.result ≡ answered found) × (c.told_by.result ≡ shape_told c.args.shape.now found)) c.ask-found.result (tells, shape) v w
    (asks_so _ _ (λ x r y met. search rules) v _ w asked))
    c.ask-found.ensures
