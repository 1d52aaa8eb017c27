use Rattle.std.proofs.Common.{◌∙◌, sym, subst}
use Rattle.graph_heap.specs.Effect.{settled}
use Rattle.graph_heap.proofs.Makings.{SaysSo, effect_so}
use Rattle.graph_heap.proofs.reference.Reference.reply_and_change.Goals as goal

pub returns-in-Ok-clause-made : goal.returns-in-Ok-clause-made
returns-in-Ok-clause-made c =
    subst (λ r. SaysSo (settled r)) (sym c.plan.ensures ∙ c.in-Ok.is) (effect_so c.args.room c.args.self.now c.args.mutator c.args.command.now)
