use Rattle.std.proofs.Common.{cond, ap, ◌∙◌}
use Rattle.inspector.proofs.cycles.Logging.{base_more}
use Rattle.inspector.proofs.cycles.open.Base.after.Goals as goal

pub returns : goal.returns
returns c = λ steps s base turn counted at.
    let old = c.args.self in
    let copies = c.args.copies.now in
    base_more steps s old base copies c.args.place _ counted at (c.either.ensures ∙ ap (λ b. cond b copies.objects old.objects) turn.sweep) (c.either-2.ensures ∙ ap (λ b. cond b copies.parts old.parts) turn.sweep)
    (c.either-3.ensures ∙ ap (λ b. cond b copies.old old.old) turn.cycle) (c.either-4.ensures ∙ ap (λ b. cond b c.args.place old.place) turn.sweep)
