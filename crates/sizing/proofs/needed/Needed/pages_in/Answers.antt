use Rattle.std.proofs.Common.{Bool, ◌≡◌, sym, ap, subst, min, if◌then◌else◌, ◌∙◌}
use Rattle.sizing.specs.Reckoned.{moved_pages}
use Rattle.sizing.proofs.needed.Needed.pages_in.Goals as goal

pub returns-then-moves_all : goal.returns-then-moves_all
returns-then-moves_all c =
    let moved = c.moved-moved.ensures in
    let least = c.min.ensures ∙ ap (λ n. min n c.from.result) moved ∙ ap (min (moved_pages c.args.config.now c.args.self.now)) c.from.ensures in
    subst (λ (b : Bool). c.min.result ≡ (if b then min (moved_pages c.args.config.now c.args.self.now) c.args.self.now.gathered else moved_pages c.args.config.now c.args.self.now)) (sym c.if-moves_all.true ∙ c.moves_all.ensures) least

pub returns-else-moves_all : goal.returns-else-moves_all
returns-else-moves_all c =
    subst (λ (b : Bool). c.moved-moved.result ≡ (if b then min (moved_pages c.args.config.now c.args.self.now) c.args.self.now.gathered else moved_pages c.args.config.now c.args.self.now)) (sym c.if-moves_all.false ∙ c.moves_all.ensures) c.moved-moved.ensures
