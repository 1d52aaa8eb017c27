use Rattle.headers.proofs.Fresh.{two_runs}
use Rattle.headers.proofs.arena.clear.Goals as goal

pub returns-then-last-le4 : goal.returns-then-last-le4
returns-then-last-le4 c = two_runs c.args.block.now c.fill.new.self c.fill-then-last-le4.new.self c.requires c.if-last-le4.true
    (c.fill.ensures.after (λ y e. e)) (c.fill-then-last-le4.ensures.after (λ y e. e))
