use Rattle.std.proofs.Common.{arith}
use Rattle.std.proofs.lemmas.Nat.{mul-le}
use Rattle.inspector.proofs.filling.page_filling.Goals as goal

pub overflow_mul-cut : goal.overflow_mul-cut
overflow_mul-cut c =
    omega (arith, mul-le c.from-blocks.result c.from-size.result 512 256 (omega (arith, c.from-blocks.ensures, c.blocks_per_page.ensures.within)) (omega (arith, c.from-size.ensures, c.size.ensures.within)))

pub overflow_mul-spare : goal.overflow_mul-spare
overflow_mul-spare c =
    omega (arith, mul-le c.saturating_sub-free.result c.from-size.result 512 256 (omega (arith, c.saturating_sub-free.ensures, c.from-blocks.ensures, c.blocks_per_page.ensures.within)) (omega (arith, c.from-size.ensures, c.size.ensures.within)))
