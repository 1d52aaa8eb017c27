use Rattle.std.proofs.Common.{arith, w64}
use Rattle.std.proofs.lemmas.Nat.Bits.{bit_at-trailing_zeros}
use Rattle.pages.proofs.levels.lowest.Goals as goal

pub returns : goal.returns
returns c =
    let h = bit_at-trailing_zeros w64 c.args.word (omega (arith, c.requires)) c.ranges.word.fits in
    record { within = h.0; here = h.1; first = h.2 }
