use Rattle.std.proofs.Common.{◌≡◌, eqb, length, take, sym, ap, ◌∙◌, arith, w8, length-take}
use lib.Count.{count_trailing_zeros}
use Rattle.std.proofs.lemmas.Simd.{bitmask_splat}
use Rattle.trace.proofs.Lanes.{no_lane, first_lane}
use Rattle.trace.proofs.line_reader.near_line_feed.Goals as goal

pub returns-then-places-eq0 : goal.returns-then-places-eq0
returns-then-places-eq0 c =
    let xs = take 32 c.args.bytes.now in
    let long : length xs ≡ 32 = omega (arith, length-take 32 c.args.bytes.now) in
    let hits = bitmask_splat w8 eqb xs 32 10 long (omega arith) in
    no_lane xs (sym hits ∙ c.if-places-eq0.true)

pub returns : goal.returns
returns c =
    let xs = take 32 c.args.bytes.now in
    let long : length xs ≡ 32 = omega (arith, length-take 32 c.args.bytes.now) in
    let hits = bitmask_splat w8 eqb xs 32 10 long (omega arith) in
    first_lane xs _ (omega arith) (omega arith) (ap (count_trailing_zeros 64) hits)
