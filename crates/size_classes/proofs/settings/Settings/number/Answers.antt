use Rattle.std.proofs.Common.{pos, nat_abs, ◌≤ℤ◌, w64, to_z, of_z, arith}
use Rattle.std.proofs.lemmas.Int.{ints}
use Rattle.size_classes.specs.declared.ranges.Ranges.TheVariants.{Library}
use Rattle.size_classes.specs.Keys.{row_of}
use Rattle.size_classes.proofs.InRange.{in_range, below_abs}
use Rattle.size_classes.proofs.settings.Settings.number.Goals as goal

pub overflow_cast-result : goal.overflow_cast-result
overflow_cast-result c = let r = in_range Library c.args.self.now c.args.key c.requires in omega (arith, ints)

pub returns : goal.returns
returns c =
    let r = in_range Library c.args.self.now c.args.key c.requires in
    let most : pos (nat_abs (to_z w64 (of_z w64 c.get.result))) ≤ℤ (row_of Library c.args.self.now.mutators c.args.key).greatest = omega (arith, ints) in
    record { value = omega (arith, ints); least = omega (arith, ints); greatest = below_abs _ _ most }
