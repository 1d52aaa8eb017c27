-- A number in a column.
use Rattle.std.proofs.Common.{◌≡◌, ℕ, ◌-◌, ◌^◌, false, [], arith, refl}
use Rattle.std.specs.Fmt.{decimal, padded_integral, format_spec}
use Rattle.std.proofs.Padding.{padded_integral_right}
use Rattle.inspector.specs.CyclesText.{in_column}

-- a number that goes to the right of 8 bytes
pub column_is : (n : ℕ) → padded_integral (format_spec 32 3 0 8 (2 ^ 64 - 1)) false [] (decimal n) ≡ in_column (decimal n)
column_is n = padded_integral_right (format_spec 32 3 0 8 (2 ^ 64 - 1)) (decimal n) refl refl (λ e. absurd (omega (arith, e))) (λ e. absurd (omega (arith, e))) (omega arith)
