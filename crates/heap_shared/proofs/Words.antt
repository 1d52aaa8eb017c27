-- The numbers of the word.
use Rattle.std.proofs.Common.{◌≡◌, ℕ, ◌+◌, ◌*◌, ◌/◌, ◌%◌, arith}
use Rattle.heap_shared.specs.Turns.{word_of}

-- it is odd while a member has the turn
pub odd : (l n : ℕ) → n ≡ (2 * l) % 18446744073709551616 + 1 → n % 2 ≡ 0 → ⊥
odd l n is even = omega arith

-- it is twice the length of the log, as both wrap
pub twice : (l n : ℕ) → n ≡ l % 18446744073709551616 → (n * 2) % 18446744073709551616 ≡ word_of l
twice l n is = omega (arith, is)

-- half of it is the length
pub half : (l n : ℕ) → n ≡ (2 * l) % 18446744073709551616 → n / 2 ≡ l % 9223372036854775808
half l n is = omega arith

pub half_odd : (l n : ℕ) → n ≡ (2 * l) % 18446744073709551616 + 1 → n / 2 ≡ l % 9223372036854775808
half_odd l n is = omega arith
