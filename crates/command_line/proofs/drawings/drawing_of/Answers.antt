use Rattle.std.proofs.Common.{List, ℕ, ap, refl, arith, rules}
use Rattle.std.specs.Borrow.{Bor}
use Rattle.std.specs.Cmp.Lexicographic.{same_text}
use Rattle.std.specs.Prelude.{option_map}
use Rattle.command_line.proofs.drawings.drawing_of.Goals as goal

pub returns-then-eq-clause-range : goal.returns-then-eq-clause-range
returns-then-eq-clause-range c = (search rules, omega arith, omega arith)

pub returns-then-eq-clause-named : goal.returns-then-eq-clause-named
returns-then-eq-clause-named c =
    (same_text _ _ c.if-eq.ensures, refl, c.unwrap_or-most.ensures, c.in_ok-without-2.ensures, ap (option_map (λ (other : Bor (List ℕ)). other.now)) c.in_ok-without.ensures)

pub returns-then-eq-2-clause-named : goal.returns-then-eq-2-clause-named
returns-then-eq-2-clause-named c =
    (same_text _ _ c.if-eq-2.ensures, refl, c.in_ok-without-5.ensures, c.in_ok-without-4.ensures, ap (option_map (λ (other : Bor (List ℕ)). other.now)) c.in_ok-without-3.ensures)

pub returns-clause-named : goal.returns-clause-named
returns-clause-named c = (c.in_ok-form.ensures, c.in_ok-without-7.ensures, c.in_ok-without-6.ensures, refl)
