use Rattle.std.proofs.Common.{◌≡◌, ℕ, ◌*◌, ◌%◌, ◌/◌, ◌<◌, Bool, true, false, not, eqb, ap, ◌∙◌, sym, inl, inr, arith}
use Rattle.std.proofs.lemmas.Bool.{cases_eq, eq-eqb, ne_eqb}
use Rattle.heap_model.specs.Header.{bit_of}
use Rattle.heap_model.specs.State.{same_colour}
use Rattle.headers.proofs.header.has_colour.Goals as goal

-- a bit is that of a colour if it says so
bit_told : (b : ℕ) (colour : Bool) → b < 2 → eqb (4 * b) (4 * bit_of colour) ≡ same_colour colour (eqb b 1)
bit_told b true small = elim (cases_eq b 1) [
  | inl e ↦ eq-eqb (4 * b) 4 (omega (arith, e)) ∙ sym (eq-eqb b 1 e)
  | inr ne ↦ ne_eqb (4 * b) 4 (λ f. absurd (let e : b ≡ 1 = omega (arith, f) in ne e)) ∙ sym (ne_eqb b 1 ne)
]
bit_told b false small = elim (cases_eq b 0) [
  | inl e ↦ eq-eqb (4 * b) 0 (omega (arith, e)) ∙ sym (ap not (ne_eqb b 1 (λ f. absurd (omega (arith, e, f)))))
  | inr ne ↦ ne_eqb (4 * b) 0 (λ f. absurd (let e : b ≡ 0 = omega (arith, f) in ne e)) ∙ sym (ap not (eq-eqb b 1 (omega (arith, small, ne))))
]

pub returns : goal.returns
returns c = ap (λ n. eqb n c.bit.result) c.bit_in.ensures ∙ ap (eqb (4 * (c.args.word / 4 % 2))) c.bit.ensures ∙ bit_told (c.args.word / 4 % 2) c.args.colour (omega arith)
