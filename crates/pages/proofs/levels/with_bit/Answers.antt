use Rattle.std.proofs.Common.{ap, sym, ◌∙◌, cond, w64}
use Rattle.std.proofs.lemmas.Nat.Bits.{bit_at_set_same, bit_at_set_other, bit_at_clear_same, bit_at_clear_other}
use Rattle.pages.proofs.levels.with_bit.Goals as goal

pub returns-then-on-clause-here : goal.returns-then-on-clause-here
returns-then-on-clause-here c = bit_at_set_same w64 _ _ c.requires ∙ ap (λ b. cond b 1 0) (sym c.if-on.true)

pub returns-then-on-clause-others : goal.returns-then-on-clause-others
returns-then-on-clause-others c = λ i _. bit_at_set_other w64 _ _ c.requires i

pub returns-else-on-clause-here : goal.returns-else-on-clause-here
returns-else-on-clause-here c = bit_at_clear_same w64 _ _ c.requires ∙ ap (λ b. cond b 1 0) (sym c.if-on.false)

pub returns-else-on-clause-others : goal.returns-else-on-clause-others
returns-else-on-clause-others c = bit_at_clear_other w64 _ _ c.requires
