use Rattle.std.proofs.Common.{◌≡◌, ◌⊎◌, ◌<◌, ◌≤◌, ◌-◌, ℕ, min, inl, inr, arith}
use Rattle.program.proofs.files.next_piece.Goals as goal

-- A piece is empty only if no more bytes are asked for.
full : (most read next left : ℕ) → left ≡ most - read → next ≡ min 4096 left → (0 < next) ⊎ (most ≤ read)
full most read next left l n = grind arith

pub returns-in-Some-clause-full : goal.returns-in-Some-clause-full
returns-in-Some-clause-full c = elim (full c.in-Some.most c.args.read c.min.result c.saturating_sub.result c.saturating_sub.ensures c.min.ensures) [
  | inl some ↦ inl some
  | inr none ↦ inr (c.in-Some.most, c.in-Some.is, none)
]
