-- A write leaves the words of each other block.
use Rattle.std.proofs.Common.{◌≡◌, ℕ, ◌+◌, ◌-◌, ◌<◌, ◌≤◌, ◌⊎◌, List, take, drop, set, ap, ◌∙◌, arith, inl, inr}
use Rattle.std.proofs.lemmas.List.{drop-set-lt, drop-set-add, take-set-le}
use Rattle.heap_model.specs.Block.{words_at, record_at, record_in}

drop_below : (words : List ℕ) (at v a : ℕ) → a ≤ at → drop a (set words at v) ≡ set (drop a words) (at - a) v
drop_below words at v a h = let e : at ≡ a + (at - a) = omega arith in ap (λ n. drop a (set words n v)) e ∙ drop-set-add a words (at - a) v

pub words_at-other : (words : List ℕ) (at v a s : ℕ) → (at < a) ⊎ (a + s ≤ at) → words_at (set words at v) a s ≡ words_at words a s
words_at-other words at v a s (inl h) = ap (take s) (drop-set-lt a words at v h)
words_at-other words at v a s (inr h) = ap (take s) (drop_below words at v a (omega arith)) ∙ take-set-le s (drop a words) (at - a) v (omega arith)

pub record_at-other : (words : List ℕ) (at v a s : ℕ) → (at < a) ⊎ (a + s ≤ at) → record_at (set words at v) a s ≡ record_at words a s
record_at-other words at v a s h = ap record_in (words_at-other words at v a s h)
