-- Kept parts: reachable when the cycle began, or made since.
use Rattle.std.proofs.Common.{ℕ, zero, suc, ◌<◌, ◌⊎◌, inl, inr, arith, refl, subst, sym}
use Rattle.heap_model.specs.Core.{Name, null, PartGraph, Walk, Reach, FreshBy, KeptBy, Fresh, Kept, Grows}

pub reach_null : (roots : ℕ) (g : PartGraph) → Reach roots g null
unfolding Reach
reach_null roots g = (0, inl refl)

pub kept_reach : (roots : ℕ) (s g : PartGraph) (n : Name) → Reach roots s n → Kept roots s g n
unfolding KeptBy
kept_reach roots s g n r = inl r

pub kept_null : (roots : ℕ) (s g : PartGraph) → Kept roots s g null
kept_null roots s g = kept_reach roots s g null (reach_null roots s)

pub kept_fresh : (roots : ℕ) (s g : PartGraph) (n : Name) → Fresh s g n → Kept roots s g n
unfolding KeptBy
kept_fresh roots s g n f = inr f

pub kept_cases : (roots : ℕ) (s g : PartGraph) (n : Name) → Kept roots s g n → Reach roots s n ⊎ Fresh s g n
unfolding KeptBy
kept_cases roots s g n k = k

pub reach_root : (roots : ℕ) (g : PartGraph) (j : ℕ) → j < roots → Reach roots g (g.root j)
unfolding Reach
reach_root roots g j h = (0, inr (j, h, refl))

pub reach_step : (roots : ℕ) (g : PartGraph) (n : Name) (i : ℕ) → Reach roots g n → i < g.width n → Reach roots g (g.target n i)
unfolding Reach
reach_step roots g n i r h = (suc r.0, (n, i, r.1, h, refl))

-- induction along a path
walk_induction : (roots : ℕ) (g : PartGraph) (P : Name → Type 0) → P null → ((j : ℕ) → j < roots → P (g.root j)) → ((n : Name) (i : ℕ) → P n → i < g.width n → P (g.target n i)) → (k : ℕ) (n : Name) → Walk roots g k n → P n
walk_induction roots g P none base step zero n w = elim w [ inl e ↦ subst P (sym e) none | inr v ↦ subst P v.2 (base v.0 v.1) ]
walk_induction roots g P none base step (suc k) n w = subst P w.4 (step w.0 w.1 (walk_induction roots g P none base step k w.0 w.2) w.3)

pub reach_induction : (roots : ℕ) (g : PartGraph) (P : Name → Type 0) → P null → ((j : ℕ) → j < roots → P (g.root j)) → ((n : Name) (i : ℕ) → P n → i < g.width n → P (g.target n i)) → (n : Name) → Reach roots g n → P n
unfolding Reach
reach_induction roots g P none base step n r = walk_induction roots g P none base step r.0 n r.1

-- what is reachable now is kept
pub reach_kept : (roots : ℕ) (s g : PartGraph) → Grows roots s g → (n : Name) → Reach roots g n → Kept roots s g n
reach_kept roots s g w = reach_induction roots g (λ n. Kept roots s g n) (kept_null roots s g) w.kept_root (λ n i k h. w.kept_target n i k h)

-- nothing was made since the present
pub fresh_none : (g : PartGraph) (n : Name) → Fresh g g n → ⊥
unfolding FreshBy
fresh_none g n f = omega arith

-- a cycle that begins keeps no more than the one before
pub kept_again : (roots : ℕ) (s g : PartGraph) → Grows roots s g → (n : Name) → Kept roots g g n → Kept roots s g n
kept_again roots s g w n k = elim (kept_cases roots g g n k) [ inl r ↦ reach_kept roots s g w n r | inr f ↦ absurd (fresh_none g n f) ]
