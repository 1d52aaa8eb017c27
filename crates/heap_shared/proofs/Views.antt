-- The views of all members, if those of one or two change.
use Rattle.std.proofs.Common.{◌≡◌, ◌≢◌, ℕ, zero, suc, ◌<◌, ◌⊎◌, inl, inr, ⊎_elim, List, [], ◌∷◌, ◌++◌, length, set, refl, sym, ap, ◌∙◌, subst, arith}
use Rattle.std.proofs.lemmas.List.{length-set}
use mathlib.Core.Option.{some, some-injective, some-ne-none}
use lib.ListN.{get_elem?}
use Rattle.atomic_table.proofs.Lists.{at_set}
use Rattle.heap_shared.specs.declared.rule.Known.{Known}

-- a view that is changed, and the others
pub others : (P : ℕ → Known → Type 0) (vs : List Known) (id : ℕ) (w : Known) → P id w → ((k : ℕ) (v : Known) → k ≢ id → get_elem? vs k ≡ some v → P k v)
    → (k : ℕ) (v : Known) → get_elem? (set vs id w) k ≡ some v → P k v
others P vs id w mine rest k v e = ⊎_elim
    (λ (t : (k ≡ id) × (w ≡ v)). subst (λ (y : ℕ × Known). P y.0 y.1) (λ i. (sym t.0 i, t.1 i)) mine)
    (λ (t : (k ≢ id) × (get_elem? vs k ≡ some v)). rest k v t.0 t.1)
    (at_set vs id k w v e)

pub below_there : (vs : List Known) (k : ℕ) (v : Known) → get_elem? vs k ≡ some v → k < length vs
below_there [] k v e = absurd (some-ne-none v (sym e))
below_there (x ∷ xs) zero v e = omega arith
below_there (x ∷ xs) (suc k) v e = (let r = below_there xs k v e in omega (arith, r))

at_end : (vs : List Known) (new v : Known) (k : ℕ) → get_elem? (vs ++ new ∷ []) k ≡ some v → (get_elem? vs k ≡ some v) ⊎ ((k ≡ length vs) × (new ≡ v))
at_end [] new v zero e = inr (refl, some-injective new v e)
at_end [] new v (suc k) e = absurd (some-ne-none v (sym e))
at_end (x ∷ xs) new v zero e = inl e
at_end (x ∷ xs) new v (suc k) e = ⊎_elim
    (λ (t : get_elem? xs k ≡ some v). inl t)
    (λ (t : (k ≡ length xs) × (new ≡ v)). inr (ap suc t.0, t.1))
    (at_end xs new v k e)

-- a view that is changed, one that is new, and the others
pub others_and_new : (P : ℕ → Known → Type 0) (vs : List Known) (id : ℕ) (w new : Known) → P id w → P (length vs) new
    → ((k : ℕ) (v : Known) → k ≢ id → k < length vs → get_elem? vs k ≡ some v → P k v)
    → (k : ℕ) (v : Known) → get_elem? (set vs id w ++ new ∷ []) k ≡ some v → P k v
others_and_new P vs id w new mine fresh rest k v e = ⊎_elim
    (λ (was : get_elem? (set vs id w) k ≡ some v). others P vs id w mine (λ j u apart at. rest j u apart (below_there vs j u at) at) k v was)
    (λ (t : (k ≡ length (set vs id w)) × (new ≡ v)). subst (λ (y : ℕ × Known). P y.0 y.1) (λ i. (sym (t.0 ∙ length-set vs id w) i, t.1 i)) fresh)
    (at_end (set vs id w) new v k e)

-- two views that are changed, and the others
pub others_two : (P : ℕ → Known → Type 0) (vs : List Known) (id other : ℕ) (w u : Known) → P id w → P other u
    → ((k : ℕ) (v : Known) → k ≢ id → k ≢ other → get_elem? vs k ≡ some v → P k v) → id ≢ other
    → (k : ℕ) (v : Known) → get_elem? (set (set vs id w) other u) k ≡ some v → P k v
others_two P vs id other w u mine theirs rest apart =
    others P (set vs id w) other u theirs (λ k v off at. others (λ j x. j ≢ other → P j x) vs id w (λ _. mine) (λ j x far at2 off2. rest j x far off2 at2) k v at off)
