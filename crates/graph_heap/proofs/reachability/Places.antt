-- The places of objects among those that were found, and the table of these places.
use Rattle.std.proofs.Common.{◌≡◌, ◌≢◌, ℕ, zero, suc, ◌+◌, ◌-◌, ◌*◌, ◌<◌, ◌≤◌, ◌⊎◌, inl, inr, Bool, true, false, cond, List, [], ◌∷◌, ◌++◌, length, length-append, length-set, set, get_or, replicate, ap, ◌∙◌, sym, subst, refl, arith}
use Rattle.std.specs.Prelude.{nat_lt, count_by, slice_index}
use Rattle.std.proofs.Math.Seq.{get_or-append_seam}
use Rattle.std.proofs.lemmas.List.{get_or-set_same, get_or-set_other, get_or_append_left, get_or-append-add}
use Rattle.std.proofs.lemmas.List.Folds.{sum_by-replicate}
use Rattle.std.proofs.lemmas.List.Sums.{sum_by-set, count_by-le-length}
use Rattle.graph_heap.specs.Reaching.{IsAmong}
use Rattle.graph_heap.specs.declared.reachability.found.Found.{Found}
use Rattle.graph_heap.specs.declared.reachability.findings.Search.TheInside.{Inside}
use Rattle.graph_heap.specs.Distance.{none_found, found_at, AreOnce}
use Rattle.graph_heap.specs.Search.{Findings, findings_in, IsIndexed, IsAt, IsNowhere, Takes}

-- what stands in the first of two lists, and in the second
pub at_left : (xs ys : List Found) (k : ℕ) → k < length xs → found_at (xs ++ ys) k ≡ found_at xs k
at_left xs ys k l = get_or_append_left xs ys none_found k l

pub at_right : (xs ys : List Found) (k : ℕ) → found_at (xs ++ ys) (length xs + k) ≡ found_at ys k
at_right xs ys k = get_or-append-add xs ys k none_found

pub place_in : (xs ys : List Found) (k : ℕ) → k < length (xs ++ ys) → (k < length xs) ⊎ ((j : ℕ) × (j < length ys) × (k ≡ length xs + j))
place_in xs ys k l = by_order (order k (length xs))
  where
    order : (a b : ℕ) → (a < b) ⊎ (b ≤ a)
    order a b = grind arith

    by_order : (k < length xs) ⊎ (length xs ≤ k) → (k < length xs) ⊎ ((j : ℕ) × (j < length ys) × (k ≡ length xs + j))
    by_order (inl h) = inl h
    by_order (inr h) = inr (k - length xs, omega (arith, h, l, length-append xs ys), omega (arith, h))

pub below_more : (k n : ℕ) → k < n + 1 → (k < n) ⊎ (k ≡ n)
below_more k n h = grind arith

same_or : (a b : ℕ) → (a ≡ b) ⊎ (a ≢ b)
same_or a b = grind arith

-- nothing is found at first
pub none_indexed : (a : Inside) (n : ℕ) → a.found.items ≡ [] → a.places.items ≡ replicate n 0 → IsIndexed a
none_indexed a n e f = record {
  there = λ k l. absurd (let none : length a.found.items ≡ 0 = ap length e in omega (arith, l, none));
  here = λ m k l h. absurd (let none : slice_index a.places.items m ≡ 0 = ap (λ xs. slice_index xs m) f ∙ none_at n m in omega (arith, none, h));
  count =
      let no_places : count_by (nat_lt 0) a.places.items ≡ n * 0 = ap (count_by (nat_lt 0)) f ∙ sum_by-replicate (λ p. cond (nat_lt 0 p) 1 0) n 0 in
      let none : length a.found.items ≡ 0 = ap length e in
      omega (arith, no_places, none);
}
  where
    none_at : (n k : ℕ) → slice_index (replicate n 0) k ≡ 0
    none_at zero k = refl
    none_at (suc n) zero = refl
    none_at (suc n) (suc k) = none_at n k

-- the same fields, wherever they lie
pub kept_indexed : (a b : Inside) → b.found.items ≡ a.found.items → b.places.items ≡ a.places.items → IsIndexed a → IsIndexed b
kept_indexed a b e f v = record {
  there = subst (λ ps. (k : ℕ) → k < length b.found.items → IsAmong (length ps) (found_at b.found.items k).id × (slice_index ps ((found_at b.found.items k).id - 1) ≡ k + 1)) (sym f)
      (subst (λ xs. (k : ℕ) → k < length xs → IsAmong (length a.places.items) (found_at xs k).id × (slice_index a.places.items ((found_at xs k).id - 1) ≡ k + 1)) (sym e) v.there);
  here = subst (λ ps. (n k : ℕ) → n < length ps → slice_index ps n ≡ k + 1 → (k < length b.found.items) × ((found_at b.found.items k).id ≡ n + 1)) (sym f)
      (subst (λ xs. (n k : ℕ) → n < length a.places.items → slice_index a.places.items n ≡ k + 1 → (k < length xs) × ((found_at xs k).id ≡ n + 1)) (sym e) v.here);
  count = ap (count_by (nat_lt 0)) f ∙ v.count ∙ sym (ap length e);
}

-- an identity that is no object's is passed over
pub passes : (s : Findings) (f : Found) → (IsAmong s.objects f.id → ⊥) → Takes f s s
passes s f none = inl (refl, λ h. absurd (none h))

-- so is one that was found before
pub found_before : (a : Inside) (f : Found) (p : ℕ) → IsIndexed a → p < length a.places.items → p + 1 ≡ f.id → slice_index a.places.items p ≢ 0 → Takes f (findings_in a) (findings_in a)
found_before a f p v l is some =
    let k = slice_index a.places.items p - 1 in
    let t = v.here p k l (omega (arith, some)) in
    inl (refl, λ h. (k, (t.0, t.1 ∙ is)))

-- no object is found twice, and no more are found than there are
pub once_found : (a : Inside) → IsIndexed a → AreOnce a.found.items
once_found a v = λ k j l m e.
    let x : slice_index a.places.items ((found_at a.found.items k).id - 1) ≡ k + 1 = (v.there k l).1 in
    let y : slice_index a.places.items ((found_at a.found.items k).id - 1) ≡ j + 1 = subst (λ q. slice_index a.places.items (q - 1) ≡ j + 1) (sym e) (v.there j m).1 in
    omega (arith, x, y)

pub few_found : (a : Inside) → IsIndexed a → length a.found.items ≤ length a.places.items
few_found a v = omega (arith, v.count, count_by-le-length (nat_lt 0) a.places.items)

-- the place of an identity in the table
pub stands_there : (a : Inside) (id k : ℕ) → IsIndexed a → IsAt a.found.items id k → IsAmong (length a.places.items) id × (slice_index a.places.items (id - 1) ≡ k + 1)
stands_there a id k v h = subst (λ q. IsAmong (length a.places.items) q × (slice_index a.places.items (q - 1) ≡ k + 1)) h.1 (v.there k h.0)

-- an identity that the table doesn't have stands nowhere
pub nowhere : (a : Inside) (id : ℕ) → IsIndexed a → (IsAmong (length a.places.items) id → slice_index a.places.items (id - 1) ≡ 0) → IsNowhere a.found.items id
nowhere a id v none = λ k l e.
    let t = stands_there a id k v (l, e) in
    absurd (omega (arith, t.1, none t.0))

-- one more is found
module _ (a b : Inside) (f : Found) (p : ℕ) (v : IsIndexed a) (within : p < length a.places.items) (is : p + 1 ≡ f.id) (new : slice_index a.places.items p ≡ 0)
    (found : b.found.items ≡ a.found.items ++ f ∷ []) (places : b.places.items ≡ set a.places.items p (length a.found.items + 1)) where
  same_length : length b.places.items ≡ length a.places.items
  same_length = ap length places ∙ length-set a.places.items p (length a.found.items + 1)

  more_length : length b.found.items ≡ length a.found.items + 1
  more_length = ap length found ∙ length-append a.found.items (f ∷ [])

  kept : (n : ℕ) → n ≢ p → slice_index b.places.items n ≡ slice_index a.places.items n
  kept n d = ap (λ xs. slice_index xs n) places ∙ get_or-set_other a.places.items p n (length a.found.items + 1) 0 d

  set_there : slice_index b.places.items p ≡ length a.found.items + 1
  set_there = ap (λ xs. slice_index xs p) places ∙ get_or-set_same a.places.items p (length a.found.items + 1) 0 within

  old_at : (k : ℕ) → k < length a.found.items → found_at b.found.items k ≡ found_at a.found.items k
  old_at k l = ap (λ xs. found_at xs k) found ∙ at_left a.found.items (f ∷ []) k l

  last_at : found_at b.found.items (length a.found.items) ≡ f
  last_at = ap (λ xs. found_at xs (length a.found.items)) found ∙ get_or-append_seam a.found.items f [] none_found

  there_then : (k : ℕ) → (k < length a.found.items) ⊎ (k ≡ length a.found.items)
      → IsAmong (length b.places.items) (found_at b.found.items k).id × (slice_index b.places.items ((found_at b.found.items k).id - 1) ≡ k + 1)
  there_then k (inl l) =
      let t = v.there k l in
      let id = (found_at a.found.items k).id in
      let same : id ≡ (found_at b.found.items k).id = sym (ap (λ (x : Found). x.id) (old_at k l)) in
      let other : id - 1 ≢ p = λ e. absurd (let z : slice_index a.places.items p ≡ k + 1 = subst (λ n. slice_index a.places.items n ≡ k + 1) e t.1 in omega (arith, z, new)) in
      subst (λ q. IsAmong (length b.places.items) q × (slice_index b.places.items (q - 1) ≡ k + 1)) same
      (subst (λ n. IsAmong n id) (sym same_length) t.0, kept (id - 1) other ∙ t.1)
  there_then k (inr e) =
      let same : p + 1 ≡ (found_at b.found.items k).id = is ∙ sym (subst (λ n. (found_at b.found.items n).id ≡ f.id) (sym e) (ap (λ (x : Found). x.id) last_at)) in
      let back : (p + 1) - 1 ≡ p = omega arith in
      let long = same_length in
      subst (λ q. IsAmong (length b.places.items) q × (slice_index b.places.items (q - 1) ≡ k + 1)) same
      ((omega arith, omega (arith, long, within)), ap (slice_index b.places.items) back ∙ set_there ∙ ap (λ n. n + 1) (sym e))

  here_then : (n k : ℕ) → (n ≡ p) ⊎ (n ≢ p) → n < length a.places.items → slice_index b.places.items n ≡ k + 1
      → (k < length b.found.items) × ((found_at b.found.items k).id ≡ n + 1)
  here_then n k (inl e) l h =
      let at_p : slice_index b.places.items p ≡ k + 1 = subst (λ m. slice_index b.places.items m ≡ k + 1) e h in
      let last : k ≡ length a.found.items = omega (arith, at_p, set_there) in
      let long = more_length in
      (omega (arith, last, long), subst (λ m. (found_at b.found.items m).id ≡ n + 1) (sym last) (ap (λ (x : Found). x.id) last_at ∙ sym is ∙ ap (λ m. m + 1) (sym e)))
  here_then n k (inr d) l h =
      let t = v.here n k l (sym (kept n d) ∙ h) in
      let long = more_length in
      (omega (arith, t.0, long), ap (λ (x : Found). x.id) (old_at k t.0) ∙ t.1)

  counts : count_by (nat_lt 0) b.places.items ≡ length b.found.items
  counts =
      let s : count_by (nat_lt 0) (set a.places.items p (length a.found.items + 1)) + cond (nat_lt 0 (get_or a.places.items p 0)) 1 0 ≡ count_by (nat_lt 0) a.places.items + cond (nat_lt 0 (length a.found.items + 1)) 1 0
      = sum_by-set (λ z. cond (nat_lt 0 z) 1 0) a.places.items p (length a.found.items + 1) 0 within in
      let old : cond (nat_lt 0 (get_or a.places.items p 0)) 1 0 ≡ zero = ap (λ z. cond (nat_lt 0 z) 1 0) new in
      let one : ◌≡◌ {A = ℕ} (cond (nat_lt 0 (length a.found.items + 1)) 1 0) 1 = positive (length a.found.items) in
      let now : count_by (nat_lt 0) b.places.items ≡ count_by (nat_lt 0) (set a.places.items p (length a.found.items + 1)) = ap (count_by (nat_lt 0)) places in
      let before = v.count in
      let long = more_length in
      omega (arith, s, old, one, now, before, long)
    where
      positive : (n : ℕ) → ◌≡◌ {A = ℕ} (cond (nat_lt 0 (n + 1)) 1 0) 1
      positive n = by_test (nat_lt 0 (n + 1)) refl
        where
          by_test : (b : Bool) → nat_lt 0 (n + 1) ≡ b → ◌≡◌ {A = ℕ} (cond b 1 0) 1
          by_test true t = refl
          by_test false t = absurd (let none : n + 1 ≤ 0 = grind arith in omega (arith, none))

  pub one_indexed : IsIndexed b
  one_indexed = record {
    there = λ k l. there_then k (below_more k (length a.found.items) (let long = more_length in omega (arith, l, long)));
    here = λ n k l h. here_then n k (same_or n p) (subst (λ m. n < m) same_length l) h;
    count = counts;
  }

  pub takes_one : Takes f (findings_in a) (findings_in b)
  takes_one = inr ((omega (arith, is), omega (arith, is, within)), same_findings b.found.items (a.found.items ++ f ∷ []) (length b.places.items) (length a.places.items) found same_length)
    where
      same_findings : (xs ys : List Found) (n m : ℕ) → xs ≡ ys → n ≡ m → ◌≡◌ {A = Findings} (record { found = xs; objects = n }) (record { found = ys; objects = m })
      same_findings xs ys n m e g = cc
