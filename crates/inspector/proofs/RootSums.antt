-- Sums over objects by the roots that own them, and the rows of these roots.
use Rattle.std.proofs.Common.{◌≡◌, ℕ, zero, suc, ◌+◌, ◌-◌, ◌*◌, ◌^◌, ◌<◌, ◌≤◌, Bool, true, false, List, [], ◌∷◌, ◌++◌, length, length-set, length-take-le, set, take, ap, ◌∙◌, sym, subst, refl, arith}
use Rattle.std.specs.Prelude.{nat_eq, count_by, sum_by, if◌then◌else◌}
use Rattle.std.specs.List.{All}
use Rattle.std.specs.List.Sorted.{IsPermutation}
use Rattle.std.proofs.lemmas.Bool.{eqb-true, eq-eqb, ne_eqb}
use Rattle.std.proofs.lemmas.List.{get_or-set_same, get_or-set_other}
use Rattle.std.proofs.lemmas.List.Sums.{sum_by_more, count_by_more_yes, count_by_more_no}
use Rattle.graph_heap.specs.Graph.{Graph}
use Rattle.inspector.specs.declared.by_root.owning.Owned.{Owned}
use Rattle.inspector.specs.declared.by_root.counting.Holding.{Holding}
use Rattle.inspector.specs.declared.by_root.counting.RootRow.{RootRow}
use Rattle.inspector.specs.declared.by_root.counting.Totals.{Totals}
use Rattle.inspector.specs.Nearest.{AreOwned}
use Rattle.inspector.specs.Owning.{none_owned, owned_at}
use Rattle.inspector.specs.ByRoot.{any_root, words_owned, held_by, row_of, rows_below, AreRows, AreRootRows}
use Rattle.inspector.specs.Totals.{no_holding, holding_at, IsOfObjects, AreTotals}
use Rattle.inspector.proofs.OwnedBy.{root_there}

-- with an object of this many words more
abbrev pub one_more : Holding → ℕ → Holding
one_more h words = record { objects = h.objects + 1; words = h.words + words }

same_holding : (n m a b : ℕ) → n ≡ m → a ≡ b → ◌≡◌ {A = Holding} (record { objects = n; words = a }) (record { objects = m; words = b })
same_holding n m a b e f = cc

-- one object more
module _ (g : Graph) (these : ℕ → Bool) (xs : List Owned) (i : ℕ) (l : i < length xs) where
  abbrev o : Owned
  o = owned_at xs i

  abbrev is_owned : Owned → Bool
  is_owned p = these p.root

  abbrev words : Owned → ℕ
  words p = if these p.root then words_owned g p else 0

  words_more : sum_by words (take (i + 1) xs) ≡ sum_by words (take i xs) + words o
  words_more = sum_by_more words xs i none_owned l

  pub counts_it : these o.root ≡ true → held_by g these (take (i + 1) xs) ≡ one_more (held_by g these (take i xs)) (words_owned g o)
  counts_it e = same_holding (count_by is_owned (take (i + 1) xs)) (count_by is_owned (take i xs) + 1) (sum_by words (take (i + 1) xs)) (sum_by words (take i xs) + words_owned g o)
      (count_by_more_yes is_owned xs i none_owned l e) (words_more ∙ ap (λ (b : Bool). sum_by words (take i xs) + (if b then words_owned g o else 0)) e)

  pub passes_it : these o.root ≡ false → held_by g these (take (i + 1) xs) ≡ held_by g these (take i xs)
  passes_it e = same_holding (count_by is_owned (take (i + 1) xs)) (count_by is_owned (take i xs)) (sum_by words (take (i + 1) xs)) (sum_by words (take i xs))
      (count_by_more_no is_owned xs i none_owned l e) (let none : words o ≡ 0 = ap (λ (b : Bool). if b then words_owned g o else 0) e in omega (arith, words_more, none))

-- there is room for an object more
pub room_for : (h : Holding) (n words : ℕ) → IsOfObjects n h → n < 2 ^ 64 → words < 2 ^ 64 → h.words + words < 2 ^ 128
room_for h n words f few small = omega (arith, f.1, few, small)

words_fit : (h n m a b : ℕ) → h ≤ n * (2 ^ 64 - 1) → m ≡ n + 1 → a ≡ b → a < 2 ^ 64 → h + b ≤ m * (2 ^ 64 - 1)
words_fit h n m a b l e f s = omega (arith, l, e, f, s)

still_fit : (h n m : ℕ) → h ≤ n * (2 ^ 64 - 1) → m ≡ n + 1 → h ≤ m * (2 ^ 64 - 1)
still_fit h n m l e = omega (arith, l, e)

-- the next object is counted
module _ (g : Graph) (roots : ℕ) (xs : List Owned) (i : ℕ) (l : i < length xs) (words : ℕ) (is_words : words ≡ words_owned g (owned_at xs i)) (small : words < 2 ^ 64)
    (below : (owned_at xs i).root < roots) (t : Totals) (so : AreTotals g roots (take i xs) t) where
  few_more : (these : ℕ → Bool) → IsOfObjects (length (take (i + 1) xs)) (held_by g these (take (i + 1) xs))
  few_more these = by (these (owned_at xs i).root) refl
    where
      long : length (take (i + 1) xs) ≡ length (take i xs) + 1
      long = let a : length (take (i + 1) xs) ≡ i + 1 = length-take-le (i + 1) xs (omega (arith, l)) in let b : length (take i xs) ≡ i = length-take-le i xs (omega (arith, l)) in omega (arith, a, b)

      by : (b : Bool) → these (owned_at xs i).root ≡ b → IsOfObjects (length (take (i + 1) xs)) (held_by g these (take (i + 1) xs))
      by true e = subst (IsOfObjects (length (take (i + 1) xs))) (sym (counts_it g these xs i l e))
          (let f = so.few these in (omega (arith, f.0, long), words_fit (held_by g these (take i xs)).words (length (take i xs)) (length (take (i + 1) xs)) words (words_owned g (owned_at xs i)) f.1 long is_words small))
      by false e = subst (IsOfObjects (length (take (i + 1) xs))) (sym (passes_it g these xs i l e))
          (let f = so.few these in (omega (arith, f.0, long), still_fit (held_by g these (take i xs)).words (length (take i xs)) (length (take (i + 1) xs)) f.1 long))

  abbrev here : ℕ
  here = (owned_at xs i).root

  pub one_counted : (new : Totals) → new.each.items ≡ set t.each.items here (one_more (holding_at t.each.items here) words) → new.all ≡ one_more t.all words → AreTotals g roots (take (i + 1) xs) new
  one_counted new each all = record {
    long = ap length each ∙ length-set t.each.items here (one_more (holding_at t.each.items here) words) ∙ so.long;
    each = λ root lr. each_at root lr (nat_eq root here) refl;
    all = all ∙ ap (λ h. one_more h words) so.all ∙ ap (one_more (held_by g any_root (take i xs))) is_words ∙ sym (counts_it g any_root xs i l refl);
    few = few_more;
  }
    where
      each_at : (root : ℕ) → root < roots → (b : Bool) → nat_eq root here ≡ b → holding_at new.each.items root ≡ held_by g (nat_eq root) (take (i + 1) xs)
      each_at root lr true e =
          ap (λ hs. holding_at hs root) each
          ∙ subst (λ r. holding_at (set t.each.items here (one_more (holding_at t.each.items here) words)) r ≡ one_more (holding_at t.each.items r) words) (sym (eqb-true root here e))
          (get_or-set_same t.each.items here (one_more (holding_at t.each.items here) words) no_holding (subst (λ n. here < n) (sym so.long) below))
          ∙ ap (λ h. one_more h words) (so.each root lr) ∙ ap (one_more (held_by g (nat_eq root) (take i xs))) is_words ∙ sym (counts_it g (nat_eq root) xs i l e)
      each_at root lr false e =
          ap (λ hs. holding_at hs root) each
          ∙ get_or-set_other t.each.items here root (one_more (holding_at t.each.items here) words) no_holding (λ z. absurd (let yes : nat_eq root here ≡ true = eq-eqb root here z in let no : true ≡ false = sym yes ∙ e in cc))
          ∙ so.each root lr ∙ sym (passes_it g (nat_eq root) xs i l e)

-- the rows of the first roots
pub rows_first : (held : ℕ → Holding) → [] ≡ rows_below held 0
unfolding rows_below
rows_first held = refl

pub rows_next : (held : ℕ → Holding) (n : ℕ) → rows_below held (n + 1) ≡ rows_below held n ++ row_of held n
unfolding rows_below
rows_next held n = ap (rows_below held) (let e : n + 1 ≡ suc n = omega arith in e)

pub row_yes : (held : ℕ → Holding) (n : ℕ) → 0 < (held n).objects → record { root = n; holding = held n } ∷ [] ≡ row_of held n
row_yes held n some = sym (ap (λ (b : Bool). if b then [] else record { root = n; holding = held n } ∷ []) (ne_eqb (held n).objects 0 (omega (arith, some))))

pub row_no : (held : ℕ → Holding) (n : ℕ) → (held n).objects ≤ 0 → [] ≡ row_of held n
row_no held n none = sym (ap (λ (b : Bool). if b then [] else record { root = n; holding = held n } ∷ []) (eq-eqb (held n).objects 0 (omega (arith, none))))

-- roots with the same objects have the same rows
same_rows : (a b : ℕ → Holding) (n : ℕ) → ((root : ℕ) → root < n → a root ≡ b root) → rows_below a n ≡ rows_below b n
unfolding rows_below
same_rows a b zero same = refl
same_rows a b (suc n) same =
    ap (λ rows. rows ++ row_of a n) (same_rows a b n (λ root l. same root (omega (arith, l)))) ∙ ap (λ (h : Holding). rows_below b n ++ row_of (λ root. h) n) (same n (omega arith))

-- the roots of owned objects are there
pub owned_below : (g : Graph) (owned : List Owned) → AreOwned g owned → All (λ (o : Owned). o.root < length g.roots) owned
owned_below g owned v k d l = let o = v.each k d l in root_there g _ o.distance _ o.path

-- the rows of a graph heap's roots
pub rows_told : (g : Graph) (owned slice : List Owned) (roots : ℕ) (t : Totals) (each : List Holding) (rows : List RootRow) → AreOwned g owned → slice ≡ owned → roots ≡ length g.roots
    → AreTotals g roots slice t → each ≡ t.each.items → AreRows (holding_at each) (length each) rows → AreRootRows g rows t.all
rows_told g owned slice roots t each rows are same_slice same_roots totals same_each ordered =
    let so : AreTotals g (length g.roots) owned t = subst (λ n. AreTotals g n owned t) same_roots (subst (λ s. AreTotals g roots s t) same_slice totals) in
    let on : AreRows (holding_at t.each.items) (length t.each.items) rows = subst (λ hs. AreRows (holding_at hs) (length hs) rows) same_each ordered in
    let held : ℕ → Holding = λ root. held_by g (nat_eq root) owned in
    let same : rows_below (holding_at t.each.items) (length t.each.items) ≡ rows_below held (length g.roots)
    = ap (rows_below (holding_at t.each.items)) so.long ∙ same_rows (holding_at t.each.items) held (length g.roots) so.each in
    record { owned = owned; are_owned = are; are_rows = (subst (λ xs. IsPermutation xs rows) same on.0, on.1); sums = so.all }
