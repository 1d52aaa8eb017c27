-- Room for one block.
use Rattle.std.proofs.Common.{◌≡◌, ◌≢◌, ℕ, zero, suc, ◌+◌, ◌-◌, ◌/◌, ◌<◌, ◌≤◌, ◌||◌, cond, eqb, leb, ltb, List, Option, Some, ap, ◌∙◌, sym, refl, subst, inl, inr, arith, eq-eqb}
use Rattle.std.proofs.lemmas.Bool.{cases_eq, cases_lt, ne_eqb, lt-ltb, le-ltb, le-leb}
use Rattle.std.proofs.lemmas.Grind.{common_steps}
use Rattle.size_classes.specs.declared.class.TheConstants.{CLASSES}
use Rattle.size_classes.specs.Sizes.{blocks_in, class_for}
use Rattle.size_classes.specs.Parts.{parts_in, part_words}
use Rattle.size_classes.specs.Need.{blocks_needed, is_class}
use Rattle.size_classes.proofs.Table.{blocks_some}
use Rattle.heap_model.specs.Pages.{Page, free_blocks, free_pages, has_room, whole_pages, pages_needed}

whole_none : (b : ℕ) → 0 < b → (0 + (b - 1)) / b ≡ 0
whole_none b some = grind (arith, common_steps)

whole_one : (b : ℕ) → 0 < b → (1 + (b - 1)) / b ≡ 1
whole_one b some = grind (arith, common_steps)

-- the pages for one block, if this many are free
pages_one : ℕ → ℕ
pages_one free = cond (ltb 0 free) 0 1

module _ (pages : List (Option Page)) (need : ℕ → ℕ) (class : ℕ) (known : class < CLASSES) (one : need class ≡ 1) (none : (k : ℕ) → k < CLASSES → k ≢ class → need k ≡ 0) where
  here : whole_pages class (need class - free_blocks pages class) ≡ pages_one (free_blocks pages class)
  unfolding pages_one
  here = elim (cases_lt 0 (free_blocks pages class)) [
    | inl some ↦ ap (whole_pages class) (let e : need class - free_blocks pages class ≡ 0 = omega (arith, one, some) in e) ∙ whole_none (blocks_in class) (blocks_some class known) ∙ sym (ap (λ b. cond b 0 1) (lt-ltb 0 (free_blocks pages class) some))
    | inr gone ↦ ap (whole_pages class) (let e : need class - free_blocks pages class ≡ 1 = omega (arith, one, gone) in e) ∙ whole_one (blocks_in class) (blocks_some class known) ∙ sym (ap (λ b. cond b 0 1) (le-ltb 0 (free_blocks pages class) gone))
  ]

  elsewhere : (k : ℕ) → k < CLASSES → k ≢ class → whole_pages k (need k - free_blocks pages k) ≡ 0
  elsewhere k below ne = ap (whole_pages k) (let e : need k - free_blocks pages k ≡ 0 = omega (arith, none k below ne) in e) ∙ whole_none (blocks_in k) (blocks_some k below)

  before : (n : ℕ) → n ≤ class → pages_needed pages need n ≡ 0
  before zero le = refl
  before (suc n) le = omega (arith, before n (omega (arith, le)), elsewhere n (omega (arith, le, known)) (λ e. absurd (omega (arith, e, le))))

  behind : (n : ℕ) → class < n → n ≤ CLASSES → pages_needed pages need n ≡ pages_one (free_blocks pages class)
  behind zero lt le = absurd (omega (arith, lt))
  behind (suc n) lt le = elim (cases_eq n class) [
    | inl e ↦ (let first = before n (omega (arith, e)) in let then = subst (λ k. whole_pages k (need k - free_blocks pages k) ≡ pages_one (free_blocks pages class)) (sym e) here in omega (arith, first, then))
    | inr ne ↦ omega (arith, behind n (omega (arith, lt, ne)) (omega (arith, le)), elsewhere n (omega (arith, le)) ne)
  ]

  -- a free block of the class, or a free page
  pub room_is : (free left : ℕ) → free ≡ free_blocks pages class → left ≡ free_pages pages → (ltb 0 free || ltb 0 left) ≡ has_room pages need
  unfolding pages_one
  room_is free left e f =
      sym (ap (λ n. leb n (free_pages pages)) (behind CLASSES known (omega arith)) ∙ by_free (free_blocks pages class) (free_pages pages) ∙ ap (λ n. ltb 0 n || ltb 0 (free_pages pages)) (sym e) ∙ ap (λ n. ltb 0 free || ltb 0 n) (sym f))
    where
      by_free : (free left : ℕ) → leb (cond (ltb 0 free) 0 1) left ≡ (ltb 0 free || ltb 0 left)
      by_free free left = elim (cases_lt 0 free) [
        | inl some ↦ ap (λ b. leb (cond b 0 1) left) (lt-ltb 0 free some) ∙ le-leb 0 left (omega arith) ∙ sym (ap (λ b. b || ltb 0 left) (lt-ltb 0 free some))
        | inr gone ↦ ap (λ b. leb (cond b 0 1) left) (le-ltb 0 free gone) ∙ sym (ap (λ b. b || ltb 0 left) (le-ltb 0 free gone))
      ]

-- an object of one part needs one block, of the part's class
one_part : (cells class : ℕ) → parts_in cells ≡ 1 → class_for (part_words cells 0) ≡ Some class → (k : ℕ) → blocks_needed cells (parts_in cells) k ≡ cond (eqb class k) 1 0
one_part cells class one is k = ap (λ n. blocks_needed cells n k) one ∙ ap (λ o. 0 + cond (is_class k o) 1 0) is ∙ (let e : 0 + cond (eqb class k) 1 0 ≡ cond (eqb class k) 1 0 = omega arith in e)

pub one_room : (pages : List (Option Page)) (cells class free left : ℕ) → parts_in cells ≡ 1 → class_for (part_words cells 0) ≡ Some class → class < CLASSES → free ≡ free_blocks pages class → left ≡ free_pages pages
    → (ltb 0 free || ltb 0 left) ≡ has_room pages (blocks_needed cells (parts_in cells))
one_room pages cells class free left one is known e f =
    room_is pages (blocks_needed cells (parts_in cells)) class known (one_part cells class one is class ∙ ap (λ b. cond b 1 0) (eq-eqb class class refl))
    (λ k _ ne. one_part cells class one is k ∙ ap (λ b. cond b 1 0) (ne_eqb class k (λ x. ne (sym x)))) free left e f
