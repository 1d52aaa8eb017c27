-- A page is chosen, emptied block by block, and moving ends.
use Rattle.std.proofs.Common.{◌≡◌, ℕ, ◌+◌, ◌<◌, ◌≤◌, inl, inr, Bool, true, false, not, ◌&&◌, ◌==◌, if◌then◌else◌, List, [], ◌∷◌, Option, Some, None, length, set, ap, ◌∙◌, sym, arith, refl}
use Rattle.std.specs.Prelude.{slice_get}
use Rattle.std.proofs.lemmas.List.{get_or_past}
use Rattle.std.proofs.lemmas.List.Sums.{sum_by-cons}
use Rattle.size_classes.specs.declared.class.TheConstants.{CLASSES}
use Rattle.size_classes.specs.Sizes.{blocks_in}
use Rattle.heap_model.specs.Pages.{Page, ArePages, is_usable, with_allocated, page_at, free_blocks, whole_pages}
use Rattle.heap_model.specs.Store.{Store, address_of}
use Rattle.heap_model.specs.State.{is_evacuating}
use Rattle.heap_model.specs.Action.{KeepsBlocks, MovesBlock, IsNext, is_choosable}
use Rattle.space.specs.Counts.{stays, main_blocks, evacuating_pages}
use Rattle.space.proofs.Counts.{one_if}
use Rattle.fragmentation.specs.Tight.{IsTight, staying_pages}
use Rattle.fragmentation.specs.Gathering.{AreUsed}
use Rattle.fragmentation.specs.Suffice.{gathered_pages}
use Rattle.fragmentation.proofs.Tight.IsLeftover.{evacuates, NoneStranded, LeftOn, IsSettled, IsMoved, IsEmptying, AtLook}
use Rattle.fragmentation.proofs.Tight.Emptied.{chosen_evacuating, chosen_staying, chosen_two, chosen_emptied, moved_store, moved_emptied}
use Rattle.fragmentation.proofs.Tight.Free.{tight_fewest}
use Rattle.fragmentation.proofs.Suffice.Paging.{whole_more, gathered_least, gathered_enough}
use Rattle.fragmentation.proofs.Tight.Leftover.{Goes, moved_less, moved_goes}

-- with as many blocks free as a page has, no main copy of a class was left
pub none_left : (s : Store) (class need : ℕ) → blocks_in class ≤ free_blocks s.pages class → IsMoved s class need → NoneStranded s class
none_left s class need free (inl n) = n
none_left s class need free (inr w) = absurd (let y = w.tight in omega (arith, y, free))

-- a page that is chosen
pub chosen_left : (s t : Store) (class page chosen : ℕ) (p : Page) (need : ℕ → ℕ) → ArePages s.pages → AreUsed s.pages (length s.pages) → page_at s.pages page ≡ Some p → is_choosable class (Some p) ≡ true → blocks_in class ≤ free_blocks s.pages class → class < CLASSES
    → KeepsBlocks s t → t.pages ≡ set s.pages page (Some (record p { evacuating = true })) → ((k : ℕ) → IsTight s.pages k → IsTight t.pages k) → AtLook s chosen need → IsEmptying t page 0 (chosen + 1) need
chosen_left s t class page chosen p need a used at good free small keeps is tight w = record {
  class = class;
  emptied = chosen_emptied s t class page p at good keeps is _ small (none_left s class (need class) free (w.moved class small)) (λ k l f n. moved_less s t k (need k) (need k) f (tight k) (omega arith) (w.moved k l));
  some = (let x = chosen_staying s t class page p at good keeps is in let y = chosen_two s t class page p at good keeps is a used free in omega (arith, x, y));
  count = (let x = chosen_evacuating s t class page p at good keeps is in let n = w.count in omega (arith, x, n));
}

-- a block that is moved
pub block_left : (s t : Store) (page block chosen i to j : ℕ) (p q : Page) (need : ℕ → ℕ) → ArePages s.pages → page_at s.pages page ≡ Some p → p.evacuating ≡ true → IsNext p block i → is_usable p.class (Some q) ≡ true → page_at s.pages to ≡ Some q → slice_get q.allocated j ≡ Some false
    → MovesBlock s t (address_of p.class page i) (address_of p.class to j) → t.pages ≡ set s.pages to (Some (record (with_allocated q j true) { is_target = true })) → ((k : ℕ) → IsTight s.pages k → IsTight t.pages k)
    → IsEmptying s page block chosen need → IsEmptying t page (i + 1) chosen need
block_left s t page block chosen i to j p q need a at evacuating next usable there empty m is tight w = record {
  class = w.class;
  emptied = moved_emptied s t page block i to j p q a at evacuating next usable there empty m is w.class _ _ (moved_goes s t need need g) w.emptied;
  some = (let x = w.some in let y = g.staying w.class in omega (arith, x, y));
  count = (let x = w.count in let y = g.evacuating in omega (arith, x, y));
}
  where
    g : Goes s t need need
    g = moved_store s t page block i to j p q a at evacuating next usable there empty m is need tight

-- evacuating pages and those of a class that stay
leave_and_stay : (class : ℕ) (pages : List (Option Page)) → evacuating_pages pages + staying_pages pages class ≤ length pages
leave_and_stay class [] = omega arith
leave_and_stay class (o ∷ os) =
    let r = leave_and_stay class os in
    let a = sum_by-cons (λ z. one_if (is_evacuating z)) o os in
    let b = sum_by-cons (λ z. one_if (stays class z)) o os in
    let c = one o in
    omega (arith, r, a, b, c)
  where
    one : (o : Option Page) → one_if (is_evacuating o) + one_if (stays class o) ≤ 1
    one None = omega arith
    one (Some p) = by_tests (p.class == class) p.evacuating
      where
        by_tests : (b l : Bool) → one_if l + one_if (b && not l) ≤ 1
        by_tests true true = omega arith
        by_tests true false = omega arith
        by_tests false true = omega arith
        by_tests false false = omega arith

-- if as many pages may be emptied as there are, moving isn't cut off
pub never_cut : (s : Store) (page block chosen : ℕ) (need : ℕ → ℕ) → IsEmptying s page block chosen need → chosen + 1 ≤ length s.pages
never_cut s page block chosen need w =
    let l = leave_and_stay w.class s.pages in
    let c = w.count in
    let z = w.some in omega (arith, l, c, z)

-- each class is settled when moving has been over all
pub moved_settled : (s : Store) (class need : ℕ) → class < CLASSES → ArePages s.pages → IsTight s.pages class → main_blocks s.pages class ≤ need → IsMoved s class need → IsSettled s class need
moved_settled s class need small a tight census w = elim w [
  | inl n ↦ settled (length s.pages) (record { only = λ b x. absurd (n b x); some = λ on. absurd (let z : false ≡ true = sym (ap (evacuates class) (get_or_past s.pages (length s.pages) None (omega arith))) ∙ on in cc) })
  | inr l ↦ settled l.page l.left
]
  where
    whole : staying_pages s.pages class ≤ whole_pages class need
    whole = let e = tight_fewest s.pages class small a tight in let m = whole_more class (main_blocks s.pages class) need small census in omega (arith, e, m)

    settled : (page : ℕ) → LeftOn s class need page → IsSettled s class need
    settled page left = record { page = page; left = left; few = by_leaves (evacuates class (page_at s.pages page)) refl }
      where
        by_leaves : (b : Bool) → evacuates class (page_at s.pages page) ≡ b → staying_pages s.pages class + (if b then 1 else 0) ≤ gathered_pages class need
        by_leaves false e = let m = gathered_least class need in omega (arith, whole, m)
        by_leaves true e = let m = gathered_enough class need (left.some e) in omega (arith, whole, m)
