-- The pages after the parts of an object have taken their blocks.
use Rattle.std.proofs.Common.{◌≡◌, ℕ, ◌/◌, ◌<◌, true, false, List, length, refl, ap, sym, ◌∙◌, length-set}
use Rattle.std.specs.Prelude.{Option, Some, None, nat_le}
use Rattle.std.proofs.lemmas.List.{length-replicate}
use Rattle.std.proofs.lemmas.List.Quantifiers.{position-Some}
use Rattle.size_classes.specs.declared.class.TheConstants.{CLASSES}
use Rattle.size_classes.specs.Sizes.{sizes, size_of, blocks_in, class_for}
use Rattle.heap_model.specs.Pages.{Page, IsPage, ArePages, page_at, page_of_class, fresh_page, with_allocated, TakesBlock}
use Rattle.heap_model.specs.Store.{Store, is_allocated, size_at, size_in}
use Rattle.heap_model.specs.Placed.{KeepsPages}
use Rattle.heap_model.specs.Taking.{Takes, Nothing_taken, Part_taken}
use Rattle.heap_model.proofs.Store.Allocated.{allocated_block}
use Rattle.heap_model.proofs.Placed.{pages_same, pages_then, takes_keeps, page_for_within}
use Rattle.heap_model.proofs.Marks.{pages_put, some_page, allocated_page}

pub class_low : (words class : ℕ) → class_for words ≡ Some class → class < CLASSES
unfolding class_for
class_low words class e = (position-Some (λ size. nat_le words size) sizes class 0 e).0

pub fresh_is : (class : ℕ) → class < CLASSES → IsPage (fresh_page class)
fresh_is class l = record { class = l; blocks = length-replicate (blocks_in class) false; marks = refl }

given_page : (pages : List (Option Page)) (class page : ℕ) → class < CLASSES → ArePages pages → IsPage (page_of_class class (page_at pages page))
given_page pages class page l w = by_page (page_at pages page) refl
  where
    by_page : (o : Option Page) → page_at pages page ≡ o → IsPage (page_of_class class o)
    by_page None e = fresh_is class l
    by_page (Some p) e = w.each page p e

pub block_pages : (old new : List (Option Page)) (class page index : ℕ) → class < CLASSES → ArePages old → TakesBlock old class page index new → ArePages new
block_pages old new class page index l w t =
    pages_put old new page _ (page_for_within old class page t.page_is) t.new_is w
    (some_page (with_allocated (page_of_class class (page_at old page)) index true) (allocated_page (page_of_class class (page_at old page)) index true (given_page old class page l w)))

pub takes_pages : (cells : ℕ) (at : ℕ → ℕ) (old : List (Option Page)) (parts : ℕ) (new : List (Option Page)) → ArePages old → Takes cells at old parts new → ArePages new
takes_pages cells at old parts new w Nothing_taken = w
takes_pages cells at old parts new w (Part_taken part class index s t takes f b) = block_pages s t class (at part / 2048) index (class_low _ class f) (takes_pages cells at old part s w takes) b

pub takes_keep : (cells : ℕ) (at : ℕ → ℕ) (old : List (Option Page)) (parts : ℕ) (new : List (Option Page)) → Takes cells at old parts new → KeepsPages old new
takes_keep cells at old parts new Nothing_taken = pages_same old
takes_keep cells at old parts new (Part_taken part class index s t takes f b) = pages_then old s t (takes_keep cells at old part s takes) (takes_keeps s t class (at part / 2048) index b)

pub takes_count : (cells : ℕ) (at : ℕ → ℕ) (old : List (Option Page)) (parts : ℕ) (new : List (Option Page)) → Takes cells at old parts new → length new ≡ length old
takes_count cells at old parts new Nothing_taken = refl
takes_count cells at old parts new (Part_taken part class index s t takes f b) = ap length b.new_is ∙ length-set s (at part / 2048) _ ∙ takes_count cells at old part s takes

-- allocated blocks keep their sizes
pub sizes_stay : (s t : Store) → KeepsPages s.pages t.pages → (b : ℕ) → is_allocated s b ≡ true → size_at t b ≡ size_at s b
unfolding size_at
sizes_stay s t w b allocated =
    let q = allocated_block s b allocated in
    let r = w.used (b / 2048) q.0 q.2.page in
    ap size_in r.1 ∙ ap size_of r.2.class ∙ sym (ap size_in q.2.page)
