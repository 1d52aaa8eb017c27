-- The first pages have their words, and the blocks are as they were.
use Rattle.std.proofs.Common.{◌≡◌, ℕ, ◌+◌, ◌-◌, ◌*◌, ◌/◌, ◌≤◌, true, false, List, ◌++◌, Option, Some, None, length, min, replicate, get_or, ap, ◌∙◌, sym, subst, arith, refl}
use Rattle.heap_model.specs.Action.{KeepsBlocks}
use Rattle.std.proofs.lemmas.Option.{slice_get-get_or}
use Rattle.heap_model.specs.Pages.{Page, page_at}
use Rattle.heap_model.specs.Store.{Store, IsStore, is_allocated}
use Rattle.heap_model.proofs.State.{allocated_pages}
use Rattle.pages.specs.declared.page.PageRow.{PageRow}
use Rattle.pages.specs.Together.{joined, pages_in, KeepsAllocated}
use Rattle.pages.proofs.Telling.{length-pages}
use Rattle.pages.proofs.Touching.{first_together, first_pages, first_keeps}
use Rattle.nodes.specs.Joined.{IsHeader, AreBlockRecords}
use Rattle.nodes.specs.Links.{KeepsLinks}
use Rattle.nodes.specs.Touching.{touched}
use Rattle.nodes.proofs.Joining.{still_store, word_kept, node_kept}
use Rattle.nodes.proofs.Freeing.{page_within}
use Rattle.nodes.proofs.Places.{allocated_place}

module _ (rows : List (Option PageRow)) (words : List ℕ) (t : Store) (is : joined rows words ≡ t) (are : AreBlockRecords rows words) (first pages : ℕ) (all : pages ≡ length rows)
    (new : List ℕ) (e : new ≡ words ++ replicate (2048 * min first pages - length words) 0) where
  kept : KeepsAllocated (pages_in rows words) words new
  kept = first_keeps rows words first pages new e are.together all

  through : (P : Store → Type 0) → P (record { pages = pages_in rows words; words = new }) → P (joined rows new)
  through P p = subst (λ g. P (record { pages = g; words = new })) (sym (first_pages rows words first pages new e are.together all)) p

  -- a word of an allocated block
  word_stays : (b : ℕ) → is_allocated (joined rows words) b ≡ true → (j : ℕ) → j ≤ 3 → get_or new (b + j) 0 ≡ get_or words (b + j) 0
  word_stays b h j l = let low = (allocated_place (joined rows words) b are.whole h).size in word_kept (pages_in rows words) words new kept b h j (omega (arith, low, l))

  pub touched_nodes : AreBlockRecords rows new
  unfolding is_allocated
  touched_nodes = record {
    whole = through IsStore (still_store (pages_in rows words) words new kept.len are.whole);
    together = first_together rows words first pages new e are.together all;
    headers = through (λ x. (b : ℕ) → is_allocated x b ≡ true → IsHeader (get_or new (b + 1) 0)) (λ b h. subst IsHeader (sym (word_stays b h 1 (omega arith))) (are.headers b h));
  }

  pub touched_is : joined rows new ≡ touched t first
  touched_is =
      through (λ x. x ≡ touched t first)
      (ap (λ (w : List ℕ). let x : Store = record { pages = pages_in rows words; words = w } in x) (e ∙ ap (λ n. words ++ replicate (2048 * min first n - length words) 0) (all ∙ sym (length-pages rows words)))
      ∙ ap (λ (x : Store). touched x first) is)

  pub touched_kept : KeepsBlocks t (joined rows new)
  unfolding is_allocated
  touched_kept =
      subst (λ (x : Store). KeepsBlocks x (joined rows new)) is
      (through (KeepsBlocks (joined rows words)) (record { allocated = λ b. refl; nodes = λ b h. node_kept (pages_in rows words) words new kept b h are.whole }))

  pub touched_links : KeepsLinks t (joined rows new)
  touched_links = subst (λ (x : Store). KeepsLinks x (joined rows new)) is (record {
    len = kept.len;
    each = λ b h. word_stays b h 3 (omega arith);
    fresh = λ b was now. absurd (let z : true ≡ false = sym now ∙ allocated_pages (joined rows words) (joined rows new) b (first_pages rows words first pages new e are.together all) ∙ was in cc);
  })

-- a page that wasn't touched is free
pub untouched_free : (s t : Store) → s ≡ t → IsStore s → (page : ℕ) → length s.words / 2048 ≤ page → page_at t.pages page ≡ None
untouched_free s t is whole page past = ap (λ (x : Store). page_at x.pages page) (sym is) ∙ by_page (page_at s.pages page) refl
  where
    by_page : (o : Option Page) → page_at s.pages page ≡ o → page_at s.pages page ≡ None
    by_page None e = e
    by_page (Some p) e =
        let w : 2048 * page + 2048 ≤ length s.words = whole.words page p (slice_get-get_or s.pages page None (page_within s.pages page p e) ∙ ap Some e) in
        absurd (omega (arith, w, past))
