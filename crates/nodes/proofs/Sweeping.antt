-- Looks at blocks of a page, as actions of the sweeper.
use Rattle.std.proofs.Common.{◌≡◌, ℕ, ◌+◌, ◌<◌, Bool, true, false, List, length, Option, None, Some, set, get_or, ap, ◌∙◌, sym, subst, refl, inl, inr, arith}
use Rattle.std.specs.Prelude.{slice_get, IfSome, IsSomeAnd}
use Rattle.std.proofs.lemmas.Bool.{cases_lt, cases_eq}
use Rattle.std.proofs.lemmas.List.{length-set, get_or-set_same, get_or_past}
use Rattle.std.proofs.lemmas.Option.{none-some}
use Rattle.heap_model.specs.declared.phase.Phase.TheVariants as phases
use Rattle.heap_model.specs.Action.{Action, Chain, Nothing_done, Then, Frees, Relinks, KeepsBlocks, Frees_block, Passes_block, goes_to}
use Rattle.heap_model.specs.Header.{header_in}
use Rattle.heap_model.specs.Pages.{Page, page_at, with_allocated}
use Rattle.heap_model.specs.State.{HeapState, seen, same_colour}
use Rattle.heap_model.specs.Store.{Store, IsStore, is_allocated, record_of, size_at, address_of}
use Rattle.heap_model.proofs.State.{behind}
use Rattle.pages.specs.Sweeping.{has_colour, LooksAt, It_stays, It_goes, Looks, No_look, Then_one}
use Rattle.pages.specs.Together.{KeepsAllocated}
use Rattle.nodes.specs.Joined.{IsHeader}
use Rattle.nodes.specs.Links.{LeavesLinks}
use Rattle.nodes.specs.Pages.{blocks_on}
use Rattle.nodes.specs.Sweeping.{Sweeps}
use Rattle.nodes.proofs.Freeing.{allocated_at, frees_by, freed_store_by, freed_headers}
use Rattle.nodes.proofs.Joining.{word_kept}
use Rattle.nodes.proofs.Places.{allocated_place}
use Rattle.nodes.proofs.Writing.{colour_is}

-- pages and words are a store, and word 1 of each allocated block is a header
pub record IsSound (s : Store) : Type 0 where
  pub whole : IsStore s
  pub headers : (b : ℕ) → is_allocated s b ≡ true → IsHeader (get_or s.words (b + 1) 0)

-- an allocated block is marked if its header has the colour
marked_by : (h : HeapState) (s : Store) (colour : Bool) → h.mark_parity ≡ colour → IsStore s → (page block : ℕ) (p : Page) → page_at s.pages page ≡ Some p → slice_get p.allocated block ≡ Some true
    → (seen (record h { store = s })).marked (address_of p.class page block + 1) ≡ has_colour s.words colour (address_of p.class page block)
marked_by h s colour es whole page block p there allocated =
    let a = address_of p.class page block in
    behind true (λ z. same_colour h.mark_parity (record_of s z).colour) a
    ∙ ap (same_colour h.mark_parity) (sym (colour_is s whole a (allocated_at s whole page block p there allocated)))
    ∙ ap (λ c. same_colour c (header_in (get_or s.words (a + 1) 0)).colour) es

module _ (s new : Store) (page block : ℕ) (p : Page) (there : page_at s.pages page ≡ Some p) (allocated : slice_get p.allocated block ≡ Some true) (pages : new.pages ≡ set s.pages page (Some (with_allocated p block false))) (kept : KeepsAllocated new.pages s.words new.words) (sound : IsSound s) where
  allocated_there : IsSomeAnd (page_at s.pages page) (λ q. slice_get q.allocated block ≡ Some true)
  allocated_there = subst (λ o. IsSomeAnd o (λ q. slice_get q.allocated block ≡ Some true)) (sym there) allocated

  given : IfSome (page_at s.pages page) (λ q. new.pages ≡ set s.pages page (Some (with_allocated q block false)))
  given = subst (λ o. IfSome o (λ q. new.pages ≡ set s.pages page (Some (with_allocated q block false)))) (sym there) pages

  freed : Frees s new (address_of p.class page block)
  freed = subst (λ o. IfSome o (λ q. Frees s new (address_of q.class page block))) there (frees_by s s refl sound.whole page block new.pages new.words kept allocated_there given)

  freed_sound : IsSound new
  freed_sound = record {
    whole = freed_store_by s s refl sound.whole page block new.pages new.words kept allocated_there given;
    headers = freed_headers s s refl sound.whole page block new.pages new.words kept allocated_there given sound.headers;
  }

  -- a block that is allocated still has its link
  links_left : LeavesLinks s new
  unfolding is_allocated size_at
  links_left b now = elim (cases_eq b (address_of p.class page block)) [
    | inl e ↦ absurd (let z : true ≡ false = sym now ∙ ap (is_allocated new) e ∙ freed.gone in cc)
    | inr ne ↦ (
      sym (freed.same b ne) ∙ now,
      (let low = (allocated_place new b freed_sound.whole now).size in let still : is_allocated (record { pages = new.pages; words = s.words }) b ≡ true = now in word_kept new.pages s.words new.words kept b still 3 (omega (arith, low))),
    )
  ]

-- a block that was given back, of a value t as which the fields s are seen
pub given_leaves : (s t new : Store) → s ≡ t → IsStore s → ((b : ℕ) → is_allocated s b ≡ true → IsHeader (get_or s.words (b + 1) 0)) → (page block : ℕ) → IsSomeAnd (page_at t.pages page) (λ p. slice_get p.allocated block ≡ Some true)
    → IfSome (page_at s.pages page) (λ p. new.pages ≡ set s.pages page (Some (with_allocated p block false))) → KeepsAllocated new.pages s.words new.words → LeavesLinks t new
given_leaves s t new is whole headers page block allocated given kept =
    subst (λ (x : Store). LeavesLinks x new) is (by_page (page_at s.pages page) refl (subst (λ (x : Store). IsSomeAnd (page_at x.pages page) (λ p. slice_get p.allocated block ≡ Some true)) (sym is) allocated) given)
  where
    by_page : (o : Option Page) → page_at s.pages page ≡ o → IsSomeAnd o (λ p. slice_get p.allocated block ≡ Some true) → IfSome o (λ p. new.pages ≡ set s.pages page (Some (with_allocated p block false))) → LeavesLinks s new
    by_page None there h g = absurd h
    by_page (Some p) there h g = links_left s new page block p there h g kept (record { whole = whole; headers = headers })

-- a page of which something holds is one
pub in_use_low : (pages : List (Option Page)) (page : ℕ) (P : Page → Type 0) → IsSomeAnd (page_at pages page) P → page < length pages
in_use_low pages page P h = elim (cases_lt page (length pages)) [ inl l ↦ l | inr l ↦ absurd (subst (λ o. IsSomeAnd o P) (get_or_past pages page None l) h) ]

look_sound : (colour : Bool) (page block : ℕ) (s after : Store) → LooksAt colour page block s after → IsSound s → IsSound after
look_sound colour page block s after (It_stays p there below stays) sound = sound
look_sound colour page block s after (It_goes p new there allocated goes pages kept) sound = freed_sound s new page block p there allocated pages kept sound

looks_sound : (colour : Bool) (page from : ℕ) (s : Store) (count : ℕ) (after : Store) → Looks colour page from s count after → IsSound s → IsSound after
looks_sound colour page from s count after No_look sound = sound
looks_sound colour page from s count after (Then_one n mid new looks look) sound = look_sound colour page (from + n) mid new look (looks_sound colour page from s n mid looks sound)

look_leaves : (colour : Bool) (page block : ℕ) (s after : Store) → LooksAt colour page block s after → IsSound s → LeavesLinks s after
look_leaves colour page block s after (It_stays p there below stays) sound b now = (now, refl)
look_leaves colour page block s after (It_goes p new there allocated goes pages kept) sound b now = links_left s new page block p there allocated pages kept sound b now

looks_leave : (colour : Bool) (page from : ℕ) (s : Store) (count : ℕ) (after : Store) → Looks colour page from s count after → IsSound s → LeavesLinks s after
looks_leave colour page from s count after No_look sound b now = (now, refl)
looks_leave colour page from s count after (Then_one n mid new looks look) sound b now =
    let last = look_leaves colour page (from + n) mid new look (looks_sound colour page from s n mid looks sound) b now in
    let first = looks_leave colour page from s n mid looks sound b last.0 in (first.0, last.1 ∙ first.1)

-- a look is an action
look_acts : (h : HeapState) (colour : Bool) → h.mark_parity ≡ colour → (page block : ℕ) → h.phase ≡ phases.Sweeping page block → (s after : Store) → LooksAt colour page block s after → IsSound s
    → Action (record h { store = s }) 1 (goes_to (record h { store = after }) 1 (phases.Sweeping page (block + 1)))
look_acts h colour es page block ep s after (It_stays p there below stays) sound = Passes_block page block p ep there below (λ t. marked_by h s colour es sound.whole page block p there t ∙ stays t)
look_acts h colour es page block ep s after (It_goes p new there allocated goes pages kept) sound =
    Frees_block page block p new ep there allocated (marked_by h s colour es sound.whole page block p there allocated ∙ goes) (freed s new page block p there allocated pages kept sound) pages

still : (s : Store) → Relinks s s
still s = record { blocks = record { allocated = λ b. refl; nodes = λ b e. refl }; pages = refl }

-- and looks are a chain
looks_chain : (h : HeapState) (colour : Bool) → h.mark_parity ≡ colour → (page from : ℕ) → h.phase ≡ phases.Sweeping page from → (s : Store) (count : ℕ) (after : Store) → Looks colour page from s count after → IsSound s
    → Chain (record h { store = s }) count (goes_to (record h { store = after }) count (phases.Sweeping page (from + count)))
looks_chain h colour es page from ep s count after No_look sound =
    subst (λ p. Chain (record h { store = s }) 0 (record h { store = s; phase = p; units = h.units + 0 })) (ep ∙ ap (phases.Sweeping page) (let e : from ≡ from + 0 = omega arith in e))
    (subst (λ u. Chain (record h { store = s }) 0 (record h { store = s; units = u })) (let e : h.units ≡ h.units + 0 = omega arith in e) Nothing_done)
looks_chain h colour es page from ep s count after (Then_one n mid new looks look) sound =
    let j : HeapState = goes_to (record h { store = mid }) n (phases.Sweeping page (from + n)) in
    let last = look_acts j colour es page (from + n) refl mid new look (looks_sound colour page from s n mid looks sound) in
    subst (λ b. Chain (record h { store = s }) (n + 1) (goes_to (record h { store = new }) (n + 1) (phases.Sweeping page b))) (let e : from + n + 1 ≡ from + (n + 1) = omega arith in e)
    (subst (λ u. Chain (record h { store = s }) (n + 1) (record h { store = new; phase = phases.Sweeping page (from + n + 1); units = u })) (let e : h.units + n + 1 ≡ h.units + (n + 1) = omega arith in e)
    (Then n 1 j (goes_to (record j { store = new }) 1 (phases.Sweeping page (from + n + 1))) mid (looks_chain h colour es page from ep s n mid looks sound) (still mid) last))

-- the same, of a value t as which the fields s are seen
module _ (s t new : Store) (is : s ≡ t) (whole : IsStore s) (headers : (b : ℕ) → is_allocated s b ≡ true → IsHeader (get_or s.words (b + 1) 0)) (colour : Bool) (page from n : ℕ) (looks : Looks colour page from s n new) where
  sound : IsSound s
  sound = record { whole = whole; headers = headers }

  pub swept_sound : IsSound new
  swept_sound = looks_sound colour page from s n new looks sound

  pub sweeps_by : Sweeps t new colour page from n
  sweeps_by = λ h store es ep.
      subst (λ (x : Store). Chain (record h { store = x }) n (goes_to (record h { store = new }) n (phases.Sweeping page (from + n)))) (is ∙ sym store)
      (looks_chain h colour es page from ep s n new looks sound)

  pub left_by : LeavesLinks t new
  left_by = subst (λ (x : Store). LeavesLinks x new) is (looks_leave colour page from s n new looks sound)

  -- The page was closed then.
  pub left_and_closed : (pages : List (Option Page)) → KeepsBlocks new (record new { pages = pages }) → LeavesLinks t (record new { pages = pages })
  left_and_closed pages kept b now = left_by b (sym (kept.allocated b) ∙ now)

-- ---- how many pages there are, and blocks of the page, stays
page_low : (pages : List (Option Page)) (page : ℕ) (p : Page) → page_at pages page ≡ Some p → page < length pages
page_low pages page p there = elim (cases_lt page (length pages)) [ inl l ↦ l | inr l ↦ absurd (none-some p (sym (get_or_past pages page None l) ∙ there)) ]

look_stays : (colour : Bool) (page block : ℕ) (s after : Store) → LooksAt colour page block s after
    → (length after.pages ≡ length s.pages) × (blocks_on (page_at after.pages page) ≡ blocks_on (page_at s.pages page))
look_stays colour page block s after (It_stays p there below stays) = (refl, refl)
look_stays colour page block s after (It_goes p new there allocated goes pages kept) = (
  ap length pages ∙ length-set s.pages page (Some (with_allocated p block false)),
  ap blocks_on (ap (λ l. page_at l page) pages ∙ get_or-set_same s.pages page (Some (with_allocated p block false)) None (page_low s.pages page p there))
      ∙ length-set p.allocated block false ∙ sym (ap blocks_on there),
)

pub looks_stay : (colour : Bool) (page from : ℕ) (s : Store) (count : ℕ) (after : Store) → Looks colour page from s count after
    → (length after.pages ≡ length s.pages) × (blocks_on (page_at after.pages page) ≡ blocks_on (page_at s.pages page))
looks_stay colour page from s count after No_look = (refl, refl)
looks_stay colour page from s count after (Then_one n mid new looks look) =
    let a = looks_stay colour page from s n mid looks in let b = look_stays colour page (from + n) mid new look in
    (b.0 ∙ a.0, b.1 ∙ a.1)
