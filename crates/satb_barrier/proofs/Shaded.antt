-- A main copy that is shaded.
use Rattle.std.proofs.Common.{◌≡◌, ◌≢◌, ℕ, ◌+◌, ◌-◌, ◌*◌, ◌<◌, Bool, true, false, ◌==◌, ◌||◌, List, length, set, ap, ◌∙◌, sym, subst, refl, arith}
use Rattle.heap_model.specs.Action.{Relinks, Shades, Is_marked}
use Rattle.heap_model.specs.Block.{BlockRecord, with_colour}
use Rattle.heap_model.specs.Collector.{contains, Once}
use Rattle.heap_model.specs.Grey.{AreGrey}
use Rattle.heap_model.specs.State.{seen}
use Rattle.heap_model.specs.Store.{Store, Writes, is_allocated, record_of}
use Rattle.heap_model.proofs.State.{allocated_pages}
use Rattle.nodes.specs.Links.{KeepsLinks}
use Rattle.nodes.specs.declared.heap_fields.HeapFields.{HeapFields}
use Rattle.nodes.specs.Grey.{GreySet, grey_in, inserted, with_buffer, AreLinked}
use Rattle.nodes.specs.HeapFields.{state_of}
use Rattle.nodes.specs.GreyAllocated.{AreAllocated}
use Rattle.nodes.proofs.Keeping.{grey_kept, linked_still, relinked_writes, writes_relinked}
use Rattle.nodes.proofs.Linking.{linked_listed}
use Rattle.nodes.proofs.Sorting.{inserted_between, contains-inserted}
use Rattle.satb_barrier.proofs.Listing.{are_grey_by}

-- the conditions on a heap for a record
abbrev pub IsReady : Store → GreySet → Type 0
IsReady s g = (contains (grey_in s g) 0 ≡ false) × Once (grey_in s g) × ((x : ℕ) → contains (grey_in s g) x ≡ true → is_allocated s (x - 1) ≡ true) × AreLinked s g

-- the heap a, the heap mid whose blocks were threaded anew, and the main copy's colour written in that
module _ (a mid : HeapFields) (w : AreGrey (state_of a)) (links : Relinks a.nodes mid.nodes) (same : grey_in mid.nodes mid.grey ≡ grey_in a.nodes a.grey) (rest : mid ≡ record a { nodes = mid.nodes; grey = mid.grey }) (x : ℕ)
    (allocated : x ≢ 0 → is_allocated a.nodes (x - 1) ≡ true) (unmarked : (seen (state_of a)).marked x ≡ false) (new : Store) (written : Writes mid.nodes new (x - 1) (with_colour (record_of mid.nodes (x - 1)) mid.mark_parity)) (keeps : KeepsLinks mid.nodes new) where
  pub some : x ≢ 0
  some e = let t : true ≡ false = ap (seen (state_of a)).marked (sym e) ∙ unmarked in cc

  pub apart : contains (grey_in a.nodes a.grey) x ≡ false
  apart = by_case (contains (grey_in a.nodes a.grey) x) refl
    where
      by_case : (b : Bool) → contains (grey_in a.nodes a.grey) x ≡ b → b ≡ false
      by_case true e = absurd (let t : true ≡ false = sym (w.marked x e) ∙ unmarked in cc)
      by_case false e = refl

  mark_parity : mid.mark_parity ≡ a.mark_parity
  mark_parity = ap (λ (y : HeapFields). y.mark_parity) rest

  -- the same parts are grey
  pub kept : grey_in new mid.grey ≡ grey_in a.nodes a.grey
  kept = grey_kept mid (λ y c. (are_grey_by a mid w links same mark_parity).allocated y c) new (ap length written.pages) keeps ∙ same

  pub fresh : contains (grey_in new mid.grey) x ≡ false
  fresh = ap (λ xs. contains xs x) kept ∙ apart

  pages : length new.pages ≡ length a.nodes.pages
  pages = ap length (written.pages ∙ links.pages)

  pub few : length (grey_in new mid.grey) < 2048 * length new.pages
  few = let l : length (grey_in new mid.grey) ≡ length (grey_in a.nodes a.grey) = ap length kept in let f = w.few in let p = w.pages in omega (arith, l, f, p, pages)

  allocated_new : (b : ℕ) → is_allocated a.nodes b ≡ true → is_allocated new b ≡ true
  allocated_new b h = allocated_pages a.nodes new b (written.pages ∙ links.pages) ∙ h

  pub allocated_here : is_allocated new (x - 1) ≡ true
  allocated_here = allocated_new (x - 1) (allocated some)

  whole_write : Writes a.nodes new (x - 1) (with_colour (record_of a.nodes (x - 1)) a.mark_parity)
  whole_write =
      subst (λ (n : BlockRecord). Writes a.nodes new (x - 1) (with_colour n a.mark_parity)) (links.blocks.nodes (x - 1) (allocated some))
      (subst (λ c. Writes a.nodes new (x - 1) (with_colour (record_of mid.nodes (x - 1)) c)) mark_parity (relinked_writes a.nodes mid.nodes new (x - 1) (with_colour (record_of mid.nodes (x - 1)) mid.mark_parity) links written))

  -- it is marked, and grey from then on
  pub shades : (s : Store) → Relinks new s → (g : GreySet) → grey_in s g ≡ inserted x (grey_in a.nodes a.grey) → Shades (state_of a) x (state_of (record a { nodes = s; grey = g }))
  shades s more g e =
      let q = inserted_between x (grey_in a.nodes a.grey) in
      subst (λ xs. Shades (state_of a) x (record (state_of a) { store = s; grey = xs })) (sym (e ∙ q.3))
      (Is_marked s q.0 q.1 q.2 unmarked (writes_relinked a.nodes new s (x - 1) (with_colour (record_of a.nodes (x - 1)) a.mark_parity) (allocated some) whole_write more))

  pub are_allocated : (s : Store) → Relinks new s → (g : GreySet) → grey_in s g ≡ inserted x (grey_in a.nodes a.grey) → (y : ℕ) → contains (grey_in s g) y ≡ true → is_allocated s (y - 1) ≡ true
  are_allocated s more g e y c = allocated_pages new s (y - 1) more.pages ∙ by_case (x == y) refl (sym (contains-inserted x (grey_in a.nodes a.grey) y) ∙ ap (λ xs. contains xs y) (sym e) ∙ c)
    where
      by_case : (b : Bool) → (x == y) ≡ b → (b || contains (grey_in a.nodes a.grey) y) ≡ true → is_allocated new (y - 1) ≡ true
      by_case true e c = let q : x ≡ y = grind (arith, e) in subst (λ k. is_allocated new (k - 1) ≡ true) q allocated_here
      by_case false e c = allocated_new (y - 1) (w.allocated y c)

  -- the grey parts before it goes among them
  none_null : contains (grey_in new mid.grey) 0 ≡ false
  none_null = ap (λ xs. contains xs 0) kept ∙ w.some

  each_once : Once (grey_in new mid.grey)
  each_once = subst Once (sym kept) w.once

  all_allocated : (y : ℕ) → contains (grey_in new mid.grey) y ≡ true → is_allocated new (y - 1) ≡ true
  all_allocated y c = allocated_new (y - 1) (w.allocated y (ap (λ xs. contains xs y) (sym kept) ∙ c))

  still_linked : AreLinked mid.nodes mid.grey → AreLinked new mid.grey
  still_linked linked = linked_still mid new linked (λ y c. (are_grey_by a mid w links same mark_parity).allocated y c) (ap length written.pages) keeps

  pub ready : AreLinked mid.nodes mid.grey → IsReady new mid.grey
  ready linked = (none_null, each_once, all_allocated, still_linked linked)

  -- it goes into the list
  pub linked_in_list : AreLinked mid.nodes mid.grey → (s : Store) → s ≡ record new { words = set new.words (x - 1 + 3) mid.grey.first } → (g : GreySet) → g ≡ record mid.grey { first = g.first } → grey_in s g ≡ inserted x (grey_in new mid.grey) → AreLinked s g
  linked_in_list linked s is g listed grey = linked_listed new s mid.grey g x (still_linked linked) none_null some fresh is listed grey

-- a record: room was made in the mutator's buffer, and the main copy was coloured and went into it
pub recorded : (a mid t : HeapFields) (m x : ℕ) (items : List ℕ) → AreGrey (state_of a) → Relinks a.nodes mid.nodes → grey_in mid.nodes mid.grey ≡ grey_in a.nodes a.grey
    → mid ≡ record a { nodes = mid.nodes; grey = record (with_buffer a.grey m items) { first = mid.grey.first } }
    → (x ≢ 0 → is_allocated a.nodes (x - 1) ≡ true) → (seen (state_of a)).marked x ≡ false
    → (new : Store) → Writes mid.nodes new (x - 1) (with_colour (record_of mid.nodes (x - 1)) mid.mark_parity) → KeepsLinks mid.nodes new
    → Relinks new t.nodes → grey_in t.nodes t.grey ≡ inserted x (grey_in new mid.grey) → t ≡ record mid { nodes = t.nodes; grey = t.grey }
    → Shades (state_of a) x (state_of t) × AreAllocated t
recorded a mid t m x items w links same made allocated unmarked new written keeps more pushed is =
    let rest : mid ≡ record a { nodes = mid.nodes; grey = mid.grey } = made ∙ ap (λ g. record a { nodes = mid.nodes; grey = g }) (sym (ap (λ (y : HeapFields). y.grey) made)) in
    let all : t ≡ record a { nodes = t.nodes; grey = t.grey } = is ∙ ap (λ (y : HeapFields). record y { nodes = t.nodes; grey = t.grey }) rest in
    let grey = pushed ∙ ap (inserted x) (kept a mid w links same rest x allocated unmarked new written keeps) in (
      subst (λ (y : HeapFields). Shades (state_of a) x (state_of y)) (sym all) (shades a mid w links same rest x allocated unmarked new written keeps t.nodes more t.grey grey),
      (λ y e. are_allocated a mid w links same rest x allocated unmarked new written keeps t.nodes more t.grey grey y e),
    )
