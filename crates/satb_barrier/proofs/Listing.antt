-- The list of grey parts: one comes first, one is taken, a buffer goes in.
use Rattle.std.proofs.Common.{◌≡◌, ◌≢◌, ℕ, zero, suc, ◌+◌, ◌-◌, ◌*◌, ◌<◌, Bool, true, false, ◌==◌, ◌||◌, if◌then◌else◌, inl, inr, List, [], ◌∷◌, ◌++◌, Some, None, length, get_or, set, ap, ◌∙◌, sym, subst, refl, arith, length-set}
use Rattle.std.specs.Prelude.{slice_get}
use Rattle.std.proofs.lemmas.Bool.{eq-eqb, cases_eq}
use Rattle.std.proofs.lemmas.List.{get_or-set_same, get_or-set_other, set-get_or, length-append}
use Rattle.std.proofs.Math.Seq.{get_or-append_seam}
use Rattle.heap_model.specs.Action.{Relinks}
use Rattle.heap_model.specs.Collector.{contains, Once}
use Rattle.heap_model.specs.Grey.{AreGrey}
use Rattle.heap_model.specs.Block.{BlockRecord}
use Rattle.heap_model.specs.State.{same_colour}
use Rattle.heap_model.specs.Store.{Store, is_allocated, record_of}
use Rattle.heap_model.proofs.State.{allocated_pages}
use Rattle.nodes.specs.declared.heap_fields.HeapFields.{HeapFields}
use Rattle.nodes.specs.Grey.{MutatorRecords, GreySet, grey_in, in_buffers, inserted, buffer_of, with_buffer, AreLinked}
use Rattle.nodes.specs.HeapFields.{state_of}
use Rattle.nodes.proofs.Sorting.{inserted_between, contains-inserted, once-inserted}
use Rattle.nodes.proofs.Threading.{taken, same_buffer, buffered, record_grey, link_written}
use Rattle.nodes.proofs.Linking.{linked_more, last_of, some, last_grey, others_stay, unused_stays, linked_hung, hung}

here : (x : ℕ) (xs : List ℕ) → contains (inserted x xs) x ≡ true
here x xs = contains-inserted x xs x ∙ ap (λ b. b || contains xs x) (eq-eqb x x refl)

module _ (a : HeapFields) (w : AreGrey (state_of a)) where
  pub few : length (grey_in a.nodes a.grey) < 2048 * length a.nodes.pages
  few = let l = w.few in let s = w.pages in omega arith

  module _ (some : a.grey.first ≢ 0) where
    pub first_allocated : is_allocated a.nodes (a.grey.first - 1) ≡ true
    first_allocated = w.allocated a.grey.first (ap (λ xs. contains xs a.grey.first) (taken a.nodes a.grey some few) ∙ here a.grey.first _)

    -- its link is nulled, and the others are grey
    module _ (next : ℕ) (e : next ≡ get_or a.nodes.words (a.grey.first - 1 + 3) 0) (new : Store) (is : new ≡ record a.nodes { words = set a.nodes.words (a.grey.first - 1 + 3) 0 }) where
      abbrev rest : GreySet
      rest = record a.grey { first = next }

      before : grey_in a.nodes a.grey ≡ inserted a.grey.first (grey_in a.nodes rest)
      before = taken a.nodes a.grey some few ∙ ap (λ x. inserted a.grey.first (grey_in a.nodes (record a.grey { first = x }))) (sym e)

      fresh : contains (grey_in a.nodes rest) a.grey.first ≡ false
      fresh = once-inserted a.grey.first (grey_in a.nodes rest) (subst Once before w.once)

      now : grey_in new rest ≡ grey_in a.nodes rest
      now = ap (λ (s : Store). grey_in s rest) is ∙ link_written a.nodes rest (set a.nodes.words (a.grey.first - 1 + 3) 0) a.grey.first some 0 refl fresh

      pub first_out : grey_in a.nodes a.grey ≡ inserted a.grey.first (grey_in new (record a.grey { first = next }))
      first_out = before ∙ ap (inserted a.grey.first) (sym now)

      pub first_taken : (front : List ℕ) × (back : List ℕ) × (grey_in a.nodes a.grey ≡ front ++ a.grey.first ∷ back) × (grey_in new (record a.grey { first = next }) ≡ front ++ back)
      first_taken = let q = inserted_between a.grey.first (grey_in new rest) in (q.0, q.1, first_out ∙ q.3, q.2)

-- a part that is written twice
set_twice : {A : Type 0} (xs : List A) (i : ℕ) (x y : A) → set (set xs i x) i y ≡ set xs i y
set_twice [] i x y = refl
set_twice (z ∷ zs) zero x y = refl
set_twice (z ∷ zs) (suc i) x y = ap (λ ys. z ∷ ys) (set_twice zs i x y)

-- an empty buffer
pub none_of : (xs : List ℕ) → slice_get xs (length xs - 1) ≡ None → xs ≡ []
none_of [] e = refl
none_of (x ∷ xs) e = absurd (some_at (x ∷ xs) (length xs) (omega arith) (subst (λ n. slice_get (x ∷ xs) n ≡ None) (let m : suc (length xs) - 1 ≡ length xs = omega arith in m) e))
  where
    some_at : (ys : List ℕ) (n : ℕ) → n < length ys → slice_get ys n ≢ None
    some_at [] n l e = omega (arith, l)
    some_at (y ∷ ys) zero l e = let t : Some y ≡ None = e in cc
    some_at (y ∷ ys) (suc n) l e = some_at ys n (omega (arith, l)) e

pub emptied_same : (g : GreySet) (m : ℕ) → buffer_of g m ≡ [] → record (with_buffer g m []) { first = g.first } ≡ g
emptied_same g m e = ap (λ bs. record { first = g.first; buffers = bs }) (ap (λ xs. set g.buffers m (record { items = xs })) (sym e) ∙ set-get_or g.buffers m (record { items = [] }))

-- the link of the last record, once it is written
pub named : (s new : Store) (last link : ℕ) → new ≡ record s { words = set s.words (last - 1 + 3) link } → get_or new.words (last - 1 + 3) 0 ≡ link → get_or (set s.words (last - 1 + 3) link) (last - 1 + 3) 0 ≡ link
named s new last link is there = ap (λ (t : Store). get_or t.words (last - 1 + 3) 0) (sym is) ∙ there

-- a mutator's buffer that has a last record
module _ (s : Store) (g : GreySet) (none : contains (grey_in s g) 0 ≡ false) (once : Once (grey_in s g)) (m : ℕ) (within : m < length g.buffers) (last : ℕ) (is : slice_get (buffer_of g m) (length (buffer_of g m) - 1) ≡ Some last) where
  q : (rest : List ℕ) × (buffer_of g m ≡ rest ++ last ∷ [])
  q = last_of (buffer_of g m) last is

  pub last_some : last ≢ 0
  last_some = some s g m within q.0 last 0 q.1 none once

  last_at : (i : ℕ) → i + 1 ≡ length (buffer_of g m) → get_or (buffer_of g m) i 0 ≡ last
  last_at i e =
      let n = length-append q.0 (last ∷ []) in let l = ap length q.1 in let here : i ≡ length q.0 = omega (arith, e, n, l) in
      ap (λ xs. get_or xs i 0) q.1 ∙ ap (λ j. get_or (q.0 ++ last ∷ []) j 0) here ∙ get_or-append_seam q.0 last [] 0

  pub last_is_grey : contains (grey_in s g) last ≡ true
  last_is_grey =
      let n = length-append q.0 (last ∷ []) in let l = ap length q.1 in
      ap (contains (grey_in s g)) (sym (last_at (length q.0) (omega (arith, n, l)))) ∙ record_grey s g m (length q.0) (omega (arith, n, l))

  module _ (link : ℕ) (there : get_or (set s.words (last - 1 + 3) link) (last - 1 + 3) 0 ≡ link) where
    abbrev new : Store
    new = record s { words = set s.words (last - 1 + 3) link }

    -- a record after it, which its link names
    pub more_grey : (after : GreySet) → after ≡ with_buffer g m (buffer_of g m ++ link ∷ []) → grey_in new after ≡ inserted link (grey_in s g)
    more_grey after e =
        ap (grey_in new) e ∙ buffered new g m within (buffer_of g m) link ∙ ap (inserted link) (same_buffer new g m within ∙ last_grey s g m within q.0 last link q.1 none once)

    module _ (linked : AreLinked s g) where
      unused : (b : ℕ) → is_allocated new b ≡ true → contains (grey_in s g) (b + 1) ≡ false → get_or new.words (b + 3) 0 ≡ 0
      unused b h c = unused_stays s g m within q.0 last link q.1 none once b c ∙ linked.unused b (sym (allocated_pages s new b refl) ∙ h) c

      pub more_linked : link ≢ 0 → is_allocated s (link - 1) ≡ true → contains (grey_in s g) link ≡ false → AreLinked new (with_buffer g m (buffer_of g m ++ link ∷ []))
      more_linked some allocated fresh =
          linked_more s new g m link within linked (others_stay s g m within q.0 last link q.1 none once)
          (λ i e. ap (λ x. get_or new.words (x - 1 + 3) 0) (last_at i e) ∙ there)
          (unused (link - 1) (allocated_pages s new (link - 1) refl ∙ allocated) (ap (contains (grey_in s g)) (let e : link - 1 + 1 ≡ link = omega (arith, some) in e) ∙ fresh))
          unused (more_grey (with_buffer g m (buffer_of g m ++ link ∷ [])) refl)

      -- a record before the last names the next still
      still_next : (i : ℕ) → i + 1 < length (buffer_of g m) → get_or new.words (get_or (buffer_of g m) i 0 - 1 + 3) 0 ≡ get_or (buffer_of g m) (i + 1) 0
      still_next i l = let inside : i < length (buffer_of g m) = omega (arith, l) in others_stay s g m within q.0 last link q.1 none once m i inside (λ _. l) ∙ linked.records m i inside

      -- the buffer is hung into the list, whose first it names
      pub hung_grey : link ≡ g.first → length (grey_in s g) < 2048 * length s.pages → (first : ℕ) → first ≡ get_or (buffer_of g m) 0 0 → grey_in new (record (with_buffer g m []) { first = first }) ≡ grey_in s g
      hung_grey names few first e = by_items (buffer_of g m) refl
        where
          same : grey_in new (with_buffer g m (buffer_of g m)) ≡ grey_in s g
          same = same_buffer new g m within ∙ last_grey s g m within q.0 last link q.1 none once

          by_items : (items : List ℕ) → buffer_of g m ≡ items → grey_in new (record (with_buffer g m []) { first = first }) ≡ grey_in s g
          by_items [] b = absurd (let t : None ≡ Some last = ap (λ xs. slice_get xs (length xs - 1)) (sym b) ∙ is in cc)
          by_items (x ∷ xs) b =
              let all : grey_in new (with_buffer g m (x ∷ xs)) ≡ grey_in s g = ap (λ items. grey_in new (with_buffer g m items)) (sym b) ∙ same in
              let some_there : (i : ℕ) → i < length (x ∷ xs) → get_or (x ∷ xs) i 0 ≢ 0 =
              λ i l z. absurd (
              let t : true ≡ false =
              sym (record_grey s g m i (subst (λ items. i < length items) (sym b) l)) ∙ ap (λ items. contains (grey_in s g) (get_or items i 0)) b ∙ ap (contains (grey_in s g)) z ∙ none in
              cc
              ) in
              let next : (i : ℕ) → i < length xs → get_or new.words (get_or (x ∷ xs) i 0 - 1 + 3) 0 ≡ get_or xs i 0 =
              λ i l.
              subst (λ items. get_or new.words (get_or items i 0 - 1 + 3) 0 ≡ get_or items (i + 1) 0) b (still_next i (subst (λ items. i + 1 < length items) (sym b) (omega (arith, l))))
              ∙ ap (λ j. get_or (x ∷ xs) j 0) (let p : i + 1 ≡ suc i = omega arith in p) in
              let end : get_or new.words (get_or (x ∷ xs) (length xs) 0 - 1 + 3) 0 ≡ g.first =
              ap (λ y. get_or new.words (y - 1 + 3) 0) (ap (λ items. get_or items (length xs) 0) (sym b) ∙ last_at (length xs) (let n = ap length b in omega (arith, n))) ∙ there ∙ names in
              ap (λ y. grey_in new (record (with_buffer g m []) { first = y })) (e ∙ ap (λ items. get_or items 0 0) b)
              ∙ hung new g m within x xs some_there next end (subst (λ ys. length ys < 2048 * length s.pages) (sym all) few)
              ∙ all

      pub hung_linked : link ≡ g.first → length (grey_in s g) < 2048 * length s.pages → (first : ℕ) → first ≡ get_or (buffer_of g m) 0 0 → AreLinked new (record (with_buffer g m []) { first = first })
      hung_linked names few first e = linked_hung s g m within q.0 last link q.1 none once first linked (hung_grey names few first e)

-- an empty buffer gets its first record, and no link is written
pub first_linked : (s : Store) (g : GreySet) (m part : ℕ) → m < length g.buffers → AreLinked s g → buffer_of g m ≡ [] → part ≢ 0 → is_allocated s (part - 1) ≡ true → contains (grey_in s g) part ≡ false → AreLinked s (with_buffer g m (buffer_of g m ++ part ∷ []))
first_linked s g m part within linked empty some allocated fresh =
    linked_more s s g m part within linked (λ k i l inner. refl) (λ i l. absurd (let n : length (buffer_of g m) ≡ 0 = ap length empty in omega (arith, l, n)))
    (linked.unused (part - 1) allocated (ap (contains (grey_in s g)) (let e : part - 1 + 1 ≡ part = omega (arith, some) in e) ∙ fresh))
    linked.unused (buffered s g m within (buffer_of g m) part ∙ ap (inserted part) (same_buffer s g m within))

-- what a mutator's buffer holds after a write of it
pub buffer_put : (g : GreySet) (m : ℕ) (items : List ℕ) → m < length g.buffers → buffer_of (with_buffer g m items) m ≡ items
buffer_put g m items l = ap (λ (b : MutatorRecords). b.items) (get_or-set_same g.buffers m (record { items = items }) (record { items = [] }) l)

pub buffer_twice : (g : GreySet) (m : ℕ) (xs ys : List ℕ) (first : ℕ) → with_buffer (record (with_buffer g m xs) { first = first }) m ys ≡ record (with_buffer g m ys) { first = first }
buffer_twice g m xs ys first = ap (λ bs. record { first = first; buffers = bs }) (set_twice g.buffers m (record { items = xs }) (record { items = ys }))

-- the mutator has a buffer still
pub mutator_within : (a h : HeapFields) (m : ℕ) (items : List ℕ) → h ≡ record a { nodes = h.nodes; grey = record (with_buffer a.grey m items) { first = h.grey.first } } → m < length a.grey.buffers → m < length h.grey.buffers
mutator_within a h m items e l = subst (λ n. m < n) (sym (ap (λ (x : HeapFields). length x.grey.buffers) e ∙ length-set a.grey.buffers m (record { items = items }))) l

-- the grey parts of a heap whose blocks were threaded anew
pub are_grey_by : (a b : HeapFields) → AreGrey (state_of a) → Relinks a.nodes b.nodes → grey_in b.nodes b.grey ≡ grey_in a.nodes a.grey → b.mark_parity ≡ a.mark_parity → AreGrey (state_of b)
are_grey_by a b w links same mark_parity = record {
  pages = subst (λ n. 0 < n) (sym (ap length links.pages)) w.pages;
  some = ap (λ xs. contains xs 0) same ∙ w.some;
  allocated = λ x c. allocated_pages a.nodes b.nodes (x - 1) links.pages ∙ w.allocated x (was x c);
  marked = λ x c. marked_by x (x == 0) refl (w.allocated x (was x c)) (w.marked x (was x c));
  once = subst Once (sym same) w.once;
  few = (let l : length (grey_in b.nodes b.grey) ≡ length (grey_in a.nodes a.grey) = ap length same in let p : length b.nodes.pages ≡ length a.nodes.pages = ap length links.pages in let f = w.few in omega (arith, l, p, f));
}
  where
    was : (x : ℕ) → contains (grey_in b.nodes b.grey) x ≡ true → contains (grey_in a.nodes a.grey) x ≡ true
    was x c = ap (λ xs. contains xs x) (sym same) ∙ c

    marked_by : (x : ℕ) (t : Bool) → (x == 0) ≡ t → is_allocated a.nodes (x - 1) ≡ true → (if t then true else same_colour a.mark_parity (record_of a.nodes (x - 1)).colour) ≡ true → (if t then true else same_colour b.mark_parity (record_of b.nodes (x - 1)).colour) ≡ true
    marked_by x true e allocated m = refl
    marked_by x false e allocated m = ap (λ c. same_colour c (record_of b.nodes (x - 1)).colour) mark_parity ∙ ap (λ (n : BlockRecord). same_colour a.mark_parity n.colour) (links.blocks.nodes (x - 1) allocated) ∙ m

-- Each buffer is empty.
pub all_empty : (bs : List MutatorRecords) → ((i : ℕ) → i < length bs → (get_or bs i (record { items = [] })).items ≡ []) → in_buffers bs ≡ []
unfolding in_buffers
all_empty [] e = refl
all_empty (b ∷ bs) e = ap (λ xs. xs ++ in_buffers bs) (e 0 (omega arith)) ∙ all_empty bs (λ i l. e (suc i) (omega (arith, l)))

-- one more buffer is empty
pub empty_more : (g : GreySet) (m : ℕ) → m < length g.buffers → ((i : ℕ) → i < m → buffer_of g i ≡ []) → (i : ℕ) → i < m + 1 → buffer_of (with_buffer g m []) i ≡ []
empty_more g m l e i below = elim (cases_eq i m) [
  | inl q ↦ subst (λ k. buffer_of (with_buffer g m []) k ≡ []) (sym q) (buffer_put g m [] l)
  | inr ne ↦ ap (λ (b : MutatorRecords). b.items) (get_or-set_other g.buffers m i (record { items = [] }) (record { items = [] }) ne) ∙ e i (omega (arith, below, ne))
]

-- a mutator's buffer with another record
pub own_record : (s : Store) (g after : GreySet) (m part : ℕ) → m < length g.buffers → after ≡ with_buffer g m (buffer_of g m ++ part ∷ []) → grey_in s after ≡ inserted part (grey_in s g)
own_record s g after m part l e = ap (grey_in s) e ∙ buffered s g m l (buffer_of g m) part ∙ ap (inserted part) (same_buffer s g m l)

-- which records it has then, if room was made before
pub own_buffer : (a mid : HeapFields) (after : GreySet) (m part : ℕ) (items : List ℕ) → m < length a.grey.buffers → mid ≡ record a { nodes = mid.nodes; grey = record (with_buffer a.grey m items) { first = mid.grey.first } } → after ≡ with_buffer mid.grey m (buffer_of mid.grey m ++ part ∷ [])
    → after.buffers ≡ (with_buffer a.grey m (items ++ part ∷ [])).buffers
own_buffer a mid after m part items l e is =
    let g : mid.grey ≡ record (with_buffer a.grey m items) { first = mid.grey.first } = ap (λ (x : HeapFields). x.grey) e in
    let has : buffer_of mid.grey m ≡ items = ap (λ (x : GreySet). buffer_of x m) g ∙ buffer_put a.grey m items l in
    ap (λ (x : GreySet). x.buffers) (is ∙ ap (λ xs. with_buffer mid.grey m (xs ++ part ∷ [])) has ∙ ap (λ (x : GreySet). with_buffer x m (items ++ part ∷ [])) g ∙ buffer_twice a.grey m items (items ++ part ∷ []) mid.grey.first)
