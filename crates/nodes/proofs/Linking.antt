-- The records of a mutator, linked one to the next.
use Rattle.std.proofs.Common.{◌≡◌, ◌≢◌, ℕ, zero, suc, ◌+◌, ◌-◌, ◌*◌, ◌<◌, Bool, true, false, ◌==◌, ◌||◌, List, [], ◌∷◌, ◌++◌, length, get_or, set, Some, None, refl, ap, sym, ◌∙◌, subst, inl, inr, arith}
use Rattle.std.specs.Prelude.{slice_get}
use Rattle.std.proofs.lemmas.Bool.{cases_eq, eq-eqb, ne_eqb}
use Rattle.std.proofs.lemmas.List.{get_or-set_same, get_or-set_other, get_or_append_left, get_or_past, length-append}
use Rattle.std.proofs.Math.Seq.{get_or-append_seam}
use Rattle.heap_model.specs.Collector.{contains, Once}
use Rattle.heap_model.specs.Store.{Store, is_allocated}
use Rattle.heap_model.proofs.State.{allocated_pages}
use Rattle.nodes.specs.Grey.{MutatorRecords, GreySet, in_buffers, inserted, grey_in, buffer_of, with_buffer, AreLinked}
use Rattle.nodes.proofs.Sorting.{contains-inserted, length-inserted, once-inserted}
use Rattle.nodes.proofs.Threading.{in_buffer, record_grey, same_buffer, buffered, buffered_first, comes_first, link_written}

-- The buffers are empty.
pub none_linked : (s : Store) (g : GreySet) → in_buffers g.buffers ≡ [] → ((b : ℕ) → is_allocated s b ≡ true → contains (grey_in s g) (b + 1) ≡ false → get_or s.words (b + 3) 0 ≡ 0) → AreLinked s g
unfolding contains
none_linked s g none unused = record {
  records = λ m i l. absurd (let t : false ≡ true = sym (ap (λ xs. contains xs (get_or (buffer_of g m) i 0)) none) ∙ in_buffer g.buffers m i l in cc);
  unused = unused;
}

-- The links of grey parts stay, and each other link is 0.
pub linked_kept : (s new : Store) (g : GreySet) → AreLinked s g → grey_in new g ≡ grey_in s g → ((x : ℕ) → contains (grey_in s g) x ≡ true → get_or new.words (x - 1 + 3) 0 ≡ get_or s.words (x - 1 + 3) 0)
    → ((b : ℕ) → is_allocated new b ≡ true → contains (grey_in s g) (b + 1) ≡ false → get_or new.words (b + 3) 0 ≡ 0) → AreLinked new g
linked_kept s new g linked same kept unused = record {
  records = λ m i l. kept (get_or (buffer_of g m) i 0) (record_grey s g m i l) ∙ linked.records m i l;
  unused = λ b h c. unused b h (ap (λ xs. contains xs (b + 1)) (sym same) ∙ c);
}

-- what another part than a grey one is, or the other way round
differs : (xs : List ℕ) (x y : ℕ) → contains xs x ≡ true → contains xs y ≡ false → x ≢ y
differs xs x y c d e = let t : true ≡ false = sym c ∙ ap (contains xs) e ∙ d in cc

-- what isn't among the others, nor the one that is put in
not_inserted : (x : ℕ) (xs : List ℕ) (k : ℕ) → contains (inserted x xs) k ≡ false → (x ≢ k) × (contains xs k ≡ false)
not_inserted x xs k c = by_case (x == k) (contains xs k) refl (sym (contains-inserted x xs k) ∙ c)
  where
    by_case : (b : Bool) (d : Bool) → (x == k) ≡ b → (b || d) ≡ false → (x ≢ k) × (d ≡ false)
    by_case true d e f = absurd (let t : true ≡ false = f in cc)
    by_case false d e f = (λ q. absurd (let t : true ≡ false = sym (eq-eqb x k q) ∙ e in cc), f)

-- a part that isn't grey goes into the list, as its first
pub linked_listed : (s new : Store) (g after : GreySet) (x : ℕ) → AreLinked s g → contains (grey_in s g) 0 ≡ false → x ≢ 0 → contains (grey_in s g) x ≡ false
    → new ≡ record s { words = set s.words (x - 1 + 3) g.first } → after ≡ record g { first = after.first } → grey_in new after ≡ inserted x (grey_in s g) → AreLinked new after
linked_listed s new g after x linked none some fresh is listed grey = record {
  records = λ m i l.
      let own : buffer_of after m ≡ buffer_of g m = ap (λ (h : GreySet). buffer_of h m) listed in
      let inside : i < length (buffer_of g m) = subst (λ xs. i < length xs) own l in
      let y : ℕ = get_or (buffer_of g m) i 0 in
      let grey_there : contains (grey_in s g) y ≡ true = record_grey s g m i inside in
      subst (λ xs. get_or new.words (get_or xs i 0 - 1 + 3) 0 ≡ get_or xs (i + 1) 0) (sym own)
      (other y (differs (grey_in s g) y 0 grey_there none) (differs (grey_in s g) y x grey_there fresh) ∙ linked.records m i inside);
  unused = λ b h c.
      let q = not_inserted x (grey_in s g) (b + 1) (ap (λ xs. contains xs (b + 1)) (sym grey) ∙ c) in
      let was : is_allocated s b ≡ true = sym (allocated_pages s new b (ap (λ (t : Store). t.pages) is)) ∙ h in
      ap (λ (t : Store). get_or t.words (b + 3) 0) is
      ∙ get_or-set_other s.words (x - 1 + 3) (b + 3) g.first 0 (λ e. q.0 (omega (arith, e, some))) ∙ linked.unused b was q.1;
}
  where
    other : (y : ℕ) → y ≢ 0 → y ≢ x → get_or new.words (y - 1 + 3) 0 ≡ get_or s.words (y - 1 + 3) 0
    other y there apart = ap (λ (t : Store). get_or t.words (y - 1 + 3) 0) is ∙ get_or-set_other s.words (x - 1 + 3) (y - 1 + 3) g.first 0 (λ e. apart (omega (arith, e, there, some)))

-- the first part of the list is taken out of it, and its link is 0 then
pub linked_taken : (s new : Store) (g after : GreySet) (x : ℕ) → AreLinked s g → in_buffers after.buffers ≡ [] → x ≢ 0
    → new ≡ record s { words = set s.words (x - 1 + 3) 0 } → get_or new.words (x - 1 + 3) 0 ≡ 0 → grey_in s g ≡ inserted x (grey_in new after) → AreLinked new after
linked_taken s new g after x linked empty some is there grey =
    none_linked new after empty
    (λ b h c. elim (cases_eq (b + 1) x) [
      | inl e ↦ ap (λ n. get_or new.words n 0) (let n : b + 3 ≡ x - 1 + 3 = omega (arith, e) in n) ∙ there
      | inr ne ↦ (let was : is_allocated s b ≡ true = sym (allocated_pages s new b (ap (λ (t : Store). t.pages) is)) ∙ h in
          let white : contains (grey_in s g) (b + 1) ≡ false = ap (λ xs. contains xs (b + 1)) grey ∙ contains-inserted x (grey_in new after) (b + 1) ∙ rw (ne_eqb x (b + 1) (λ e. ne (sym e))) c in
          ap (λ (t : Store). get_or t.words (b + 3) 0) is ∙ get_or-set_other s.words (x - 1 + 3) (b + 3) 0 0 (λ e. ne (omega (arith, e, some))) ∙ linked.unused b was white)
    ])

-- the records of a mutator, and of another
pub own_records : (g : GreySet) (m : ℕ) (items : List ℕ) → m < length g.buffers → buffer_of (with_buffer g m items) m ≡ items
own_records g m items l = ap (λ (b : MutatorRecords). b.items) (get_or-set_same g.buffers m (record { items = items }) (record { items = [] }) l)

other_records : (g : GreySet) (m k : ℕ) (items : List ℕ) → k ≢ m → buffer_of (with_buffer g m items) k ≡ buffer_of g k
other_records g m k items ne = ap (λ (b : MutatorRecords). b.items) (get_or-set_other g.buffers m k (record { items = items }) (record { items = [] }) ne)

-- A buffer gets a record, whose link is 0. The link of the last one before names it, and that of each other stays.
pub linked_more : (s new : Store) (g : GreySet) (m x : ℕ) → m < length g.buffers → AreLinked s g
    → ((k i : ℕ) → i < length (buffer_of g k) → (k ≡ m → i + 1 < length (buffer_of g k)) → get_or new.words (get_or (buffer_of g k) i 0 - 1 + 3) 0 ≡ get_or s.words (get_or (buffer_of g k) i 0 - 1 + 3) 0)
    → ((i : ℕ) → i + 1 ≡ length (buffer_of g m) → get_or new.words (get_or (buffer_of g m) i 0 - 1 + 3) 0 ≡ x) → get_or new.words (x - 1 + 3) 0 ≡ 0
    → ((b : ℕ) → is_allocated new b ≡ true → contains (grey_in s g) (b + 1) ≡ false → get_or new.words (b + 3) 0 ≡ 0)
    → grey_in new (with_buffer g m (buffer_of g m ++ x ∷ [])) ≡ inserted x (grey_in s g) → AreLinked new (with_buffer g m (buffer_of g m ++ x ∷ []))
linked_more s new g m x within linked stays last end unused grey = record {
  records = λ k i l. elim (cases_eq k m) [
    | inl e ↦ own k i (subst (λ j. i < length (buffer_of (with_buffer g m (items ++ x ∷ [])) j)) e l) e
    | inr ne ↦ (let same = other_records g m k (items ++ x ∷ []) ne in let inside = subst (λ xs. i < length xs) same l in
        subst (λ xs. get_or new.words (get_or xs i 0 - 1 + 3) 0 ≡ get_or xs (i + 1) 0) (sym same) (stays k i inside (λ e. absurd (ne e)) ∙ linked.records k i inside))
  ];
  unused = λ b h c. unused b h (not_inserted x (grey_in s g) (b + 1) (ap (λ xs. contains xs (b + 1)) (sym grey) ∙ c)).1;
}
  where
    items : List ℕ
    items = buffer_of g m

    now : buffer_of (with_buffer g m (items ++ x ∷ [])) m ≡ items ++ x ∷ []
    now = own_records g m (items ++ x ∷ []) within

    count : length (items ++ x ∷ []) ≡ length items + 1
    count = length-append items (x ∷ [])

    -- The record that came last has no next one.
    at_end : (i : ℕ) → i ≡ length items → get_or new.words (get_or (items ++ x ∷ []) i 0 - 1 + 3) 0 ≡ get_or (items ++ x ∷ []) (i + 1) 0
    at_end i e =
        let here : get_or (items ++ x ∷ []) i 0 ≡ x = ap (λ j. get_or (items ++ x ∷ []) j 0) e ∙ get_or-append_seam items x [] 0 in
        ap (λ y. get_or new.words (y - 1 + 3) 0) here ∙ end ∙ sym (get_or_past (items ++ x ∷ []) (i + 1) 0 (omega (arith, e, count)))

    -- Each record before it links to the next one.
    before : (i : ℕ) → i < length items → get_or new.words (get_or (items ++ x ∷ []) i 0 - 1 + 3) 0 ≡ get_or (items ++ x ∷ []) (i + 1) 0
    before i below =
        ap (λ y. get_or new.words (y - 1 + 3) 0) (get_or_append_left items (x ∷ []) 0 i below)
        ∙ elim (cases_eq (i + 1) (length items)) [
          | inl e ↦ last i e ∙ sym (ap (λ j. get_or (items ++ x ∷ []) j 0) e ∙ get_or-append_seam items x [] 0)
          | inr ne ↦ (let inside : i + 1 < length items = omega (arith, below, ne) in stays m i below (λ _. inside) ∙ linked.records m i below ∙ sym (get_or_append_left items (x ∷ []) 0 (i + 1) inside))
        ]

    own : (k i : ℕ) → i < length (buffer_of (with_buffer g m (items ++ x ∷ [])) m) → k ≡ m → get_or new.words (get_or (buffer_of (with_buffer g m (items ++ x ∷ [])) k) i 0 - 1 + 3) 0 ≡ get_or (buffer_of (with_buffer g m (items ++ x ∷ [])) k) (i + 1) 0
    own k i below e =
        let same : buffer_of (with_buffer g m (items ++ x ∷ [])) k ≡ items ++ x ∷ [] = ap (λ j. buffer_of (with_buffer g m (items ++ x ∷ [])) j) e ∙ now in
        subst (λ xs. get_or new.words (get_or xs i 0 - 1 + 3) 0 ≡ get_or xs (i + 1) 0) (sym same)
        (elim (cases_eq i (length items)) [ inl q ↦ at_end i q | inr ne ↦ before i (let l : i < length (items ++ x ∷ []) = subst (λ xs. i < length xs) now below in omega (arith, l, ne, count)) ])

-- the last record, if there is one
last_at : (xs : List ℕ) (n x : ℕ) → suc n ≡ length xs → slice_get xs n ≡ Some x → (rest : List ℕ) × (xs ≡ rest ++ x ∷ [])
last_at [] n x l e = absurd (omega (arith, l))
last_at (y ∷ []) zero x l e = ([], ap (λ z. z ∷ []) (let t : Some y ≡ Some x = e in cc))
last_at (y ∷ []) (suc n) x l e = absurd (omega (arith, l))
last_at (y ∷ z ∷ zs) zero x l e = absurd (omega (arith, l))
last_at (y ∷ z ∷ zs) (suc n) x l e = let q = last_at (z ∷ zs) n x (omega (arith, l)) e in (y ∷ q.0, ap (λ ys. y ∷ ys) q.1)

pub last_of : (xs : List ℕ) (x : ℕ) → slice_get xs (length xs - 1) ≡ Some x → (rest : List ℕ) × (xs ≡ rest ++ x ∷ [])
last_of [] x e = absurd (let t : None ≡ Some x = e in cc)
last_of (y ∷ ys) x e = last_at (y ∷ ys) (length ys) x refl (subst (λ n. slice_get (y ∷ ys) n ≡ Some x) (let m : suc (length ys) - 1 ≡ length ys = omega arith in m) e)

-- the last record of a mutator, whose link is written
module _ (s : Store) (g : GreySet) (m : ℕ) (within : m < length g.buffers) (rest : List ℕ) (x link : ℕ) (is : buffer_of g m ≡ rest ++ x ∷ []) (none : contains (grey_in s g) 0 ≡ false) (once : Once (grey_in s g)) where
  abbrev new : Store
  new = record s { words = set s.words (x - 1 + 3) link }

  abbrev before : GreySet
  before = with_buffer g m rest

  out : (t : Store) → grey_in t g ≡ inserted x (grey_in t before)
  out t = sym (same_buffer t g m within) ∙ ap (λ items. grey_in t (with_buffer g m items)) is ∙ buffered t g m within rest x

  fresh : contains (grey_in s before) x ≡ false
  fresh = once-inserted x (grey_in s before) (subst Once (out s) once)

  pub some : x ≢ 0
  some e = absurd (let t : true ≡ false = sym (ap (λ xs. contains xs 0) (out s) ∙ contains-inserted x (grey_in s before) 0 ∙ rw (eq-eqb x 0 e) refl) ∙ none in cc)

  -- the same parts are grey
  pub last_grey : grey_in new g ≡ grey_in s g
  last_grey = out new ∙ ap (inserted x) (link_written s before (set s.words (x - 1 + 3) link) x some link refl fresh) ∙ sym (out s)

  last_there : contains (grey_in s g) x ≡ true
  last_there = ap (λ xs. contains xs x) (out s) ∙ contains-inserted x (grey_in s before) x ∙ rw (eq-eqb x x refl) refl

  -- the link of each other record stays
  pub others_stay : (k i : ℕ) → i < length (buffer_of g k) → (k ≡ m → i + 1 < length (buffer_of g k)) → get_or new.words (get_or (buffer_of g k) i 0 - 1 + 3) 0 ≡ get_or s.words (get_or (buffer_of g k) i 0 - 1 + 3) 0
  others_stay k i l inner = get_or-set_other s.words (x - 1 + 3) (y0 - 1 + 3) link 0 (λ e. apart (elim (cases_eq k m) [ inl q ↦ own q | inr ne ↦ other ne ]) (omega (arith, e, some, there)))
    where
      y0 : ℕ
      y0 = get_or (buffer_of g k) i 0

      there : y0 ≢ 0
      there = differs (grey_in s g) y0 0 (record_grey s g k i l) none

      apart : contains (grey_in s before) y0 ≡ true → y0 ≢ x
      apart c = differs (grey_in s before) y0 x c fresh

      other : k ≢ m → contains (grey_in s before) y0 ≡ true
      other ne =
          let same = other_records g m k rest ne in
          ap (λ xs. contains (grey_in s before) (get_or xs i 0)) (sym same) ∙ record_grey s before k i (subst (λ xs. i < length xs) (sym same) l)

      own : k ≡ m → contains (grey_in s before) y0 ≡ true
      own e =
          let all : buffer_of g k ≡ rest ++ x ∷ [] = ap (buffer_of g) e ∙ is in
          let mine : buffer_of before m ≡ rest = own_records g m rest within in
          let below : i < length rest = (let n = length-append rest (x ∷ []) in let a = ap length all in let more = inner e in omega (arith, more, n, a)) in
          ap (contains (grey_in s before)) (ap (λ xs. get_or xs i 0) all ∙ get_or_append_left rest (x ∷ []) 0 i below ∙ ap (λ xs. get_or xs i 0) (sym mine))
          ∙ record_grey s before m i (subst (λ xs. i < length xs) (sym mine) below)

  -- and that of each part that isn't grey
  pub unused_stays : (b : ℕ) → contains (grey_in s g) (b + 1) ≡ false → get_or new.words (b + 3) 0 ≡ get_or s.words (b + 3) 0
  unused_stays b c = get_or-set_other s.words (x - 1 + 3) (b + 3) link 0 (λ e. differs (grey_in s g) x (b + 1) last_there c (omega (arith, e, some)))

  -- the buffer is emptied, and the same parts are grey
  pub linked_hung : (first : ℕ) → AreLinked s g → grey_in new (record (with_buffer g m []) { first = first }) ≡ grey_in s g → AreLinked new (record (with_buffer g m []) { first = first })
  linked_hung first linked same = record {
    records = λ k i l. elim (cases_eq k m) [
      | inl e ↦ absurd (let n : length (buffer_of (with_buffer g m []) k) ≡ 0 = ap (λ j. length (buffer_of (with_buffer g m []) j)) e ∙ ap length (own_records g m [] within) in omega (arith, n, l))
      | inr ne ↦ (let b = other_records g m k [] ne in let inside = subst (λ xs. i < length xs) b l in
          subst (λ xs. get_or new.words (get_or xs i 0 - 1 + 3) 0 ≡ get_or xs (i + 1) 0) (sym b) (others_stay k i inside (λ e. absurd (ne e)) ∙ linked.records k i inside))
    ];
    unused = λ b h c. let white : contains (grey_in s g) (b + 1) ≡ false = ap (λ xs. contains xs (b + 1)) (sym same) ∙ c in unused_stays b white ∙ linked.unused b (sym (allocated_pages s new b refl) ∙ h) white;
  }

-- A buffer is hung into the list: the link of its last record names the first of the list, and those of the others the next
-- record.
pub hung : (s : Store) (g : GreySet) (m : ℕ) → m < length g.buffers → (x : ℕ) (items : List ℕ) → ((i : ℕ) → i < length (x ∷ items) → get_or (x ∷ items) i 0 ≢ 0)
    → ((i : ℕ) → i < length items → get_or s.words (get_or (x ∷ items) i 0 - 1 + 3) 0 ≡ get_or items i 0) → get_or s.words (get_or (x ∷ items) (length items) 0 - 1 + 3) 0 ≡ g.first
    → length (grey_in s (with_buffer g m (x ∷ items))) < 2048 * length s.pages
    → grey_in s (record (with_buffer g m []) { first = x }) ≡ grey_in s (with_buffer g m (x ∷ items))
hung s g m within x [] some linked last few =
    let q = buffered_first s g m within x [] in
    comes_first s (with_buffer g m []) x (some 0 (omega arith)) last (let n = ap length q ∙ length-inserted x (grey_in s (with_buffer g m [])) in omega (arith, few, n)) ∙ sym q
hung s g m within x (y ∷ ys) some linked last few =
    let q = buffered_first s g m within x (y ∷ ys) in
    let fewer : length (grey_in s (with_buffer g m (y ∷ ys))) < 2048 * length s.pages = (let n = ap length q ∙ length-inserted x (grey_in s (with_buffer g m (y ∷ ys))) in omega (arith, few, n)) in
    let rest = hung s g m within y ys (λ i l. some (suc i) (omega (arith, l))) (λ i l. linked (suc i) (omega (arith, l))) last fewer in
    comes_first s (record (with_buffer g m []) { first = y }) x (some 0 (omega arith)) (linked 0 (omega arith)) (subst (λ xs. length xs < 2048 * length s.pages) (sym rest) fewer)
    ∙ ap (inserted x) rest ∙ sym q
