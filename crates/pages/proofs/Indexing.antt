-- Bits and numbers, kept along with the records.
use Rattle.std.proofs.Common.{◌≡◌, ◌≢◌, ℕ, zero, suc, ◌+◌, ◌-◌, ◌*◌, ◌<◌, ◌≤◌, Bool, true, false, not, cond, eqb, eq-eqb, ltb, ◌&&◌, List, [], ◌∷◌, ◌++◌, replicate, length, get_or, set, map, Option, Some, None, ap, ◌∙◌, sym, refl, subst, inl, inr, arith}
use Rattle.std.specs.Prelude.{position, count_by, sum_by, IfSome, IsSomeAnd, IsNone, is_some}
use Rattle.std.proofs.lemmas.Bool.{cases_eq, cases_lt, ne_eqb, lt-ltb, le-ltb}
use Rattle.std.proofs.lemmas.List.{length-set, get_or-set_same, get_or-set_other, map-set, get_or-map, get_or_read, get_or_past, get_or_default, set-get_or, length-map, length-replicate, get_or-replicate, length_push, get_or_push, get_or_append_left}
use Rattle.std.proofs.lemmas.List.Sums.{sum_by-set, sum_by-cons, get_or-le-sum_by, prefix_len_is}
use Rattle.size_classes.specs.declared.class.TheConstants.{CLASSES}
use Rattle.size_classes.specs.Sizes.{blocks_in}
use Rattle.pages.specs.declared.bits.BitRow.{BitRow}
use Rattle.pages.specs.declared.page.PageRow.{PageRow}
use Rattle.pages.specs.BitRow.{has_bit, room_of}
use Rattle.pages.specs.Index.{row_at, OfClass, row_usable, row_free, row_free_on, bit, class_bit, room_of_class, IsIndex}
use Rattle.pages.proofs.Threading.{blocks_most}

-- a page of a class counts for no other
not_usable : (class other : ℕ) (o : Option PageRow) → OfClass class o → other ≢ class → row_usable other o ≡ false
not_usable class other None is ne = refl
not_usable class other (Some r) is ne = ap (λ b. b && (not r.evacuating && ltb r.allocated (blocks_in r.class))) (ne_eqb r.class other (λ e. ne (sym e ∙ is)))

not_counted : (class other : ℕ) (o : Option PageRow) → OfClass class o → other ≢ class → row_free_on other o ≡ 0
not_counted class other None is ne = refl
not_counted class other (Some r) is ne = ap (λ b. cond (b && not r.evacuating) (blocks_in r.class - r.allocated) 0) (ne_eqb r.class other (λ e. ne (sym e ∙ is)))

cond_few : (b : Bool) (n m : ℕ) → n ≤ m → cond b n 0 ≤ m
cond_few true n m h = h
cond_few false n m h = omega arith

row_few : (class : ℕ) → class < CLASSES → (o : Option PageRow) → row_free_on class o ≤ 512
row_few class known None = omega arith
row_few class known (Some r) = elim (cases_eq r.class class) [
  | inl e ↦ cond_few (eqb r.class class && not r.evacuating) (blocks_in r.class - r.allocated) 512 (let f = blocks_most class known in let g = ap blocks_in e in omega (arith, f, g))
  | inr ne ↦ (let f = ap (λ b. cond (b && not r.evacuating) (blocks_in r.class - r.allocated) 0) (ne_eqb r.class class ne) in omega (arith, f))
]

pub rows_few : (class : ℕ) → class < CLASSES → (rows : List (Option PageRow)) → sum_by (row_free_on class) rows ≤ 512 * length rows
rows_few class known [] = omega arith
rows_few class known (o ∷ rows) = omega (arith, sum_by-cons (row_free_on class) o rows, row_few class known o, rows_few class known rows)

-- one record is put in the place of another
module _ (rows : List (Option PageRow)) (usable : List BitRow) (free : BitRow) (free_blocks : List ℕ) (free_pages : ℕ) (b : IsIndex rows usable free free_blocks free_pages)
    (page class : ℕ) (row : Option PageRow) (below : page < length rows) (was : OfClass class (row_at rows page)) (is : OfClass class row) (known : class < CLASSES) where
  here : row_at (set rows page row) page ≡ row
  here = get_or-set_same rows page row None below

  there : (k : ℕ) → k ≢ page → row_at (set rows page row) k ≡ row_at rows k
  there k ne = get_or-set_other rows page k row None ne

  pub block_some : row_free_on class (row_at rows page) ≤ get_or free_blocks class 0
  block_some = let w = get_or-le-sum_by (row_free_on class) rows page None below in omega (arith, w, b.blocks_are class known)

  pub block_room : get_or free_blocks class 0 ≤ 536870912
  block_room = let w = rows_few class known rows in omega (arith, w, b.blocks_are class known, b.few)

  blocks_after : (n : ℕ) → n ≡ get_or free_blocks class 0 - row_free_on class (row_at rows page) + row_free_on class row
      → (c : ℕ) → c < CLASSES → get_or (set free_blocks class n) c 0 ≡ sum_by (row_free_on c) (set rows page row)
  blocks_after n e c h = elim (cases_eq c class) [
    | inl same ↦
        (let s = sum_by-set (row_free_on class) rows page row None below in
        let a : get_or (set free_blocks class n) class 0 ≡ n = get_or-set_same free_blocks class n 0 (omega (arith, b.counts, known)) in
        let m : n ≡ sum_by (row_free_on class) (set rows page row) = omega (arith, e, s, b.blocks_are class known, block_some) in
        subst (λ c. get_or (set free_blocks class n) c 0 ≡ sum_by (row_free_on c) (set rows page row)) (sym same) (a ∙ m))
    | inr ne ↦
        (let s = sum_by-set (row_free_on c) rows page row None below in
        let x = not_counted class c (row_at rows page) was ne in
        let y = not_counted class c row is ne in
        let m : sum_by (row_free_on c) rows ≡ sum_by (row_free_on c) (set rows page row) = omega (arith, s, x, y) in
        get_or-set_other free_blocks class c n 0 ne ∙ b.blocks_are c h ∙ m)
  ]

  pages_after : (n : ℕ) → n + bit (row_free (row_at rows page)) ≡ free_pages + bit (row_free row) → n ≡ count_by row_free (set rows page row)
  pages_after n e = let s = sum_by-set (λ o. bit (row_free o)) rows page row None below in omega (arith, s, e, b.pages_are)

  module _ (one new : BitRow) (read : one ≡ get_or usable class one) (set_here : has_bit new page ≡ bit (row_usable class row)) (set_others : (i : ℕ) → i ≢ page → has_bit new i ≡ has_bit one i) (set_room : room_of new ≡ room_of one) where
    wide_after : (c : ℕ) → c < CLASSES → length (set rows page row) ≤ room_of_class (set usable class new) c
    wide_after c hc =
        let was = b.wide c hc in
        let rooms : room_of_class (set usable class new) c ≡ room_of_class usable c =
        ap (λ (l : List ℕ). get_or l c 0) (map-set room_of usable class new) ∙ elim (cases_eq c class) [
          | inl same ↦
              (let a : get_or (set (map room_of usable) class (room_of new)) class 0 ≡ room_of new = get_or-set_same (map room_of usable) class (room_of new) 0 (omega (arith, length-map usable room_of, b.classes, known)) in
              let old : get_or (map room_of usable) class 0 ≡ room_of one = get_or-map room_of usable class one 0 (omega (arith, b.classes, known)) ∙ ap room_of (sym read) in
              subst (λ c. get_or (set (map room_of usable) class (room_of new)) c 0 ≡ get_or (map room_of usable) c 0) (sym same) (a ∙ set_room ∙ sym old))
          | inr other ↦ get_or-set_other (map room_of usable) class c (room_of new) 0 other
        ] in
        omega (arith, was, rooms, length-set rows page row)

    usable_after : (c k : ℕ) → c < CLASSES → class_bit (set usable class new) c k ≡ bit (row_usable c (row_at (set rows page row) k))
    usable_after c k hc =
        let f : BitRow → ℕ = λ r. has_bit r k in
        ap (λ (l : List ℕ). get_or l c 0) (map-set f usable class new) ∙ elim (cases_eq c class) [
          | inl same ↦
              (let a : get_or (set (map f usable) class (f new)) class 0 ≡ f new = get_or-set_same (map f usable) class (f new) 0 (omega (arith, length-map usable f, b.classes, known)) in
              let old : class_bit usable class k ≡ f one = get_or-map f usable class one 0 (omega (arith, b.classes, known)) ∙ ap f (sym read) in
              subst (λ c. get_or (set (map f usable) class (f new)) c 0 ≡ bit (row_usable c (row_at (set rows page row) k))) (sym same) (a ∙ elim (cases_eq k page) as (λ _. f new ≡ bit (row_usable class (row_at (set rows page row) k))) [
                | inl e ↦ ap (has_bit new) e ∙ set_here ∙ ap (λ o. bit (row_usable class o)) (sym (ap (row_at (set rows page row)) e ∙ here))
                | inr ne ↦ set_others k ne ∙ sym old ∙ b.usable_bits class k known ∙ ap (λ o. bit (row_usable class o)) (sym (there k ne))
              ]))
          | inr other ↦ get_or-set_other (map f usable) class c (f new) 0 other ∙ b.usable_bits c k hc ∙ elim (cases_eq k page) as (λ _. bit (row_usable c (row_at rows k)) ≡ bit (row_usable c (row_at (set rows page row) k))) [
            | inl e ↦ ap (λ n. bit (row_usable c (row_at rows n))) e ∙ ap bit (not_usable class c (row_at rows page) was other ∙ sym (not_usable class c row is other)) ∙ ap (λ o. bit (row_usable c o)) (sym (ap (row_at (set rows page row)) e ∙ here))
            | inr ne ↦ ap (λ o. bit (row_usable c o)) (sym (there k ne))
          ]
        ]

    pub put_keeps : (free_new : BitRow) → has_bit free_new page ≡ bit (row_free row) → ((i : ℕ) → i ≢ page → has_bit free_new i ≡ has_bit free i) → room_of free_new ≡ room_of free
        → (n : ℕ) → n ≡ get_or free_blocks class 0 - row_free_on class (row_at rows page) + row_free_on class row → (m : ℕ) → m + bit (row_free (row_at rows page)) ≡ free_pages + bit (row_free row)
        → IsIndex (set rows page row) (set usable class new) free_new (set free_blocks class n) m
    put_keeps free_new free_here free_others free_room n blocks m pages = record {
      few = omega (arith, length-set rows page row, b.few);
      classes = length-set usable class new ∙ b.classes;
      counts = length-set free_blocks class n ∙ b.counts;
      wide = wide_after;
      free_wide = omega (arith, length-set rows page row, b.free_wide, free_room);
      usable_bits = usable_after;
      free_bits = λ k h. elim (cases_eq k page) [
        | inl e ↦ ap (has_bit free_new) e ∙ free_here ∙ ap (λ o. bit (row_free o)) (sym (ap (row_at (set rows page row)) e ∙ here))
        | inr ne ↦ free_others k ne ∙ b.free_bits k (omega (arith, h, length-set rows page row)) ∙ ap (λ o. bit (row_free o)) (sym (there k ne))
      ];
      free_past = λ k past. free_others k (omega (arith, past, length-set rows page row, below)) ∙ b.free_past k (omega (arith, past, length-set rows page row));
      blocks_are = blocks_after n blocks;
      pages_are = pages_after m pages;
    }

-- the lowest bit is at the first place that passes
bit_one : (x : Bool) → bit x ≡ 1 → x ≡ true
bit_one true e = refl
bit_one false e = absurd (omega (arith, e))

bit_zero : (x : Bool) → bit x ≡ 0 → x ≡ false
bit_zero true e = absurd (omega (arith, e))
bit_zero false e = refl

-- a bit that is set is of a page
low_bit : (n : ℕ) (bits : ℕ → ℕ) → ((k : ℕ) → n ≤ k → bits k ≡ 0) → (i : ℕ) → bits i ≡ 1 → i < n
low_bit n bits past i h = elim (cases_lt i n) [ inl l ↦ l | inr l ↦ absurd (let z = past i l in omega (arith, z, h)) ]

pub low_place : (n most : ℕ) (bits : ℕ → ℕ) → ((k : ℕ) → n ≤ k → bits k ≡ 0) → n ≤ most → (r : Option ℕ) → IfSome r (λ k. bits k ≡ 1) → IfSome r (λ k. k < most)
low_place n most bits past few None h = h
low_place n most bits past few (Some i) h = let l = low_bit n bits past i h in omega (arith, l, few)

pub lowest_is : {X : Type 0} (p : X → Bool) (xs : List X) (d : X) (bits : ℕ → ℕ) → ((k : ℕ) → k < length xs → bits k ≡ bit (p (get_or xs k d))) → ((k : ℕ) → length xs ≤ k → bits k ≡ 0)
    → (r : Option ℕ) → IfSome r (λ k. bits k ≡ 1) → IfSome r (λ k. (i : ℕ) → i < k → bits i ≡ 0) → (IsNone r → (i : ℕ) → bits i ≡ 0) → r ≡ position p xs
lowest_is p xs d bits inside past None h f none =
    let len = prefix_len_is (λ x. not (p x)) xs (length xs) d (omega arith) (λ k l. ap not (bit_zero (p (get_or xs k d)) (sym (inside k l) ∙ none refl k))) (λ l. absurd (omega (arith, l))) in
    sym (ap (λ n. cond (ltb n (length xs)) (Some n) None) len ∙ ap (λ b. cond b (Some (length xs)) None) (le-ltb (length xs) (length xs) (omega arith)))
lowest_is p xs d bits inside past (Some i) h f none =
    let below = low_bit (length xs) bits past i h in
    let len = prefix_len_is (λ x. not (p x)) xs i d (omega arith) (λ k l. ap not (bit_zero (p (get_or xs k d)) (sym (inside k (omega (arith, l, below))) ∙ f k l))) (λ l. ap not (bit_one (p (get_or xs i d)) (sym (inside i below) ∙ h))) in
    sym (ap (λ n. cond (ltb n (length xs)) (Some n) None) len ∙ ap (λ b. cond b (Some i) None) (lt-ltb i (length xs) below))

-- the rows have room for each page
module _ (rows : List (Option PageRow)) (pages : List (Option PageRow)) (seen : rows ≡ pages) (usable : List BitRow) (free : BitRow) (free_blocks : List ℕ) (free_pages : ℕ) (b : IsIndex rows usable free free_blocks free_pages)
    (page : ℕ) (below : page < length pages) where
  low : page < length rows
  low = subst (λ l. page < length l) (sym seen) below

  pub row_room : (class number : ℕ) → class < CLASSES → number ≡ class → (one : BitRow) → one ≡ get_or usable number one → page < room_of one
  row_room class number known is one read =
      let w = b.wide class known in
      let e : room_of_class usable class ≡ room_of one = get_or-map room_of usable class one 0 (omega (arith, b.classes, known)) ∙ ap room_of (sym (read ∙ ap (λ n. get_or usable n one) is)) in
      omega (arith, w, e, low)

  pub free_room : page < room_of free
  free_room = omega (arith, b.free_wide, low)

none_free : (o : Option PageRow) (b : Bool) → is_some o ≡ not b → b ≡ row_free o
none_free None true e = refl
none_free None false e = absurd (cc)
none_free (Some r) true e = absurd (cc)
none_free (Some r) false e = refl

-- a page is usable exactly if it has a free block that counts
some_left : (known stays : Bool) (blocks allocated : ℕ) → ltb 0 (cond (known && stays) (blocks - allocated) 0) ≡ (known && (stays && ltb allocated blocks))
some_left true true blocks allocated = elim (cases_lt allocated blocks) [
  | inl l ↦ lt-ltb 0 (blocks - allocated) (omega (arith, l)) ∙ sym (lt-ltb allocated blocks l)
  | inr l ↦ le-ltb 0 (blocks - allocated) (omega (arith, l)) ∙ sym (le-ltb allocated blocks l)
]
some_left true false blocks allocated = refl
some_left false stays blocks allocated = refl

usable_some : (class : ℕ) (o : Option PageRow) → ltb 0 (row_free_on class o) ≡ row_usable class o
usable_some class None = refl
usable_some class (Some r) = some_left (eqb r.class class) (not r.evacuating) (blocks_in r.class) r.allocated

-- a page's bit in the row of a class, by the free blocks that it counts there
module _ (rows : List (Option PageRow)) (pages : List (Option PageRow)) (seen : rows ≡ pages) (usable : List BitRow) (free : BitRow) (free_blocks : List ℕ) (free_pages : ℕ) (b : IsIndex rows usable free free_blocks free_pages)
    (page class : ℕ) (old : Option PageRow) (below : page < length pages) (known : class < CLASSES) (number : ℕ) (number_is : number ≡ class) (read : old ≡ get_or rows page old) (less : ℕ) (less_is : less ≡ row_free_on class old)
    (one : BitRow) (one_is : one ≡ get_or usable number one) where
  pub bit_before : has_bit one page ≡ bit (ltb 0 less)
  bit_before =
      sym (get_or-map (λ r. has_bit r page) usable class one 0 (omega (arith, b.classes, known)) ∙ ap (λ (x : BitRow). has_bit x page) (sym (one_is ∙ ap (λ n. get_or usable n one) number_is)))
      ∙ b.usable_bits class page known
      ∙ ap (λ o. bit (row_usable class o)) (sym (get_or_read rows page old (subst (λ l. page < length l) (sym seen) below) read None))
      ∙ ap bit (sym (ap (ltb 0) less_is ∙ usable_some class old))

-- as the code computes it
module _ (rows : List (Option PageRow)) (pages : List (Option PageRow)) (seen : rows ≡ pages) (usable : List BitRow) (free : BitRow) (free_blocks : List ℕ) (free_pages : ℕ) (b : IsIndex rows usable free free_blocks free_pages)
    (page class : ℕ) (row : Option PageRow) (below : page < length pages) (was : OfClass class (row_at pages page)) (is : OfClass class row) (known : class < CLASSES)
    (number : ℕ) (number_is : number ≡ class) (old : Option PageRow) (read : old ≡ get_or rows page old) (less more : ℕ) (less_is : less ≡ row_free_on class old) (more_is : more ≡ row_free_on class row)
    (had : ℕ) (had_is : had ≡ get_or free_blocks number had) where
  within : page < length rows
  within = subst (λ l. page < length l) (sym seen) below

  old_is : old ≡ row_at rows page
  old_is = get_or_read rows page old within read None

  was_in : OfClass class (row_at rows page)
  was_in = subst (λ l. OfClass class (row_at l page)) (sym seen) was

  had_there : had ≡ get_or free_blocks class 0
  had_there = get_or_read free_blocks number had (omega (arith, number_is, known, b.counts)) had_is 0 ∙ ap (λ n. get_or free_blocks n 0) number_is

  pub less_small : less ≤ had
  less_small = let w = block_some rows usable free free_blocks free_pages b page class row within was_in is known in
      let e : row_free_on class old ≡ row_free_on class (row_at rows page) = ap (row_free_on class) old_is in
      omega (arith, w, e, less_is, had_there)

  pub had_small : had ≤ 536870912
  had_small = let w = block_room rows usable free free_blocks free_pages b page class row within was_in is known in omega (arith, w, had_there)

  pub put_by : (one new free_new : BitRow) (on off gone : Bool) (m : ℕ) → one ≡ get_or usable number one → has_bit new page ≡ bit on → on ≡ row_usable class row → ((i : ℕ) → i ≢ page → has_bit new i ≡ has_bit one i) → room_of new ≡ room_of one
      → has_bit free_new page ≡ bit off → is_some row ≡ not off → ((i : ℕ) → i ≢ page → has_bit free_new i ≡ has_bit free i) → room_of free_new ≡ room_of free
      → is_some old ≡ not gone → m + bit gone ≡ free_pages + bit off
      → IsIndex (set rows page row) (set usable number new) free_new (set free_blocks number (had - less + more)) m
  put_by one new free_new on off gone m one_is here on_is others room free_here off_is free_others free_room gone_is counted =
      subst (λ n. IsIndex (set rows page row) (set usable n new) free_new (set free_blocks n (had - less + more)) m) (sym number_is)
      (put_keeps rows usable free free_blocks free_pages b page class row within was_in is known one new (one_is ∙ ap (λ n. get_or usable n one) number_is)
      (here ∙ ap bit on_is) others room free_new (free_here ∙ ap bit (none_free row off off_is)) free_others free_room (had - less + more)
      (ap (λ n. n - less + more) had_there ∙ ap (λ n. get_or free_blocks class 0 - n + more) (less_is ∙ ap (row_free_on class) old_is) ∙ ap (λ n. get_or free_blocks class 0 - row_free_on class (row_at rows page) + n) more_is)
      m (ap (λ c. m + bit c) (sym (none_free old gone gone_is ∙ ap row_free old_is)) ∙ counted ∙ ap (λ c. free_pages + bit c) (none_free row off off_is)))

-- a page in use
used_class : (class : ℕ) (o : Option PageRow) → IsSomeAnd o (λ r. r.class ≡ class) → OfClass class o
used_class class None h = absurd h
used_class class (Some r) h = h

used_some : (class : ℕ) (o : Option PageRow) → IsSomeAnd o (λ r. r.class ≡ class) → is_some o ≡ true
used_some class None h = absurd h
used_some class (Some r) h = refl

used_kept : (class : ℕ) (o : Option PageRow) → IsSomeAnd o (λ r. r.class ≡ class) → row_free o ≡ false
used_kept class None h = absurd h
used_kept class (Some r) h = refl

-- a page in use gets another record
module _ (rows : List (Option PageRow)) (pages : List (Option PageRow)) (seen : rows ≡ pages) (usable : List BitRow) (free : BitRow) (free_blocks : List ℕ) (free_pages : ℕ) (b : IsIndex rows usable free free_blocks free_pages)
    (page class : ℕ) (old row : Option PageRow) (below : page < length pages) (was_of : IsSomeAnd (row_at pages page) (λ r. r.class ≡ class)) (is_of : IsSomeAnd row (λ r. r.class ≡ class)) (known : class < CLASSES)
    (number : ℕ) (number_is : number ≡ class) (read : old ≡ get_or rows page old) (less more : ℕ) (less_is : less ≡ row_free_on class old) (more_is : more ≡ row_free_on class row)
    (one : BitRow) (one_is : one ≡ get_or usable number one) where
  inside : page < length rows
  inside = subst (λ l. page < length l) (sym seen) below

  there_is : row_at rows page ≡ old
  there_is = sym (get_or_read rows page old inside read None)

  old_of : IsSomeAnd old (λ r. r.class ≡ class)
  old_of = subst (λ o. IsSomeAnd o (λ r. r.class ≡ class)) (sym (ap (λ l. row_at l page) seen) ∙ there_is) was_of

  was_class : OfClass class (row_at pages page)
  was_class = used_class class (row_at pages page) was_of

  pub bit_was : has_bit one page ≡ bit (ltb 0 less)
  bit_was = bit_before rows pages seen usable free free_blocks free_pages b page class old below known number number_is read less less_is one one_is

  module _ (had : ℕ) (had_is : had ≡ get_or free_blocks number had) where
    pub fewer : less ≤ had
    fewer = less_small rows pages seen usable free free_blocks free_pages b page class row below was_class (used_class class row is_of) known number number_is old read less more less_is more_is had had_is

    pub few_had : had ≤ 536870912
    few_had = had_small rows pages seen usable free free_blocks free_pages b page class row below was_class (used_class class row is_of) known number number_is old read less more less_is more_is had had_is

    pub update_by : (new : BitRow) → has_bit new page ≡ bit (ltb 0 more) → ((i : ℕ) → i ≢ page → has_bit new i ≡ has_bit one i) → room_of new ≡ room_of one
        → IsIndex (set rows page row) (set usable number new) free (set free_blocks number (had - less + more)) free_pages
    update_by new here others room =
        put_by rows pages seen usable free free_blocks free_pages b page class row below was_class (used_class class row is_of) known number number_is old read less more less_is more_is had had_is
        one new free (ltb 0 more) false false free_pages one_is here (ap (ltb 0) more_is ∙ usable_some class row) others room
        (b.free_bits page inside ∙ ap (λ o. bit (row_free o)) there_is ∙ ap bit (used_kept class old old_of)) (used_some class row is_of) (λ i _. refl) refl (used_some class old old_of) refl

-- the free blocks of a page of a class, and its bit, by its marks
free_plain : (r : PageRow) → r.evacuating ≡ false → row_free_on r.class (Some r) ≡ blocks_in r.class - r.allocated
free_plain r plain = ap (λ b. cond (b && not r.evacuating) (blocks_in r.class - r.allocated) 0) (eq-eqb r.class r.class refl) ∙ ap (λ b. cond (not b) (blocks_in r.class - r.allocated) 0) plain

usable_plain : (r : PageRow) → r.evacuating ≡ false → row_usable r.class (Some r) ≡ ltb r.allocated (blocks_in r.class)
usable_plain r plain = ap (λ b. b && (not r.evacuating && ltb r.allocated (blocks_in r.class))) (eq-eqb r.class r.class refl) ∙ ap (λ b. not b && ltb r.allocated (blocks_in r.class)) plain

-- a page in use has another record of its class in the same place
module _ (rows : List (Option PageRow)) (usable : List BitRow) (free : BitRow) (free_blocks : List ℕ) (free_pages : ℕ) (b : IsIndex rows usable free free_blocks free_pages)
    (page : ℕ) (old row : PageRow) (below : page < length rows) (was : row_at rows page ≡ Some old) (same : row.class ≡ old.class) (known : old.class < CLASSES) where
  in_class : OfClass old.class (row_at rows page)
  in_class = subst (OfClass old.class) (sym was) refl

  here_free : row_free_on old.class (row_at rows page) ≡ row_free_on old.class (Some old)
  here_free = ap (row_free_on old.class) was

  pub old_some : row_free_on old.class (Some old) ≤ get_or free_blocks old.class 0
  old_some = omega (arith, here_free, block_some rows usable free free_blocks free_pages b page old.class (Some row) below in_class same known)

  module _ (n : ℕ) (counted : n + row_free_on old.class (Some old) ≡ get_or free_blocks old.class 0 + row_free_on old.class (Some row)) where
    bit_changed : (one new : BitRow) → one ≡ get_or usable old.class one → has_bit new page ≡ bit (row_usable old.class (Some row)) → ((i : ℕ) → i ≢ page → has_bit new i ≡ has_bit one i) → room_of new ≡ room_of one
        → IsIndex (set rows page (Some row)) (set usable old.class new) free (set free_blocks old.class n) free_pages
    bit_changed one new read here others room =
        put_keeps rows usable free free_blocks free_pages b page old.class (Some row) below in_class same known one new read here others room
        free (b.free_bits page below ∙ ap (λ o. bit (row_free o)) was) (λ i _. refl) refl n (omega (arith, counted, here_free, old_some)) free_pages (ap (λ o. free_pages + bit (row_free o)) was)

    bit_kept : row_usable old.class (Some row) ≡ row_usable old.class (Some old) → IsIndex (set rows page (Some row)) usable free (set free_blocks old.class n) free_pages
    bit_kept unchanged =
        let inside : old.class < length usable = omega (arith, known, b.classes) in
        let one : BitRow = get_or usable old.class free in
        let now : has_bit one page ≡ bit (row_usable old.class (Some row)) =
        sym (get_or-map (λ r. has_bit r page) usable old.class free 0 inside) ∙ b.usable_bits old.class page known ∙ ap (λ o. bit (row_usable old.class o)) was ∙ ap bit (sym unchanged) in
        subst (λ (u : List BitRow). IsIndex (set rows page (Some row)) u free (set free_blocks old.class n) free_pages) (set-get_or usable old.class free)
        (bit_changed one one (get_or_default usable old.class free one inside) now (λ i _. refl) refl)

  -- one more block is allocated
  module _ (plain : old.evacuating ≡ false) (stays : row.evacuating ≡ old.evacuating) (more : row.allocated ≡ old.allocated + 1) (some : old.allocated < blocks_in old.class) where
    row_plain : row.evacuating ≡ false
    row_plain = stays ∙ plain

    free_now : row_free_on old.class (Some row) ≡ blocks_in old.class - row.allocated
    free_now = subst (λ k. row_free_on k (Some row) ≡ blocks_in k - row.allocated) same (free_plain row row_plain)

    usable_now : row_usable old.class (Some row) ≡ ltb row.allocated (blocks_in old.class)
    usable_now = subst (λ k. row_usable k (Some row) ≡ ltb row.allocated (blocks_in k)) same (usable_plain row row_plain)

    pub some_had : 0 < get_or free_blocks old.class 0
    some_had = omega (arith, old_some, free_plain old plain, some)

    fewer_counted : get_or free_blocks old.class 0 - 1 + row_free_on old.class (Some old) ≡ get_or free_blocks old.class 0 + row_free_on old.class (Some row)
    fewer_counted = omega (arith, some_had, free_plain old plain, free_now, more, some)

    pub taken_last : row.allocated ≡ blocks_in old.class → (one new : BitRow) → one ≡ get_or usable old.class one → has_bit new page ≡ 0 → ((i : ℕ) → i ≢ page → has_bit new i ≡ has_bit one i) → room_of new ≡ room_of one
        → IsIndex (set rows page (Some row)) (set usable old.class new) free (set free_blocks old.class (get_or free_blocks old.class 0 - 1)) free_pages
    taken_last full one new read here others room =
        bit_changed (get_or free_blocks old.class 0 - 1) fewer_counted one new read (here ∙ ap bit (sym (usable_now ∙ le-ltb row.allocated (blocks_in old.class) (omega (arith, full))))) others room

    pub taken_one : row.allocated ≢ blocks_in old.class → IsIndex (set rows page (Some row)) usable free (set free_blocks old.class (get_or free_blocks old.class 0 - 1)) free_pages
    taken_one left =
        bit_kept (get_or free_blocks old.class 0 - 1) fewer_counted
        (usable_now ∙ lt-ltb row.allocated (blocks_in old.class) (omega (arith, left, more, some)) ∙ sym (usable_plain old plain ∙ lt-ltb old.allocated (blocks_in old.class) some))

pub usable_is : (rows : List (Option PageRow)) (usable : List BitRow) (free : BitRow) (free_blocks : List ℕ) (free_pages : ℕ) (b : IsIndex rows usable free free_blocks free_pages) (class number : ℕ) → class < CLASSES → number ≡ class
    → (one : BitRow) → one ≡ get_or usable number one → (r : Option ℕ) → IfSome r (λ k. has_bit one k ≡ 1) → IfSome r (λ k. (i : ℕ) → i < k → has_bit one i ≡ 0) → (IsNone r → (i : ℕ) → has_bit one i ≡ 0)
    → r ≡ position (row_usable class) rows
usable_is rows usable free free_blocks free_pages b class number known is one read r =
    let there : (k : ℕ) → class_bit usable class k ≡ has_bit one k =
    λ k. get_or-map (λ r. has_bit r k) usable class one 0 (omega (arith, b.classes, known)) ∙ ap (λ (x : BitRow). has_bit x k) (sym (read ∙ ap (λ n. get_or usable n one) is)) in
    lowest_is (row_usable class) rows None (has_bit one) (λ k l. sym (there k) ∙ b.usable_bits class k known)
    (λ k past. sym (there k) ∙ b.usable_bits class k known ∙ ap (λ o. bit (row_usable class o)) (get_or_past rows k None past)) r

-- ---- free pages alone
pub row_none : (n k : ℕ) → row_at (replicate n None) k ≡ None
row_none n k = elim (cases_lt k n) [
  | inl h ↦ get_or-replicate {A = Option PageRow} n k None None h
  | inr h ↦ get_or_past {X = Option PageRow} (replicate n None) k None (omega (arith, h, length-replicate {A = Option PageRow} n None))
]

none_summed : (class n : ℕ) → sum_by (row_free_on class) (replicate n None) ≡ 0
none_summed class zero = refl
none_summed class (suc n) = none_summed class n

none_counted : (n : ℕ) → count_by row_free (replicate n None) ≡ n
none_counted zero = refl
none_counted (suc n) = let s = sum_by-cons (λ o. bit (row_free o)) None (replicate n None) in omega (arith, s, none_counted n)

pub fresh_book : (n : ℕ) (usable : List BitRow) (free : BitRow) → n ≤ 1048576 → length usable ≡ CLASSES → ((c : ℕ) → c < CLASSES → n ≤ room_of_class usable c) → n ≤ room_of free → ((c k : ℕ) → c < CLASSES → class_bit usable c k ≡ 0) → ((k : ℕ) → k < n → has_bit free k ≡ 1) → ((k : ℕ) → n ≤ k → has_bit free k ≡ 0)
    → IsIndex (replicate n None) usable free (replicate CLASSES 0) n
fresh_book n usable free few long wide free_wide none some past =
    let size : length (replicate {A = Option PageRow} n None) ≡ n = length-replicate n None in
    record {
      few = omega (arith, size, few);
      classes = long;
      counts = length-replicate {A = ℕ} CLASSES 0;
      wide = λ c hc. let w = wide c hc in omega (arith, size, w);
      free_wide = omega (arith, size, free_wide);
      usable_bits = λ c k hc. none c k hc ∙ ap (λ o. bit (row_usable c o)) (sym (row_none n k));
      free_bits = λ k h. some k (omega (arith, h, size)) ∙ ap (λ o. bit (row_free o)) (sym (row_none n k));
      free_past = λ k p. past k (omega (arith, p, size));
      blocks_are = λ c h. get_or-replicate {A = ℕ} CLASSES c 0 0 h ∙ sym (none_summed c n);
      pages_are = sym (none_counted n);
    }

-- what each row tells, once there is one more
pub each_more : (usable : List BitRow) (m : ℕ) (one : BitRow) (tells : BitRow → ℕ) (says : ℕ → Type 0) → length usable ≡ m → ((c : ℕ) → c < m → says (get_or (map tells usable) c 0)) → says (tells one)
    → (c : ℕ) → c < m + 1 → says (get_or (map tells (usable ++ one ∷ [])) c 0)
each_more usable m one tells says long each new c h =
    let pushed : length (usable ++ one ∷ []) ≡ m + 1 = length_push usable one ∙ ap (λ n. n + 1) long in
    subst says (sym (get_or-map tells (usable ++ one ∷ []) c one 0 (omega (arith, h, pushed)))) (elim (cases_lt c m) as (λ _. says (tells (get_or (usable ++ one ∷ []) c one))) [
      | inl l ↦ subst says (get_or-map tells usable c one 0 (omega (arith, l, long)) ∙ ap tells (sym (get_or_append_left usable (one ∷ []) one c (omega (arith, l, long))))) (each c l)
      | inr l ↦ subst says (ap tells (sym (get_or_push usable one one c (omega (arith, l, h, long))))) new
    ])
