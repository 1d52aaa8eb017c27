-- The list of grey parts, and the buffers beside it.
use Rattle.std.proofs.Common.{◌≡◌, ◌≢◌, ℕ, zero, suc, ◌+◌, ◌-◌, ◌*◌, ◌<◌, ◌≤◌, Bool, true, false, ◌==◌, ◌||◌, if◌then◌else◌, List, [], ◌∷◌, ◌++◌, length, get_or, set, replicate, refl, ap, sym, ◌∙◌, subst, arith}
use Rattle.std.proofs.lemmas.Bool.{ne_eqb, eq-eqb}
use Rattle.std.proofs.lemmas.List.{get_or-set_other, append_assoc, append-nil, length-append}
use Rattle.heap_model.specs.Collector.{contains}
use Rattle.heap_model.specs.Store.{Store}
use Rattle.nodes.specs.Grey.{MutatorRecords, GreySet, linked_from, in_buffers, inserted, sorted, grey_in, buffer_of, with_buffer}
use Rattle.nodes.proofs.Sorting.{sorted_middle, length-sorted, contains-sorted}

-- what a list and another have
contains-append : (xs ys : List ℕ) (k : ℕ) → contains (xs ++ ys) k ≡ (contains xs k || contains ys k)
unfolding contains
contains-append [] ys k = refl
contains-append (x ∷ xs) ys k = ap (λ c. (x == k) || c) (contains-append xs ys k) ∙ assoc (x == k) (contains xs k) (contains ys k)
  where
    assoc : (a b c : Bool) → (a || (b || c)) ≡ ((a || b) || c)
    assoc true b c = refl
    assoc false b c = refl

pub linked_none : (words : List ℕ) (n : ℕ) → linked_from words n 0 ≡ []
unfolding linked_from
linked_none words zero = refl
linked_none words (suc n) = refl

linked_first : (words : List ℕ) (n x : ℕ) → x ≢ 0 → linked_from words (suc n) x ≡ x ∷ linked_from words n (get_or words (x - 1 + 3) 0)
unfolding linked_from
linked_first words n x some = let e : (x == 0) ≡ false = ne_eqb x 0 some in rw e refl

-- if the links of its parts stay, the list does
linked_same : (words new : List ℕ) (n x : ℕ) → ((y : ℕ) → y ≢ 0 → contains (linked_from words n x) y ≡ true → get_or new (y - 1 + 3) 0 ≡ get_or words (y - 1 + 3) 0) → linked_from new n x ≡ linked_from words n x
unfolding linked_from contains
linked_same words new zero x e = refl
linked_same words new (suc n) x e = by_null (x == 0) refl (λ y f. linked_same words new n y f) e
  where
    later : (a c : Bool) → c ≡ true → (a || c) ≡ true
    later true c e = refl
    later false c e = e

    by_null : (b : Bool) → (x == 0) ≡ b
        → ((z : ℕ) → ((y : ℕ) → y ≢ 0 → contains (linked_from words n z) y ≡ true → get_or new (y - 1 + 3) 0 ≡ get_or words (y - 1 + 3) 0) → linked_from new n z ≡ linked_from words n z)
        → ((y : ℕ) → y ≢ 0 → contains (if b then [] else x ∷ linked_from words n (get_or words (x - 1 + 3) 0)) y ≡ true → get_or new (y - 1 + 3) 0 ≡ get_or words (y - 1 + 3) 0)
        → (if b then [] else x ∷ linked_from new n (get_or new (x - 1 + 3) 0)) ≡ (if b then [] else x ∷ linked_from words n (get_or words (x - 1 + 3) 0))
    by_null true z rest e = refl
    by_null false z rest e =
        let here : get_or new (x - 1 + 3) 0 ≡ get_or words (x - 1 + 3) 0 = e x (λ q. absurd (let t : true ≡ false = sym (eq-eqb x 0 q) ∙ z in cc)) (rw (eq-eqb x x refl) refl) in
        ap (λ ys. x ∷ ys) (ap (linked_from new n) here ∙ rest (get_or words (x - 1 + 3) 0) (λ y some c. e y some (later (x == y) (contains (linked_from words n (get_or words (x - 1 + 3) 0)) y) c)))

-- a list that is shorter than its bound has ended
linked_less : (words : List ℕ) (n x : ℕ) → length (linked_from words (suc n) x) ≤ n → linked_from words n x ≡ linked_from words (suc n) x
unfolding linked_from
linked_less words zero x l = by_null (x == 0) l
  where
    by_null : (b : Bool) → length (if b then [] else x ∷ []) ≤ 0 → [] ≡ (if b then [] else x ∷ [])
    by_null true l = refl
    by_null false l = absurd (omega (arith, l))
linked_less words (suc n) x l = by_null (x == 0) (λ m. linked_less words n (get_or words (x - 1 + 3) 0) m) l
  where
    by_null : (b : Bool) → (length (linked_from words (suc n) (get_or words (x - 1 + 3) 0)) ≤ n → linked_from words n (get_or words (x - 1 + 3) 0) ≡ linked_from words (suc n) (get_or words (x - 1 + 3) 0)) → length (if b then [] else x ∷ linked_from words (suc n) (get_or words (x - 1 + 3) 0)) ≤ suc n → (if b then [] else x ∷ linked_from words n (get_or words (x - 1 + 3) 0)) ≡ (if b then [] else x ∷ linked_from words (suc n) (get_or words (x - 1 + 3) 0))
    by_null true rest l = refl
    by_null false rest l = ap (λ ys. x ∷ ys) (rest (omega (arith, l)))

linked_more : (words : List ℕ) (n x : ℕ) → length (linked_from words n x) < n → linked_from words (suc n) x ≡ linked_from words n x
unfolding linked_from
linked_more words zero x l = absurd (omega (arith, l))
linked_more words (suc n) x l = by_null (x == 0) (λ m. linked_more words n (get_or words (x - 1 + 3) 0) m) l
  where
    by_null : (b : Bool) → (length (linked_from words n (get_or words (x - 1 + 3) 0)) < n → linked_from words (suc n) (get_or words (x - 1 + 3) 0) ≡ linked_from words n (get_or words (x - 1 + 3) 0)) → length (if b then [] else x ∷ linked_from words n (get_or words (x - 1 + 3) 0)) < suc n → (if b then [] else x ∷ linked_from words (suc n) (get_or words (x - 1 + 3) 0)) ≡ (if b then [] else x ∷ linked_from words n (get_or words (x - 1 + 3) 0))
    by_null true rest l = refl
    by_null false rest l = ap (λ ys. x ∷ ys) (rest (omega (arith, l)))

-- one buffer among the others
record Between (bs : List MutatorRecords) (m : ℕ) : Type 0 where
  pub front : List ℕ
  pub back : List ℕ
  pub after : (items : List ℕ) → in_buffers (set bs m (record { items = items })) ≡ front ++ (items ++ back)
  pub now : in_buffers bs ≡ front ++ ((get_or bs m (record { items = [] })).items ++ back)

between : (bs : List MutatorRecords) (m : ℕ) → m < length bs → Between bs m
unfolding in_buffers
between [] m l = absurd (omega (arith, l))
between (b ∷ bs) zero l = record { front = []; back = in_buffers bs; after = λ items. refl; now = refl }
between (b ∷ bs) (suc m) l =
    let q = between bs m (omega (arith, l)) in
    record {
      front = b.items ++ q.front;
      back = q.back;
      after = λ items. ap (λ ys. b.items ++ ys) (q.after items) ∙ sym (append_assoc b.items q.front (items ++ q.back));
      now = ap (λ ys. b.items ++ ys) q.now ∙ sym (append_assoc b.items q.front ((get_or bs m (record { items = [] })).items ++ q.back));
    }

-- what stands in a list, and in a buffer
in_list : (xs : List ℕ) (i : ℕ) → i < length xs → contains xs (get_or xs i 0) ≡ true
unfolding contains
in_list [] i l = absurd (omega (arith, l))
in_list (x ∷ xs) zero l = rw (eq-eqb x x refl) refl
in_list (x ∷ xs) (suc i) l = either_true (x == get_or xs i 0) (contains xs (get_or xs i 0)) (in_list xs i (omega (arith, l)))
  where
    either_true : (a b : Bool) → b ≡ true → (a || b) ≡ true
    either_true true b e = refl
    either_true false b e = e

pub in_buffer : (bs : List MutatorRecords) (m i : ℕ) → i < length (get_or bs m (record { items = [] })).items → contains (in_buffers bs) (get_or (get_or bs m (record { items = [] })).items i 0) ≡ true
unfolding in_buffers
in_buffer [] m i l = absurd (omega (arith, l))
in_buffer (b ∷ bs) zero i l = let k = get_or b.items i 0 in contains-append b.items (in_buffers bs) k ∙ ap (λ c. c || contains (in_buffers bs) k) (in_list b.items i l)
in_buffer (b ∷ bs) (suc m) i l =
    let k = get_or (get_or bs m (record { items = [] })).items i 0 in
    contains-append b.items (in_buffers bs) k ∙ either_true (contains b.items k) (contains (in_buffers bs) k) (in_buffer bs m i l)
  where
    either_true : (a b : Bool) → b ≡ true → (a || b) ≡ true
    either_true true b e = refl
    either_true false b e = e

pub no_records : (n : ℕ) → in_buffers (replicate n (record { items = [] })) ≡ []
unfolding in_buffers
no_records zero = refl
no_records (suc n) = no_records n

-- no part is grey in a new heap
pub no_grey : (s : Store) (g : GreySet) (n : ℕ) → g ≡ record { first = 0; buffers = replicate n (record { items = [] }) } → grey_in s g ≡ []
unfolding grey_in sorted
no_grey s g n e =
    ap (grey_in s) e ∙ ap (λ xs. sorted (xs ++ in_buffers (replicate n (record { items = [] })))) (linked_none s.words (2048 * length s.pages)) ∙ ap sorted (no_records n)

module _ (s : Store) (g : GreySet) where
  abbrev most : ℕ
  most = 2048 * length s.pages

  abbrev linked : List ℕ
  linked = linked_from s.words most g.first

  length_grey : length (grey_in s g) ≡ length linked + length (in_buffers g.buffers)
  unfolding grey_in
  length_grey = length-sorted (linked ++ in_buffers g.buffers) ∙ length-append linked (in_buffers g.buffers)

  contains_grey : (k : ℕ) → contains (grey_in s g) k ≡ (contains linked k || contains (in_buffers g.buffers) k)
  unfolding grey_in
  contains_grey k = contains-sorted (linked ++ in_buffers g.buffers) k ∙ contains-append linked (in_buffers g.buffers) k

  in_linked : (k : ℕ) → contains linked k ≡ true → contains (grey_in s g) k ≡ true
  in_linked k e = contains_grey k ∙ ap (λ b. b || contains (in_buffers g.buffers) k) e

  -- a record is grey
  pub record_grey : (m i : ℕ) → i < length (buffer_of g m) → contains (grey_in s g) (get_or (buffer_of g m) i 0) ≡ true
  record_grey m i l =
      let k = get_or (buffer_of g m) i 0 in contains_grey k ∙ ap (λ b. contains linked k || b) (in_buffer g.buffers m i l) ∙ or_true (contains linked k)
    where
      or_true : (a : Bool) → (a || true) ≡ true
      or_true true = refl
      or_true false = refl

  -- if the links of the grey parts stay, the same parts are grey
  pub grey_same : (new : Store) → length new.pages ≡ length s.pages → ((y : ℕ) → y ≢ 0 → contains (grey_in s g) y ≡ true → get_or new.words (y - 1 + 3) 0 ≡ get_or s.words (y - 1 + 3) 0) → grey_in new g ≡ grey_in s g
  unfolding grey_in
  grey_same new pages links =
      ap (λ n. sorted (linked_from new.words (2048 * n) g.first ++ in_buffers g.buffers)) pages
      ∙ ap (λ xs. sorted (xs ++ in_buffers g.buffers)) (linked_same s.words new.words most g.first (λ y some c. links y some (in_linked y c)))

  -- if no part is grey, list and buffers are empty
  pub first_none : 0 < length s.pages → grey_in s g ≡ [] → g.first ≡ 0
  unfolding linked_from
  first_none some e = by_null (g.first == 0) refl
    where
      by_null : (b : Bool) → (g.first == 0) ≡ b → g.first ≡ 0
      by_null true z = grind (arith, z)
      by_null false z =
          absurd (
          let none : g.first ≢ 0 = grind (arith, z) in
          let n : most ≡ suc (most - 1) = omega (arith, some) in
          let first = ap (λ n. linked_from s.words n g.first) n ∙ linked_first s.words (most - 1) g.first none in
          let l : 0 ≡ length linked + length (in_buffers g.buffers) = sym (ap length e) ∙ length_grey in
          omega (arith, l, ap length first)
          )

  pub buffers_none : grey_in s g ≡ [] → in_buffers g.buffers ≡ []
  buffers_none e = none (in_buffers g.buffers) (let l : 0 ≡ length linked + length (in_buffers g.buffers) = sym (ap length e) ∙ length_grey in omega (arith, l))
    where
      none : (xs : List ℕ) → length xs ≡ 0 → xs ≡ []
      none [] e = refl
      none (x ∷ xs) e = absurd (omega (arith, e))

  pub grey_none : g.first ≡ 0 → in_buffers g.buffers ≡ [] → grey_in s g ≡ []
  unfolding grey_in sorted
  grey_none first buffers = ap (λ x. sorted (linked_from s.words most x ++ in_buffers g.buffers)) first ∙ ap (λ xs. sorted (xs ++ in_buffers g.buffers)) (linked_none s.words most) ∙ ap sorted buffers

  -- a part whose link names the first of the list comes first in it
  pub comes_first : (x : ℕ) → x ≢ 0 → get_or s.words (x - 1 + 3) 0 ≡ g.first → length (grey_in s g) < most → grey_in s (record g { first = x }) ≡ inserted x (grey_in s g)
  unfolding grey_in sorted
  comes_first x some here few = ap (λ xs. sorted (xs ++ in_buffers g.buffers)) list
    where
      more : most ≡ suc (most - 1)
      more = omega (arith, few)

      less : length (linked_from s.words (suc (most - 1)) g.first) ≤ most - 1
      less = subst (λ n. length (linked_from s.words n g.first) ≤ most - 1) more (omega (arith, few, length_grey))

      list : linked_from s.words most x ≡ x ∷ linked
      list =
          ap (λ n. linked_from s.words n x) more ∙ linked_first s.words (most - 1) x some
          ∙ ap (λ y. x ∷ linked_from s.words (most - 1) y) here
          ∙ ap (λ ys. x ∷ ys) (linked_less s.words (most - 1) g.first less ∙ ap (λ n. linked_from s.words n g.first) (sym more))

  -- the first part of the list is taken
  pub taken : g.first ≢ 0 → length (grey_in s g) < most → grey_in s g ≡ inserted g.first (grey_in s (record g { first = get_or s.words (g.first - 1 + 3) 0 }))
  unfolding grey_in sorted
  taken some few = ap (λ xs. sorted (xs ++ in_buffers g.buffers)) list
    where
      more : most ≡ suc (most - 1)
      more = omega (arith, few)

      first : linked ≡ g.first ∷ linked_from s.words (most - 1) (get_or s.words (g.first - 1 + 3) 0)
      first = ap (λ n. linked_from s.words n g.first) more ∙ linked_first s.words (most - 1) g.first some

      list : linked ≡ g.first ∷ linked_from s.words most (get_or s.words (g.first - 1 + 3) 0)
      list = first ∙ ap (λ ys. g.first ∷ ys) (sym (ap (λ n. linked_from s.words n (get_or s.words (g.first - 1 + 3) 0)) more ∙ linked_more s.words (most - 1) (get_or s.words (g.first - 1 + 3) 0) (omega (arith, few, length_grey, ap length first))))

  module _ (m : ℕ) (within : m < length g.buffers) where
    q : Between g.buffers m
    q = between g.buffers m within

    -- a mutator's buffer as it is
    pub same_buffer : grey_in s (with_buffer g m (buffer_of g m)) ≡ grey_in s g
    unfolding grey_in
    same_buffer = ap (λ xs. sorted (linked ++ xs)) (q.after (buffer_of g m) ∙ sym q.now)

    -- Another record stands between some records and the others.
    buffered_between : (before after : List ℕ) (x : ℕ) → grey_in s (with_buffer g m (before ++ x ∷ after)) ≡ inserted x (grey_in s (with_buffer g m (before ++ after)))
    unfolding grey_in
    buffered_between before after x =
        ap (λ xs. sorted (linked ++ xs)) (q.after (before ++ x ∷ after))
        ∙ ap sorted (regroup (x ∷ after))
        ∙ sorted_middle ((linked ++ q.front) ++ before) (after ++ q.back) x
        ∙ ap (λ xs. inserted x (sorted xs)) (sym (regroup after))
        ∙ ap (λ xs. inserted x (sorted (linked ++ xs))) (sym (q.after (before ++ after)))
      where
        regroup : (ys : List ℕ) → linked ++ (q.front ++ ((before ++ ys) ++ q.back)) ≡ ((linked ++ q.front) ++ before) ++ (ys ++ q.back)
        regroup ys =
            ap (λ xs. linked ++ (q.front ++ xs)) (append_assoc before ys q.back)
            ∙ sym (append_assoc linked q.front (before ++ (ys ++ q.back))) ∙ sym (append_assoc (linked ++ q.front) before (ys ++ q.back))

    -- Another record stands after the last.
    pub buffered : (items : List ℕ) (x : ℕ) → grey_in s (with_buffer g m (items ++ x ∷ [])) ≡ inserted x (grey_in s (with_buffer g m items))
    buffered items x = buffered_between items [] x ∙ ap (λ xs. inserted x (grey_in s (with_buffer g m xs))) (append-nil items)

    -- Another record stands before the first.
    pub buffered_first : (x : ℕ) (items : List ℕ) → grey_in s (with_buffer g m (x ∷ items)) ≡ inserted x (grey_in s (with_buffer g m items))
    buffered_first x items = buffered_between [] items x

module _ (s : Store) (g : GreySet) (words : List ℕ) (x : ℕ) (some : x ≢ 0) where
  -- if the link of a part that isn't grey is written, the same parts are grey
  pub link_written : (link : ℕ) → words ≡ set s.words (x - 1 + 3) link → contains (grey_in s g) x ≡ false → grey_in (record { pages = s.pages; words = words }) g ≡ grey_in s g
  link_written link is fresh =
      grey_same s g (record { pages = s.pages; words = words }) refl
      (λ y there c.
      let apart : y ≢ x = λ e. absurd (let t : true ≡ false = sym (subst (λ z. contains (grey_in s g) z ≡ true) e c) ∙ fresh in cc) in
      ap (λ w. get_or w (y - 1 + 3) 0) is ∙ get_or-set_other s.words (x - 1 + 3) (y - 1 + 3) link 0 (λ e. apart (omega (arith, e, there, some))))

  -- a part comes first in the list
  pub threaded : words ≡ set s.words (x - 1 + 3) g.first → get_or words (x - 1 + 3) 0 ≡ g.first → contains (grey_in s g) x ≡ false → length (grey_in s g) < 2048 * length s.pages
      → grey_in (record { pages = s.pages; words = words }) (record g { first = x }) ≡ inserted x (grey_in s g)
  threaded is here fresh few =
      let same = link_written g.first is fresh in
      comes_first (record { pages = s.pages; words = words }) g x some here (subst (λ xs. length xs < 2048 * length s.pages) (sym same) few) ∙ ap (inserted x) same
