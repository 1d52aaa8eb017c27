-- A block is freed, and a page is closed.
use Rattle.std.proofs.Common.{◌≡◌, ◌≢◌, ℕ, zero, suc, ◌+◌, ◌*◌, ◌/◌, ◌%◌, ◌<◌, ◌≤◌, ◌⊎◌, inl, inr, Bool, true, false, ◌&&◌, eqb, cond, List, [], ◌∷◌, Option, Some, None, length, get_or, set, ap, ◌∙◌, sym, subst, arith, refl, length-set}
use Rattle.std.specs.Prelude.{option_map, slice_get, count_by, IfSome, IsSomeAnd}
use Rattle.std.proofs.lemmas.Bool.{ne_eqb, eqb-true}
use Rattle.std.proofs.lemmas.List.{get_or-set_other, get_or-set_same, get_or_past}
use Rattle.std.proofs.lemmas.List.Sums.{sum_by-cons}
use Rattle.std.proofs.lemmas.Option.{slice_get_within, get_or_from_slice_get, slice_get-get_or}
use Rattle.size_classes.specs.Sizes.{size_of, blocks_in}
use Rattle.size_classes.proofs.Table.{size_low}
use Rattle.heap_model.specs.Block.{record_at}
use Rattle.heap_model.specs.Pages.{Page, IsPage, page_at, with_allocated}
use Rattle.heap_model.specs.Store.{Store, IsStore, size_in, allocated_in, size_at, is_allocated, record_of, address_of}
use Rattle.heap_model.specs.Action.{KeepsBlocks, Frees, allocated_on, closed}
use Rattle.pages.specs.Together.{KeepsAllocated}
use Rattle.nodes.proofs.Carried.{frees_then}
use Rattle.nodes.specs.Joined.{IsHeader}
use Rattle.nodes.proofs.Joining.{still_store, word_kept}
use Rattle.nodes.proofs.Places.{count_in, allocated_place}

and_false : (b : Bool) → (b && false) ≡ false
and_false true = refl
and_false false = refl

pub same_or : (a b : ℕ) → (a ≡ b) ⊎ (a ≢ b)
same_or a b = grind arith

-- a flag that is taken away is no other
other_flag : (flags : List Bool) (i o s : ℕ) → (o ≡ i * s → ⊥) → (eqb (o % s) 0 && get_or (set flags i false) (o / s) false) ≡ (eqb (o % s) 0 && get_or flags (o / s) false)
other_flag flags i o s ne = by_place (same_or (o / s) i)
  where
    not_whole : o / s ≡ i → o % s ≢ 0
    not_whole e z = ne (let q : o ≡ (o / s) * s = grind arith in q ∙ ap (λ n. n * s) e)

    by_place : (o / s ≡ i) ⊎ (o / s ≢ i) → (eqb (o % s) 0 && get_or (set flags i false) (o / s) false) ≡ (eqb (o % s) 0 && get_or flags (o / s) false)
    by_place (inl e) = let z : eqb (o % s) 0 ≡ false = ne_eqb (o % s) 0 (not_whole e) in ap (λ b. b && get_or (set flags i false) (o / s) false) z ∙ sym (ap (λ b. b && get_or flags (o / s) false) z)
    by_place (inr d) = ap (λ b. eqb (o % s) 0 && b) (get_or-set_other flags i (o / s) false false d)

pub offset_place : (k i s a : ℕ) → 4 ≤ s → (i + 1) * s ≤ 2048 → a ≡ 2048 * k + i * s → (a / 2048 ≡ k) × (a % 2048 ≡ i * s)
offset_place k i s a low fit e =
    let small : i * s < 2048 = grind arith in (omega (arith, small), omega (arith, small))

pub divided : (i s : ℕ) → 4 ≤ s → ((i * s) % s ≡ 0) × ((i * s) / s ≡ i)
divided i s low = (grind arith, grind arith)

pub page_within : (pages : List (Option Page)) (k : ℕ) (p : Page) → page_at pages k ≡ Some p → k < length pages
page_within pages k p e = elim (below_or k (length pages)) [
  | inl h ↦ h
  | inr h ↦ let past : page_at pages k ≡ None = get_or_past pages k None h in absurd (cc)
]
  where
    below_or : (a b : ℕ) → (a < b) ⊎ (b ≤ a)
    below_or a b = grind arith

-- Another page replaces one.
module _ (s : Store) (k : ℕ) (q : Option Page) (within : k < length s.pages) where
  pub page_here : page_at (set s.pages k q) k ≡ q
  page_here = get_or-set_same s.pages k q None within

  pub page_other : (j : ℕ) → j ≢ k → page_at (set s.pages k q) j ≡ page_at s.pages j
  page_other j d = get_or-set_other s.pages k j q None d

  pub allocated_change : (words : List ℕ) (b : ℕ) → (b / 2048 ≡ k → allocated_in q (b % 2048) ≡ allocated_in (page_at s.pages k) (b % 2048)) → is_allocated (record { pages = set s.pages k q; words = words }) b ≡ is_allocated s b
  unfolding is_allocated
  allocated_change words b same = elim (same_or (b / 2048) k) [
    | inl e ↦ ap (λ n. allocated_in (page_at (set s.pages k q) n) (b % 2048)) e ∙ ap (λ o. allocated_in o (b % 2048)) page_here ∙ same e ∙ ap (λ n. allocated_in (page_at s.pages n) (b % 2048)) (sym e)
    | inr d ↦ ap (λ o. allocated_in o (b % 2048)) (page_other (b / 2048) d)
  ]

  pub node_change : (b : ℕ) → (b / 2048 ≡ k → size_in q ≡ size_in (page_at s.pages k)) → record_of (record { pages = set s.pages k q; words = s.words }) b ≡ record_of s b
  unfolding record_of size_at
  node_change b same = elim (same_or (b / 2048) k) [
    | inl e ↦ ap (record_at s.words b) (ap (λ n. size_in (page_at (set s.pages k q) n)) e ∙ ap size_in page_here ∙ same e ∙ ap (λ n. size_in (page_at s.pages n)) (sym e))
    | inr d ↦ ap (λ o. record_at s.words b (size_in o)) (page_other (b / 2048) d)
  ]

  -- a page that is there after the change is the new one, or was there before
  now_here : (j : ℕ) (p : Page) → j ≡ k → slice_get (set s.pages k q) j ≡ Some (Some p) → q ≡ Some p
  now_here j p z e = sym page_here ∙ get_or_from_slice_get _ k (Some p) None (subst (λ n. slice_get (set s.pages k q) n ≡ Some (Some p)) z e)

  was_there : (j : ℕ) (p : Page) → j ≢ k → slice_get (set s.pages k q) j ≡ Some (Some p) → slice_get s.pages j ≡ Some (Some p)
  was_there j p d e =
      let g : page_at (set s.pages k q) j ≡ Some p = get_or_from_slice_get _ j (Some p) None e in
      let n : j < length s.pages = subst (λ z. j < z) (length-set s.pages k q) (slice_get_within _ j (Some p) e) in
      slice_get-get_or s.pages j None n ∙ ap Some (sym (page_other j d) ∙ g)

  pub store_change : IsStore s → ((p : Page) → q ≡ Some p → IsPage p) → ((p : Page) → q ≡ Some p → 2048 * k + 2048 ≤ length s.words) → IsStore (record { pages = set s.pages k q; words = s.words })
  store_change whole good long = record {
    pages = λ j p e. elim (same_or j k) [
      | inl z ↦ good p (now_here j p z e)
      | inr d ↦ whole.pages j p (was_there j p d e)
    ];
    words = λ j p e. elim (same_or j k) [
      | inl z ↦ subst (λ n. 2048 * n + 2048 ≤ length s.words) (sym z) (long p (now_here j p z e))
      | inr d ↦ whole.words j p (was_there j p d e)
    ];
    few = subst (λ n. n ≤ 1048576) (sym (length-set s.pages k q)) whole.few;
  }

-- a block is freed
module _ (s : Store) (whole : IsStore s) (k i : ℕ) (p : Page) (there : page_at s.pages k ≡ Some p) (allocated : slice_get p.allocated i ≡ Some true) where
  within : k < length s.pages
  within = page_within s.pages k p there

  is_page : IsPage p
  is_page = whole.pages k p (slice_get-get_or s.pages k None within ∙ ap Some there)

  low : 4 ≤ size_of p.class
  low = size_low p.class is_page.class

  fit : (i + 1) * size_of p.class ≤ 2048
  unfolding blocks_in
  fit = count_in (size_of p.class) (2048 / size_of p.class) i refl low (let h = slice_get_within p.allocated i true allocated in omega (arith, h, is_page.blocks))

  place : ((address_of p.class k i) / 2048 ≡ k) × ((address_of p.class k i) % 2048 ≡ i * size_of p.class)
  place = offset_place k i (size_of p.class) (address_of p.class k i) low fit refl

  abbrev after : List ℕ → Store
  after words = record { pages = set s.pages k (Some (with_allocated p i false)); words = words }

  flag_gone : allocated_in (Some (with_allocated p i false)) (i * size_of p.class) ≡ false
  flag_gone =
      let d = divided i (size_of p.class) low in
      let b : i < length p.allocated = slice_get_within p.allocated i true allocated in
      ap (λ n. eqb ((i * size_of p.class) % size_of p.class) 0 && get_or (set p.allocated i false) n false) d.1
      ∙ ap (λ x. eqb ((i * size_of p.class) % size_of p.class) 0 && x) (get_or-set_same p.allocated i false false b)
      ∙ and_false (eqb ((i * size_of p.class) % size_of p.class) 0)

  gone : (words : List ℕ) → is_allocated (record { pages = set s.pages k (Some (with_allocated p i false)); words = words }) (address_of p.class k i) ≡ false
  unfolding is_allocated
  gone words =
      ap (λ n. allocated_in (page_at (set s.pages k (Some (with_allocated p i false))) n) ((address_of p.class k i) % 2048)) place.0
      ∙ ap (λ q. allocated_in q ((address_of p.class k i) % 2048)) (page_here s k (Some (with_allocated p i false)) within)
      ∙ ap (allocated_in (Some (with_allocated p i false))) place.1 ∙ flag_gone

  place_is : (b : ℕ) → b / 2048 ≡ k → b % 2048 ≡ i * size_of p.class → b ≡ address_of p.class k i
  place_is b e f = omega (arith, e, f)

  pub frees : Frees s (record { pages = set s.pages k (Some (with_allocated p i false)); words = s.words }) (address_of p.class k i)
  frees = record {
    gone = gone s.words;
    same = λ b ne. allocated_change s k (Some (with_allocated p i false)) within s.words b (λ e. other_flag p.allocated i (b % 2048) (size_of p.class) (λ z. ne (place_is b e z)) ∙ ap (λ q. allocated_in q (b % 2048)) (sym there));
    nodes = λ b ne h. node_change s k (Some (with_allocated p i false)) within b (λ e. ap size_in (sym there));
  }

  pub freed_store : IsStore (record { pages = set s.pages k (Some (with_allocated p i false)); words = s.words })
  freed_store = store_change s k (Some (with_allocated p i false)) within whole (λ q e. subst IsPage (same_page e) (record { class = is_page.class; blocks = length-set p.allocated i false ∙ is_page.blocks; marks = is_page.marks })) (λ _ _. whole.words k p (slice_get-get_or s.pages k None within ∙ ap Some there))
    where
      same_page : {a b : Page} → Some a ≡ Some b → a ≡ b
      same_page e = cc

-- a block whose flag is set is allocated
module _ (s : Store) (whole : IsStore s) (k i : ℕ) (p : Page) (there : page_at s.pages k ≡ Some p) (allocated : slice_get p.allocated i ≡ Some true) where
  flag_set : allocated_in (Some p) (i * size_of p.class) ≡ true
  flag_set =
      let d = divided i (size_of p.class) (low s whole k i p there allocated) in
      let f : get_or p.allocated i false ≡ true = get_or_from_slice_get p.allocated i true false allocated in
      ap (λ n. eqb n 0 && get_or p.allocated ((i * size_of p.class) / size_of p.class) false) d.0
      ∙ ap (λ n. get_or p.allocated n false) d.1 ∙ f

  pub allocated_at : is_allocated s (address_of p.class k i) ≡ true
  unfolding is_allocated
  allocated_at =
      let q = place s whole k i p there allocated in
      ap (λ n. allocated_in (page_at s.pages n) ((address_of p.class k i) % 2048)) q.0 ∙ ap (λ o. allocated_in o ((address_of p.class k i) % 2048)) there ∙ ap (allocated_in (Some p)) q.1 ∙ flag_set

  pub place_small : (i * size_of p.class + size_of p.class ≤ 2048) × (k < length s.pages)
  place_small = (let f = fit s whole k i p there allocated in grind arith, within s whole k i p there allocated)

-- the same, by the class and the size that the code knows
pub allocated_by : (s : Store) → IsStore s → (k i class size : ℕ) → (o : Option Page) → page_at s.pages k ≡ o → option_map (λ (p : Page). p.class) o ≡ Some class → size ≡ size_of class → IsSomeAnd o (λ p. slice_get p.allocated i ≡ Some true)
    → (i * size + size ≤ 2048) × (k < 1048576) × (is_allocated s (2048 * k + i * size) ≡ true)
allocated_by s whole k i class size None there ec es h = absurd h
allocated_by s whole k i class size (Some p) there ec es h =
    let c : p.class ≡ class = same_class ec in
    let z : size_of p.class ≡ size = ap size_of c ∙ sym es in
    let small = place_small s whole k i p there h in (
      subst (λ n. i * n + n ≤ 2048) z small.0,
      (let w = whole.few in let b = small.1 in omega (arith, w, b)),
      subst (λ n. is_allocated s (2048 * k + i * n) ≡ true) z (allocated_at s whole k i p there h),
    )
  where
    same_class : {a b : ℕ} → Some a ≡ Some b → a ≡ b
    same_class e = cc

abbrev one_if : Bool → ℕ
one_if b = cond b 1 0

-- no block is allocated if none counts
none_counted : (flags : List Bool) → count_by (λ b. b) flags ≡ 0 → (j : ℕ) → get_or flags j false ≡ false
none_counted [] e j = refl
none_counted (b ∷ flags) e zero = first b (let c : count_by (λ x. x) (b ∷ flags) ≡ one_if b + count_by (λ x. x) flags = sum_by-cons one_if b flags in omega (arith, c, e))
  where
    first : (b : Bool) → one_if b ≡ 0 → b ≡ false
    first true z = absurd (cc)
    first false z = refl
none_counted (b ∷ flags) e (suc j) = none_counted flags (let c : count_by (λ x. x) (b ∷ flags) ≡ one_if b + count_by (λ x. x) flags = sum_by-cons one_if b flags in omega (arith, c, e)) j

-- a page that is closed holds what it held
closed_allocated : (q : Option Page) (o : ℕ) → allocated_in (closed q) o ≡ allocated_in q o
closed_allocated None o = refl
closed_allocated (Some p) o = by_count (eqb (allocated_on (Some p)) 0) refl
  where
    by_count : (b : Bool) → eqb (allocated_on (Some p)) 0 ≡ b → allocated_in (cond b None (Some (record p { evacuating = false; is_target = false }))) o ≡ allocated_in (Some p) o
    by_count true e =
        let z = none_counted p.allocated (eqb-true (allocated_on (Some p)) 0 e) (o / size_of p.class) in
        sym (ap (λ x. eqb (o % size_of p.class) 0 && x) z ∙ and_false (eqb (o % size_of p.class) 0))
    by_count false e = refl

closed_size : (q : Option Page) (o : ℕ) → allocated_in q o ≡ true → size_in (closed q) ≡ size_in q
closed_size None o h = refl
closed_size (Some p) o h = by_count (eqb (allocated_on (Some p)) 0) refl
  where
    by_count : (b : Bool) → eqb (allocated_on (Some p)) 0 ≡ b → size_in (cond b None (Some (record p { evacuating = false; is_target = false }))) ≡ size_in (Some p)
    by_count true e =
        let z = none_counted p.allocated (eqb-true (allocated_on (Some p)) 0 e) (o / size_of p.class) in
        let f : allocated_in (Some p) o ≡ false = ap (λ x. eqb (o % size_of p.class) 0 && x) z ∙ and_false (eqb (o % size_of p.class) 0) in
        absurd (clash h f)
      where
        clash : {b : Bool} → b ≡ true → b ≡ false → ⊥
        clash x y = cc
    by_count false e = refl

closed_page : (q : Option Page) → ((p : Page) → q ≡ Some p → IsPage p) → (p : Page) → closed q ≡ Some p → IsPage p
closed_page None good p e = absurd (cc)
closed_page (Some q) good p e = by_count (eqb (allocated_on (Some q)) 0) e
  where
    same_page : {a b : Page} → Some a ≡ Some b → a ≡ b
    same_page e = cc

    by_count : (b : Bool) → cond b None (Some (record q { evacuating = false; is_target = false })) ≡ Some p → IsPage p
    by_count true z = absurd (cc)
    by_count false z = let g = good q refl in subst IsPage (same_page z) (record { class = g.class; blocks = g.blocks; marks = refl })

closed_words : (q : Option Page) (n m : ℕ) → ((p : Page) → q ≡ Some p → n ≤ m) → (p : Page) → closed q ≡ Some p → n ≤ m
closed_words None n m long p e = absurd (cc)
closed_words (Some q) n m long p e = long q refl

-- a page is closed
module _ (s : Store) (whole : IsStore s) (k : ℕ) (within : k < length s.pages) where
  pub keeps_blocks : KeepsBlocks s (record { pages = set s.pages k (closed (page_at s.pages k)); words = s.words })
  unfolding is_allocated
  keeps_blocks = record {
    allocated = λ b. allocated_change s k (closed (page_at s.pages k)) within s.words b (λ e. closed_allocated (page_at s.pages k) (b % 2048));
    nodes = λ b h. node_change s k (closed (page_at s.pages k)) within b (λ e. closed_size (page_at s.pages k) (b % 2048) (allocated_at b e h));
  }
    where
      allocated_at : (b : ℕ) → b / 2048 ≡ k → is_allocated s b ≡ true → allocated_in (page_at s.pages k) (b % 2048) ≡ true
      allocated_at b e h = subst (λ n. allocated_in (page_at s.pages n) (b % 2048) ≡ true) e h

  pub closed_store : IsStore (record { pages = set s.pages k (closed (page_at s.pages k)); words = s.words })
  closed_store =
      store_change s k (closed (page_at s.pages k)) within whole
      (closed_page (page_at s.pages k) (λ p e. whole.pages k p (slice_get-get_or s.pages k None within ∙ ap Some e)))
      (closed_words (page_at s.pages k) (2048 * k + 2048) (length s.words) (λ p e. whole.words k p (slice_get-get_or s.pages k None within ∙ ap Some e)))

-- the same, of a value t as which the fields s are seen
module _ (s t : Store) (is : s ≡ t) (whole : IsStore s) (k i : ℕ) (new : List (Option Page)) where
  module _ (words : List ℕ) (kept : KeepsAllocated new s.words words) where
    freed_at : (o : Option Page) → page_at s.pages k ≡ o → IsSomeAnd o (λ p. slice_get p.allocated i ≡ Some true) → IfSome o (λ p. new ≡ set s.pages k (Some (with_allocated p i false)))
        → IfSome o (λ p. Frees s (record { pages = new; words = words }) (address_of p.class k i)) × IsStore (record { pages = new; words = s.words })
    freed_at None e h is = absurd h
    freed_at (Some p) e h is =
        let first : IsStore (record { pages = new; words = s.words }) = subst (λ g. IsStore (record { pages = g; words = s.words })) (sym is) (freed_store s whole k i p e h) in
        (frees_then s new words kept first (address_of p.class k i) (subst (λ g. Frees s (record { pages = g; words = s.words }) (address_of p.class k i)) (sym is) (frees s whole k i p e h)), first)

    allocated_at_first : (o : Option Page) → page_at s.pages k ≡ o → IsSomeAnd o (λ p. slice_get p.allocated i ≡ Some true) → IfSome o (λ p. new ≡ set s.pages k (Some (with_allocated p i false)))
        → (b : ℕ) → is_allocated (record { pages = new; words = words }) b ≡ true → is_allocated s b ≡ true
    allocated_at_first None e h is b now = absurd h
    allocated_at_first (Some p) e h is b now =
        let f : Frees s (record { pages = new; words = words }) (address_of p.class k i) = (freed_at (Some p) e h is).0 in
        elim (same_or b (address_of p.class k i)) [
          | inl same ↦ absurd (let gone : is_allocated (record { pages = new; words = words }) b ≡ false = ap (is_allocated (record { pages = new; words = words })) same ∙ f.gone in cc)
          | inr ne ↦ sym (f.same b ne) ∙ now
        ]

    module _ (allocated : IsSomeAnd (page_at t.pages k) (λ p. slice_get p.allocated i ≡ Some true)) (given : IfSome (page_at s.pages k) (λ p. new ≡ set s.pages k (Some (with_allocated p i false)))) where
      allocated_here : IsSomeAnd (page_at s.pages k) (λ p. slice_get p.allocated i ≡ Some true)
      allocated_here = subst (λ (x : Store). IsSomeAnd (page_at x.pages k) (λ p. slice_get p.allocated i ≡ Some true)) (sym is) allocated

      pub frees_by : IfSome (page_at t.pages k) (λ p. Frees t (record { pages = new; words = words }) (address_of p.class k i))
      frees_by =
          subst (λ (x : Store). IfSome (page_at x.pages k) (λ p. Frees x (record { pages = new; words = words }) (address_of p.class k i))) is
          (freed_at (page_at s.pages k) refl allocated_here given).0

      freed_first : IsStore (record { pages = new; words = s.words })
      freed_first = (freed_at (page_at s.pages k) refl allocated_here given).1

      pub freed_store_by : IsStore (record { pages = new; words = words })
      freed_store_by = still_store new s.words words kept.len freed_first

      -- word 1 of each block that is allocated still
      pub freed_headers : ((b : ℕ) → is_allocated s b ≡ true → IsHeader (get_or s.words (b + 1) 0)) → (b : ℕ) → is_allocated (record { pages = new; words = words }) b ≡ true → IsHeader (get_or words (b + 1) 0)
      unfolding is_allocated
      freed_headers headers b now =
          let before : is_allocated (record { pages = new; words = s.words }) b ≡ true = now in
          let low = (allocated_place (record { pages = new; words = s.words }) b freed_first before).size in
          subst IsHeader (sym (word_kept new s.words words kept b before 1 (omega (arith, low)))) (headers b (allocated_at_first (page_at s.pages k) refl allocated_here given b now))

  module _ (below : k < length t.pages) (given : new ≡ set s.pages k (closed (page_at s.pages k))) where
    below_here : k < length s.pages
    below_here = subst (λ (x : Store). k < length x.pages) (sym is) below

    pub keeps_by : KeepsBlocks t (record { pages = new; words = s.words })
    keeps_by =
        subst (λ (x : Store). KeepsBlocks x (record { pages = new; words = s.words })) is
        (subst (λ g. KeepsBlocks s (record { pages = g; words = s.words })) (sym given) (keeps_blocks s whole k below_here))

    pub closed_store_by : IsStore (record { pages = new; words = s.words })
    closed_store_by = subst (λ g. IsStore (record { pages = g; words = s.words })) (sym given) (closed_store s whole k below_here)
