-- Parts made, each linked into its spine.
use Rattle.std.proofs.Common.{◌≡◌, ◌≢◌, ◌⊎◌, inl, inr, ℕ, ◌+◌, ◌/◌, ◌<◌, ◌≤◌, Bool, true, false, length, get_or, ap, ◌∙◌, sym, subst, arith, refl, length-set, ◌==◌, if◌then◌else◌}
use Rattle.std.specs.Prelude.{List, Option, Some, None, IsSome, IsNone, IfSome, ◌↔◌}
use Rattle.std.proofs.lemmas.List.{length-replicate}
use Rattle.std.proofs.Math.Nat.{eq-zero-or-pos}
use Rattle.graph_heap.specs.declared.command.Shape.{Shape}
use Rattle.graph_heap.specs.declared.command.Shape.TheVariants.{Plain, RefArray, WordArray}
use Rattle.graph_heap.specs.Shape.{fits}
use Rattle.size_classes.specs.Parts.{cells_of, pieces_of, spines_of, parts_in, part_cells, part_words, spine_of, spine_cell_of}
use Rattle.size_classes.specs.Sizes.{class_for}
use Rattle.size_classes.proofs.Cutting.{Pieces, Spines, pieces_are, spines_are, referrers_are, count_most}
use Rattle.heap_model.specs.Block.{BlockRecord, with_cell, new_record}
use Rattle.heap_model.specs.Store.{Store, is_allocated, record_of, Writes, Adds}
use Rattle.heap_model.specs.Pages.{Page, TakesBlock}
use Rattle.heap_model.specs.Taking.{Takes, Nothing_taken, Part_taken}
use Rattle.heap_model.specs.Header.{ShapeFits}
use Rattle.heap_model.specs.Making.{made, part_of, Making, MakesObject, Nothing_made, Part_made}
use Rattle.heap_model.specs.Making.{Made as OneObject}
use Rattle.heap_model.proofs.State.{allocated_pages}
use Rattle.nodes.specs.Links.{KeepsLinks}
use Rattle.arraylets.specs.Made.{LinksPart}

-- the links stay if nothing is done, and after two steps, each of which keeps them
pub links_same : (s : Store) → KeepsLinks s s
links_same s = record { len = omega arith; each = λ b h. refl; fresh = λ b was now. absurd (let e : true ≡ false = sym now ∙ was in cc) }

pub links_then : (s t u : Store) → ((b : ℕ) → is_allocated s b ≡ true → is_allocated t b ≡ true) → KeepsLinks s t → KeepsLinks t u → KeepsLinks s u
links_then s t u still x y = record { len = omega (arith, x.len, y.len); each = λ b h. y.each b (still b h) ∙ x.each b h; fresh = λ b was now. by_block b (is_allocated t b) refl was now }
  where
    by_block : (b : ℕ) (e : Bool) → is_allocated t b ≡ e → is_allocated s b ≡ false → is_allocated u b ≡ true → get_or u.words (b + 3) 0 ≡ 0
    by_block b true between was now = y.each b between ∙ x.fresh b was between
    by_block b false between was now = y.fresh b between now

-- a block stays allocated if another is added
pub added_allocated : (s t : Store) (a : ℕ) (block : BlockRecord) → Adds s t a block → (b : ℕ) → is_allocated s b ≡ true → is_allocated t b ≡ true
added_allocated s t a block added b h = added.same b (λ e. clash (ap (is_allocated s) (sym e) ∙ h) added.free) ∙ h
  where
    clash : {b : Bool} → b ≡ true → b ≡ false → ⊥
    clash p q = cc

-- what a call answers
some_by : (o q : Option ℕ) → (IsNone o ↔ IsNone q) → IsSome q → IsSome o
some_by None q w s = absurd (clash q (w.0 refl) s)
  where
    clash : (q : Option ℕ) → IsNone q → IsSome q → ⊥
    clash None n t = cc
    clash (Some k) n t = cc
some_by (Some k) q w s = refl

pub gives_by : (o q : Option ℕ) → (IsNone o ↔ IsNone q) → IsSome q → IsSome o
gives_by o q w s = some_by o q w s

pub at_some : (o : Option ℕ) (P : ℕ → Type 0) (x : ℕ) → o ≡ Some x → IfSome o P → P x
at_some o P x e w = subst (λ z. IfSome z P) e w

same_or : (a b : ℕ) → (a ≡ b) ⊎ (a ≢ b)
same_or a b = grind arith

-- spines are few
pub cells_few : (shape : Shape) → fits shape ≡ true → cells_of shape ≤ 4000000
cells_few (Plain refs words) f = grind arith
cells_few (RefArray n) f = grind arith
cells_few (WordArray n) f = grind arith

-- what is made has a header
pub shape_fits : (shape : Shape) → fits shape ≡ true → ShapeFits shape
shape_fits (Plain refs words) f = (grind arith, grind arith)
shape_fits (RefArray n) f = grind arith
shape_fits (WordArray n) f = grind arith

pub parts_few : (shape : Shape) (part : ℕ) → fits shape ≡ true → part < parts_in (cells_of shape) → part < 65536
parts_few shape part f l =
    let n = cells_of shape in
    let most = count_most n (pieces_of n) (spines_of n) (pieces_are n) (spines_are n) (cells_few shape f) in
    omega (arith, l, most)

spines_most : (n k s : ℕ) → Pieces n k → Spines k s → n ≤ 4000000 → s ≤ 64
spines_most n k s a b l = grind arith

pub spine_in : (n part : ℕ) → n ≤ 4000000 → 0 < part → part < parts_in n → (spine_of n part < part) × (spine_of n part < 64) × (spine_cell_of n part < part_cells n (spine_of n part))
spine_in n part few some below =
    let q = referrers_are n (pieces_of n) (spines_of n) (pieces_are n) (spines_are n) part some below in
    let most = spines_most n (pieces_of n) (spines_of n) (pieces_are n) (spines_are n) few in
    (q.1, omega (arith, q.0, most), q.2)

spine_before : (shape : Shape) (part : ℕ) → fits shape ≡ true → 0 < part → part < parts_in (cells_of shape)
    → (spine_of (cells_of shape) part < part) × (spine_of (cells_of shape) part < 64) × (spine_cell_of (cells_of shape) part < part_cells (cells_of shape) (spine_of (cells_of shape) part))
spine_before shape part f some below = spine_in (cells_of shape) part (cells_few shape f) some below

-- a part is written into its spine
module _ (n : ℕ) (s t : Store) (spines : List ℕ) (part spine cell address : ℕ) (es : spine ≡ spine_of n part) (ec : cell ≡ spine_cell_of n part) where
  pub spine_allocated : is_allocated s (get_or spines (spine_of n part) 0) ≡ true → is_allocated s (get_or spines spine 0) ≡ true
  spine_allocated h = subst (λ k. is_allocated s (get_or spines k 0) ≡ true) (sym es) h

  pub cell_within : n ≤ 4000000 → 0 < part → part < parts_in n → length (record_of s (get_or spines (spine_of n part) 0)).cells ≡ part_cells n (spine_of n part) → cell < length (record_of s (get_or spines spine 0)).cells
  cell_within few some below cells =
      subst (λ k. cell < length (record_of s (get_or spines k 0)).cells) (sym es)
      (subst (λ c. c < length (record_of s (get_or spines (spine_of n part) 0)).cells) (sym ec) (subst (λ l. spine_cell_of n part < l) (sym cells) (spine_in n part few some below).2))

  pub linked_by : 0 < part → Writes s t (get_or spines spine 0) (with_cell (record_of s (get_or spines spine 0)) cell (address + 1)) → LinksPart n s (get_or spines (spine_of n part) 0) part address t
  linked_by some w = record {
    root = λ e. absurd (omega (arith, some, e));
    written = λ l. subst (λ k. Writes s t (get_or spines k 0) (with_cell (record_of s (get_or spines k 0)) (spine_cell_of n part) (address + 1))) es
        (subst (λ i. Writes s t (get_or spines spine 0) (with_cell (record_of s (get_or spines spine 0)) i (address + 1))) ec w);
  }

-- which takes no block
pub linked_pages : (n : ℕ) (s : Store) (spine part address : ℕ) (t : Store) → LinksPart n s spine part address t → t.pages ≡ s.pages
linked_pages n s spine part address t w = elim (eq-zero-or-pos part) [ inl e ↦ ap (λ (x : Store). x.pages) (w.root e) | inr l ↦ (w.written l).pages ]

-- A part of an object is made: it stands in a block that was free, at an address, and is then written into its cell of
-- the spine that refers to it. Spine p stands at the address `spines p`.
pub record MakesPart (old : Store) (object : OneObject) (spines : ℕ → ℕ) (part address : ℕ) (new : Store) : Type 0 where
  pub between : Store
  pub added : Adds old between address (part_of object part address)
  pub linked : LinksPart (cells_of object.shape) between (spines (spine_of (cells_of object.shape) part)) part address new

-- one part is made
module _ (old new : Store) (shape : Shape) (colour : Bool) (id : ℕ) (spines : ℕ → ℕ) (part address : ℕ) (w : MakesPart old (made shape colour id) spines part address new) where
  abbrev Stands : Store → ℕ → ℕ → Type 0
  Stands s b k = (is_allocated s b ≡ true) × (length (record_of s b).cells ≡ part_cells (cells_of shape) k)

  then_written : (P : Store → Type 0) → P w.between → (0 < part → P w.between → P new) → P new
  then_written P p q = elim (eq-zero-or-pos part) [ inl e ↦ subst P (sym (w.linked.root e)) p | inr l ↦ q l p ]

  pub part_allocated : (b : ℕ) → is_allocated old b ≡ true → is_allocated new b ≡ true
  part_allocated b h = then_written (λ s. is_allocated s b ≡ true) (added_allocated old w.between address _ w.added b h) (λ l k. allocated_pages w.between new b (w.linked.written l).pages ∙ k)

  written_stands : (b k : ℕ) → 0 < part → (length (record_of w.between b).cells ≡ part_cells (cells_of shape) k) → is_allocated w.between b ≡ true → length (record_of new b).cells ≡ part_cells (cells_of shape) k
  written_stands b k l e h = elim (same_or b (spines (spine_of (cells_of shape) part))) [
    | inl same ↦
        ap (λ z. length (record_of new z).cells) same ∙ ap (λ (x : BlockRecord). length x.cells) (w.linked.written l).here ∙ length-set (record_of w.between (spines (spine_of (cells_of shape) part))).cells (spine_cell_of (cells_of shape) part) (address + 1)
        ∙ ap (λ z. length (record_of w.between z).cells) (sym same) ∙ e
    | inr apart ↦ ap (λ (x : BlockRecord). length x.cells) ((w.linked.written l).others b h apart) ∙ e
  ]

  pub new_stands : Stands new address part
  new_stands = then_written (λ s. Stands s address part)
      (w.added.allocated, ap (λ (x : BlockRecord). length x.cells) w.added.here ∙ length-replicate {A = ℕ} (part_cells (cells_of shape) part) 0)
      (λ l q. (allocated_pages w.between new address (w.linked.written l).pages ∙ q.0, written_stands address part l q.1 q.0))

  pub old_stands : (b k : ℕ) → Stands old b k → Stands new b k
  old_stands b k i = then_written (λ s. Stands s b k)
      (added_allocated old w.between address _ w.added b i.0, ap (λ (x : BlockRecord). length x.cells) (w.added.others b i.0) ∙ i.1)
      (λ l q. (allocated_pages w.between new b (w.linked.written l).pages ∙ q.0, written_stands b k l q.1 q.0))

-- the addresses of parts that aren't made yet may be any
module _ (old : Store) (shape : Shape) (colour : Bool) (id : ℕ) (at at' : ℕ → ℕ) (f : fits shape ≡ true) where
  abbrev spine_here : ℕ → ℕ
  spine_here part = spine_of (cells_of shape) part

  making_at : (parts : ℕ) (new : Store) → parts ≤ parts_in (cells_of shape) → ((p : ℕ) → p < parts → at p ≡ at' p) → Making old (made shape colour id) at parts new → Making old (made shape colour id) at' parts new
  making_at parts new few same Nothing_made = Nothing_made
  making_at parts new few same (Part_made k s t u m a none some) =
      Part_made k s t u (making_at k s (omega arith) (λ p l. same p (omega arith)) m)
      (subst (λ b. Adds s t b (new_record b (record { shape = shape; part = k; colour = colour }) id)) (same k (omega arith)) a)
      none
      (λ l. let q = spine_before shape k f l (omega arith) in
      subst (λ b. Writes t u b (with_cell (record_of t b) (spine_cell_of (cells_of shape) k) (at' k + 1))) (same (spine_here k) (let x = q.0 in omega arith))
      (subst (λ z. Writes t u (at (spine_here k)) (with_cell (record_of t (at (spine_here k))) (spine_cell_of (cells_of shape) k) (z + 1))) (same k (omega arith)) (some l)))

pub taking_at : (cells : ℕ) (at at' : ℕ → ℕ) (old : List (Option Page)) (parts : ℕ) (new : List (Option Page)) → ((p : ℕ) → p < parts → at p ≡ at' p) → Takes cells at old parts new → Takes cells at' old parts new
taking_at cells at at' old parts new same Nothing_taken = Nothing_taken
taking_at cells at at' old parts new same (Part_taken part class index s t takes f b) =
    Part_taken part class index s t (taking_at cells at at' old part s (λ p l. same p (omega arith)) takes) f (subst (λ z. TakesBlock s class (z / 2048) index t) (same part (omega arith)) b)

-- this many parts are made, and the spines among them are known
pub record Made (old : Store) (shape : Shape) (colour : Bool) (id : ℕ) (spines : List ℕ) (parts : ℕ) (new : Store) : Type 0 where
  pub at : ℕ → ℕ
  pub known : (p : ℕ) → p < parts → p < 64 → get_or spines p 0 ≡ at p
  pub making : Making old (made shape colour id) at parts new
  pub takes : Takes (cells_of shape) at old.pages parts new.pages
  pub stands : (p : ℕ) → p < parts → (is_allocated new (at p) ≡ true) × (length (record_of new (at p)).cells ≡ part_cells (cells_of shape) p)
  pub allocated : (b : ℕ) → is_allocated old b ≡ true → is_allocated new b ≡ true

pub none_made : (old : Store) (shape : Shape) (colour : Bool) (id : ℕ) (spines : List ℕ) → Made old shape colour id spines 0 old
none_made old shape colour id spines = record {
  at = λ p. 0;
  known = λ p l. absurd (omega arith);
  making = Nothing_made;
  takes = Nothing_taken;
  stands = λ p l. absurd (omega arith);
  allocated = λ b h. h;
}

-- The object has one part more.
module _ (old s t : Store) (shape : Shape) (colour : Bool) (id : ℕ) (spines spines' : List ℕ) (part address : ℕ) (f : fits shape ≡ true) (below : part < parts_in (cells_of shape)) (m : Made old shape colour id spines part s) where
  -- the spine that refers to the part stands
  pub spine_stands : 0 < part → (is_allocated s (get_or spines (spine_of (cells_of shape) part) 0) ≡ true)
      × (length (record_of s (get_or spines (spine_of (cells_of shape) part) 0)).cells ≡ part_cells (cells_of shape) (spine_of (cells_of shape) part))
  spine_stands l =
      let q = spine_before shape part f l below in
      let e = m.known (spine_of (cells_of shape) part) q.0 q.1 in
      subst (λ b. (is_allocated s b ≡ true) × (length (record_of s b).cells ≡ part_cells (cells_of shape) (spine_of (cells_of shape) part))) (sym e) (m.stands (spine_of (cells_of shape) part) q.0)

  -- also when the part was added
  pub spine_later : (u : Store) (block : BlockRecord) → Adds s u address block → 0 < part → (is_allocated u (get_or spines (spine_of (cells_of shape) part) 0) ≡ true)
      × (length (record_of u (get_or spines (spine_of (cells_of shape) part) 0)).cells ≡ part_cells (cells_of shape) (spine_of (cells_of shape) part))
  spine_later u block added l = let q = spine_stands l in (added_allocated s u address block added _ q.0, ap (λ (x : BlockRecord). length x.cells) (added.others _ q.0) ∙ q.1)

  module _ (w : MakesPart s (made shape colour id) (λ p. get_or spines p 0) part address t)
      (taken : (class : ℕ) × (index : ℕ) × (class_for (part_words (cells_of shape) part) ≡ Some class) × TakesBlock s.pages class (address / 2048) index t.pages)
      (here : part < 64 → get_or spines' part 0 ≡ address) (others : (p : ℕ) → p ≢ part → get_or spines' p 0 ≡ get_or spines p 0) where
    abbrev at' : ℕ → ℕ
    at' p = if p == part then address else m.at p

    at_here : at' part ≡ address
    at_here = let e : (part == part) ≡ true = grind arith in rw e refl

    at_other : (p : ℕ) → p ≢ part → m.at p ≡ at' p
    at_other p d = let e : (p == part) ≡ false = grind arith in rw e refl

    before : (p : ℕ) → p < part → m.at p ≡ at' p
    before p l = at_other p (λ e. absurd (omega arith))

    links : 0 < part → Writes w.between t (at' (spine_of (cells_of shape) part)) (with_cell (record_of w.between (at' (spine_of (cells_of shape) part))) (spine_cell_of (cells_of shape) part) (at' part + 1))
    links l =
        let q = spine_before shape part f l below in
        let e : get_or spines (spine_of (cells_of shape) part) 0 ≡ at' (spine_of (cells_of shape) part) = m.known (spine_of (cells_of shape) part) q.0 q.1 ∙ before (spine_of (cells_of shape) part) q.0 in
        subst (λ b. Writes w.between t b (with_cell (record_of w.between b) (spine_cell_of (cells_of shape) part) (at' part + 1))) e
        (subst (λ z. Writes w.between t (get_or spines (spine_of (cells_of shape) part) 0) (with_cell (record_of w.between (get_or spines (spine_of (cells_of shape) part) 0)) (spine_cell_of (cells_of shape) part) (z + 1))) (sym at_here) (w.linked.written l))

    pub one_more : Made old shape colour id spines' (part + 1) t
    one_more = record {
      at = at';
      known = λ p l few. elim (same_or p part) [
        | inl e ↦ subst (λ k. get_or spines' k 0 ≡ at' k) (sym e) (here (subst (λ k. k < 64) e few) ∙ sym at_here)
        | inr d ↦ others p d ∙ m.known p (omega arith) few ∙ at_other p d
      ];
      making = Part_made part s w.between t (making_at old shape colour id m.at at' f part s (omega arith) before m.making)
          (subst (λ b. Adds s w.between b (new_record b (record { shape = shape; part = part; colour = colour }) id)) (sym at_here) w.added)
          w.linked.root links;
      takes = Part_taken part taken.0 taken.1 s.pages t.pages (taking_at (cells_of shape) m.at at' old.pages part s.pages before m.takes) taken.2
          (subst (λ z. TakesBlock s.pages taken.0 (z / 2048) taken.1 t.pages) (sym at_here) taken.3);
      stands = λ p l. elim (same_or p part) [
        | inl e ↦ subst (λ k. (is_allocated t (at' k) ≡ true) × (length (record_of t (at' k)).cells ≡ part_cells (cells_of shape) k)) (sym e)
            (subst (λ b. (is_allocated t b ≡ true) × (length (record_of t b).cells ≡ part_cells (cells_of shape) part)) (sym at_here) (new_stands s t shape colour id _ part address w))
        | inr d ↦ subst (λ b. (is_allocated t b ≡ true) × (length (record_of t b).cells ≡ part_cells (cells_of shape) p)) (at_other p d) (old_stands s t shape colour id _ part address w (m.at p) p (m.stands p (omega arith)))
      ];
      allocated = λ b h. part_allocated s t shape colour id _ part address w b (m.allocated b h);
    }

pub first_within : (spines spines' : List ℕ) (part address : ℕ) → (part < 64 → get_or spines' part 0 ≡ address) → ((p : ℕ) → p ≢ part → get_or spines' p 0 ≡ get_or spines p 0)
    → get_or spines 0 0 ≤ 2147483648 → address ≤ 2147483648 → get_or spines' 0 0 ≤ 2147483648
first_within spines spines' part address here others first this = elim (same_or 0 part) [
  | inl e ↦ subst (λ z. z ≤ 2147483648) (sym (subst (λ k. get_or spines' k 0 ≡ address) (sym e) (here (omega arith)))) this
  | inr d ↦ subst (λ z. z ≤ 2147483648) (sym (others 0 d)) first
]

-- all parts are made
pub all_made : (old new : Store) (shape : Shape) (colour : Bool) (id : ℕ) (spines : List ℕ) (parts : ℕ) → Made old shape colour id spines parts new → parts ≡ parts_in (cells_of shape) → 0 < parts
    → (at : ℕ → ℕ) × (at 0 ≡ get_or spines 0 0) × MakesObject old shape colour id at new × Takes (cells_of shape) at old.pages (parts_in (cells_of shape)) new.pages
all_made old new shape colour id spines parts m e some = (
  m.at,
  sym (m.known 0 some (omega arith)),
  subst (λ n. Making old (made shape colour id) m.at n new) e m.making,
  subst (λ n. Takes (cells_of shape) m.at old.pages n new.pages) e m.takes,
)

-- an object of one part is made by making that part
pub one_made : (s t : Store) (address : ℕ) (shape : Shape) (colour : Bool) (id : ℕ) → parts_in (cells_of shape) ≡ 1
    → Adds s t address (new_record address (record { shape = shape; part = 0; colour = colour }) id)
    → (class : ℕ) × (index : ℕ) × (class_for (part_words (cells_of shape) 0) ≡ Some class) × TakesBlock s.pages class (address / 2048) index t.pages
    → (at : ℕ → ℕ) × (at 0 ≡ address) × MakesObject s shape colour id at t × Takes (cells_of shape) at s.pages (parts_in (cells_of shape)) t.pages
one_made s t address shape colour id one added taken = (
  λ p. address,
  refl,
  subst (λ n. Making s (made shape colour id) (λ p. address) n t) (sym one) (Part_made 0 s t t Nothing_made added (λ e. refl) (λ l. absurd (omega arith))),
  subst (λ n. Takes (cells_of shape) (λ p. address) s.pages n t.pages) (sym one) (Part_taken 0 taken.0 taken.1 s.pages t.pages Nothing_taken taken.2 taken.3),
)
