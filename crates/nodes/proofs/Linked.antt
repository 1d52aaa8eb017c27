-- The links of allocated blocks, if one is read or written, and if another word of a block is.
use Rattle.std.proofs.Common.{◌≡◌, ◌≢◌, ℕ, ◌+◌, ◌<◌, ◌≤◌, true, false, List, Option, length, set, get_or, ap, ◌∙◌, sym, subst, arith, refl, length-set, inl, inr}
use Rattle.std.proofs.lemmas.Bool.{cases_eq}
use Rattle.std.proofs.lemmas.List.{get_or-set_same, get_or-set_other}
use Rattle.heap_model.specs.Action.{KeepsBlocks}
use Rattle.heap_model.specs.Store.{Store, IsStore, size_at, is_allocated, record_of}
use Rattle.heap_model.proofs.State.{allocated_pages}
use Rattle.headers.proofs.Written.{link_written}
use Rattle.pages.specs.declared.page.PageRow.{PageRow}
use Rattle.pages.specs.Together.{joined}
use Rattle.pages.proofs.Writing.{WritesBlock}
use Rattle.size_classes.specs.Sizes.{size_of}
use Rattle.nodes.specs.Joined.{IsHeader, AreBlockRecords}
use Rattle.nodes.specs.Links.{KeepsLinks, LeavesLinks}
use Rattle.nodes.proofs.Joining.{AllocatedBlock, still_nodes, through}
use Rattle.nodes.proofs.Places.{allocated_place, apart}
use Rattle.nodes.proofs.Writing.{in_words, four, header_inside, others_stay, cell_within, allocated_here, block, later}

module _ (s : Store) (whole : IsStore s) (a : ℕ) (allocated : is_allocated s a ≡ true) where
  -- no other word of the block is the link of an allocated block
  pub no_link : (k : ℕ) → k < size_at s a → k ≢ 3 → (b : ℕ) → is_allocated s b ≡ true → b + 3 ≢ a + k
  no_link k l ne b other e = elim (cases_eq b a) [
    | inl same ↦ ne (omega (arith, e, same))
    | inr d ↦ elim (apart s a b (allocated_place s a whole allocated) (allocated_place s b whole other) (λ z. d (sym z))) [
      | inl x ↦ absurd (omega (arith, x, l, e))
      | inr y ↦ absurd (omega (arith, y, four s whole b other, e))
    ]
  ]

  pub keeps_links : (k v : ℕ) → k < size_at s a → k ≢ 3 → KeepsLinks s (record s { words = set s.words (a + k) v })
  keeps_links k v l ne = record {
    len = omega (arith, length-set s.words (a + k) v);
    each = λ b other. get_or-set_other s.words (a + k) (b + 3) v 0 (no_link k l ne b other);
    fresh = λ b was now. absurd (let z : true ≡ false = sym now ∙ allocated_pages s (record s { words = set s.words (a + k) v }) b refl ∙ was in cc);
  }

  -- its link is written
  here_stays : (v : ℕ) → record_of (record s { words = set s.words (a + 3) v }) a ≡ record_of s a
  unfolding record_of size_at
  here_stays v = link_written s.words a (size_at s a) (four s whole a allocated) (in_words s whole a allocated) v

  pub keeps_blocks : (v : ℕ) → KeepsBlocks s (record s { words = set s.words (a + 3) v })
  unfolding is_allocated
  keeps_blocks v = record {
    allocated = λ b. refl;
    nodes = λ b other. elim (cases_eq b a) [
      | inl e ↦ subst (λ n. record_of (record s { words = set s.words (a + 3) v }) n ≡ record_of s n) (sym e) (here_stays v)
      | inr d ↦ others_stay s whole a allocated 3 v (omega (arith, four s whole a allocated)) b other d
    ];
  }

-- the same, of the value t as which the fields s are seen
module _ (s t : Store) (is : s ≡ t) (whole : IsStore s) (a : ℕ) (allocated : is_allocated t a ≡ true) where
  allocated' : is_allocated s a ≡ true
  allocated' = subst (λ (x : Store). is_allocated x a ≡ true) (sym is) allocated

  pub links_by : (k v : ℕ) (words : List ℕ) → k < size_at s a → k ≢ 3 → words ≡ set s.words (a + k) v → KeepsLinks t (record s { words = words })
  links_by k v words l ne e =
      subst (λ (x : Store). KeepsLinks x (record s { words = words })) is
      (subst (λ w. KeepsLinks s (record s { words = w })) (sym e) (keeps_links s whole a allocated' k v l ne))

  pub blocks_by : (v : ℕ) (words : List ℕ) → words ≡ set s.words (a + 3) v → KeepsBlocks t (record { pages = s.pages; words = words })
  blocks_by v words e =
      subst (λ (x : Store). KeepsBlocks x (record { pages = s.pages; words = words })) is
      (subst (λ w. KeepsBlocks s (record { pages = s.pages; words = w })) (sym e) (keeps_blocks s whole a allocated' v))

  pub linked_by : (v : ℕ) (words : List ℕ) → words ≡ set s.words (a + 3) v → record { pages = s.pages; words = words } ≡ record t { words = set t.words (a + 3) v }
  linked_by v words e =
      ap (λ w. let x : Store = record { pages = s.pages; words = w } in x) e
      ∙ ap (λ (x : Store). record x { words = set x.words (a + 3) v }) is

-- the same, with the records
module _ (rows : List (Option PageRow)) (words : List ℕ) (t : Store) (is : joined rows words ≡ t) (are : AreBlockRecords rows words) (a : ℕ) (allocated : is_allocated t a ≡ true) (new : List ℕ) where
  abbrev here : AllocatedBlock rows words a
  here = block rows words t is are a allocated new

  was_allocated : is_allocated (joined rows words) a ≡ true
  was_allocated = allocated_here rows words t is are a allocated new

  big : 4 ≤ size_at (joined rows words) a
  big = four (joined rows words) are.whole a was_allocated

  pub recoloured_links : (v : ℕ) → new ≡ set words (a + 1) v → KeepsLinks t (joined rows new)
  recoloured_links v e =
      through rows words new are.together a here (later rows words t is are a allocated new 1 v (omega arith) (omega (arith, big)) e) (λ x. KeepsLinks t x)
      (links_by (joined rows words) t is are.whole a allocated 1 v new (omega (arith, big)) (λ z. absurd (omega arith)) e)

  pub rewritten_links : (i v : ℕ) → i < length (record_of t a).cells → new ≡ set words (a + (4 + i)) v → KeepsLinks t (joined rows new)
  rewritten_links i v within e =
      let l = cell_within (joined rows words) are.whole a was_allocated i (subst (λ (x : Store). i < length (record_of x a).cells) (sym is) within) in
      through rows words new are.together a here (later rows words t is are a allocated new (4 + i) v (omega arith) l e) (λ x. KeepsLinks t x)
      (links_by (joined rows words) t is are.whole a allocated (4 + i) v new l (λ z. absurd (omega arith)) e)

  module _ (v : ℕ) (e : new ≡ set words (a + 3) v) where
    link_write : WritesBlock words new a (size_of here.row.class)
    link_write = later rows words t is are a allocated new 3 v (omega arith) (omega (arith, big)) e

    pub linked_nodes : AreBlockRecords rows new
    linked_nodes = still_nodes rows words new are.together a here link_write are was_allocated (subst IsHeader (sym (ap (λ w. get_or w (a + 1) 0) e ∙ get_or-set_other words (a + 3) (a + 1) v 0 (omega arith))) (are.headers a was_allocated))

    -- the link is there, and allocated blocks say what they said
    pub relinked : record {
      linked : joined rows new ≡ record t { words = set t.words (a + 3) v };
      there : get_or new (a + 3) 0 ≡ v;
      kept : KeepsBlocks t (joined rows new);
    }
    relinked = record {
      linked =
          through rows words new are.together a here link_write (λ x. x ≡ record t { words = set t.words (a + 3) v })
          (linked_by (joined rows words) t is are.whole a allocated v new e);
      there = ap (λ w. get_or w (a + 3) 0) e ∙ get_or-set_same words (a + 3) v 0 (header_inside _ t is are.whole a allocated);
      kept =
          through rows words new are.together a here link_write (λ x. KeepsBlocks t x)
          (blocks_by (joined rows words) t is are.whole a allocated v new e);
    }

-- the records of pages were written, and no word: the same blocks are allocated, with the links that they had
pub left_links : (rows : List (Option PageRow)) (words : List ℕ) (t : Store) → joined rows words ≡ t → (new : Store) → new.words ≡ words → KeepsBlocks t new → LeavesLinks t new
left_links rows words t is new same kept b now = (sym (kept.allocated b) ∙ now, ap (λ w. get_or w (b + 3) 0) (same ∙ ap (λ (x : Store). x.words) is))
