-- Word 1 of allocated blocks, and the words that a write of another block leaves.
use Rattle.std.proofs.Common.{◌≡◌, ◌≢◌, ℕ, ◌+◌, ◌*◌, ◌/◌, ◌%◌, ◌<◌, Bool, true, eqb, List, Option, get_or, ap, ◌∙◌, sym, subst, arith, inl, inr}
use Rattle.std.proofs.lemmas.Bool.{cases_eq, eq-eqb, ne_eqb}
use Rattle.heap_model.specs.Header.{Header, HeaderFits, header_word, shape_in, shape_bits, bit_of, recoloured}
use Rattle.heap_model.specs.Pages.{Page}
use Rattle.heap_model.specs.Store.{Store, IsStore, size_at, is_allocated}
use Rattle.headers.proofs.Packed.{header_in-header_word}
use Rattle.headers.proofs.Written.{header_in-recoloured}
use Rattle.pages.proofs.Writing.{WritesBlock}
use Rattle.nodes.specs.Joined.{IsHeader}
use Rattle.nodes.proofs.Places.{allocated_place, apart}

pub packed_header : (h : Header) → HeaderFits h → IsHeader (header_word h)
packed_header h fits = ap header_word (header_in-header_word h fits)

-- the bit of a colour that was read
bit_read : (w : ℕ) → bit_of (eqb (w / 4 % 2) 1) ≡ w / 4 % 2
bit_read w = elim (cases_eq (w / 4 % 2) 1) [
  | inl e ↦ ap bit_of (eq-eqb (w / 4 % 2) 1 e) ∙ sym e
  | inr ne ↦ ap bit_of (ne_eqb (w / 4 % 2) 1 ne) ∙ (let z : 0 ≡ w / 4 % 2 = omega (arith, ne) in z)
]

pub recoloured_header : (w : ℕ) (c : Bool) → IsHeader w → IsHeader (recoloured w c)
recoloured_header w c is =
    let b = bit_read w in
    let word : shape_bits (shape_in w) + 4 * bit_of (eqb (w / 4 % 2) 1) + 4294967296 * (w / 4294967296 % 65536) ≡ w = is in
    ap header_word (header_in-recoloured w c)
    ∙ (let e : shape_bits (shape_in w) + 4 * bit_of c + 4294967296 * (w / 4294967296 % 65536) ≡ recoloured w c = omega (arith, word, b) in e)

-- a write of one allocated block leaves the words of each other
module _ (pages : List (Option Page)) (words new : List ℕ) (whole : IsStore (record { pages = pages; words = words })) (a size : ℕ) (size_is : size_at (record { pages = pages; words = words }) a ≡ size)
    (allocated : is_allocated (record { pages = pages; words = words }) a ≡ true) (w : WritesBlock words new a size) where
  pub word_after : (b : ℕ) → is_allocated (record { pages = pages; words = words }) b ≡ true → b ≢ a → (j : ℕ) → j < size_at (record { pages = pages; words = words }) b → get_or new (b + j) 0 ≡ get_or words (b + j) 0
  word_after b other ne j within =
      let s : Store = record { pages = pages; words = words } in
      elim (apart s a b (allocated_place s a whole allocated) (allocated_place s b whole other) (λ e. ne (sym e))) [
        | inl l ↦ w.above (b + j) (omega (arith, l, size_is))
        | inr r ↦ w.below (b + j) (omega (arith, r, within))
      ]

  pub header_after : IsHeader (get_or new (a + 1) 0) → (b : ℕ) → is_allocated (record { pages = pages; words = words }) b ≡ true → (b ≢ a → IsHeader (get_or words (b + 1) 0)) → IsHeader (get_or new (b + 1) 0)
  header_after here b other was =
      let s : Store = record { pages = pages; words = words } in
      elim (cases_eq b a) [
        | inl e ↦ subst (λ n. IsHeader (get_or new (n + 1) 0)) (sym e) here
        | inr ne ↦ (let low = (allocated_place s b whole other).size in subst IsHeader (sym (word_after b other ne 1 (omega (arith, low)))) (was ne))
      ]
