-- The counts of blocks, by the cells of their objects' shapes.
use Rattle.std.proofs.Common.{◌≡◌, ℕ, ◌+◌, ◌*◌, ◌≤◌, ◌==◌, Bool, true, false, if◌then◌else◌, length, Some, None, ap, ◌∙◌, sym, subst, refl, arith}
use Rattle.std.proofs.lemmas.Bool.{ne_eqb}
use Rattle.std.specs.Prelude.{unwrap_or, Result, Ok, Err, OnOk}
use Rattle.std.specs.BTreeMap.{IsOrdered, IsEmpty, get}
use Rattle.std.specs.Cmp.{both_tied, unsigned_ties}
use Rattle.std.specs.Ordering.{is_eq, nat_cmp}
use Rattle.graph_heap.specs.Shape.{ref_cells, word_cells}
use Rattle.graph_heap.specs.declared.command.Shape.{Shape}
use Rattle.heap_model.specs.Pages.{page_at}
use Rattle.heap_model.specs.Store.{Store, size_in}
use Rattle.nodes.specs.Seen.{block_view}
use Rattle.nodes.specs.declared.nodes.seeing.BlockView.{BlockView}
use Rattle.inspector.specs.declared.shapes.counting.Counted.{Counted}
use Rattle.inspector.specs.declared.shapes.held.Cells.{Cells}
use Rattle.inspector.specs.declared.shapes.held.Held.{Held}
use Rattle.inspector.specs.Shapes.{any_shape, both, cells_of, cells_order, has_cells, held_at, held_by, held_of, nothing, places_on, row_by, AreRows}
use Rattle.inspector.specs.Counted.{IsOfBlocks, IsCounted, held_before}
use Rattle.inspector.proofs.ShapeSums.{both_none, before_first, before_next, before_page, before_end, main_held, of_before, of_first, of_more, nothing_held}

-- the cells of a shape are those that an object of it has
pub same_test : (shape : Shape) (c : Cells) → has_cells c shape ≡ is_eq (cells_order (cells_of shape) c)
same_test shape c = both_tied (ref_cells shape == c.refs) (word_cells shape == c.words) (nat_cmp (ref_cells shape) c.refs) (nat_cmp (word_cells shape) c.words) (unsigned_ties (ref_cells shape) c.refs) (unsigned_ties (word_cells shape) c.words)

-- what a row says
module _ (h : Held) where
  -- what is held of a shape, by its row
  pub row_held : (m : ℕ) → IsOfBlocks h m → unwrap_or (row_by h) nothing ≡ h
  row_held m w = by (h.parts == 0) refl
    where
      by : (b : Bool) → (h.parts == 0) ≡ b → unwrap_or (row_by h) nothing ≡ h
      by true e = ap (λ o. unwrap_or o nothing) (ap (λ (b : Bool). if b then None else Some h) e) ∙ nothing_held h m w (grind arith)
      by false e = ap (λ o. unwrap_or o nothing) (ap (λ (b : Bool). if b then None else Some h) e)

  -- with a part more there is a row
  pub row_more : (size : ℕ) (v : BlockView) → Some (both h (held_by size v)) ≡ row_by (both h (held_by size v))
  row_more size v = sym (ap (λ (b : Bool). if b then None else Some (both h (held_by size v))) (ne_eqb (h.parts + 1) 0 (omega arith)))

module _ (s : Store) (k index : ℕ) (old : Counted) (so : IsCounted s k index old) where
  module _ (size : ℕ) (is : size ≡ size_in (page_at s.pages k)) (small : size ≤ 256) where
    few_more : (these : Shape → Bool) → IsOfBlocks (held_before these s k (index + 1)) (512 * k + (index + 1))
    few_more these = of_more (held_before these s k (index + 1)) (512 * k + index + 1) (512 * k + (index + 1)) (of_before these s k index size is (512 * k + index) small (so.few these)) (omega arith)

    -- the next block has no main copy
    pub counted_none : ((these : Shape → Bool) → held_at these s k index ≡ nothing) → IsCounted s k (index + 1) old
    counted_none none = record {
      ordered = so.ordered;
      each = λ c. so.each c ∙ ap row_by (stays (has_cells c));
      all = so.all ∙ stays any_shape;
      few = few_more;
    }
      where
        stays : (these : Shape → Bool) → held_before these s k index ≡ held_before these s k (index + 1)
        stays these = sym (before_next these s k index ∙ ap (both (held_before these s k index)) (none these) ∙ both_none (held_before these s k index))

    -- it has one
    module _ (v : BlockView) (seen : Some v ≡ block_view s k index) (main : v.is_old ≡ false) (new : Counted) (ordered : IsOrdered cells_order new.each)
        (each : (c : Cells) → get cells_order new.each c ≡ (if is_eq (cells_order (cells_of v.shape) c) then Some (both (unwrap_or (get cells_order old.each c) nothing) (held_by size v)) else get cells_order old.each c))
        (all : new.all ≡ both old.all (held_by size v)) where
      now : (these : Shape → Bool) → held_before these s k (index + 1) ≡ both (held_before these s k index) (if these v.shape then held_by size v else nothing)
      now these = before_next these s k index ∙ ap (both (held_before these s k index)) (main_held these s k index size is v seen main)

      each_now : (c : Cells) → get cells_order new.each c ≡ row_by (held_before (has_cells c) s k (index + 1))
      each_now c = each c ∙ by (has_cells c v.shape) refl
        where
          was : Held
          was = held_before (has_cells c) s k index

          with : Bool → Held
          with b = both was (if b then held_by size v else nothing)

          by : (b : Bool) → has_cells c v.shape ≡ b
              → (if is_eq (cells_order (cells_of v.shape) c) then Some (both (unwrap_or (get cells_order old.each c) nothing) (held_by size v)) else get cells_order old.each c) ≡ row_by (held_before (has_cells c) s k (index + 1))
          by true e =
              ap (λ (b : Bool). if b then Some (both (unwrap_or (get cells_order old.each c) nothing) (held_by size v)) else get cells_order old.each c) (sym (same_test v.shape c) ∙ e)
              ∙ ap (λ o. Some (both (unwrap_or o nothing) (held_by size v))) (so.each c) ∙ ap (λ h. Some (both h (held_by size v))) (row_held was (512 * k + index) (so.few (has_cells c)))
              ∙ row_more was size v ∙ ap row_by (sym (now (has_cells c) ∙ ap with e))
          by false e =
              ap (λ (b : Bool). if b then Some (both (unwrap_or (get cells_order old.each c) nothing) (held_by size v)) else get cells_order old.each c) (sym (same_test v.shape c) ∙ e)
              ∙ so.each c ∙ ap row_by (sym (now (has_cells c) ∙ ap with e ∙ both_none was))

      pub counted_part : IsCounted s k (index + 1) new
      counted_part = record {
        ordered = ordered;
        each = each_now;
        all = all ∙ ap (λ h. both h (held_by size v)) so.all ∙ sym (now any_shape);
        few = few_more;
      }

-- what follows from three that hold of an answer that is no error
pub all_ok : {A E : Type 0} (r : Result A E) (P Q R S : Type 0) → (P → Q → R → S) → OnOk r P → OnOk r Q → OnOk r R → OnOk r S
all_ok (Ok x) P Q R S f p q r = f p q r
all_ok (Err e) P Q R S f p q r = tt

-- a page is counted
pub counted_page : (s : Store) (k index : ℕ) (counted : Counted) → IsCounted s k index counted → index ≡ places_on (page_at s.pages k) → index ≤ 512 → IsCounted s (k + 1) 0 counted
counted_page s k index counted so last few = record {
  ordered = so.ordered;
  each = λ c. so.each c ∙ ap row_by (before_page (has_cells c) s k index last);
  all = so.all ∙ before_page any_shape s k index last;
  few = λ these. subst (λ h. IsOfBlocks h (512 * (k + 1) + 0)) (before_page these s k index last)
      (of_more (held_before these s k index) (512 * k + index) (512 * (k + 1) + 0) (so.few these) (omega (arith, few)));
}

-- no block is counted
pub counted_first : (s : Store) (counted : Counted) → IsOrdered cells_order counted.each → IsEmpty counted.each → counted.all ≡ nothing → IsCounted s 0 0 counted
counted_first s counted ordered empty none = record {
  ordered = ordered;
  each = λ c. empty_get c ∙ ap row_by (sym (before_first (has_cells c) s));
  all = none ∙ sym (before_first any_shape s);
  few = λ these. of_first these s (512 * 0 + 0);
}
  where
    empty_get : (c : Cells) → get cells_order counted.each c ≡ None
    empty_get c = rw empty refl

-- all are
pub counted_rows : (s : Store) (k : ℕ) (counted : Counted) → IsCounted s k 0 counted → k ≡ length s.pages → AreRows s counted.each.entries
counted_rows s k counted so last = record { order = so.ordered; each = λ c. so.each c ∙ ap row_by (before_end (has_cells c) s k last) }

pub counted_all : (s : Store) (k : ℕ) (counted : Counted) → IsCounted s k 0 counted → k ≡ length s.pages → counted.all ≡ held_of any_shape s
counted_all s k counted so last = so.all ∙ before_end any_shape s k last
