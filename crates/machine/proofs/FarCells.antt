-- A word cell of an array, found from how many the array has.
use Rattle.std.proofs.Common.{◌≡◌, ℕ, ◌+◌, ◌<◌, ◌≤◌, true, Ok, ◌∙◌, ap, sym, subst, arith}
use Rattle.std.specs.Prelude.{nat_lt}
use Rattle.std.proofs.lemmas.Bool.{ltb-true}
use Rattle.graph_heap.specs.declared.command.Shape.{Shape}
use Rattle.graph_heap.specs.declared.command.Shape.TheVariants as shapes
use Rattle.graph_heap.specs.declared.command.TheConstants.{ARRAY_CELLS}
use Rattle.graph_heap.specs.Shape.{fits}
use Rattle.size_classes.specs.Parts.{cells_of, part_in, column_in}
use Rattle.heap_model.specs.Store.{Store}
use Rattle.heap_model.specs.Reading.{block_of}
use Rattle.arraylets.specs.declared.position.CellPosition.{CellPosition}
use Rattle.arraylets.specs.declared.cells.Cell.{Cell}
use Rattle.machine.specs.declared.plan.Kind.{Kind}
use Rattle.machine.specs.declared.plan.Kind.TheVariants as kinds
use Rattle.machine.specs.Reading.{CanReach, position_in}
use Rattle.machine.proofs.Cells.{no_refs_in, place_parts}

-- facts about a place in an array of n cells
pub record StandsIn (s : Shape) (n i : ℕ) (place : CellPosition) : Type 0 where
  pub few : n ≤ ARRAY_CELLS
  pub below : i < n
  pub cells : cells_of s ≡ n
  pub part : place.part ≡ part_in n i
  pub column : place.cell ≡ column_in i

few_words : (n : ℕ) → fits (shapes.WordArray n) ≡ true → n ≤ ARRAY_CELLS
few_words n fit = grind arith

in_words : (kind : Kind) (n i : ℕ) (place : CellPosition) → fits (shapes.WordArray n) ≡ true → position_in kind (shapes.WordArray n) i ≡ Ok place → StandsIn (shapes.WordArray n) n i place
in_words kinds.Ref n i place fit at = absurd (cc)
in_words kinds.Word n i place fit at =
    let p = place_parts true (nat_lt i n) _ place at in
    let e : 0 + n ≡ n = omega arith in
    let last : 0 + column_in i ≡ column_in i = omega arith in
    record {
      few = few_words n fit;
      below = ltb-true i n p.1;
      cells = e;
      part = sym (ap (λ (x : CellPosition). x.part) p.2) ∙ ap (λ m. part_in m i) e;
      column = sym (ap (λ (x : CellPosition). x.cell) p.2) ∙ ap (λ m. m + column_in i) (no_refs_in n i) ∙ last;
    }

pub stands_in : (kind : Kind) (s : Shape) (n i : ℕ) (place : CellPosition) → s ≡ shapes.WordArray n → fits s ≡ true → position_in kind s i ≡ Ok place → StandsIn s n i place
stands_in kind s n i place e fit at =
    subst (λ x. StandsIn x n i place) (sym e) (in_words kind n i place (subst (λ x. fits x ≡ true) e fit) (subst (λ x. position_in kind x i ≡ Ok place) e at))

module _ (t : Store) (block : ℕ) (s : Shape) (n i : ℕ) (place : CellPosition) (w : StandsIn s n i place) where
  pub reaches_far : CanReach t (cells_of s) block place.part → CanReach t n block (part_in n i)
  reaches_far r = subst (λ m. CanReach t m block (part_in n i)) w.cells (subst (CanReach t (cells_of s) block) w.part r)

  abbrev cell_by : ℕ → ℕ → ℕ → Cell
  cell_by m part column = record { block = block_of t m block part; index = column }

  pub same_cell : cell_by (cells_of s) place.part place.cell ≡ cell_by n (part_in n i) (column_in i)
  same_cell = ap (λ m. cell_by m place.part place.cell) w.cells ∙ ap (λ p. cell_by n p place.cell) w.part ∙ ap (cell_by n (part_in n i)) w.column
