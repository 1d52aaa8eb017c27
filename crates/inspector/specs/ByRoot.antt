-- The report by root: how many objects each root owns, and the words of their blocks.
use Rattle.std.specs.Prelude.{◌≡◌, ℕ, zero, suc, ◌+◌, ◌==◌, nat_eq, Bool, true, if◌then◌else◌, List, [], ◌∷◌, ◌++◌, length, count_by, sum_by, codes, decimal}
use Rattle.std.specs.List.{flat_map}
use Rattle.std.specs.List.Sorted.{IsPermutation, IsSorted}
use Rattle.std.specs.declared.cmp.Ordering.{Ordering}
use Rattle.std.specs.Ordering.{nat_cmp, ordering_then}
use Rattle.graph_heap.specs.declared.command.Limits.{Limits}
use Rattle.graph_heap.specs.Graph.{Graph, object_of}
use Rattle.paced.specs.Pacing.{shape_words}
use Rattle.inspector.specs.declared.by_root.owning.Owned.{Owned}
use Rattle.inspector.specs.declared.by_root.counting.Holding.{Holding}
use Rattle.inspector.specs.declared.by_root.counting.RootRow.{RootRow}
use Rattle.inspector.specs.Nearest.{AreOwned}
use Rattle.inspector.specs.Roots.{root_at, root_name}

-- every root
abbrev pub any_root : ℕ → Bool
any_root root = true

-- the words of the blocks of an object
abbrev pub words_owned : Graph → Owned → ℕ
words_owned g o = shape_words (object_of g.objects o.id).shape

-- the objects that some roots own, and the words of their blocks
abbrev pub held_by : Graph → (ℕ → Bool) → List Owned → Holding
held_by g these owned = record {
  objects = count_by (λ o. these o.root) owned;
  words = sum_by (λ o. if these o.root then words_owned g o else 0) owned;
}

-- a root has a row if it owns an object
abbrev pub row_of : (ℕ → Holding) → ℕ → List RootRow
row_of held root = if (held root).objects == 0 then [] else record { root = root; holding = held root } ∷ []

-- the rows of the first roots
unfoldable pub rows_below : (ℕ → Holding) → ℕ → List RootRow
rows_below held zero = []
rows_below held (suc n) = rows_below held n ++ row_of held n

-- more words come first, and of as many words the root that comes first
abbrev pub row_order : RootRow → RootRow → Ordering
row_order a b = ordering_then (nat_cmp b.holding.words a.holding.words) (nat_cmp a.root b.root)

-- the rows of a number of roots, in their order
abbrev pub AreRows : (ℕ → Holding) → ℕ → List RootRow → Type 0
AreRows held roots rows = IsPermutation (rows_below held roots) rows × IsSorted row_order rows

-- objects and words, with LF (byte 10) after them
abbrev pub holding_text : Holding → List ℕ
holding_text h = codes " objects " ++ (decimal h.objects ++ (codes " words " ++ (decimal h.words ++ codes "\n")))

-- the line of a root
abbrev pub root_line : Limits → RootRow → List ℕ
root_line l row = root_name (root_at l row.root) ++ holding_text row.holding

-- the line of all roots together
abbrev pub all_line : Holding → List ℕ
all_line h = codes "all" ++ holding_text h

-- the rows of a graph heap's roots, and their sums
pub record AreRootRows (g : Graph) (rows : List RootRow) (all : Holding) : Type 0 where
  pub owned : List Owned
  pub are_owned : AreOwned g owned
  pub are_rows : AreRows (λ root. held_by g (nat_eq root) owned) (length g.roots) rows
  pub sums : all ≡ held_by g any_root owned

-- the text of a report by root: a line for each row, and their sums
abbrev pub RootsTold : Graph → List ℕ → Type 0
RootsTold g text = (rows : List RootRow) × (all : Holding) × AreRootRows g rows all
    × (text ≡ flat_map (root_line g.limits) rows ++ all_line all)
