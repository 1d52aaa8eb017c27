-- How the objects of a graph heap are cut into parts: the part graph of a graph heap.
use Rattle.std.specs.Prelude.{ℕ, ◌+◌, ◌-◌, List, [], if◌then◌else◌, nat_lt, length, slice_index, take, drop, min}
use Rattle.graph_heap.specs.Graph.{Object, Graph, object_of}
use Rattle.size_classes.specs.declared.parts.TheConstants.{PART_CELLS}
use Rattle.size_classes.specs.Parts.{PartContents, parts_in, run_of}
use Rattle.heap_model.specs.Core.{Name, null, PartGraph}

-- how many parts an object has
unfoldable pub count_of : Object → ℕ
count_of o = parts_in (length o.refs + length o.words)

-- how many reference cells a part has, of an object with this many: all cells of a spine, and of a piece
-- its share, as references stand first
abbrev pub width_by : PartContents → ℕ → ℕ
width_by r refs = if r.spine then r.count else min r.count (refs - r.first)

-- how many reference cells a part has, of an object with this many reference and word cells
unfoldable pub width_in : ℕ → ℕ → ℕ → ℕ
width_in refs words part = width_by (run_of (refs + words) part) refs

-- how many reference cells a part of an object has
abbrev pub width_of : Object → ℕ → ℕ
width_of o part = width_in (length o.refs) (length o.words) part

-- an object is named by its part 0, and null by identity 0
abbrev pub name_of : ℕ → Name
name_of identity = record { identity = identity; part = 0 }

-- the part that a reference cell of a part names: in a spine a part, in a piece one of the object's references
abbrev pub target_by : PartContents → ℕ → List ℕ → ℕ → Name
target_by r identity refs i = if nat_lt i r.count
    then (if r.spine then record { identity = identity; part = r.first + i }
    else name_of (slice_index refs (r.first + i))) else null

-- the part that a reference cell of an object's part names
unfoldable pub target_of : ℕ → Object → ℕ → ℕ → Name
target_of identity o part i = target_by (run_of (length o.refs + length o.words) part) identity o.refs i

-- the word cells of a part
abbrev pub words_by : PartContents → List ℕ → List ℕ
words_by r words = if r.spine then [] else take PART_CELLS (drop r.first words)

-- the word cells of an object's part
unfoldable pub words_of : Object → ℕ → List ℕ
words_of o part = words_by (run_of (length o.refs + length o.words) part) o.words

-- the graph heap as a graph of parts
abbrev pub view : Graph → PartGraph
view g = record {
  next = length g.objects + 1;
  root = λ j. name_of (slice_index g.roots j);
  count = λ k. count_of (object_of g.objects k);
  width = λ n. width_of (object_of g.objects n.identity) n.part;
  target = λ n i. target_of n.identity (object_of g.objects n.identity) n.part i;
  words = λ n. words_of (object_of g.objects n.identity) n.part;
  shape = λ n. (object_of g.objects n.identity).shape;
}
