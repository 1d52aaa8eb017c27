-- The graph heap: objects that never move and never go, and the roots.
use Rattle.std.specs.Prelude.{ℕ, zero, suc, ◌+◌, ◌-◌, ◌*◌, ◌==◌, Bool, true, false, if◌then◌else◌, List, [], ◌∷◌, ◌++◌, replicate, slice_set, slice_index_or}
use Rattle.graph_heap.specs.declared.command.Shape.{Shape}
use Rattle.graph_heap.specs.declared.command.Shape.TheVariants.{Plain}
use Rattle.graph_heap.specs.declared.command.Limits.{Limits}
use Rattle.graph_heap.specs.declared.command.Change.{Change}
use Rattle.graph_heap.specs.declared.command.Change.TheVariants as changes
use Rattle.graph_heap.specs.Shape.{ref_cells, word_cells}

-- an object: its shape, its reference cells (identities, 0 for null) and its word cells
pub record Object : Type 0 where
  pub shape : Shape
  pub refs : List ℕ
  pub words : List ℕ

-- A graph heap. The object of identity n stands at place n - 1, so the next identity is one more than the number of
-- objects. The roots are one row of identities, 0 for null: slot s of mutator m at m * slots + s, and then the statics.
-- Mutator m is live if the row `live` says so.
pub record Graph : Type 0 where
  pub limits : Limits
  pub objects : List Object
  pub roots : List ℕ
  pub live : List Bool

-- how many roots there are
abbrev pub root_cells : Limits → ℕ
root_cells l = l.mutators * l.slots + l.statics

-- which mutators are live at first: the numbers below a limit
abbrev pub live_first : Limits → List Bool
live_first l = replicate l.live true ++ replicate (l.mutators - l.live) false

-- the graph heap from which each history starts: no object, null roots, and the first mutators live
abbrev pub opening : Limits → Graph
opening l = record { limits = l; objects = []; roots = replicate (root_cells l) 0; live = live_first l }

-- a row of roots with null in n of them, from one on
abbrev pub nulled : List ℕ → ℕ → ℕ → List ℕ
nulled roots first zero = roots
nulled roots first (suc n) = slice_set (nulled roots first n) (first + n) 0

-- the place at which the slots of a mutator begin in the row of roots
abbrev pub first_slot : Limits → ℕ → ℕ
first_slot l m = m * l.slots

-- a new object has null references and zero words
abbrev pub new_object : Shape → Object
new_object shape = record {
  shape = shape;
  refs = replicate (ref_cells shape) 0;
  words = replicate (word_cells shape) 0;
}

-- null, and an identity that isn't given yet, read as an object without cells
abbrev pub no_object : Object
no_object = record { shape = Plain 0 0; refs = []; words = [] }

-- the object of an identity
unfoldable pub object_of : List Object → ℕ → Object
object_of objects id = if id == 0 then no_object else slice_index_or objects (id - 1) no_object

-- an object with another value in one reference cell
abbrev pub with_ref : Object → ℕ → ℕ → Object
with_ref o i v = record { shape = o.shape; refs = slice_set o.refs i v; words = o.words }

-- an object with another value in one word cell
abbrev pub with_word : Object → ℕ → ℕ → Object
with_word o i v = record { shape = o.shape; refs = o.refs; words = slice_set o.words i v }

-- the objects with another object in the place of one
abbrev pub put_object : List Object → ℕ → Object → List Object
put_object objects id o = if id == 0 then objects else slice_set objects (id - 1) o

-- the objects with another value in a reference cell of one
abbrev pub put_ref : List Object → ℕ → ℕ → ℕ → List Object
put_ref objects id i v = put_object objects id (with_ref (object_of objects id) i v)

-- the objects with another value in a word cell of one
abbrev pub put_word : List Object → ℕ → ℕ → ℕ → List Object
put_word objects id i v = put_object objects id (with_word (object_of objects id) i v)

-- the graph heap after a change
abbrev pub changed : Graph → Change → Graph
changed g changes.Nothing = g
changed g (changes.Root cell id) = record g { roots = slice_set g.roots cell id }
changed g (changes.Ref id i value) = record g { objects = put_ref g.objects id i value }
changed g (changes.Word id i value) = record g { objects = put_word g.objects id i value }
changed g (changes.New cell id shape) =
    record g { objects = g.objects ++ new_object shape ∷ []; roots = slice_set g.roots cell id }
changed g (changes.Join m) = record g { live = slice_set g.live m true }
changed g (changes.Leave m) = record g {
  roots = nulled g.roots (first_slot g.limits m) g.limits.slots;
  live = slice_set g.live m false;
}
