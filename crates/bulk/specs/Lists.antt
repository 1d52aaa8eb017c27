-- The lists of commands that bulk calls do.
use Rattle.std.specs.Prelude.{ℕ, ◌+◌, ◌-◌, ◌^◌, min, ◌==◌, if◌then◌else◌, List, [], ◌∷◌, ◌++◌, map, length, slice_index}
use Rattle.std.specs.List.{flat_map, range_with_len}
use Rattle.graph_heap.specs.declared.command.Shape.{Shape}
use Rattle.graph_heap.specs.declared.command.Command.{Command}
use Rattle.graph_heap.specs.declared.command.Command.TheVariants as commands

-- the numbers below n, in rising order
abbrev pub upto : ℕ → List ℕ
upto n = range_with_len 0 n

-- the number i after the first, or 2^32 - 1, if that is less: no slot and no cell has that number
abbrev pub number_after : ℕ → ℕ → ℕ
number_after first i = min (first + i) (2 ^ 32 - 1)

-- Sets each of `count` slots, from the first on, to null.
abbrev pub clears : ℕ → ℕ → List Command
clears first count = map (λ i. commands.Clear (number_after first i)) (upto count)

-- Copies slot src into slot dst, and then sets src to null. A slot that is moved into itself keeps its reference.
abbrev pub moves : ℕ → ℕ → List Command
moves dst src = commands.Copy dst src ∷ (if dst == src then [] else commands.Clear src ∷ [])

-- Reads each of `count` word cells of an object, from the first on.
abbrev pub gets : ℕ → ℕ → ℕ → List Command
gets obj first count = map (λ i. commands.Get obj (number_after first i)) (upto count)

-- Writes words into as many word cells of an object, from the first on.
abbrev pub puts : ℕ → ℕ → List ℕ → List Command
puts obj first words = map (λ i. commands.Put obj (number_after first i) (slice_index words i)) (upto (length words))

-- Stores the references in these slots in the first reference cells of an object.
abbrev pub stores : ℕ → List ℕ → List Command
stores obj slots = map (λ i. commands.Store obj i (slice_index slots i)) (upto (length slots))

-- Copies `count` reference cells of an object, from the first on, into as many of another object, or of the same. Each is
-- loaded into slot through, and stored from there, one after the other.
abbrev pub copies : ℕ → ℕ → ℕ → ℕ → ℕ → ℕ → List Command
copies through from from_first to to_first count = flat_map
    (λ i. commands.Load through from (number_after from_first i) ∷ commands.Store to (number_after to_first i) through ∷ [])
    (upto count)

-- Writes the first reference cells and the first word cells of an object.
abbrev pub fills : ℕ → List ℕ → List ℕ → List Command
fills obj refs words = stores obj refs ++ puts obj 0 words

-- Makes an object, and fills its first cells.
abbrev pub makes : ℕ → Shape → List ℕ → List ℕ → List Command
makes dst shape refs words = commands.New dst shape ∷ fills dst refs words
