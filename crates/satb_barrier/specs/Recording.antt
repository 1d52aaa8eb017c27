-- The buffers after a record.
use Rattle.std.specs.Prelude.{◌==◌, ℕ, Bool, ◌&&◌, not, if◌then◌else◌, List, [], ◌∷◌, ◌++◌, length}
use Rattle.heap_model.specs.State.{seen}
use Rattle.heap_model.specs.Written.{records}
use Rattle.nodes.specs.Grey.{MutatorRecords, buffer_of, with_buffer}
use Rattle.nodes.specs.HeapFields.{state_of}
use Rattle.nodes.specs.declared.heap_fields.HeapFields.{HeapFields}

-- a buffer with room for another record: the 64 records of a full one went into the list
abbrev pub with_room : List ℕ → List ℕ
with_room items = if length items == 64 then [] else items

-- whether the main copy of an overwritten reference is shaded: in roots and marking, if it isn't marked yet
abbrev pub shades : HeapFields → ℕ → Bool
shades a reference = records a.phase && not ((seen (state_of a)).marked ((seen (state_of a)).forward reference))

-- the buffers after an overwritten reference was recorded: a main copy that is shaded is in the mutator's own
abbrev pub buffers_after : HeapFields → ℕ → ℕ → List MutatorRecords
buffers_after a mutator reference =
    if shades a reference then (with_buffer a.grey mutator
    (with_room (buffer_of a.grey mutator) ++ (seen (state_of a)).forward reference ∷ [])).buffers
    else a.grey.buffers
