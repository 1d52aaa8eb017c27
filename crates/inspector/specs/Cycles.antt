-- The cycles of a run, with their figures.
use Rattle.std.specs.Prelude.{◌≡◌, ℕ, ◌+◌, ◌-◌, ◌^◌, min, max, true, Bool, if◌then◌else◌, List, [], ◌∷◌, ◌++◌, Option, Some, None, option_map, fold, count_by, sum_by}
use Rattle.heap_model.specs.Event.{Course}
use Rattle.heap_model.specs.Pages.{free_pages}
use Rattle.nodes.specs.Copies.{copies_in}
use Rattle.nodes.specs.declared.nodes.counting.Copies.{Copies}
use Rattle.inspector.specs.declared.cycles.cycle.Cycle.{Cycle}
use Rattle.inspector.specs.declared.cycles.cycle.Sweep.{Sweep}
use Rattle.trace.specs.Steps.{Step}
use Rattle.inspector.specs.Steps.{begins, works, ends_sweep, ends_cycle}
use Rattle.inspector.specs.Made.{makes, blocks_made, entered_since}

-- a number, as far as 64 bits can hold it
abbrev pub counted : ℕ → ℕ
counted n = min n (2 ^ 64 - 1)

-- the moment after the last of the steps that are so, or else an earlier one
abbrev pub after_last : (Step → Bool) → Option Course → List Step → Option Course
after_last is earlier steps = fold (λ last s. if is s then Some s.after else last) earlier steps

-- the copies in the heap at a moment; at the start there are none
abbrev pub copies_at : Option Course → Copies
copies_at None = record { objects = 0; parts = 0; old = 0 }
copies_at (Some r) = copies_in r.heap.store

-- the units that a quantum adds to those of the cycle that it finds running
abbrev pub units_by : Step → ℕ
units_by s = if works s then s.after.heap.units - s.before.heap.units else 0

-- the most units that one of the quanta adds
abbrev pub longest_of : List Step → ℕ
longest_of steps = fold (λ most s. max most (units_by s)) 0 steps

-- the moment when a cycle ends, or the last moment if the cycle is still running
abbrev pub end_of : Step → List Step → Course
end_of s [] = s.after
end_of s (t ∷ later) = if ends_cycle s then s.after else end_of t later

-- The figures of a sweep that ended at this moment, in a cycle that began at the first. It freed all objects that the
-- heap held when the sweep before it ended (`swept`) or that were made since, and that the heap doesn't hold now. When
-- a sweep ends, each block is a main copy's. Since the sweep before, blocks were taken for parts of new objects, and
-- for parts that the cycle before moved by its end (`ended`). Moves change no other figure, so the figures are those of
-- the heap after the quantum in which the sweep ended.
pub record IsSweep (swept ended : Option Course) (first now : Course) (s : Sweep) : Type 0 where
  pub kept : s.kept ≡ (copies_in now.heap.store).objects
  pub made : s.made ≡ count_by makes (entered_since (Some first) now)
  pub freed : s.freed
      ≡ ((copies_at swept).objects + count_by makes (entered_since swept now)) - (copies_in now.heap.store).objects
  pub blocks : s.blocks
      ≡ (((copies_at swept).parts + (copies_at ended).old) + sum_by blocks_made (entered_since swept now))
      - (copies_in now.heap.store).parts
  pub free_before : s.free_before ≡ free_pages first.heap.store.pages
  pub free_after : s.free_after ≡ free_pages now.heap.store.pages

-- the sweep of a cycle, by the first of the later steps that ends it; or none does
abbrev pub SweptBy : (earlier : List Step) (first : Step) (later : List Step) → Option Sweep → Type 0
SweptBy earlier first later None = count_by ends_sweep later ≡ 0
SweptBy earlier first later (Some s) =
    (front : List Step) × (last : Step) × (behind : List Step) × (later ≡ front ++ last ∷ behind)
    × (count_by ends_sweep front ≡ 0) × (ends_sweep last ≡ true)
    × IsSweep (after_last ends_sweep None earlier) (after_last ends_cycle None earlier) first.before last.after s

-- The figures of a cycle that the first step begins, if the later ones begin none: its line, its quanta, its units, the
-- most units of a quantum, its sweep, and, once that has ended, the moved blocks: the heap has an old copy of each.
pub record IsCycle (earlier : List Step) (first : Step) (later : List Step) (c : Cycle) : Type 0 where
  pub line : c.line ≡ first.line
  pub quanta : c.quanta ≡ counted (count_by works later)
  pub units : c.units ≡ (end_of first later).heap.units
  pub longest : c.longest ≡ longest_of later
  pub sweep : SweptBy earlier first later c.sweep
  pub moved : c.moved ≡ option_map (λ s. (copies_in (end_of first later).heap.store).old) c.sweep

-- These are the cycles of steps, one for each beginning.
pub data AreCycles : List Step → List Cycle → Type 0 where
  No_cycle : (steps : List Step) → count_by begins steps ≡ 0 → AreCycles steps []
  One_cycle_more : (earlier : List Step) (cycles : List Cycle) (first : Step) (later : List Step) (c : Cycle)
      → AreCycles earlier cycles → begins first ≡ true → count_by begins later ≡ 0
      → IsCycle earlier first later c → AreCycles (earlier ++ first ∷ later) (cycles ++ c ∷ [])
