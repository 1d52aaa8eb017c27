-- The box of a handle: a `Held` is a heap, the configuration that it was made of, its pacer if a plan is kept, and its cycles.
use Rattle.std.specs.Prelude.{◌≡◌, ℕ, ◌<◌, ◌≤◌, Bool, true, false, Option, Some, None, Result, Ok, Err}
use Rattle.heap_model.specs.State.{HeapState}
use Rattle.paced.specs.Pacing.{PacerView, paced_by, Pays}
use Rattle.metronome_c.specs.declared.own_heap.OwnHeap.{OwnHeap}
use Rattle.metronome_c.specs.declared.status.Status.{Status}
use Rattle.metronome_c.specs.declared.status.Status.TheVariants.{AbovePlan}

-- something is done by the heap, and nothing else changes
abbrev pub OnHeap : {A : Type 0} → (HeapState → A → HeapState → Type 0) → OwnHeap → A → OwnHeap → Type 0
OnHeap call h a k = (k ≡ record h { heap = k.heap }) × call h.heap a k.heap

-- words are paid for by a pacer, if there is one: the collector works as much as its plan requires
abbrev pub PaysBy : Option PacerView → OwnHeap → ℕ → OwnHeap → Type 0
PaysBy None old words new = new ≡ old
PaysBy (Some p) old words new = (q : PacerView)
    × (new ≡ record old { heap = new.heap; pacer = Some q; cycles = new.cycles }) × (words ≤ p.counts.plan.cycle_words)
    × Pays (paced_by p old.heap old.cycles) words (paced_by q new.heap new.cycles)

-- words are more than a plan that is kept has for a whole cycle
abbrev pub IsAbove : Option PacerView → ℕ → Type 0
IsAbove None words = ⊥
IsAbove (Some p) words = p.counts.plan.cycle_words < words

-- words are paid for, unless they are more than the plan has for a whole cycle: then nothing is done
abbrev pub PaysHeld : OwnHeap → ℕ → Bool → OwnHeap → Type 0
PaysHeld old words true new = PaysBy old.pacer old words new
PaysHeld old words false new = IsAbove old.pacer words × (new ≡ old)

-- something is done by the heap once words were paid for; if they can't be, that is told, and nothing is done
abbrev pub AfterPaying : {A : Type 0} → ℕ → (HeapState → A → HeapState → Type 0) → OwnHeap → Result A Status → OwnHeap
    → Type 0
AfterPaying words call old (Err why) new = (why ≡ AbovePlan) × PaysHeld old words false new
AfterPaying words call old (Ok a) new = (mid : OwnHeap) × PaysHeld old words true mid × OnHeap call mid a new
