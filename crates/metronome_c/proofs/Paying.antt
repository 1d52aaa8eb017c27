-- Where no plan is kept nothing is paid for.
use Rattle.std.proofs.Common.{◌≡◌, ℕ, true, false, refl}
use Rattle.std.specs.Prelude.{Option, Some, None, is_some}
use Rattle.paced.specs.Pacing.{PacerView}
use Rattle.metronome_c.specs.declared.own_heap.OwnHeap.{OwnHeap}
use Rattle.metronome_c.specs.OwnHeap.{PaysBy, PaysHeld}

by_none : (p : Option PacerView) (h : OwnHeap) (words : ℕ) → is_some p ≡ false → PaysBy p h words h
by_none None h words none = refl
by_none (Some p) h words none = absurd (let z : true ≡ false = none in cc)

pub pays_nothing : (h : OwnHeap) (words : ℕ) → is_some h.pacer ≡ false → PaysHeld h words true h
pays_nothing h words none = by_none h.pacer h words none
