-- The state of a heap that stays while blocks are added to it.
use Rattle.std.specs.Prelude.{◌≡◌, ℕ, ◌<◌, true}
use Rattle.heap_model.specs.Core.{Heap}

-- what is allocated in one heap says the same in another
pub record SaysSame (h h' : Heap) : Type 0 where
  pub forward : (x : ℕ) → h.allocated x ≡ true → h'.forward x ≡ h.forward x
  pub name : (x : ℕ) → h.allocated x ≡ true → h'.name x ≡ h.name x
  pub width : (x : ℕ) → h.allocated x ≡ true → h'.width x ≡ h.width x
  pub words : (x : ℕ) → h.allocated x ≡ true → h'.words x ≡ h.words x
  pub shape : (x : ℕ) → h.allocated x ≡ true → h'.shape x ≡ h.shape x
  pub marked : (x : ℕ) → h.allocated x ≡ true → h'.marked x ≡ h.marked x
  pub cell : (x i : ℕ) → h.allocated x ≡ true → i < h.width x → h'.cell x i ≡ h.cell x i

-- what is allocated in one heap is allocated in another, and says the same there
pub record Stays (h h' : Heap) : Type 0 where
  pub allocated : (x : ℕ) → h.allocated x ≡ true → h'.allocated x ≡ true
  pub says : SaysSame h h'
