-- A block that is moved keeps the invariant.
use Rattle.std.proofs.Common.{◌≡◌, ℕ, ◌≢◌, Bool, true, false, arith}
use Rattle.heap_model.specs.Core.{Name, PartGraph, Heap, Kept, Base, Resting, Moving, Left}
use Rattle.heap_model.proofs.Core.Edits.{move, moved}

-- block x, which is a main copy on an evacuating page, is copied to the free block y of a target page
move_forward : (h : Heap) (at : Name → ℕ) (is_target : ℕ → Bool) (x y : ℕ) → Moving h is_target → h.forward x ≡ x → is_target x ≡ false → h.allocated y ≡ false
    → (z : ℕ) (t : Name) → h.allocated z ≡ true → h.forward z ≡ at t → (move h x y).forward z ≡ moved at x y t
move_forward h at is_target x y m main evacuating free z t allocated f = grind arith

move_cell : (h : Heap) (g s : PartGraph) (at : Name → ℕ) (x y : ℕ) → Base h g s at → h.allocated y ≡ false → (n : Name) (i : ℕ) → Kept h.roots s g n → (move h x y).cell (moved at x y n) i ≡ h.cell (at n) i
move_cell h g s at x y b free n i k = let e = b.allocated n k in grind arith

pub move_base : (h : Heap) (g s : PartGraph) (at : Name → ℕ) (is_target : ℕ → Bool) (x y : ℕ) → Base h g s at → Resting h g s at → Moving h is_target
    → h.allocated x ≡ true → h.forward x ≡ x → x ≢ 0 → is_target x ≡ false → h.allocated y ≡ false → Base (move h x y) g s (moved at x y)
move_base h g s at is_target x y b r m allocated main some evacuating free = grind (arith, move_cell, move_forward)

pub move_resting : (h : Heap) (g s : PartGraph) (at : Name → ℕ) (is_target : ℕ → Bool) (x y : ℕ) → Base h g s at → Resting h g s at → Moving h is_target
    → h.allocated x ≡ true → h.forward x ≡ x → x ≢ 0 → is_target x ≡ false → h.allocated y ≡ false → Resting (move h x y) g s (moved at x y)
move_resting h g s at is_target x y b r m allocated main some evacuating free = grind arith

pub move_moving : (h : Heap) (is_target : ℕ → Bool) (x y : ℕ) → Moving h is_target
    → h.allocated x ≡ true → h.forward x ≡ x → is_target x ≡ false → h.allocated y ≡ false → (more : ℕ → Bool) → more y ≡ true → ((z : ℕ) → is_target z ≡ true → more z ≡ true) → Moving (move h x y) more
move_moving h is_target x y m allocated main evacuating free more e up = grind arith

pub move_left : (h : Heap) (left : ℕ → Bool) (x y : ℕ) → Left h left → h.allocated x ≡ true → h.allocated y ≡ false → (more : ℕ → Bool) → more x ≡ true → ((z : ℕ) → left z ≡ true → more z ≡ true) → Left (move h x y) more
move_left h left x y m allocated free more e up = grind arith
