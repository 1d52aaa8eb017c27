-- The work that is left in marking; each step takes as much of it as the step costs.
use Rattle.std.proofs.Common.{◌≡◌, ℕ, zero, suc, ◌+◌, ◌<◌, ◌≤◌, ◌≢◌, inl, inr, true, false, List, ◌∷◌, ◌++◌, arith, ap, subst, sym, ◌∙◌, ◌==◌, ◌||◌}
use Rattle.std.proofs.lemmas.Bool.{cases_eq, cases_Bool}
use Rattle.heap_model.specs.Core.{Heap}
use Rattle.heap_model.specs.Collector.{Collector, contains, done_by, done_of, Greys}
use Rattle.heap_model.proofs.Collector.Barrier.{made_done}
use Rattle.heap_model.specs.Units.{total, work, gone}
use Rattle.heap_model.proofs.Core.NewParts.{Parts, Makes}
use Rattle.heap_model.proofs.Core.Edits.{move}
use Rattle.heap_model.proofs.Collector.Acts.{shaded, cell_scanned}
use Rattle.heap_model.proofs.Collector.Coherence.{shaded_done, cell_done, header_done, contains-shaded, contains-middle}

-- blocks of some words each lie apart, in the first `words` words (references are addresses and one)
pub record LieApart (h : Heap) (size : ℕ → ℕ) (words : ℕ) : Type 0 where
  pub fits : (x : ℕ) → h.allocated x ≡ true → 0 < x → h.width x + 4 ≤ size x
  pub inside : (x : ℕ) → h.allocated x ≡ true → 0 < x → x + size x ≤ words + 1
  pub apart : (x y : ℕ) → h.allocated x ≡ true → h.allocated y ≡ true → 0 < x → x < y → x + size x ≤ y

pub total_le : (f g : ℕ → ℕ) (n : ℕ) → ((x : ℕ) → x < n → f x ≤ g x) → total f n ≤ total g n
unfolding total
total_le f g zero h = omega arith
total_le f g (suc n) h = let a = total_le f g n (λ x l. h x (omega arith)) in let b = h n (omega arith) in omega arith

-- one more at one place is one more in all
pub total_more : (f g : ℕ → ℕ) (n y : ℕ) → ((x : ℕ) → x < n → f x ≤ g x) → y < n → f y + 1 ≤ g y → total f n + 1 ≤ total g n
unfolding total
total_more f g zero y h l m = absurd (omega arith)
total_more f g (suc n) y h l m =
    let c = h n (omega arith) in
    elim (cases_eq y n) [
      | inl e ↦ (let a = total_le f g n (λ x k. h x (omega arith)) in let b : f n + 1 ≤ g n = subst (λ z. f z + 1 ≤ g z) e m in omega arith)
      | inr ne ↦ (let a = total_more f g n y (λ x k. h x (omega arith)) (omega arith) m in omega arith)
    ]

-- what lies apart adds up to no more than there is
pub total_apart : (f : ℕ → ℕ) (n end : ℕ) → ((x : ℕ) → x < n → 0 < f x → x + f x ≤ end) → ((x y : ℕ) → x < y → y < n → 0 < f x → 0 < f y → x + f x ≤ y) → total f n ≤ end
unfolding total
total_apart f zero end inside apart = omega arith
total_apart f (suc n) end inside apart = elim (cases_eq (f n) 0) [
  | inl e ↦ (let a = total_apart f n end (λ x l p. inside x (omega arith) p) (λ x y l k p q. apart x y l (omega arith) p q) in omega arith)
  | inr ne ↦ (let some : 0 < f n = omega arith in let a = total_apart f n n (λ x l p. apart x n l (omega arith) p some) (λ x y l k p q. apart x y l (omega arith) p q) in let b = inside n (omega arith) some in omega arith)
]

done_width : (m : Collector) (x : ℕ) → Greys m → done_of m x ≤ m.heap.width x
unfolding done_by
done_width m x w = let c = w.column in grind arith

work_allocated : (m : Collector) (x : ℕ) → 0 < work m x → (m.heap.allocated x ≡ true) × (0 < x)
unfolding work
work_allocated m x p = grind arith

work_width : (m : Collector) (x : ℕ) → Greys m → work m x ≤ m.heap.width x + 1
unfolding work
work_width m x w = let d = done_width m x w in grind arith

-- marking spends no more than the words there are
pub work_bound : (m : Collector) (size : ℕ → ℕ) (words : ℕ) → Greys m → LieApart m.heap size words → total (work m) (words + 1) ≤ words + 1
work_bound m size words w l = total_apart (work m) (words + 1) (words + 1)
    (λ x k p. let h = work_allocated m x p in let a = l.fits x h.0 h.1 in let b = l.inside x h.0 h.1 in let c = work_width m x w in omega arith)
    (λ x y k n p q. let h = work_allocated m x p in let i = work_allocated m y q in let a = l.fits x h.0 h.1 in let b = l.apart x y h.0 i.0 h.1 k in let c = work_width m x w in omega arith)

-- shading takes nothing away, and adds nothing
pub shaded_work : (m : Collector) (x y : ℕ) → work (shaded m x) y ≡ work m y
unfolding work
shaded_work m x y = let d = shaded_done m x y in let e = contains-shaded (m.heap.marked x) m.grey x y in grind arith

-- a header or a cell that is scanned is one unit more of work
cell_work : (m : Collector) (y : ℕ) → Greys m → m.column < m.heap.width m.scanning → work m y ≤ work (cell_scanned m) y
unfolding work
cell_work m y w l =
    let x = m.heap.forward (m.heap.cell m.scanning m.column) in
    let d = cell_done m x y w l in
    let e = contains-shaded (m.heap.marked x) m.grey x y in
    let a = w.scanning_apart in
    grind arith

cell_work_here : (m : Collector) → Greys m → m.column < m.heap.width m.scanning → m.scanning ≢ 0 → work m m.scanning + 1 ≤ work (cell_scanned m) m.scanning
unfolding work
cell_work_here m w l some =
    let x = m.heap.forward (m.heap.cell m.scanning m.column) in
    let d = cell_done m x m.scanning w l in
    let e = contains-shaded (m.heap.marked x) m.grey x m.scanning in
    let a = w.scanning_apart in
    let b = w.scanning_marked in
    let c = w.scanning_allocated in
    grind arith

pub cell_units : (m : Collector) (words : ℕ) → Greys m → m.heap.width 0 ≡ 0 → m.column < m.heap.width m.scanning → m.scanning < words + 1 → total (work m) (words + 1) + 1 ≤ total (work (cell_scanned m)) (words + 1)
cell_units m words w none l i = total_more (work m) (work (cell_scanned m)) (words + 1) m.scanning (λ x k. cell_work m x w l) i (cell_work_here m w l (λ z. let e = ap m.heap.width z in omega arith))

header_work : (m : Collector) (front back : List ℕ) (x y : ℕ) → Greys m → m.column ≡ m.heap.width m.scanning → m.grey ≡ front ++ x ∷ back → contains (front ++ back) x ≡ false → work m y ≤ work (record m { grey = front ++ back; scanning = x; column = 0 }) y
unfolding work
header_work m front back x y w f e n =
    let d = header_done m front back x y w f e n in
    let c : contains m.grey y ≡ ((x == y) || contains (front ++ back) y) = ap (λ z. contains z y) e ∙ contains-middle front back x y in
    grind arith

header_work_here : (m : Collector) (front back : List ℕ) (x : ℕ) → Greys m → m.grey ≡ front ++ x ∷ back → contains (front ++ back) x ≡ false → x ≢ 0 → work m x + 1 ≤ work (record m { grey = front ++ back; scanning = x; column = 0 }) x
unfolding work
header_work_here m front back x w e n some =
    let c : contains m.grey x ≡ ((x == x) || contains (front ++ back) x) = ap (λ z. contains z x) e ∙ contains-middle front back x x in
    let c' : contains m.grey x ≡ true = grind arith in
    let a = w.allocated x c' in
    let b = w.marked x c' in
    grind arith

pub header_units : (m : Collector) (words : ℕ) (front back : List ℕ) (x : ℕ) → Greys m → m.column ≡ m.heap.width m.scanning → m.grey ≡ front ++ x ∷ back → contains (front ++ back) x ≡ false → x ≢ 0 → x < words + 1 → total (work m) (words + 1) + 1 ≤ total (work (record m { grey = front ++ back; scanning = x; column = 0 })) (words + 1)
header_units m words front back x w f e n some i = total_more (work m) (work (record m { grey = front ++ back; scanning = x; column = 0 })) (words + 1) x (λ y k. header_work m front back x y w f e n) i (header_work_here m front back x w e n some)

pub made_work : (m : Collector) (h' : Heap) (ps : Parts) (a : ℕ → ℕ) (y : ℕ) → Makes m.heap ps a h' → work m y ≤ work (record m { heap = h' }) y
unfolding work
made_work m h' ps a y w = elim (cases_Bool (m.heap.allocated y)) [
  | inl e ↦ (let d = made_done m h' ps a y w e in let k = w.stays.allocated y e in let f = w.stays.says.marked y e in grind arith)
  | inr e ↦ grind arith
]

-- some more at one place is as much more in all
pub total_add : (f g : ℕ → ℕ) (n y k : ℕ) → ((x : ℕ) → x < n → f x ≤ g x) → y < n → f y + k ≤ g y → total f n + k ≤ total g n
unfolding total
total_add f g zero y k h l m = absurd (omega arith)
total_add f g (suc n) y k h l m =
    let c = h n (omega arith) in
    elim (cases_eq y n) [
      | inl e ↦ (let a = total_le f g n (λ x i. h x (omega arith)) in let b : f n + k ≤ g n = subst (λ z. f z + k ≤ g z) e m in omega arith)
      | inr ne ↦ (let a = total_add f g n y k (λ x i. h x (omega arith)) (omega arith) m in omega arith)
    ]

gone_allocated : (h : Heap) (size : ℕ → ℕ) (x : ℕ) → h.forward 0 ≡ 0 → 0 < gone h size x → (h.allocated x ≡ true) × (0 < x) × (gone h size x ≡ size x)
unfolding gone
gone_allocated h size x z p = (grind arith, elim (cases_eq x 0) [ inl e ↦ absurd (let f : h.forward x ≡ x = ap h.forward e ∙ z ∙ sym e in grind arith) | inr ne ↦ omega arith ], grind arith)

-- moving spends no more than the words there are
pub gone_bound : (h : Heap) (size : ℕ → ℕ) (words : ℕ) → h.forward 0 ≡ 0 → LieApart h size words → total (gone h size) (words + 1) ≤ words + 1
gone_bound h size words z l = total_apart (gone h size) (words + 1) (words + 1)
    (λ x k p. let i = gone_allocated h size x z p in let b = l.inside x i.0 i.1 in let e = i.2 in omega arith)
    (λ x y k n p q. let i = gone_allocated h size x z p in let j = gone_allocated h size y z q in let b = l.apart x y i.0 j.0 i.1 k in let e = i.2 in omega arith)

move_gone : (h : Heap) (size : ℕ → ℕ) (x y z : ℕ) → h.allocated x ≡ true → h.allocated y ≡ false → h.forward x ≡ x → gone h size z ≤ gone (move h x y) size z
unfolding gone
move_gone h size x y z a b c = grind arith

move_gone_here : (h : Heap) (size : ℕ → ℕ) (x y : ℕ) → h.allocated x ≡ true → h.allocated y ≡ false → h.forward x ≡ x → gone h size x + size x ≤ gone (move h x y) size x
unfolding gone
move_gone_here h size x y a b c = grind arith

pub move_units : (h : Heap) (size : ℕ → ℕ) (words x y : ℕ) → h.allocated x ≡ true → h.allocated y ≡ false → h.forward x ≡ x → x < words + 1 → total (gone h size) (words + 1) + size x ≤ total (gone (move h x y) size) (words + 1)
move_units h size words x y a b c l = total_add (gone h size) (gone (move h x y) size) (words + 1) x (size x) (λ z k. move_gone h size x y z a b c) l (move_gone_here h size x y a b c)
