-- Changes of the heap and of the part graph, one thing at a time.
use Rattle.std.specs.Prelude.{ℕ, Bool, true, false, set, if◌then◌else◌, ◌==◌, ◌&&◌}
use Rattle.heap_model.specs.Core.{Name, PartGraph, Heap}

-- a function with another value at one place
abbrev pub put : {A : Type 0} → (ℕ → A) → ℕ → A → ℕ → A
put f x v y = if y == x then v else f y

-- a block is marked
abbrev pub shade : Heap → ℕ → Heap
shade h x = record h { marked = put h.marked x true }

-- a root is written
abbrev pub set_root : Heap → ℕ → ℕ → Heap
set_root h j x = record h { root = put h.root j x }

-- a reference cell is written
abbrev pub set_cell : Heap → ℕ → ℕ → ℕ → Heap
set_cell h x i y = record h { cell = λ z k. if (z == x) && (k == i) then y else h.cell z k }

-- a word cell is written
abbrev pub set_word : Heap → ℕ → ℕ → ℕ → Heap
set_word h x c w = record h { words = λ z. if z == x then set (h.words z) c w else h.words z }

-- a block is freed
abbrev pub free : Heap → ℕ → Heap
free h x = record h { allocated = put h.allocated x false }

-- the mark parity is turned, so that no block is marked
abbrev pub flip : Heap → Heap
flip h = record h { marked = λ x. x == 0 }

-- a copy of block x at y, to which x forwards from then on
abbrev pub move : Heap → ℕ → ℕ → Heap
move h x y = record h {
  allocated = put h.allocated y true;
  forward = put (put h.forward x y) y y;
  name = put h.name y (h.name x);
  width = put h.width y (h.width x);
  cell = λ z i. if z == y then h.cell x i else h.cell z i;
  words = put h.words y (h.words x);
  shape = put h.shape y (h.shape x);
  marked = put h.marked y (h.marked x);
}

-- the main copies after a move of x to y
abbrev pub moved : (Name → ℕ) → ℕ → ℕ → Name → ℕ
moved at x y n = if at n == x then y else at n

-- whether two names are the same
abbrev pub same : Name → Name → Bool
same m n = (m.identity == n.identity) && (m.part == n.part)

-- a part graph with another root
abbrev pub write_root : PartGraph → ℕ → Name → PartGraph
write_root g j v = record g { root = λ k. if k == j then v else g.root k }

-- a part graph with another target in one cell
abbrev pub write_target : PartGraph → Name → ℕ → Name → PartGraph
write_target g n i v = record g { target = λ m k. if same m n && (k == i) then v else g.target m k }

-- a part graph with another word in one cell
abbrev pub write_word : PartGraph → Name → ℕ → ℕ → PartGraph
write_word g n c w = record g { words = λ m. if same m n then set (g.words m) c w else g.words m }
