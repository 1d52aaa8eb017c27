-- A word cell is written.
use Rattle.std.proofs.Common.{◌≡◌, ℕ, true, false, [], set, arith, ap, subst, sym, ◌==◌, if◌then◌else◌}
use Rattle.heap_model.specs.Core.{Name, PartGraph, Heap, Kept, Grows, Base}
use Rattle.heap_model.specs.Agree.{IsMain}
use Rattle.heap_model.specs.Collector.{Progress, In_idle, In_roots, In_marking, In_sweep, In_moves, Collector, PhaseInvariant, Coherent}
use Rattle.heap_model.proofs.Core.Edits.{set_word, write_word}
use Rattle.heap_model.proofs.Core.Trace.{at_same}
use Rattle.heap_model.proofs.Collector.Barrier.{main_at}

word_null : (h : Heap) (x c w : ℕ) → h.words 0 ≡ [] → (set_word h x c w).words 0 ≡ []
word_null h x c w e = elim (0 == x) as (λ b. (if b then set (h.words 0) c w else h.words 0) ≡ []) [ true ↦ ap (λ z. set z c w) e | false ↦ e ]

word_base : (h : Heap) (g s : PartGraph) (at : Name → ℕ) (n : Name) (c w : ℕ) → Base h g s at → Kept h.roots s g n → Base (set_word h (at n) c w) (write_word g n c w) s at
word_base h g s at n c w b k =
    let gr : Grows h.roots s (write_word g n c w) = record { next = b.grows.next; width = b.grows.width; count = b.grows.count; reached = b.grows.reached; kept_root = b.grows.kept_root; kept_target = b.grows.kept_target } in
    let null_words = word_null h (at n) c w b.null_words in
    let words : (m : Name) → Kept h.roots s g m → (set_word h (at n) c w).words (at m) ≡ (write_word g n c w).words m = grind (arith, at_same) in
    grind arith

-- the stages don't speak of words
word_stage : (m : Collector) (g s : PartGraph) (at : Name → ℕ) (n : Name) (x c w : ℕ) (p : Progress) → PhaseInvariant m g s at p → PhaseInvariant (record m { heap = set_word m.heap x c w }) (write_word g n c w) s at p
word_stage m g s at n x c w In_idle t = grind arith
word_stage m g s at n x c w (In_roots place) t = (grind arith, grind arith)
word_stage m g s at n x c w In_marking t = (grind arith, grind arith)
word_stage m g s at n x c w (In_sweep place) t = grind arith
word_stage m g s at n x c w In_moves t = (grind arith, grind arith, grind arith)

pub puts_word : (m : Collector) (g s : PartGraph) (x : ℕ) (n : Name) (c w : ℕ) → Coherent m g s → Kept m.heap.roots s g n → IsMain m.heap x n → Coherent (record m { heap = set_word m.heap x c w }) (write_word g n c w) s
puts_word m g s x n c w k kn i =
    subst (λ z. Coherent (record m { heap = set_word m.heap z c w }) (write_word g n c w) s) (sym (main_at m g s k x n kn i))
    (record { at = k.at; base = word_base m.heap g s k.at n c w k.base kn; stage = word_stage m g s k.at n (k.at n) c w m.phase k.stage })
