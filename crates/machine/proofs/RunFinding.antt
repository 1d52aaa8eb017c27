-- A run of words, from the cell that was found.
use Rattle.std.proofs.Common.{◌≡◌, ℕ, ◌+◌, ◌-◌, ◌<◌, ◌≤◌, true, false, List, get_or, Result, Ok, Err, ap, ◌∙◌, sym, subst, arith}
use Rattle.graph_heap.specs.declared.command.Refusal.{Refusal}
use Rattle.graph_heap.specs.declared.command.Command.TheVariants as commands
use Rattle.graph_heap.specs.declared.command.Reply.{Reply}
use Rattle.graph_heap.specs.declared.command.Reply.TheVariants as replies
use Rattle.graph_heap.specs.declared.command.Change.{Change}
use Rattle.graph_heap.specs.declared.command.Change.TheVariants as changes
use Rattle.graph_heap.specs.declared.command.Shape.{Shape}
use Rattle.graph_heap.specs.declared.command.Shape.TheVariants as shapes
use Rattle.graph_heap.specs.declared.command.Limits.{Limits}
use Rattle.graph_heap.specs.Shape.{fits, word_cells}
use Rattle.graph_heap.specs.Graph.{Graph, object_of}
use Rattle.graph_heap.specs.Effect.{◌>>=◌, admitted_to, slot_at, word_at}
use Rattle.size_classes.specs.Parts.{cells_of, pieces_of, spines_of, part_cells, part_in}
use Rattle.size_classes.proofs.Cutting.{pieces_are, spines_are, count_small}
use Rattle.heap_model.specs.Store.{record_of}
use Rattle.heap_model.specs.State.{HeapState}
use Rattle.heap_model.specs.Agreement.{Agrees}
use Rattle.heap_model.proofs.Alike.Sameness.{told}
use Rattle.nodes.specs.HeapFields.{IsHeap}
use Rattle.arraylets.specs.declared.cells.Cell.{Cell}
use Rattle.machine.specs.declared.plan.Run.{Run}
use Rattle.machine.specs.Plan.{Steps}
use Rattle.machine.specs.Reading.{FindsWord}
use Rattle.machine.specs.Runs.{words_from, word_run, DoesRun, IsWordRow, HasRun}
use Rattle.machine.proofs.Doing.{present_agrees}
use Rattle.machine.proofs.Replying.{refused_each}
use Rattle.machine.proofs.Runs.{takes_here, row_shape, row_length, row_cell, row_alike}

-- if there is no run, each command that begins with the same tests is refused for the same reason
cut_short : {A B : Type 0} (x : Result (Unit {0}) Refusal) (y : Result ℕ Refusal) (z : ℕ → Result ℕ Refusal) (f : ℕ → A) (k : ℕ → ℕ → B) (e : Refusal)
    → (x >>= λ ok. y >>= λ r. z r >>= λ v. Ok (f r)) ≡ Err e → (x >>= λ ok. y >>= λ r. z r >>= λ v. Ok (k r v)) ≡ Err e
cut_short (Ok ok) (Ok r) z f k e is = by_last (z r) is
  where
    by_last : (last : Result ℕ Refusal) → (last >>= λ v. Ok (f r)) ≡ Err e → (last >>= λ v. Ok (k r v)) ≡ Err e
    by_last (Ok v) q = absurd (cc)
    by_last (Err why) q = let same : why ≡ e = cc in ap Err same
cut_short (Ok ok) (Err why) z f k e is = let same : why ≡ e = cc in ap Err same
cut_short (Err why) y z f k e is = let same : why ≡ e = cc in ap Err same

at_first : (first : ℕ) → first ≡ first + 0
at_first first = omega arith

module _ (h : HeapState) (m obj first : ℕ) (e : Refusal) (refused : (g : Graph) → Agrees h g → word_run g m obj first ≡ Err e) where
  pub get_refused : Steps h m (commands.Get obj first) (replies.Refused e) h
  get_refused = refused_each h m (commands.Get obj first) e (λ g a. cut_short (admitted_to g.limits g.live m false) (slot_at g.limits m obj) (λ r. word_at g.objects (get_or g.roots r 0) first)
      (λ r. words_from (object_of g.objects (get_or g.roots r 0)).shape first) (λ r v. (let x : Reply × Change = (replies.Word v, changes.Nothing) in x)) e (refused g a))

  pub put_refused : (word : ℕ) → Steps h m (commands.Put obj first word) (replies.Refused e) h
  put_refused word = refused_each h m (commands.Put obj first word) e (λ g a. cut_short (admitted_to g.limits g.live m false) (slot_at g.limits m obj) (λ r. word_at g.objects (get_or g.roots r 0) first)
      (λ r. words_from (object_of g.objects (get_or g.roots r 0)).shape first) (λ r v. (let x : Reply × Change = (replies.Done, changes.Word (get_or g.roots r 0) first word) in x)) e (refused g a))

-- a run of commands that begin with the same tests is refused for the same reason
module _ (h : HeapState) (m obj first : ℕ) (result : Result ℕ Refusal) (y e : Refusal) (is : result ≡ Err y) (same : y ≡ e) (refused : (g : Graph) → Agrees h g → Err e ≡ word_run g m obj first) where
  result_is : result ≡ Err e
  result_is = is ∙ ap Err same

  pub gets_refused : (told : ℕ → Reply) → DoesRun h m (λ i. commands.Get obj (first + i)) told result h
  gets_refused told = subst (λ (x : Result ℕ Refusal). DoesRun h m (λ i. commands.Get obj (first + i)) told x h) (sym result_is)
      (subst (λ k. Steps h m (commands.Get obj k) (replies.Refused e) h) (at_first first) (get_refused h m obj first e (λ g a. sym (refused g a))))

  pub puts_refused : (words : List ℕ) (told : ℕ → Reply) → DoesRun h m (λ i. commands.Put obj (first + i) (get_or words i 0)) told result h
  puts_refused words told = subst (λ (x : Result ℕ Refusal). DoesRun h m (λ i. commands.Put obj (first + i) (get_or words i 0)) told x h) (sym result_is)
      (subst (λ k. Steps h m (commands.Put obj k (get_or words 0 0)) (replies.Refused e) h) (at_first first) (put_refused h m obj first e (λ g a. sym (refused g a)) (get_or words 0 0)))

few_words : (shape : Shape) → fits shape ≡ true → word_cells shape ≤ 4000000
few_words (shapes.Plain refs words) f = grind arith
few_words (shapes.RefArray n) f = omega arith
few_words (shapes.WordArray n) f = grind arith

few_cells : (shape : Shape) → fits shape ≡ true → cells_of shape ≤ 4000000
few_cells (shapes.Plain refs words) f = grind arith
few_cells (shapes.RefArray n) f = grind arith
few_cells (shapes.WordArray n) f = grind arith

few_pieces : (n : ℕ) → n ≤ 4000000 → pieces_of n ≤ 63504
few_pieces n l = grind arith

few_part : (shape : Shape) → fits shape ≡ true → (p : ℕ) → part_cells (cells_of shape) p ≤ 252
few_part shape f p = let n = cells_of shape in count_small n (pieces_of n) (spines_of n) (pieces_are n) (spines_are n) p (few_pieces n (few_cells shape f))

-- mutator m may ask, by the fields h, which are seen as the value t
module _ (h t : HeapState) (is : h ≡ t) (w : IsHeap h) (m obj first root : ℕ) (ok : Unit {0}) (admitted : admitted_to h.limits h.live m false ≡ Ok ok) (place : Ok root ≡ slot_at h.limits m obj) where
  -- the run, by the result for its first word
  run_by : (g : Graph) → Agrees h g → (word : Result ℕ Refusal) → word_at g.objects (get_or g.roots root 0) first ≡ word
      → word_run g m obj first ≡ (word >>= λ v. Ok (words_from (object_of g.objects (get_or g.roots root 0)).shape first))
  run_by g a word e =
      ap (λ (l : Limits). admitted_to l g.live m false >>= λ b. slot_at l m obj >>= λ r. word_at g.objects (get_or g.roots r 0) first >>= λ v. Ok (words_from (object_of g.objects (get_or g.roots r 0)).shape first)) (sym a.limits)
      ∙ ap (λ z. admitted_to h.limits z m false >>= λ b. slot_at h.limits m obj >>= λ r. word_at g.objects (get_or g.roots r 0) first >>= λ v. Ok (words_from (object_of g.objects (get_or g.roots r 0)).shape first)) (sym a.live)
      ∙ ap (λ z. z >>= λ (b : Unit {0}). slot_at h.limits m obj >>= λ r. word_at g.objects (get_or g.roots r 0) first >>= λ v. Ok (words_from (object_of g.objects (get_or g.roots r 0)).shape first)) admitted
      ∙ ap (λ z. z >>= λ r. word_at g.objects (get_or g.roots r 0) first >>= λ v. Ok (words_from (object_of g.objects (get_or g.roots r 0)).shape first)) (sym place)
      ∙ ap (λ z. z >>= λ v. Ok (words_from (object_of g.objects (get_or g.roots root 0)).shape first)) e

  pub run_refused : (g : Graph) → Agrees t g → (e : Refusal) → word_at g.objects (get_or g.roots root 0) first ≡ Err e → word_run g m obj first ≡ Err e
  run_refused g a e none = run_by g (subst (λ (x : HeapState). Agrees x g) (sym is) a) (Err e) none

  -- a word was found
  module _ (at : Cell) (count : ℕ) (finds : (g : Graph) → Agrees t g → FindsWord t g (get_or g.roots root 0) first (Ok at)) (many : count ≡ words_from (record_of h.store at.block).shape first) where
    abbrev run : Run
    run = record { at = at; count = count }

    finds_here : (g : Graph) → Agrees h g → FindsWord h g (get_or g.roots root 0) first (Ok at)
    finds_here g a = subst (λ (x : HeapState). FindsWord x g (get_or g.roots root 0) first (Ok at)) (sym is) (finds g (subst (λ (x : HeapState). Agrees x g) is a))

    -- for each graph heap
    module _ (g : Graph) (a : Agrees h g) where
      abbrev id : ℕ
      id = get_or g.roots root 0

      shape_is : (record_of h.store at.block).shape ≡ (object_of g.objects id).shape
      shape_is = let there = finds_here g a in row_shape h g a id there.1.0 first at there.1.1

      count_is : count ≡ words_from (object_of g.objects id).shape first
      count_is = many ∙ ap (λ s. words_from s first) shape_is

      run_length : word_run g m obj first ≡ Ok count
      run_length = let there = finds_here g a in run_by g a (Ok _) there.0 ∙ ap Ok (sym count_is)

    pub run_counted : (g : Graph) → Agrees t g → word_run g m obj first ≡ Ok count
    run_counted g a = run_length g (subst (λ (x : HeapState). Agrees x g) (sym is) a)

    row_present : IsWordRow h w.present (get_or w.present.roots root 0) first run
    row_present =
        let g = w.present in let a = present_agrees h w in let there = finds_here g a in let k = get_or g.roots root 0 in
        record {
          reaches = there.1.0;
          takes = takes_here h g a k there.1.0 first _ there.0;
          cells = λ j l. row_cell h g a k there.1.0 first at there.1.1 w.represents.consistent.whole (w.fits k) j (subst (λ n. j < n) (count_is g a) l);
        }

    found_here : HasRun h m obj first run
    found_here =
        let g = w.present in let a = present_agrees h w in let there = finds_here g a in let k = get_or g.roots root 0 in
        let few = few_words (object_of g.objects k).shape (w.fits k) in
        let below : first < word_cells (object_of g.objects k).shape = subst (λ n. first < n) (a.given k there.1.0).cells.words there.1.1.below in
        let many_here = count_is g a in
        record {
          admitted = admitted;
          root = root;
          place = place;
          row = λ f b.
              let alike = told h g f a b in
              subst (λ (xs : List ℕ). IsWordRow h f (get_or xs root 0) first run) alike.roots (row_alike h g f k first run alike row_present);
          numbers = omega (arith, few, below, many_here);
          small =
              let last = (row_present.cells (count - 1) (omega (arith, below, many_here))).within in
              let cells = row_length h g a k there.1.0 first at there.1.1 w.represents.consistent.whole (w.fits k) in
              let most = few_part (object_of g.objects k).shape (w.fits k) (part_in (cells_of (object_of g.objects k).shape) first) in
              omega (arith, last, cells, most);
          some = omega (arith, below, many_here);
        }

    pub run_found : HasRun t m obj first run
    run_found = subst (λ (x : HeapState). HasRun x m obj first run) is found_here
