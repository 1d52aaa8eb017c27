-- Words of an object that stand in a row, read and written one after the other.
use Rattle.std.proofs.Common.{◌≡◌, ℕ, zero, suc, ◌+◌, ◌-◌, ◌%◌, ◌<◌, ◌≤◌, Bool, true, false, cond, List, length, get_or, length-set, Ok, Err, refl, ap, ◌∙◌, sym, subst, arith}
use Rattle.std.specs.Prelude.{nat_lt}
use Rattle.std.proofs.lemmas.Bool.{lt-ltb}
use Rattle.graph_heap.specs.declared.command.Command.{Command}
use Rattle.graph_heap.specs.declared.command.Command.TheVariants as commands
use Rattle.graph_heap.specs.declared.command.Reply.{Reply}
use Rattle.graph_heap.specs.declared.command.Reply.TheVariants as replies
use Rattle.graph_heap.specs.declared.command.Change.{Change}
use Rattle.graph_heap.specs.declared.command.Change.TheVariants as changes
use Rattle.graph_heap.specs.declared.command.Refusal.TheVariants as refusals
use Rattle.graph_heap.specs.Shape.{fits, word_cells, ref_cells, takes_words}
use Rattle.graph_heap.specs.Graph.{Graph, Object, object_of, changed, with_word}
use Rattle.graph_heap.specs.Effect.{◌>>=◌, object_at, word_at, word_cell, admitted_to}
use Rattle.graph_heap.specs.Reach.{Reaches}
use Rattle.size_classes.specs.Parts.{cells_of, part_cells, part_in, column_in}
use Rattle.heap_model.specs.Block.{BlockRecord, with_cell}
use Rattle.heap_model.specs.Store.{Store, Writes, is_allocated, record_of}
use Rattle.heap_model.specs.Core.{Name}
use Rattle.heap_model.specs.Agree.{IsMain}
use Rattle.heap_model.specs.Cut.{width_in}
use Rattle.heap_model.specs.State.{HeapState, seen, width_at}
use Rattle.heap_model.specs.Agreement.{Agrees, IsWhole}
use Rattle.heap_model.specs.Alike.{IsAlike}
use Rattle.heap_model.specs.Change.{Does_nothing, DoesChange}
use Rattle.heap_model.specs.Reading.{IsMainCopy}
use Rattle.heap_model.proofs.State.{allocated_pages}
use Rattle.heap_model.proofs.Readings.Shown.{main_copy, copy_main, shape_shown}
use Rattle.heap_model.proofs.Cut.Changes.{put_each}
use Rattle.heap_model.proofs.Cut.Reaching.{word_below}
use Rattle.heap_model.proofs.Agreements.Written.{cells_sum}
use Rattle.heap_model.proofs.Alike.Sameness.{told, alike_back, alike_sym, known_root, known_ref, known_reaches, reaches_induction, reach_some}
use Rattle.heap_model.specs.Written.{IsKnown}
use Rattle.nodes.specs.HeapFields.{IsHeap}
use Rattle.arraylets.specs.declared.cells.Cell.{Cell}
use Rattle.machine.specs.declared.plan.Run.{Run}
use Rattle.machine.specs.declared.plan.Planned.{Planned}
use Rattle.machine.specs.declared.plan.Write.TheVariants as writes
use Rattle.machine.specs.Plan.{DoesEach, CanPerform, Steps, IsPlanned}
use Rattle.machine.specs.Reading.{IsWordCell, FindsWord}
use Rattle.machine.specs.Runs.{words_from, cell_behind, StepsEach, IsWordRow, HasRun}
use Rattle.machine.proofs.Cells.{word_within_part}
use Rattle.machine.proofs.Doing.{present_agrees, agrees_after, founded}
use Rattle.machine.proofs.Effects.{get_effect, put_effect}
use Rattle.machine.proofs.Finding.{object_at-given, word_is}
use Rattle.machine.proofs.Plans.{reply_plans, word_plans}
use Rattle.machine.proofs.Replying.{admitted_steps, commits_ok}
use Rattle.machine.proofs.Writing.{performs, word_does}

-- one more command was done
pub each_more : (h next after : HeapState) (m : ℕ) (c : ℕ → Command) (r : ℕ → Reply) (n : ℕ) → StepsEach h m c r n next → Steps next m (c n) (r n) after → StepsEach h m c r (n + 1) after
each_more h next after m c r n w s =
    let e : suc n ≡ n + 1 = omega arith in
    subst (λ k. StepsEach h m c r k after) e (next, w, s)

-- commands that leave the heap as it is
pub each_leaves : (h : HeapState) (m : ℕ) (c : ℕ → Command) (r : ℕ → Reply) (n : ℕ) → ((i : ℕ) → i < n → Steps h m (c i) (r i) h) → StepsEach h m c r n h
each_leaves h m c r zero s = refl
each_leaves h m c r (suc n) s = (h, each_leaves h m c r n (λ i l. s i (omega arith)), s n (omega arith))

-- cells of one part
same_part : (n i j : ℕ) → j < 252 - i % 252 → part_in n (i + j) ≡ part_in n i
unfolding part_in
same_part n i j l = omega (arith, l)

next_column : (i j : ℕ) → j < 252 - i % 252 → column_in (i + j) ≡ column_in i + j
unfolding column_in
next_column i j l = omega (arith, l)

-- an object of which a word was read takes words
takes_by : (o : Object) (i v : ℕ) → word_cell o i ≡ Ok v → takes_words o.shape ≡ true
takes_by o i v e = by_case (takes_words o.shape) e
  where
    by_case : (b : Bool) → cond b (cond (nat_lt i (length o.words)) (Ok (get_or o.words i 0)) (Err refusals.BadIndex)) (Err refusals.WrongKind) ≡ Ok v → b ≡ true
    by_case true e = refl
    by_case false e = absurd (cc)

module _ (h : HeapState) (g : Graph) (a : Agrees h g) (id : ℕ) (r : Reaches g id) where
  abbrev o : Object
  o = object_of g.objects id

  object_there : object_at g.objects id ≡ Ok o
  object_there = object_at-given g.objects id (reach_some g id r) (a.given id r).below

  pub takes_here : (i v : ℕ) → word_at g.objects id i ≡ Ok v → takes_words o.shape ≡ true
  takes_here i v e = takes_by o i v (sym (ap (λ z. z >>= λ (x : Object). word_cell x i) object_there) ∙ e)

  -- a word cell is found
  row_finds : (i : ℕ) (at : Cell) → takes_words o.shape ≡ true → IsWordCell h o id i at → FindsWord h g id i (Ok at)
  row_finds i at takes c =
      let low : nat_lt i (length o.words) ≡ true = lt-ltb i (length o.words) c.below in
      (ap (λ z. z >>= λ (x : Object). word_cell x i) object_there ∙ rw (takes, low) refl, (r, c))

  -- the cells after one that was found, in its part
  module _ (first : ℕ) (at : Cell) (c : IsWordCell h o id first at) where
    main : IsMainCopy h.store at.block (record { identity = id; part = part_in (cells_of o.shape) first })
    main = main_copy h at.block _ c.main

    pub row_shape : (record_of h.store at.block).shape ≡ o.shape
    row_shape =
        let sum = cells_sum o (a.given id r).cells in
        shape_shown h g id (part_in (length o.refs + length o.words) first) at.block a r (word_below o first c.below)
        (subst (λ z. IsMainCopy h.store at.block (record { identity = id; part = part_in z first })) (sym sum) main)

    module _ (whole : IsWhole h.store) (fit : fits o.shape ≡ true) where
      pub row_length : length (record_of h.store at.block).cells ≡ part_cells (cells_of o.shape) (part_in (cells_of o.shape) first)
      row_length =
          whole at.block main.allocated
          ∙ ap (λ s. part_cells (cells_of s) (record_of h.store at.block).part) row_shape
          ∙ ap (part_cells (cells_of o.shape)) main.part

      row_width : width_at (record_of h.store at.block) ≡ width_in (ref_cells o.shape) (word_cells o.shape) (part_in (cells_of o.shape) first)
      row_width =
          ap (λ s. width_in (ref_cells s) (word_cells s) (record_of h.store at.block).part) row_shape
          ∙ ap (width_in (ref_cells o.shape) (word_cells o.shape)) main.part

      pub row_cell : (j : ℕ) → j < words_from o.shape first → IsWordCell h o id (first + j) (cell_behind at j)
      row_cell j l =
          let words : length o.words ≡ word_cells o.shape = (a.given id r).cells.words in
          let stays : j < 252 - first % 252 = omega (arith, l) in
          let below : first + j < word_cells o.shape = omega (arith, l) in
          let part = same_part (cells_of o.shape) first j stays in
          let column = next_column first j stays in
          let index : at.index + j ≡ width_at (record_of h.store at.block) + column_in (first + j) = (let e = c.index in omega (arith, e, column)) in
          let within = word_within_part o.shape (first + j) fit below in
          record {
            below = subst (λ n. first + j < n) (sym words) below;
            main = subst (λ p. IsMain (seen h) (at.block + 1) (record { identity = id; part = p })) (sym part) c.main;
            index = index;
            within = subst (λ n. at.index + j < n) (sym row_length)
                (subst (λ p. at.index + j < part_cells (cells_of o.shape) p) part
                (subst (λ n. n < part_cells (cells_of o.shape) (part_in (cells_of o.shape) (first + j)))
                (ap (λ p. width_in (ref_cells o.shape) (word_cells o.shape) p + column_in (first + j)) part ∙ ap (λ n. n + column_in (first + j)) (sym row_width) ∙ sym index) within));
          }

-- a row in a graph heap that no reply tells apart from another
pub row_alike : (h : HeapState) (f g : Graph) (id first : ℕ) (run : Run) → IsAlike f g → IsWordRow h f id first run → IsWordRow h g id first run
row_alike h f g id first run a w =
    let same = a.object id w.reaches in
    record {
      reaches = alike_back g f (alike_sym f g a) id w.reaches;
      takes = subst (λ (o : Object). takes_words o.shape ≡ true) same w.takes;
      cells = λ j l. subst (λ (o : Object). IsWordCell h o id (first + j) (cell_behind run.at j)) same (w.cells j l);
    }

-- writing a word leaves the same objects reachable
reached_still : (g : Graph) (id i word : ℕ) → Reaches g id → id ≤ length g.objects → Reaches (changed g (changes.Word id i word)) id
reached_still g id i word r given =
    let new = changed g (changes.Word id i word) in
    let some = reach_some g id r in
    let refs = λ (k : ℕ). put_each (λ (o : Object). o.refs) g.objects id (with_word (object_of g.objects id) i word) some given refl k in
    known_reaches new id
    (reaches_induction g (λ z. IsKnown new z) (λ j l. known_root new j l)
    (λ from k known l. subst (λ xs. IsKnown new (get_or xs k 0)) (refs from) (known_ref new from k known (subst (λ xs. k < length xs) (sym (refs from)) l))) id r)
    some

-- a word of a row is written
module _ (h : HeapState) (w : IsHeap h) (m obj first : ℕ) (run : Run) (has : HasRun h m obj first run) where
  abbrev id : ℕ
  id = get_or w.present.roots has.root 0

  row_now : IsWordRow h w.present id first run
  row_now = has.row w.present (present_agrees h w)

  pub run_allocated : is_allocated h.store run.at.block ≡ true
  run_allocated = (main_copy h run.at.block _ (row_now.cells 0 has.some).main).allocated

  pub run_within : (j : ℕ) → j < run.count → run.at.index + j < length (record_of h.store run.at.block).cells
  run_within j l = (row_now.cells j l).within

  pub run_ends : (n : ℕ) → n ≤ run.count → run.at.index + n ≤ length (record_of h.store run.at.block).cells
  run_ends n l = let some = has.some in let last = run_within (run.count - 1) (omega (arith, some)) in omega (arith, some, last, l)

  pub run_finds : (g : Graph) → Agrees h g → (j : ℕ) → j < run.count → FindsWord h g (get_or g.roots has.root 0) (first + j) (Ok (cell_behind run.at j))
  run_finds g a j l =
      let row = has.row g a in
      row_finds h g a (get_or g.roots has.root 0) row.reaches (first + j) (cell_behind run.at j) row.takes (row.cells j l)

  module _ (j : ℕ) (l : j < run.count) where
    -- it is read
    pub run_gets : (word : ℕ) → word ≡ get_or (record_of h.store run.at.block).cells (run.at.index + j) 0 → Steps h m (commands.Get obj (first + j)) (replies.Word word) h
    run_gets word e =
        let p : Planned = record { reply = replies.Word word; write = writes.Nothing } in
        admitted_steps h h refl m (commands.Get obj (first + j)) false refl (admitted_to h.limits h.live m false) refl tt has.admitted (Ok p)
        (λ g a. let there = run_finds g a j l in
        reply_plans h g m (commands.Get obj (first + j)) (replies.Word word) p refl
        (get_effect h g a m obj (first + j) has.root word (cell_behind run.at j) has.place there
        (word_is h g a (get_or g.roots has.root 0) (first + j) (cell_behind run.at j) there.1 word e)))
        (replies.Word word) h
        (commits_ok h p h (λ g c a plan. (subst (λ (x : Change). DoesChange h g x h) (sym plan) Does_nothing, subst (λ (x : Change). Agrees h (changed g x)) (sym plan) a)))

    module _ (word : ℕ) where
      pub run_can : CanPerform h (writes.Word (cell_behind run.at j) word)
      run_can g a = let there = run_finds g a j l in (changes.Word (get_or g.roots has.root 0) (first + j) word, (get_or g.roots has.root 0, first + j, refl, there.1))

      -- it is written
      pub run_puts : (after : HeapState) → DoesEach h (writes.Word (cell_behind run.at j) word) after → Steps h m (commands.Put obj (first + j) word) replies.Done after
      run_puts after does =
          let p : Planned = record { reply = replies.Done; write = writes.Word (cell_behind run.at j) word } in
          admitted_steps h h refl m (commands.Put obj (first + j) word) false refl (admitted_to h.limits h.live m false) refl tt has.admitted (Ok p)
          (λ g a. let there = run_finds g a j l in
          word_plans h g m (commands.Put obj (first + j) word) replies.Done (get_or g.roots has.root 0) (first + j) word (cell_behind run.at j)
          (put_effect h g a m obj (first + j) word has.root (cell_behind run.at j) has.place there) there)
          replies.Done after
          (commits_ok h p after (performs h h refl w (writes.Word (cell_behind run.at j) word) after does))

      module _ (new : Store) (written : Writes h.store new run.at.block (with_cell (record_of h.store run.at.block) (run.at.index + j) word)) where
        abbrev after : HeapState
        after = record h { store = new }

        -- a field of the block that is written
        field : {A : Type 0} (f : BlockRecord → A) → ((n : BlockRecord) (i v : ℕ) → f (with_cell n i v) ≡ f n) → f (record_of new run.at.block) ≡ f (record_of h.store run.at.block)
        field f same = ap f written.here ∙ same (record_of h.store run.at.block) (run.at.index + j) word

        main_still : (n : Name) → IsMain (seen h) (run.at.block + 1) n → IsMain (seen after) (run.at.block + 1) n
        main_still n is =
            let there = main_copy h run.at.block n is in
            copy_main after run.at.block n (record {
              allocated = allocated_pages h.store new run.at.block written.pages ∙ there.allocated;
              forward = field (λ (x : BlockRecord). x.forward) (λ x i v. refl) ∙ there.forward;
              identity = field (λ (x : BlockRecord). x.identity) (λ x i v. refl) ∙ there.identity;
              part = field (λ (x : BlockRecord). x.part) (λ x i v. refl) ∙ there.part;
            })

        cell_still : (o new_o : Object) (k i : ℕ) → new_o.shape ≡ o.shape → length new_o.words ≡ length o.words → IsWordCell h o id i (cell_behind run.at k) → IsWordCell after new_o id i (cell_behind run.at k)
        cell_still o new_o k i shape words c = record {
          below = subst (λ n. i < n) (sym words) c.below;
          main = subst (λ s. IsMain (seen after) (run.at.block + 1) (record { identity = id; part = part_in (cells_of s) i })) (sym shape) (main_still _ c.main);
          index = c.index ∙ ap (λ n. n + column_in i) (sym (field width_at (λ x n v. refl)));
          within = subst (λ n. run.at.index + k < n) (sym (field (λ (x : BlockRecord). length x.cells) (λ x n v. length-set x.cells n v))) c.within;
        }

        pub run_stays : HasRun after m obj first run
        run_stays =
            let at = cell_behind run.at j in
            let here = row_now in
            let change = changes.Word id (first + j) word in
            let planned : IsPlanned h w.present change (writes.Word at word) = (id, first + j, refl, (here.reaches, here.cells j l)) in
            let base = present_agrees h w in
            let does = word_does h at word new written w.present change base planned in
            let agrees : Agrees after (changed w.present change) = agrees_after h after w change (founded h w.present base w.represents.consistent.row change (writes.Word at word) planned) does w.present base in
            let given = (base.given id here.reaches).below in
            let some = reach_some w.present id here.reaches in
            let o = object_of w.present.objects id in
            let put = with_word o (first + j) word in
            let shape = put_each (λ (x : Object). x.shape) w.present.objects id put some given refl id in
            let words = put_each (λ (x : Object). length x.words) w.present.objects id put some given (length-set o.words (first + j) word) id in
            let row : IsWordRow after (changed w.present change) id first run = record {
              reaches = reached_still w.present id (first + j) word here.reaches given;
              takes = subst (λ s. takes_words s ≡ true) (sym shape) here.takes;
              cells = λ k b. cell_still o (object_of (changed w.present change).objects id) k (first + k) shape words (here.cells k b);
            } in
            record {
              admitted = has.admitted;
              root = has.root;
              place = has.place;
              row = λ g a.
                  let alike = told after (changed w.present change) g agrees a in
                  subst (λ (xs : List ℕ). IsWordRow after g (get_or xs has.root 0) first run) alike.roots (row_alike after (changed w.present change) g id first run alike row);
              numbers = has.numbers;
              small = has.small;
              some = has.some;
            }

-- the first words of a run are read, of the value t as which the heap h is seen
pub reads_each : (h t : HeapState) → h ≡ t → IsHeap h → (m obj first : ℕ) (run : Run) → HasRun t m obj first run → (n : ℕ) → n ≤ run.count → (words : List ℕ)
    → ((i : ℕ) → i < n → get_or words i 0 ≡ get_or (record_of h.store run.at.block).cells (run.at.index + i) 0)
    → StepsEach t m (λ i. commands.Get obj (first + i)) (λ i. replies.Word (get_or words i 0)) n t
reads_each h t is w m obj first run has n l words read =
    let here = subst (λ (x : HeapState). HasRun x m obj first run) (sym is) has in
    subst (λ (x : HeapState). StepsEach x m (λ i. commands.Get obj (first + i)) (λ i. replies.Word (get_or words i 0)) n x) is
    (each_leaves h m (λ i. commands.Get obj (first + i)) (λ i. replies.Word (get_or words i 0)) n (λ i b. run_gets h w m obj first run here i (omega (arith, b, l)) (get_or words i 0) (read i b)))
