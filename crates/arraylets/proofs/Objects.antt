-- The object in a heap that agrees with a graph heap.
use Rattle.std.proofs.Common.{◌≡◌, ◌≢◌, ℕ, ◌+◌, ◌<◌, length, get_or, ap, ◌∙◌, sym, subst}
use Rattle.std.proofs.lemmas.List.FromFn.{length-map-range_with_len, fill_by_all}
use Rattle.graph_heap.specs.declared.command.Shape.{Shape}
use Rattle.graph_heap.specs.Graph.{Graph, Object, object_of}
use Rattle.graph_heap.specs.Reach.{Reaches}
use Rattle.graph_heap.specs.Shape.{ref_cells, word_cells}
use Rattle.size_classes.specs.Parts.{cells_of, parts_in, part_in, spine_of, spine_cell_of}
use Rattle.heap_model.specs.Agree.{Reads}
use Rattle.heap_model.specs.Agreement.{Agrees, IsWhole}
use Rattle.heap_model.specs.Cut.{count_of, name_of}
use Rattle.heap_model.specs.Reading.{IsMainCopy, Refers, spine_at, block_of}
use Rattle.heap_model.specs.State.{HeapState, seen}
use Rattle.heap_model.proofs.Agreements.Written.{cells_sum}
use Rattle.heap_model.proofs.Cut.Reaching.{part_below, word_below}
use Rattle.heap_model.proofs.Readings.Hops.{root_to_spine, spine_to_part, part_reached}
use Rattle.heap_model.proofs.Readings.Shown.{shape_shown, ref_shown, word_shown}
use Rattle.arraylets.specs.Cells.{IsObject, cell_at, shape_at, part_at, piece_at, ref_place, word_place, refs_of, words_of}
use Rattle.arraylets.proofs.Lists.{row_at}
use Rattle.arraylets.proofs.OneCell.{parts_some}

module _ (h : HeapState) (g : Graph) (id block : ℕ) (a : Agrees h g) (r : Reaches g id) (m : IsMainCopy h.store block (name_of id)) where
  abbrev o : Object
  o = object_of g.objects id

  sum : length o.refs + length o.words ≡ cells_of o.shape
  sum = cells_sum o (a.given id r).cells

  some_part : 0 < count_of o
  unfolding count_of
  some_part = parts_some (length o.refs + length o.words)

  shape_is : shape_at h.store block ≡ o.shape
  shape_is = shape_shown h g id 0 block a r some_part m

  counted : (part : ℕ) → part < parts_in (cells_of (shape_at h.store block)) → part < count_of o
  unfolding count_of
  counted part low = subst (λ n. part < parts_in n) (ap cells_of shape_is ∙ sym sum) low

  reached : (part : ℕ) → part < count_of o → IsMainCopy h.store (part_at h.store block part) (record { identity = id; part = part })
  reached part low = subst (λ (z : Shape). IsMainCopy h.store (block_of h.store (cells_of z) block part) (record { identity = id; part = part })) (sym shape_is) (part_reached h g id a r part block low m)

  pub there : IsWhole h.store → IsObject h.store block
  there whole = record {
    main = λ part low. subst (λ k. IsMainCopy h.store (part_at h.store block part) (record { identity = k; part = part })) (sym m.identity) (reached part (counted part low));
    shape = λ part low. shape_shown h g id part (part_at h.store block part) a r (counted part low) (reached part (counted part low)) ∙ sym shape_is;
    spine = λ part some low middle.
        subst (λ (z : Shape). Refers h.store block (spine_cell_of (cells_of z) (spine_of (cells_of z) part))) (sym shape_is)
        (root_to_spine h g id a r block m part some (counted part low) (subst (λ (z : Shape). spine_of (cells_of z) part ≢ 0) shape_is middle) whole);
    piece = λ part some low.
        subst (λ (z : Shape). Refers h.store (spine_at h.store (cells_of z) block part) (spine_cell_of (cells_of z) part)) (sym shape_is)
        (spine_to_part h g id a r block m part some (counted part low) whole);
  }

  -- the part that has a cell
  piece_is : (i : ℕ) → part_in (length o.refs + length o.words) i < count_of o → IsMainCopy h.store (piece_at h.store block i) (record { identity = id; part = part_in (cells_of o.shape) i })
  piece_is i low =
      subst (λ (z : Shape). IsMainCopy h.store (part_at h.store block (part_in (cells_of z) i)) (record { identity = id; part = part_in (cells_of o.shape) i })) (sym shape_is)
      (reached (part_in (cells_of o.shape) i) (subst (λ n. part_in n i < count_of o) sum low))

  pub refs_length : length (refs_of h.store block) ≡ length o.refs
  refs_length = length-map-range_with_len (λ i. cell_at h.store (ref_place h.store block i)) 0 (ref_cells (shape_at h.store block)) ∙ ap ref_cells shape_is ∙ sym (a.given id r).cells.refs

  pub refs_read : (i : ℕ) → i < length o.refs → Reads (seen h) (get_or (refs_of h.store block) i 0) (name_of (get_or o.refs i 0))
  refs_read i low =
      subst (λ x. Reads (seen h) x (name_of (get_or o.refs i 0)))
      (row_at (λ i. cell_at h.store (ref_place h.store block i)) (ref_cells (shape_at h.store block)) i (subst (λ n. i < n) ((a.given id r).cells.refs ∙ sym (ap ref_cells shape_is)) low))
      (ref_shown h g id i (piece_at h.store block i) a r low (piece_is i (part_below o i low)))

  pub words_are : words_of h.store block ≡ o.words
  words_are =
      sym (fill_by_all (λ i. cell_at h.store (word_place h.store block i)) o.words (word_cells (shape_at h.store block)) 0 ((a.given id r).cells.words ∙ sym (ap word_cells shape_is)) (λ k l.
      let low : k < length o.words = subst (λ n. k < n) (ap word_cells shape_is ∙ sym (a.given id r).cells.words) l in
      sym (word_shown h g id k (piece_at h.store block k) a r low (piece_is k (word_below o k low)))))
