use Rattle.std.proofs.Common.{◌∷◌, [], ◌≡◌, refl, ap, ◌∙◌, sym, subst}
use Rattle.std.specs.Prelude.{string_bytes}
use Rattle.std.specs.List.{concat}
use Rattle.graph_heap.specs.Graph.{Graph}
use Rattle.heap_model.specs.Event.{Course}
use Rattle.heap_model.specs.State.{HeapState}
use Rattle.quanta.specs.Timetable.{Timetable}
use Rattle.pictures.specs.Data.{refused_table, quanta_table}
use Rattle.pictures.specs.Tables.{pages_table, ShapesTable, RootsTable}
use Rattle.pictures.specs.Utilisation.{AreShares}
use Rattle.pictures.proofs.Shares.{shares_reserved}
use Rattle.pictures.proofs.Texts.{behind}
use Rattle.pictures.proofs.data.run_text.Goals as goal

pub returns : goal.returns
returns c = λ run has now.
    let config = c.args.config.now in
    let course = c.args.player.now.course in
    let heap : c.heap-heap.result.now ≡ course.heap = c.heap-heap.ensures.heap ∙ ap (λ (r : Course). r.heap) c.recorded.ensures in
    let s = c.in_ok-samples_text.ensures in
    let k = c.in_ok-cycles_text.ensures in
    let w = c.in_ok-shares_text.ensures in
    let text = string_bytes c.in_ok-shapes_table.field-0 in
    let roots = string_bytes c.in_ok-roots_table.field-0 in
    record {
      stride = s.0;
      samples = s.1;
      are_samples = s.2 _ has.0;
      cycles = k.0;
      are_cycles = k.1 run has.1 (ap (λ (r : Course). r.heap) now ∙ sym heap);
      shares = w.0;
      are_shares = subst (λ (t : Timetable). AreShares config t w.0) c.schedule.ensures (shares_reserved config c.schedule.result.now 0 w.0 w.1);
      shapes = text;
      are_shapes = subst (λ (h : HeapState). ShapesTable h text) heap c.in_ok-shapes_table.ensures;
      roots = roots;
      are_roots = subst (λ (g : Graph). RootsTable g roots) c.in_ok-graph.ensures c.in_ok-roots_table.ensures;
      told = c.in_ok-concat.ensures.ok ∙ ap concat (behind c.in_ok-settings_text.ensures (behind c.in_ok-counts_text.ensures
          (behind (c.in_ok-refused_text.ensures ∙ ap (λ (r : Course). refused_table r.history) c.recorded-2.ensures)
          (behind s.3 (behind (c.in_ok-quanta_text.ensures ∙ ap quanta_table (has.2 c.if-quanta.false)) (behind k.2 (behind w.2
          (behind {s = text ∷ roots ∷ []} (c.in_ok-pages_table.ensures ∙ ap (λ (h : HeapState). pages_table h.store.pages) heap) refl))))))));
    }
