use Rattle.std.proofs.Common.{◌≡◌, ◌<◌, length, set, take, length-take-le, ap, ◌∙◌, sym, subst, arith}
use Rattle.std.proofs.lemmas.List.{get_or_read}
use Rattle.graph_heap.specs.declared.command.Shape.{Shape}
use Rattle.paced.specs.Pacing.{shape_words}
use Rattle.inspector.specs.declared.by_root.counting.Holding.{Holding}
use Rattle.inspector.specs.ByRoot.{words_owned}
use Rattle.inspector.specs.Owning.{none_owned, owned_at}
use Rattle.inspector.specs.Totals.{no_holding, holding_at, IsOfObjects}
use Rattle.inspector.proofs.RootSums.{one_more, one_counted, room_for}
use Rattle.inspector.proofs.by_root.counting.sums_of.Goals as goal

pub with-requires-clause-words : goal.with-requires-clause-words
with-requires-clause-words c =
    let owned = c.args.owned.now in
    let i = c.loop-object.object-index in
    let each = c.loop-object.totals.each.items in
    let so = c.loop-object.invariant in
    let root = (owned_at owned i).root in
    let below : root < c.args.roots = c.requires i none_owned c.loop-object-test.true in
    let there : root < length each = subst (λ n. root < n) (sym so.long) below in
    let read : c.index.result.now ≡ holding_at each root = get_or_read each root c.index.result.now there c.index.ensures no_holding in
    let few : length (take i owned) ≡ i = length-take-le i owned (omega (arith, c.loop-object-test.true)) in
    room_for c.index.result.now (length (take i owned)) c.words_of_shape-words.result
    (subst (IsOfObjects (length (take i owned))) (sym (read ∙ so.each root below)) (so.few _)) (omega (arith, few)) (omega arith)

pub loop-object-preserved : goal.loop-object-preserved
loop-object-preserved c =
    let owned = c.args.owned.now in
    let i = c.loop-object.object-index in
    let each = c.loop-object.totals.each.items in
    let so = c.loop-object.invariant in
    let root = (owned_at owned i).root in
    let words = c.words_of_shape-words.result in
    let is_words : words ≡ words_owned c.args.graph.now (owned_at owned i) = c.words_of_shape-words.ensures ∙ ap (λ (s : Shape). shape_words s) c.shape.ensures in
    let below : root < c.args.roots = c.requires i none_owned c.loop-object-test.true in
    let there : root < length each = subst (λ n. root < n) (sym so.long) below in
    let read : c.index.result.now ≡ holding_at each root = get_or_read each root c.index.result.now there c.index.ensures no_holding in
    one_counted c.args.graph.now c.args.roots owned i c.loop-object-test.true words is_words (omega arith) below c.loop-object.totals so _
    (ap (set each root) (c.with.ensures ∙ ap (λ (h : Holding). one_more h words) read)) c.with-totals.ensures
