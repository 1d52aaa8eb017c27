use Rattle.std.proofs.Common.{◌≡◌, ◌<◌, ◌≤◌, ◌+◌, length, set, ap, ◌∙◌, sym, subst, refl, arith}
use Rattle.std.specs.Prelude.{slice_index}
use Rattle.graph_heap.specs.Graph.{object_of}
use Rattle.graph_heap.specs.Distance.{found_at}
use Rattle.inspector.specs.Owning.{owned_at}
use Rattle.inspector.proofs.Owning.{IsHanding, handing_first, handing_none, handing_one, handed_more, not_farther}
use Rattle.inspector.proofs.by_root.owning.hand_on.Goals as goal
use Rattle.inspector.proofs.by_root.owning.hand_on.Goals.{in-Some+then-found-to, in-Some+else-found-to, in_default}

pub loop-id-init : goal.loop-id-init
loop-id-init c = handing_first c.args.graph.now c.args.search.now.found c.requires.all c.args.place (owned_at c.args.owned.now c.args.place).root c.args.owned.now c.requires.before refl

pub loop-id-preserved : goal.loop-id-preserved
loop-id-preserved c =
    let g = c.args.graph.now in
    let found = c.args.search.now.found in
    let place = c.args.place in
    let owned = c.loop-id.owned in
    let i = c.loop-id.id-index in
    let root = (owned_at c.args.owned.now place).root in
    let is_refs : c.refs-id-items.result.now ≡ (object_of g.objects (found_at found place).id).refs
    = c.refs-id-items.ensures ∙ ap (λ xs. (object_of g.objects (found_at xs place).id).refs) c.found-found.ensures in
    let there : i < length (object_of g.objects (found_at found place).id).refs = subst (λ xs. i < length xs) is_refs c.loop-id-test.true in
    let id = slice_index c.refs-id-items.result.now i in
    let is_id : id ≡ slice_index (object_of g.objects (found_at found place).id).refs i = ap (λ xs. slice_index xs i) is_refs in
    elim c.match-place.branch [
      | in-Some+then-found-to w ↦ (let far : (found_at found place).distance < (found_at found w.in-Some.to).distance
          = subst (λ xs. (found_at xs place).distance < (found_at xs w.in-Some.to).distance) c.found-found.ensures w.if-found-to.true in
          handing_one g found c.requires.all place i root id owned c.loop-id.invariant c.requires.place there is_id w.in-Some.to w.in-Some.ensures.some far c.match-place.owned
          (w.owned-is ∙ ap (λ r. set owned w.in-Some.to (record { id = (owned_at owned w.in-Some.to).id; root = r })) w.min.ensures))
      | in-Some+else-found-to w ↦ (let near : (found_at found w.in-Some.to).distance ≤ (found_at found place).distance
          = subst (λ xs. (found_at xs w.in-Some.to).distance ≤ (found_at xs place).distance) c.found-found.ensures w.if-found-to.false in
          subst (IsHanding g found place (i + 1) root) (sym w.owned-is)
          (handing_none g found c.requires.all place i root id owned c.loop-id.invariant c.requires.place there is_id (not_farther g found c.requires.all place w.in-Some.to id w.in-Some.ensures.some near)))
      | in_default w ↦ subst (IsHanding g found place (i + 1) root) (sym w.owned-is)
          (handing_none g found c.requires.all place i root id owned c.loop-id.invariant c.requires.place there is_id (λ j lj e far. w.in_default.ensures.none refl j lj e))
    ]

pub returns : goal.returns
returns c =
    let g = c.args.graph.now in
    let found = c.args.search.now.found in
    let place = c.args.place in
    let is_refs : c.refs-id-items.result.now ≡ (object_of g.objects (found_at found place).id).refs
    = c.refs-id-items.ensures ∙ ap (λ xs. (object_of g.objects (found_at xs place).id).refs) c.found-found.ensures in
    let long : length c.refs-id-items.result.now ≡ length (object_of g.objects (found_at found place).id).refs = ap length is_refs in
    handed_more g found c.requires.all place c.loop-id.id-index (owned_at c.args.owned.now place).root c.loop-id.owned c.loop-id.invariant
    (omega (arith, long, c.loop-id-test.false, c.loop-id.auto.id-index-end))
