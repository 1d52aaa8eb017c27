use Rattle.std.proofs.Common.{◌≡◌, ◌<◌, ◌+◌, length, set, ap, ◌∙◌, sym, subst, refl}
use Rattle.std.specs.Prelude.{slice_index}
use Rattle.inspector.specs.Owning.{owned_at, IsGiven}
use Rattle.inspector.proofs.Owning.{given_none, given_one}
use Rattle.inspector.proofs.by_root.owning.give.Goals as goal
use Rattle.inspector.proofs.by_root.owning.give.Goals.{in-Some, in_default}

pub loop-root-preserved : goal.loop-root-preserved
loop-root-preserved c =
    let g = c.args.graph.now in
    let found = c.args.search.now.found in
    let owned = c.loop-root.owned in
    let root = c.loop-root.root in
    let id = slice_index c.args.roots.now root in
    let is_id : id ≡ slice_index g.roots root = ap (λ xs. slice_index xs root) c.requires.roots in
    let there : root < length g.roots = subst (λ xs. root < length xs) c.requires.roots c.loop-root-test.true in
    elim c.match-place.branch [
      | in-Some w ↦ given_one g found c.requires.all owned root id there is_id c.loop-root.invariant w.in-Some.place w.in-Some.ensures.some c.match-place.owned
          (w.owned-is ∙ ap (λ r. set owned w.in-Some.place (record { id = (owned_at owned w.in-Some.place).id; root = r })) w.min.ensures)
      | in_default w ↦ subst (IsGiven g found (root + 1)) (sym w.owned-is) (given_none g found c.requires.all owned root id there is_id c.loop-root.invariant (w.in_default.ensures.none refl))
    ]
