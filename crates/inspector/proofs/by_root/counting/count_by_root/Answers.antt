use Rattle.std.proofs.Common.{◌≡◌, ◌<◌, List, length, ap, sym, subst, arith}
use Rattle.std.specs.List.{All}
use Rattle.inspector.specs.declared.by_root.owning.Owned.{Owned}
use Rattle.inspector.proofs.RootSums.{owned_below, rows_told}
use Rattle.inspector.proofs.by_root.counting.count_by_root.Goals as goal

pub sums_of-requires : goal.sums_of-requires
sums_of-requires c =
    let same : length c.in_ok-roots.field-0.items ≡ length c.args.graph.now.roots = ap length c.in_ok-roots.ensures in
    let long : c.len-roots.result ≡ length c.args.graph.now.roots = omega (arith, c.len-roots.ensures, c.in_ok-roots.field-0.ok.0, same) in
    subst (λ (owned : List Owned). All (λ (o : Owned). o.root < c.len-roots.result) owned) (sym c.as_slice.ensures.value)
    (subst (λ n. All (λ (o : Owned). o.root < n) c.in_ok-owned.owned.items) (sym long) (owned_below c.args.graph.now c.in_ok-owned.owned.items c.in_ok-owned.ensures))

pub returns : goal.returns
returns c =
    let same : length c.in_ok-roots.field-0.items ≡ length c.args.graph.now.roots = ap length c.in_ok-roots.ensures in
    rows_told c.args.graph.now c.in_ok-owned.owned.items c.as_slice.result.now c.len-roots.result c.in_ok-totals.totals c.as_slice-2.result.now c.in_ok-rows_of.field-0.items
    c.in_ok-owned.ensures c.as_slice.ensures.value (omega (arith, c.len-roots.ensures, c.in_ok-roots.field-0.ok.0, same)) c.in_ok-totals.ensures c.as_slice-2.ensures.value c.in_ok-rows_of.ensures
