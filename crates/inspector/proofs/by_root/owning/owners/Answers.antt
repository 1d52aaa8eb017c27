use Rattle.std.proofs.Common.{◌≡◌, length, map, ap, sym, subst, arith}
use Rattle.std.proofs.lemmas.List.{length-map}
use Rattle.graph_heap.specs.declared.reachability.found.Found.{Found}
use Rattle.inspector.specs.declared.by_root.owning.Owned.{Owned}
use Rattle.inspector.specs.Nearest.{AreOwned}
use Rattle.inspector.proofs.OwnedBy.{all_owned}
use Rattle.inspector.proofs.Owning.{written}
use Rattle.inspector.proofs.by_root.owning.owners.Goals as goal

pub returns : goal.returns
returns c =
    let g = c.args.graph.now in
    let new = c.hand_on_all.new.owned in
    let first = λ (f : Found). (let o : Owned = record { id = f.id; root = c.len.result } in o) in
    let made : length c.in_ok-owned.owned.items ≡ length (map first c.found.result.now) = ap length c.in_ok-owned.ensures in
    let all : length c.found.result.now ≡ length c.in_ok-search.search.found = ap length c.found.ensures in
    let long : length new ≡ c.in_ok-owned.owned.len = omega (arith, c.hand_on_all.ensures.given.may.long, made, length-map c.found.result.now first, all, c.in_ok-owned.owned.ok.0) in
    subst (AreOwned g) (sym (written new _ c.in_ok-owned.owned.len long)) (all_owned g c.in_ok-search.search.found c.in_ok-search.ensures new c.hand_on_all.ensures)
