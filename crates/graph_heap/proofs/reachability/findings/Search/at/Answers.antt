use Rattle.std.proofs.Common.{◌≡◌, ◌<◌, ◌≤◌, length, subst, arith}
use Rattle.std.proofs.lemmas.List.{get_or_read}
use Rattle.graph_heap.specs.Distance.{none_found, found_at, AreOnce}
use Rattle.graph_heap.specs.Search.{Findings}
use Rattle.graph_heap.proofs.reachability.Places.{once_found, few_found}
use Rattle.graph_heap.proofs.reachability.findings.Search.at.Goals as goal

pub returns-then-place-len-clause-found : goal.returns-then-place-len-clause-found
returns-then-place-len-clause-found c =
    let found = c.self.inside.found.items in
    let within : c.args.place < length found = omega arith in
    subst (λ (s : Findings). (c.args.place < length s.found) × (c.index.result.now ≡ found_at s.found c.args.place)) c.self.view_is
    (within, get_or_read found c.args.place c.index.result.now within c.index.ensures none_found)

pub returns-then-place-len-clause-few : goal.returns-then-place-len-clause-few
returns-then-place-len-clause-few c = subst (λ (s : Findings). length s.found ≤ s.objects) c.self.view_is (few_found c.self.inside c.self.invariant)

pub returns-then-place-len-clause-once : goal.returns-then-place-len-clause-once
returns-then-place-len-clause-once c = subst (λ (s : Findings). AreOnce s.found) c.self.view_is (once_found c.self.inside c.self.invariant)
