use Rattle.std.proofs.Common.{◌<◌, ◌≤◌, ◌≡◌, [], length, ap, ◌∙◌, subst, sym, refl, rules, arith}
use Rattle.std.proofs.lemmas.List.{length-replicate}
use Rattle.graph_heap.specs.declared.command.Limits.{Limits}
use Rattle.roots.specs.RootTable.{RootTable}
use Rattle.nodes.specs.Grey.{MutatorRecords, GreySet}
use Rattle.nodes.proofs.Opening.{opening_heap, all_free, new_count}
use Rattle.nodes.proofs.Threading.{no_grey}
use Rattle.nodes.proofs.heap_fields.HeapFields.new.Goals as goal

pub returns-clause-opening : goal.returns-clause-opening
returns-clause-opening c = record { pages = all_free _ _ _ c.in_ok-nodes.ensures; roots = search rules; live = search rules; next = refl; phase = refl; units = refl; grey = no_grey _ _ _ c.in_ok-grey.ensures }

pub returns-clause-heap : goal.returns-clause-heap
returns-clause-heap c =
    let count : length c.in_ok-nodes.nodes.pages ≡ c.args.config.now.pages = new_count c.in_ok-nodes.nodes c.args.config.now.pages _ c.in_ok-nodes.ensures in
    let some : 0 < length c.in_ok-nodes.nodes.pages = (let p = c.args.config.now.pages_in_range.0 in omega arith) in
    let few : length c.in_ok-nodes.nodes.pages ≤ 1048576 = (let p = c.args.config.now.pages_in_range.1 in omega arith) in
    let row : length c.in_ok-roots.roots.cells ≤ 16640 = subst (λ (x : RootTable). length x.cells ≤ 16640) c.roots.view_is (subst (λ n. n ≤ 16640) (sym c.roots.invariant.whole) c.roots.invariant.few) in
    opening_heap _ (returns-clause-opening c) some few row c.args.config.now.defrag_pages_in_range
    (ap (λ (g : GreySet). length g.buffers) c.in_ok-grey.ensures ∙ length-replicate {A = MutatorRecords} c.args.config.now.mutators (record { items = [] }) ∙ sym (ap (λ (l : Limits). l.mutators) c.in_ok-roots.ensures.limits))
