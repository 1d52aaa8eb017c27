use Rattle.std.proofs.Common.{◌≡◌, [], ap, ◌∙◌, sym, subst, arith}
use Rattle.heap_model.specs.Store.{Store}
use Rattle.nodes.specs.Grey.{GreySet, grey_in, with_buffer, AreLinked}
use Rattle.satb_barrier.proofs.Listing.{few, named, none_of, emptied_same, last_some, last_is_grey, hung_grey, hung_linked}
use Rattle.satb_barrier.proofs.list.flush.Goals.{After-clear}
use Rattle.satb_barrier.proofs.list.flush.Goals as goal

pub returns-in_default-clause-same : goal.returns-in_default-clause-same
returns-in_default-clause-same c =
    let a = c.args.heap.now in
    ap (λ (g : GreySet). record a { grey = g }) (sym (emptied_same a.grey c.args.mutator (none_of _ (sym c.last_record.ensures ∙ c.in_default.is))))

pub overflow_sub-last : goal.overflow_sub-last
overflow_sub-last c =
    let a = c.args.heap.now in
    let some = last_some a.nodes a.grey c.requires.grey.some c.requires.grey.once c.args.mutator c.requires.mutator c.in-Some.last (sym c.last_record.ensures ∙ c.in-Some.is) in omega (arith, some)

pub set_link-requires : goal.set_link-requires
set_link-requires c =
    let a = c.args.heap.now in
    c.requires.grey.allocated c.in-Some.last (last_is_grey a.nodes a.grey c.requires.grey.some c.requires.grey.once c.args.mutator c.requires.mutator c.in-Some.last (sym c.last_record.ensures ∙ c.in-Some.is))

-- what the grey set is then
emptied : (c : After-clear) → c.clear.new.self ≡ record (with_buffer c.args.heap.now.grey c.args.mutator []) { first = c.first_record-first.result }
emptied c = c.clear.ensures ∙ ap (λ (g : GreySet). with_buffer g c.args.mutator []) c.set_first.ensures

pub returns-clause-grey : goal.returns-clause-grey
returns-clause-grey c =
    let a = c.args.heap.now in let link = c.set_link.ensures in
    ap (grey_in c.set_link.new.self) (emptied (goal.at.returns-clause-grey c).After-clear)
    ∙ ap (λ (s : Store). grey_in s (record (with_buffer a.grey c.args.mutator []) { first = c.first_record-first.result })) link.linked
    ∙ hung_grey a.nodes a.grey c.requires.grey.some c.requires.grey.once c.args.mutator c.requires.mutator c.in-Some.last (sym c.last_record.ensures ∙ c.in-Some.is) c.first.result
    (named a.nodes c.set_link.new.self c.in-Some.last c.first.result link.linked link.there) c.requires.linked c.first.ensures (few a c.requires.grey) c.first_record-first.result c.first_record-first.ensures

pub returns-clause-linked : goal.returns-clause-linked
returns-clause-linked c =
    let a = c.args.heap.now in let link = c.set_link.ensures in
    subst (AreLinked c.set_link.new.self) (sym (emptied (goal.at.returns-clause-linked c).After-clear))
    (subst (λ (s : Store). AreLinked s (record (with_buffer a.grey c.args.mutator []) { first = c.first_record-first.result })) (sym link.linked)
    (hung_linked a.nodes a.grey c.requires.grey.some c.requires.grey.once c.args.mutator c.requires.mutator c.in-Some.last (sym c.last_record.ensures ∙ c.in-Some.is) c.first.result
    (named a.nodes c.set_link.new.self c.in-Some.last c.first.result link.linked link.there) c.requires.linked c.first.ensures (few a c.requires.grey) c.first_record-first.result c.first_record-first.ensures))
