use Rattle.std.proofs.Common.{◌≡◌, [], ◌∷◌, ◌++◌, ℕ, ap, ◌∙◌, sym, subst, arith}
use Rattle.heap_model.specs.Store.{Store}
use Rattle.nodes.specs.declared.heap_fields.HeapFields.{HeapFields}
use Rattle.nodes.specs.Grey.{GreySet, grey_in, buffer_of, with_buffer, AreLinked}
use Rattle.satb_barrier.proofs.Listing.{named, none_of, own_record, last_some, last_is_grey, more_grey, more_linked, first_linked}
use Rattle.satb_barrier.proofs.list.push_record.Goals.{in-Some, in_default}
use Rattle.satb_barrier.proofs.list.push_record.Goals as goal

pub overflow_sub-last : goal.overflow_sub-last
overflow_sub-last c =
    let a = c.args.heap.now in
    let some = last_some a.nodes a.grey c.requires.none c.requires.once c.args.mutator c.requires.mutator c.in-Some.last (sym c.last_record.ensures ∙ c.in-Some.is) in omega (arith, some)

pub set_link-requires : goal.set_link-requires
set_link-requires c =
    let a = c.args.heap.now in let is = sym c.last_record.ensures ∙ c.in-Some.is in
    c.requires.allocated c.in-Some.last
    (last_is_grey a.nodes a.grey c.requires.none c.requires.once c.args.mutator c.requires.mutator c.in-Some.last is)

-- the same grey set is there, whether or not a link was written, and gets the record
pushed : (a h : HeapFields) (m part : ℕ) (new : Store) (after : GreySet) → record a { nodes = new } ≡ h → after ≡ with_buffer h.grey m (buffer_of h.grey m ++ part ∷ []) → after ≡ with_buffer a.grey m (buffer_of a.grey m ++ part ∷ [])
pushed a h m part new after e is = is ∙ ap (λ (x : HeapFields). let g : GreySet = with_buffer x.grey m (buffer_of x.grey m ++ part ∷ []) in g) (sym e)

pub returns-clause-grey : goal.returns-clause-grey
returns-clause-grey c =
    let a = c.args.heap.now in let h = c.match-last_record.heap in let m = c.args.mutator in let part = c.args.part in
    elim c.match-last_record.branch [
      | in-Some w ↦ (let e : record a { nodes = w.set_link.new.self } ≡ h = cc (w.heap-is) in let link = w.set_link.ensures in
          ap (λ (s : Store). grey_in s c.push.new.self) (sym (ap (λ (x : HeapFields). x.nodes) e) ∙ link.linked)
          ∙ more_grey a.nodes a.grey c.requires.none c.requires.once m c.requires.mutator w.in-Some.last (sym c.last_record.ensures ∙ w.in-Some.is) part
          (named a.nodes w.set_link.new.self w.in-Some.last part link.linked link.there) c.push.new.self (pushed a h m part w.set_link.new.self c.push.new.self e c.push.ensures))
      | in_default w ↦ (let e : a ≡ h = cc (w.heap-is) in
          ap (λ (s : Store). grey_in s c.push.new.self) (sym (ap (λ (x : HeapFields). x.nodes) e))
          ∙ own_record a.nodes a.grey c.push.new.self m part c.requires.mutator (pushed a h m part a.nodes c.push.new.self e c.push.ensures))
    ]

pub returns-clause-linked : goal.returns-clause-linked
returns-clause-linked c =
    let a = c.args.heap.now in let h = c.match-last_record.heap in let m = c.args.mutator in let part = c.args.part in
    let records : GreySet = with_buffer a.grey m (buffer_of a.grey m ++ part ∷ []) in
    elim c.match-last_record.branch [
      | in-Some w ↦ (let e : record a { nodes = w.set_link.new.self } ≡ h = cc (w.heap-is) in let link = w.set_link.ensures in
          subst (AreLinked h.nodes) (sym (pushed a h m part w.set_link.new.self c.push.new.self e c.push.ensures))
          (subst (λ (s : Store). AreLinked s records) (sym (sym (ap (λ (x : HeapFields). x.nodes) e) ∙ link.linked))
          (more_linked a.nodes a.grey c.requires.none c.requires.once m c.requires.mutator w.in-Some.last (sym c.last_record.ensures ∙ w.in-Some.is) part
          (named a.nodes w.set_link.new.self w.in-Some.last part link.linked link.there) c.requires.linked c.requires.some c.requires.part c.requires.fresh)))
      | in_default w ↦ (let e : a ≡ h = cc (w.heap-is) in
          let empty : buffer_of a.grey m ≡ [] = none_of _ (sym c.last_record.ensures ∙ w.in_default.is) in
          subst (AreLinked h.nodes) (sym (pushed a h m part a.nodes c.push.new.self e c.push.ensures))
          (subst (λ (s : Store). AreLinked s records) (ap (λ (x : HeapFields). x.nodes) e)
          (first_linked a.nodes a.grey m part c.requires.mutator c.requires.linked empty c.requires.some c.requires.part c.requires.fresh)))
    ]
