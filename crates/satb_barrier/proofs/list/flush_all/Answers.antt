use Rattle.std.proofs.Common.{◌≡◌, ◌+◌, ◌<◌, ℕ, [], Option, None, Some, true, false, length, length-set, inl, inr, ap, ◌∙◌, sym, subst, refl, arith}
use Rattle.std.specs.Prelude.{is_some}
use Rattle.std.proofs.lemmas.Bool.{cases_eq}
use Rattle.graph_heap.specs.declared.command.Limits.{Limits}
use Rattle.heap_model.specs.Action.{Relinks}
use Rattle.nodes.specs.declared.heap_fields.HeapFields.{HeapFields}
use Rattle.nodes.specs.Grey.{GreySet, grey_in, buffer_of, AreLinked}
use Rattle.nodes.proofs.Keeping.{relinked_twice}
use Rattle.nodes.proofs.Representing.{are_grey}
use Rattle.nodes.proofs.Threading.{buffers_none}
use Rattle.satb_barrier.proofs.Listing.{are_grey_by, all_empty, empty_more, none_of}
use Rattle.satb_barrier.proofs.list.flush_all.Goals.{then-is_some, else-is_some}
use Rattle.satb_barrier.proofs.list.flush_all.Goals as goal

pub flush-requires-clause-grey : goal.flush-requires-clause-grey
flush-requires-clause-grey c =
    let i = c.loop-mutator.invariant in
    are_grey_by c.args.heap.now c.loop-mutator.heap (are_grey c.args.heap.now c.requires) i.1 i.0 (ap (λ (x : HeapFields). x.mark_parity) i.2)

-- the buffers before one are empty, and the same parts are grey
abbrev Flushed : HeapFields → ℕ → HeapFields → Type 0
Flushed a n h =
    (grey_in h.nodes h.grey ≡ grey_in a.nodes a.grey) × Relinks a.nodes h.nodes × (h ≡ record a { nodes = h.nodes; grey = h.grey }) × (length h.grey.buffers ≡ length a.grey.buffers) × AreLinked h.nodes h.grey
    × ((i : ℕ) → i < n → buffer_of h.grey i ≡ [])

none_by : (o : Option ℕ) → is_some o ≡ false → o ≡ None
none_by None e = refl
none_by (Some x) e = absurd (let t : true ≡ false = e in cc)

pub loop-mutator-preserved : goal.loop-mutator-preserved
loop-mutator-preserved c =
    let a = c.args.heap.now in let old = c.loop-mutator.heap in let m = c.loop-mutator.mutator in let i = c.loop-mutator.invariant in
    let within : m < length old.grey.buffers =
    (let n = i.3 in let b = c.requires.buffers in let e : c.limits-mutator-end.result.mutators ≡ a.roots.limits.mutators = ap (λ (x : Limits). x.mutators) c.limits-mutator-end.ensures.limits in omega (arith, n, b, e, c.loop-mutator-test.true)) in
    elim c.if-is_some.branch [
      | then-is_some w ↦ (let t = w.flush.new.heap in let f = w.flush.ensures in let e : t ≡ c.if-is_some.heap = cc (w.heap-is) in let grey = ap (λ (x : HeapFields). x.grey) f.same in
          subst (Flushed a (m + 1)) e (
            f.grey ∙ i.0,
            relinked_twice a.nodes old.nodes t.nodes i.1 f.links,
            f.same ∙ ap (λ (g : GreySet). record old { nodes = t.nodes; grey = g }) (sym grey) ∙ ap (λ (x : HeapFields). record x { nodes = t.nodes; grey = t.grey }) i.2,
            ap (λ (g : GreySet). length g.buffers) grey ∙ length-set old.grey.buffers m (record { items = [] }) ∙ i.3,
            f.linked,
            (λ k l. subst (λ (g : GreySet). buffer_of g k ≡ []) (sym grey) (empty_more old.grey m within i.5 k l)),
          ))
      | else-is_some w ↦ (let e : old ≡ c.if-is_some.heap = cc (w.heap-is) in
          let none : buffer_of old.grey m ≡ [] = none_of _ (sym c.last_record.ensures ∙ none_by c.last_record.result (sym c.is_some.ensures ∙ w.if-is_some.false)) in
          subst (Flushed a (m + 1)) e (
            i.0,
            i.1,
            i.2,
            i.3,
            i.4,
            (λ k l. elim (cases_eq k m) [ inl q ↦ ap (buffer_of old.grey) q ∙ none | inr ne ↦ i.5 k (omega (arith, l, ne)) ]),
          ))
    ]

pub returns-clause-buffers : goal.returns-clause-buffers
returns-clause-buffers c =
    let i = c.loop-mutator.invariant in
    all_empty c.loop-mutator.heap.grey.buffers
    (λ k l. i.5 k (let n = i.3 in let b = c.requires.buffers in let e : c.limits-mutator-end.result.mutators ≡ c.args.heap.now.roots.limits.mutators = ap (λ (x : Limits). x.mutators) c.limits-mutator-end.ensures.limits in omega (arith, l, n, b, e, c.loop-mutator-test.false)))

pub returns-clause-linked : goal.returns-clause-linked
returns-clause-linked c = c.loop-mutator.invariant.4

pub returns-then-not-records-clause-linked : goal.returns-then-not-records-clause-linked
returns-then-not-records-clause-linked c = c.requires.linked

pub returns-then-not-records-clause-buffers : goal.returns-then-not-records-clause-buffers
returns-then-not-records-clause-buffers c = buffers_none c.args.heap.now.nodes c.args.heap.now.grey (c.requires.empty (sym c.records.ensures ∙ c.if-not-records.true))

pub returns-clause-rests : goal.returns-clause-rests
returns-clause-rests c off = absurd (let z : true ≡ false = sym (sym c.records.ensures ∙ c.if-not-records.false) ∙ off in cc)
