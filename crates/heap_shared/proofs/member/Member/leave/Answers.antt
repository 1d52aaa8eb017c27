use Rattle.std.proofs.Common.{rules, ◌≡◌, ◌<◌, length, true, false, [], sym, ap, ◌∙◌, subst}
use Rattle.std.specs.Arc.{arc_value}
use Rattle.atomic_table.specs.Table.{Me}
use Rattle.heap_shared.specs.declared.rule.Known.{Known}
use Rattle.heap_shared.specs.Ring.{Ringed}
use Rattle.heap_shared.specs.Turns.{seen_now, put_back}
use Rattle.heap_shared.specs.Members.{Leaves}
use Rattle.heap_shared.proofs.Turns.{leaves}
use Rattle.heap_shared.proofs.Words.{twice}
use Rattle.heap_shared.proofs.Members.{carried_now, leaves_so, leaves_grow, shown_so}
use Rattle.heap_shared.proofs.member.Member.leave.Goals as goal

pub store-requires : goal.store-requires
store-requires c =
    let d = c.deref-2.ensures in
    let words : 16 < c.deref-2.result.now.shared.table_id.words = subst (λ t. 16 < t.shared.table_id.words) (sym d) c.self.invariant.1 in
    let key = c.deref-2.result.now.shared.key in
    let held = (arc_value c.self.inside.table).shared.key in
    let yes : c.self.inside.inside ≡ true = search rules in
    let me = c.self.inside.seat.me in
    let one = carried_now _ _ me c.slot_mut.result.now c.slot_mut.result.now yes c.self.invariant.5 c.slot_mut.ensures.value in (
      c.self.invariant.0 ∙ sym (ap (λ t. t.shared.table_id) d),
      words,
      leaves key _ c.self.inside.seat.id _ (me.0, _) c.slot_mut.result.now one.carried one.inside one.goes held c.self.invariant.2 one.asked (twice _ c.count-events.result c.count-events.ensures) one.still,
    )

pub returns-clause-leaves : goal.returns-clause-leaves
returns-clause-leaves c =
    let key = (arc_value c.self.inside.table).shared.key in
    let old = c.self.inside.seat in
    let new = c.store.new.seat in
    let has : c.self.inside.inside ≡ true = search rules in
    let did = subst (λ (m : Me Ringed Known). new.me ≡ (record m.0 { seen = seen_now m; inside = false; last = put_back (length (seen_now m)) m.0.last m.1 }, [])) (ap (λ l. (old.me.0, l)) (sym c.slot_mut.ensures.value)) c.store.ensures.2 in
    shown_so (λ v w. Leaves v true w) old.table_id new.table_id key old.me new.me _ c.store.ensures.0 c.self.view_is (leaves_so old.table_id key _ old.me new.me has c.self.invariant.5 did)

pub returns-clause-grows : goal.returns-clause-grows
returns-clause-grows c = leaves_grow c.args.self.now true _ (returns-clause-leaves c)
