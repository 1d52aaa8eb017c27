use Rattle.std.proofs.Common.{rules, ◌≡◌, ◌%◌, ◌<◌, Ok, sym, ap, ◌∙◌, subst}
use Rattle.std.specs.Arc.{arc_value}
use Rattle.atomic_table.specs.Seated.{TableId}
use Rattle.atomic_table.specs.Table.{Me}
use Rattle.heap_shared.specs.declared.rule.Known.{Known}
use Rattle.heap_shared.specs.Ring.{Ringed}
use Rattle.heap_shared.specs.Members.{MemberView, Enters, shown_by}
use Rattle.heap_shared.proofs.Turns.{enters}
use Rattle.heap_shared.proofs.Members.{carries_none, enters_so, entered}
use Rattle.heap_shared.proofs.member.Member.enter.Goals as goal

pub compare_exchange-found-requires : goal.compare_exchange-found-requires
compare_exchange-found-requires c =
    let d = c.deref-2.ensures in
    let words : 16 < c.deref-2.result.now.shared.table_id.words = subst (λ t. 16 < t.shared.table_id.words) (sym d) c.self.invariant.1 in
    let key = c.deref-2.result.now.shared.key in
    let n = c.peek-seen.result in
    let even : n % 2 ≡ 0 = search rules in
    let out = carries_none _ _ _ c.if-self.false c.self.invariant.5 in
    let id = c.self.inside.seat.id in
    let me = c.self.inside.seat.me in (
      c.self.invariant.0 ∙ sym (ap (λ t. t.shared.table_id) d),
      words,
      enters key _ id n me out.0 even,
    )

pub returns-clause-enters : goal.returns-clause-enters
returns-clause-enters c =
    let key = (arc_value c.self.inside.table).shared.key in
    let table = c.self.inside.seat.table_id in
    let seat = c.compare_exchange-found.new.seat in
    let did = c.compare_exchange-found.ensures in
    let same : c.compare_exchange-found.result ≡ c.peek-seen.result = search rules in
    subst (λ (v : MemberView). Enters v (Ok tt) (shown_by seat.table_id key seat.me)) c.self.view_is
    (subst (λ (t : TableId). Enters (shown_by table key c.self.inside.seat.me) (Ok tt) (shown_by t key seat.me)) (sym did.0)
    (enters_so table key _ _ c.self.inside.seat.me seat.me c.if-self.false c.self.invariant.5 c.self.invariant.2 (did.2.0 same)))

pub invariant_of-self-2 : goal.invariant_of-self-2
invariant_of-self-2 c =
    let did = c.compare_exchange-found.ensures in
    let same : c.compare_exchange-found.result ≡ c.peek-seen.result = search rules in
    let i = c.self.invariant in
    let h = did.2.0 same in (
      did.0 ∙ i.0,
      i.1,
      ap (λ (y : Me Ringed Known). y.0.config) h.has ∙ i.2,
      ap (λ (y : Me Ringed Known). y.0.from) h.has ∙ i.3,
      ap (λ (y : Me Ringed Known). y.0.to) h.has ∙ i.4,
      entered _ _ _ _ i.2 h,
    )
