use Rattle.std.proofs.Common.{◌≡◌, ◌<◌, ⊎_elim, [], sym, ap, ◌∙◌, subst, arith}
use Rattle.heap_shared.specs.Members.{MemberView}
use Rattle.heap_shared.proofs.Splitting.{spares, learns}
use Rattle.atomic_table.specs.Table.{Me}
use Rattle.heap_shared.specs.declared.rule.Known.{Known}
use Rattle.heap_shared.specs.Members.{IsMember}
use Rattle.heap_shared.specs.Ring.{Ringed}
use Rattle.heap_shared.specs.Turns.{learning}
use Rattle.std.specs.Arc.{arc_value}
use Rattle.heap_shared.proofs.Members.{empty_handed, learnt_still}
use Rattle.heap_shared.proofs.member.Member.learn.Goals as goal

pub split_seat-spare-requires : goal.split_seat-spare-requires
split_seat-spare-requires c =
    let d = c.deref.ensures in
    let words : 16 < c.deref.result.now.shared.table_id.words = subst (λ t. 16 < t.shared.table_id.words) (sym d) c.self.invariant.1 in
    let mine = c.self.inside.seat in (
      c.self.invariant.0 ∙ sym (ap (λ t. t.shared.table_id) d),
      omega (arith, words),
      spares c.deref.result.now.shared.key mine.id mine.me.0,
    )

pub join_seat-requires : goal.join_seat-requires
join_seat-requires c =
    let d = c.deref-2.ensures in
    let words : 16 < c.deref-2.result.now.shared.table_id.words = subst (λ t. 16 < t.shared.table_id.words) (sym d) c.self.invariant.1 in
    let mine = c.split_seat-spare.new.seat in
    let fits = c.fitting_first-fitting.result.0 in
    let split = c.split_seat-spare.ensures in
    let spare = c.split_seat-spare.result in
    let theirs = c.other.inside.seat in
    let at = c.self.invariant.0 ∙ sym (ap (λ t. t.shared.table_id) d) in
    let none = ap (λ (v : MemberView). v.turn) c.other.view_is ∙ c.requires in
    let here : (fits.table_id ≡ spare.table_id) × (fits.me.1 ≡ []) = ⊎_elim
    (λ t. (ap (λ s. s.table_id) t.1 ∙ t.0, ap (λ s. s.me.1) t.1 ∙ empty_handed _ _ _ none c.other.invariant.5))
    (λ t. (ap (λ s. s.table_id) t.1, ap (λ s. s.me.1) t.1 ∙ ap (λ m. m.1) split.4))
    c.fitting_first-fitting.ensures in (
      split.0 ∙ at,
      here.0 ∙ (split.3 ∙ at),
      here.1,
      omega (arith, words),
      learns c.deref-2.result.now.shared.key mine.id mine.me.0 fits.id fits.me.0,
    )

pub invariant_of-self : goal.invariant_of-self
invariant_of-self c =
    let split = c.split_seat-spare.ensures in
    let join = c.join_seat.ensures in
    let i = c.self.invariant in
    let fits = c.fitting_first-fitting.result.0 in
    let mine = c.self.inside.seat in
    let at : c.join_seat.new.seat.me ≡ (learning mine.me.0 fits.me.0, mine.me.1) = join.2 ∙ ap (λ (y : Me Ringed Known). (learning y.0 fits.me.0, y.1)) split.2 in (
      join.0 ∙ (split.0 ∙ i.0),
      i.1,
      ap (λ (y : Me Ringed Known). y.0.config) at ∙ i.2,
      ap (λ (y : Me Ringed Known). y.0.from) at ∙ i.3,
      ap (λ (y : Me Ringed Known). y.0.to) at ∙ i.4,
      subst (IsMember (arc_value c.self.inside.table).shared.key c.self.inside.inside) (sym at) (learnt_still _ _ mine.me _ i.5),
    )
