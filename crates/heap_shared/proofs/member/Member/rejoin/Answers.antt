use Rattle.std.proofs.Common.{◌<◌, sym, ap, ◌∙◌, subst, arith}
use Rattle.std.specs.Arc.{arc_value}
use Rattle.heap_shared.specs.Members.{MemberView}
use Rattle.heap_shared.proofs.Members.{empty_handed}
use Rattle.heap_shared.proofs.Rejoining.{rejoins, half_shown, given_here}
use Rattle.heap_shared.proofs.member.Member.rejoin.Goals as goal

pub join_seat-requires : goal.join_seat-requires
join_seat-requires c =
    let d = c.deref.ensures in
    let words : 16 < c.deref.result.now.shared.table_id.words = subst (λ t. 16 < t.shared.table_id.words) (sym d) c.self.invariant.1 in
    let at = c.self.invariant.0 ∙ sym (ap (λ t. t.shared.table_id) d) in
    let mine = c.self.inside.seat in
    let theirs = c.made.inside.seat in
    let given = given_here _ _ _ _ c.requires in
    let here = ap (λ (v : MemberView). v.heap) c.made.view_is ∙ (given.0 ∙ sym (ap (λ (v : MemberView). v.heap) c.self.view_is)) in (
      at,
      here ∙ at,
      empty_handed _ _ _ (ap (λ (v : MemberView). v.turn) c.made.view_is ∙ given.1) c.made.invariant.5,
      omega (arith, words),
      rejoins c.deref.result.now.shared.key mine.id mine.me.0 theirs.id theirs.me.0 _ c.made.invariant.2 (half_shown _ _ (arc_value c.self.inside.table).shared.key (arc_value c.made.inside.table).shared.key _ _ _ _ c.self.view_is c.made.view_is _ _ c.requires),
    )
