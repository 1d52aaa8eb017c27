use Rattle.std.proofs.Common.{◌<◌, ◌/◌, Some, sym, ap, ◌∙◌, subst}
use Rattle.std.specs.Arc.{arc_value}
use Rattle.heap_shared.specs.Members.{Places}
use Rattle.heap_shared.proofs.Turns.{looks}
use Rattle.heap_shared.proofs.Members.{carries_none, places_so, shown_so}
use Rattle.heap_shared.proofs.member.Member.place.Goals as goal

pub load-requires : goal.load-requires
load-requires c =
    let d = c.deref.ensures in
    let words : 16 < c.deref.result.now.shared.table_id.words = subst (λ t. 16 < t.shared.table_id.words) (sym d) c.self.invariant.1 in
    let key = c.deref.result.now.shared.key in
    let out = carries_none _ _ _ c.if-self.false c.self.invariant.5 in
    let id = c.self.inside.seat.id in
    let me = c.self.inside.seat.me in (
      c.self.invariant.0 ∙ sym (ap (λ t. t.shared.table_id) d),
      words,
      looks key _ id me out.0 out.1,
    )

pub returns-clause-places : goal.returns-clause-places
returns-clause-places c =
    let key = (arc_value c.self.inside.table).shared.key in
    let old = c.self.inside.seat in
    let new = c.load.new.seat in
    shown_so (λ v w. Places v (Some (c.load.result / 2)) w) old.table_id new.table_id key old.me new.me _ c.load.ensures.0 c.self.view_is
    (places_so old.table_id key _ old.me new.me (c.load.result / 2) c.if-self.false c.self.invariant.5 c.self.invariant.2 c.load.ensures.2)
