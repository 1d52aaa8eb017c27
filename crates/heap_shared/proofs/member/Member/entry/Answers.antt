use Rattle.std.proofs.Common.{rules, ◌≡◌, ◌≢◌, true, Err, subst, sym}
use Rattle.heap_shared.specs.declared.fault.NoEntry.TheVariants.{NotYet}
use Rattle.heap_shared.specs.Ring.{TellsEntry}
use Rattle.heap_shared.proofs.Members.{tells_so}
use Rattle.heap_shared.proofs.Rings.{not_yet, tells}
use Rattle.heap_shared.proofs.member.Member.entry.Goals as goal

pub returns-then-ago-eq0 : goal.returns-then-ago-eq0
returns-then-ago-eq0 c =
    let has : c.self.inside.inside ≡ true = search rules in
    let none : c.entries_since-ago.result ≡ 0 = search rules in
    let since = c.entries_since-ago.ensures in
    let now = c.slot_mut-heap.result.now in
    tells_so _ _ _ _ _ has c.self.invariant.5 c.slot_mut-heap.ensures.value _ c.self.view_is c.args.place (Err NotYet)
    (not_yet now.events c.args.place c.count.result _ c.count.ensures since.since since.wraps none)

pub returns : goal.returns
returns c =
    let has : c.self.inside.inside ≡ true = search rules in
    let some : c.entries_since-ago.result ≢ 0 = search rules in
    let since = c.entries_since-ago.ensures in
    let now = c.slot_mut-heap.result.now in
    let found = c.entry_ago.ensures in
    tells_so _ _ _ _ _ has c.self.invariant.5 c.slot_mut-heap.ensures.value _ c.self.view_is c.args.place _
    (subst (TellsEntry now.ring now.events c.args.place) (sym c.ok_or.ensures.value)
    (tells now.events c.args.place c.count.result _ c.count.ensures since.since since.wraps _ found.within some c.entry_ago.result found.entry))
