use Rattle.std.proofs.Common.{◌≡◌, ◌<◌, ◌+◌, ℕ, refl, List, [], ◌∷◌, ◌++◌, length, sym, ap, ◌∙◌, subst, arith}
use Rattle.std.proofs.lemmas.Bool.{false≢true}
use mathlib.Core.List.{IsPrefix}
use Rattle.graph_heap.specs.declared.command.Command.{Command}
use Rattle.graph_heap.specs.declared.command.Reply.{Reply}
use Rattle.graph_heap.specs.declared.command.Entry.{Entry}
use Rattle.graph_heap.specs.Graph.{opening}
use Rattle.graph_heap.specs.History.{IsLegal}
use Rattle.graph_heap.specs.Merge.{mine}
use Rattle.graph_heap.proofs.Merge.{mine_grows, mine_more}
use Rattle.heap_model.specs.Event.{Course, Enters}
use Rattle.heap_model.specs.Settings.{HeapSettings}
use Rattle.heap_server.specs.Views.{SeatView, LockedView}
use Rattle.heap_server.proofs.Keeping.{call_kept}
use Rattle.heap_server.proofs.Adding.{where_torn, where_done}
use Rattle.heap_server.proofs.locked.Locked.transact.Goals as goal

-- making room leaves the heap and its history
course_was : (v ready old : LockedView) → v ≡ ready → ready ≡ record old { room = ready.room } → v.course ≡ old.course
course_was v ready old is same = ap (λ (w : LockedView). w.course) is ∙ ap (λ (w : LockedView). w.course) same

-- there is room for the call
pub unreachable-requires : goal.unreachable-requires
unreachable-requires g c = absurd (false≢true (c.in_default.ensures.room (omega (arith, c.self.invariant.2, ap (λ (v : LockedView). v.room) c.self.view_is, c.in_ok-make_ready.ensures.room))))

pub overflow_sub-self : goal.overflow_sub-self
overflow_sub-self g c = omega (arith, ap (λ (v : LockedView). v.room) c.self.view_is, c.in_ok-make_ready.ensures.room)

pub invariant_of-seat : goal.invariant_of-seat
invariant_of-seat g c = (
  omega (arith, c.audit.ensures.parts, c.seat.invariant.0),
  omega (arith, c.audit.ensures.amount, c.seat.invariant.1),
  omega (arith, c.audit.ensures.amount, c.seat.invariant.2, mine_grows c.seat.inside.front c.commit-found.new.mine c.seat.inside.mutator c.commit-found.ensures.grows),
)

pub returns-then-found-at-clause-fault : goal.returns-then-found-at-clause-fault
returns-then-found-at-clause-fault g c =
    let len : length c.self.inside.front ≡ length c.history.result.now = ap length (c.self.invariant.1 ∙ sym c.history.ensures.history) in
    let t = where_torn _ _ _ _ (λ found. c.if-found-at.true (found ∙ len)) c.commit-found.ensures.done in
    let same : c.self.inside.front ≡ c.args.self.now.course.history = c.self.invariant.1 ∙ ap (λ (r : Course). r.history) (course_was _ _ c.args.self.now c.self.view_is c.in_ok-make_ready.ensures.same) in
    (t.1, subst (λ (h : List Entry). IsPrefix h c.commit-found.new.mine) same t.2, subst (λ (h : List Entry). length h < length c.commit-found.new.mine) same t.3)

pub invariant_of-self-2 : goal.invariant_of-self-2
invariant_of-self-2 g c =
    let len : length c.self.inside.front ≡ length c.history.result.now = ap length (c.self.invariant.1 ∙ sym c.history.ensures.history) in
    let t = where_done _ _ _ _ (c.if-found-at.false ∙ sym len) c.commit-found.ensures.done in
    let d = c.in-Ok.ensures.does in
    let m = c.seat.inside.mutator in
    let made : Reply → Entry = λ reply. record { mutator = m; command = c.args.command; reply = reply } in
    let history = c.self.inside.recorded.course.history in (
      call_kept _ _ _ _ _ _ c.self.invariant.0 d (c.add.ensures.total ∙ ap (λ (n : ℕ). n + 1) c.audit.ensures.total) refl refl refl refl,
      t.0 ∙ (ap (λ (w : List Entry). w ++ c.next_entry-next.result ∷ []) c.self.invariant.1 ∙ (ap (λ (e : Entry). history ++ e ∷ []) (c.next_entry-next.ensures ∙ ap made (sym d.replies)) ∙ sym d.history)),
      omega (arith, c.self.invariant.2, c.in-Ok.ensures.left),
    )

pub invariant_of-seat-2 : goal.invariant_of-seat-2
invariant_of-seat-2 g c =
    let len : length c.self.inside.front ≡ length c.history.result.now = ap length (c.self.invariant.1 ∙ sym c.history.ensures.history) in
    let t = where_done _ _ _ _ (c.if-found-at.false ∙ sym len) c.commit-found.ensures.done in
    let m = c.seat.inside.mutator in
    let front = c.self.inside.front in
    let grown : length (mine c.commit-found.new.mine m) ≡ length (mine front m) + 1 = ap (λ (w : List Entry). length (mine w m)) (t.1 ∙ t.0) ∙ mine_more front c.next_entry-next.result m (ap (λ (e : Entry). e.mutator) c.next_entry-next.ensures) in (
      omega (arith, c.add.ensures.parts, c.audit.ensures.parts, c.seat.invariant.0),
      omega (arith, c.add.ensures.amount, c.audit.ensures.amount, c.seat.invariant.1),
      omega (arith, c.add.ensures.amount, c.audit.ensures.amount, c.seat.invariant.2, mine_grows c.seat.inside.front front m t.2, grown),
    )

pub returns-clause-legal : goal.returns-clause-legal
returns-clause-legal g c =
    let len : length c.self.inside.front ≡ length c.history.result.now = ap length (c.self.invariant.1 ∙ sym c.history.ensures.history) in
    let t = where_done _ _ _ _ (c.if-found-at.false ∙ sym len) c.commit-found.ensures.done in
    let kept = invariant_of-self-2 g c in
    let sound = kept.0.sound in
    subst (λ (h : List Entry). IsLegal (opening g.N.Naming.names.settings.limits) h) (sym (t.1 ∙ kept.1)) (subst (λ (s : HeapSettings). IsLegal (opening s.limits) c.call.new.self.course.history) sound.settings_are sound.holds.legal)

-- an entry, by what it has
entry_of : (e : Entry) (m : ℕ) (c : Command) → e.mutator ≡ m → e.command ≡ c → record { mutator = m; command = c; reply = e.reply } ≡ e
entry_of e m c by same = ap (λ (k : ℕ). record { mutator = k; command = c; reply = e.reply }) (sym by) ∙ ap (λ (d : Command). record { mutator = e.mutator; command = d; reply = e.reply }) (sym same)

pub returns-clause-ends : goal.returns-clause-ends
returns-clause-ends g c =
    let len : length c.self.inside.front ≡ length c.history.result.now = ap length (c.self.invariant.1 ∙ sym c.history.ensures.history) in
    let t = where_done _ _ _ _ (c.if-found-at.false ∙ sym len) c.commit-found.ensures.done in
    let history = c.self.inside.recorded.course.history in
    let e = c.in-Ok.receipt.entry in
    let own = entry_of e c.seat.inside.mutator c.args.command c.in-Ok.ensures.entry.0 c.in-Ok.ensures.entry.1 in (
      history,
      subst (λ (h : List Entry). IsPrefix c.args.seat.now.seen h) c.self.invariant.1 (subst (λ (seen : List Entry). IsPrefix seen c.self.inside.front) (ap (λ (s : SeatView). s.seen) c.seat.view_is) t.2),
      t.1 ∙ ((invariant_of-self-2 g c).1 ∙ (c.in-Ok.ensures.does.history ∙ ap (λ (x : Entry). history ++ x ∷ []) own)),
      c.in-Ok.ensures.place,
    )

pub returns-clause-does : goal.returns-clause-does
returns-clause-does g c =
    let reply = c.in-Ok.receipt.entry.reply in
    let after = c.call.new.self.course in
    let by = subst (λ (m : ℕ). Enters c.self.inside.recorded.course m c.args.command reply after) (ap (λ (s : SeatView). s.mutator) c.seat.view_is) c.in-Ok.ensures.does in
    subst (λ (r : Course). Enters r c.args.seat.now.mutator c.args.command reply after) (course_was _ _ c.args.self.now c.self.view_is c.in_ok-make_ready.ensures.same) by

pub returns-clause-entry : goal.returns-clause-entry
returns-clause-entry g c = (c.in-Ok.ensures.entry.0 ∙ ap (λ (s : SeatView). s.mutator) c.seat.view_is, c.in-Ok.ensures.entry.1)

pub returns-clause-place : goal.returns-clause-place
returns-clause-place g c = c.in-Ok.ensures.place ∙ ap (λ (r : Course). length r.history) (course_was _ _ c.args.self.now c.self.view_is c.in_ok-make_ready.ensures.same)

-- a seat with one call more
called : (old : SeatView) (m calls more : ℕ) (was seen history : List Entry) → record { mutator = m; calls = calls; seen = was } ≡ old → more ≡ calls + 1 → seen ≡ history
    → record { mutator = m; calls = more; seen = seen } ≡ record old { calls = old.calls + 1; seen = history }
called old m calls more was seen history is one all =
    ap (λ (n : ℕ). record { mutator = m; calls = n; seen = seen }) one ∙ (ap (λ (h : List Entry). record { mutator = m; calls = calls + 1; seen = h }) all ∙ ap (λ (s : SeatView). record s { calls = s.calls + 1; seen = history }) is)

pub returns-clause-seat : goal.returns-clause-seat
returns-clause-seat g c =
    let len : length c.self.inside.front ≡ length c.history.result.now = ap length (c.self.invariant.1 ∙ sym c.history.ensures.history) in
    let t = where_done _ _ _ _ (c.if-found-at.false ∙ sym len) c.commit-found.ensures.done in
    called c.args.seat.now c.seat.inside.mutator _ _ _ _ _ c.seat.view_is (c.add.ensures.amount ∙ ap (λ (n : ℕ). n + 1) c.audit.ensures.amount) (t.1 ∙ (invariant_of-self-2 g c).1)

-- the locked state with one call more
booked : (v ready old : LockedView) (course : Course) (room calls : ℕ) → v ≡ ready → ready ≡ record old { room = ready.room } → calls ≡ v.calls + 1
    → record v { course = course; room = room; calls = calls } ≡ record old { course = course; room = room; calls = old.calls + 1 }
booked v ready old course room calls is same one =
    ap (λ (n : ℕ). record v { course = course; room = room; calls = n }) one ∙ ap (λ (w : LockedView). record w { course = course; room = room; calls = w.calls + 1 }) (is ∙ same)

pub returns-clause-books : goal.returns-clause-books
returns-clause-books g c =
    booked _ _ c.args.self.now c.call.new.self.course _ _ c.self.view_is c.in_ok-make_ready.ensures.same (c.add.ensures.total ∙ ap (λ (n : ℕ). n + 1) c.audit.ensures.total)

pub returns-clause-seen : goal.returns-clause-seen
returns-clause-seen g c = subst (λ (h : List Entry). IsPrefix h c.commit-found.new.mine) (ap (λ (s : SeatView). s.seen) c.seat.view_is) c.commit-found.ensures.grows

pub returns-clause-left : goal.returns-clause-left
returns-clause-left g c = omega (arith, ap (λ (v : LockedView). v.room) c.self.view_is, c.in_ok-make_ready.ensures.kept)
