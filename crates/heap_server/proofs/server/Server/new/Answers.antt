use Rattle.std.proofs.Common.{◌≡◌, ◌<◌, length, ap, sym, ◌∙◌, arith}
use Rattle.graph_heap.specs.Merge.{upto}
use Rattle.heap_model.specs.Settings.{HeapSettings}
use Rattle.heap_server.specs.Names.{Names}
use Rattle.heap_server.specs.Seats.{mutators_of}
use Rattle.heap_server.proofs.Counting.{seats_count, mutators_of-new}
use Rattle.heap_server.proofs.Keeping.{opening_kept}
use Rattle.heap_server.proofs.server.Server.new.Goals as goal

pub invariant_of-new : goal.invariant_of-new
invariant_of-new g c =
    let count : c.args.opening.config.mutators ≡ g.N.Naming.names.settings.limits.mutators = ap (λ (n : Names). n.settings.limits.mutators) c.requires.names in
    let mutators : 0 < g.N.Naming.names.settings.limits.mutators = omega (arith, count, c.args.opening.config.mutators_in_range.0) in
    let r = c.in_ok-recorded.ensures in
    let pages : 0 < length c.in_ok-recorded.recorded.course.heap.store.pages = omega (arith, ap (λ (s : HeapSettings). s.pages) r.settings, c.args.opening.config.pages_in_range.0) in
    (opening_kept _ _ mutators r.heap pages r.history r.place (r.settings ∙ ap (λ (n : Names). n.settings) c.requires.names) c.open-calls.ensures.total c.open-begun.ensures.total c.open-ended.ensures.total c.open-quanta.ensures.total c.open-units.ensures.total, c.named-place.ensures ∙ sym r.history, omega arith)

pub returns-clause-mutators : goal.returns-clause-mutators
returns-clause-mutators g c =
    let count : c.args.opening.config.mutators ≡ g.N.Naming.names.settings.limits.mutators = ap (λ (n : Names). n.settings.limits.mutators) c.requires.names in
    ap mutators_of c.in_ok-seats.ensures ∙ (mutators_of-new c.args.opening.config.mutators ∙ ap upto count)

pub returns-clause-len : goal.returns-clause-len
returns-clause-len g c = omega (arith, c.in_ok-seats.seats.ok.0, seats_count c.in_ok-seats.seats.items g.N.Naming.names.settings.limits.mutators (returns-clause-mutators g c))
