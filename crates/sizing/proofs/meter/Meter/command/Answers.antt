use Rattle.std.proofs.Common.{◌<◌, ◌≤◌, length, subst, sym}
use Rattle.graph_heap.specs.Graph.{Graph}
use Rattle.sizing.proofs.Meters.Events.{not_more, asks_before, noted_steps, allocated_measures, kept_measures}
use Rattle.sizing.proofs.meter.Meter.command.Goals as goal

pub returns-then-is_allocated : goal.returns-then-is_allocated
returns-then-is_allocated c = λ l es r new v w e.
    let x = c.args.entry.now in
    let old = c.args.self.now in
    allocated_measures l es r new x.mutator x.command x.reply old v w e c.in_ok-is_allocated.asked c.in_ok-is_allocated.ensures.asked (record c.ask.new.self { graph = old.graph }) (asks_before c.in_ok-is_allocated.asked old c.record.new.self c.ask.new.self c.in_ok-is_allocated.ensures.same c.ask.ensures) c.ask.new.self
    (noted_steps old c.record.new.self c.ask.new.self x c.ask.ensures.graph c.in_ok-is_allocated.ensures.stepped) c.allocate.new.self (subst (λ (z : Graph). length old.graph.objects < length z.objects) (sym c.ask.ensures.graph) (c.in_ok-is_allocated.ensures.grows.0 c.if-is_allocated.true)) c.allocate.ensures

pub returns-else-is_allocated : goal.returns-else-is_allocated
returns-else-is_allocated c = λ l es r new v w e.
    let x = c.args.entry.now in
    let old = c.args.self.now in
    kept_measures l es r new x.mutator x.command x.reply old v w e c.in_ok-is_allocated.asked c.in_ok-is_allocated.ensures.asked (record c.ask.new.self { graph = old.graph }) (asks_before c.in_ok-is_allocated.asked old c.record.new.self c.ask.new.self c.in_ok-is_allocated.ensures.same c.ask.ensures) c.ask.new.self
    (noted_steps old c.record.new.self c.ask.new.self x c.ask.ensures.graph c.in_ok-is_allocated.ensures.stepped) (subst (λ (z : Graph). length z.objects ≤ length old.graph.objects) (sym c.ask.ensures.graph) (not_more c.in_ok-is_allocated.is_allocated _ _ c.in_ok-is_allocated.ensures.grows.1 c.if-is_allocated.false))
