use Rattle.std.proofs.Common.{rules, ◌<◌, length, ap, ◌∙◌}
use Rattle.std.specs.Option.{option_map}
use Rattle.paced.specs.Pacing.{PacerView}
use Rattle.heap_shared.proofs.Plans.{new_asked, figures_first}
use Rattle.heap_shared.proofs.shared_heap.SharedHeap.new.Goals as goal

pub returns-clause-asked : goal.returns-clause-asked
returns-clause-asked c =
    let h = c.in_ok-heap.heap in
    let pages : 0 < length h.store.pages = search rules in
    new_asked c.args.asked.now h c.in_ok-log.log _ c.asked.result c.in_ok-heap.ensures.opening pages c.in_ok-heap.ensures.settings c.in_ok-log.ensures c.asked.ensures

pub returns-clause-figures : goal.returns-clause-figures
returns-clause-figures c = ap (option_map (λ (p : PacerView). p.figures)) c.asked.ensures ∙ figures_first c.args.asked.now.plan _
