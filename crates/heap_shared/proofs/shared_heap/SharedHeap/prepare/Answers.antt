use Rattle.std.proofs.Common.{rules, ◌≡◌, ◌∙◌, Some, ap, sym, subst}
use Rattle.std.specs.Prelude.{Option}
use Rattle.paced.specs.Pacing.{PacerView}
use Rattle.heap_shared.specs.Ring.{PreparesBy}
use Rattle.heap_shared.proofs.Paid.{ringed, as_prepared, prepared_led, prepared_by}
use Rattle.heap_shared.proofs.shared_heap.SharedHeap.prepare.Goals.{in-Ok, in-Err}
use Rattle.heap_shared.proofs.shared_heap.SharedHeap.prepare.Goals as goal

pub invariant_of-self-2 : goal.invariant_of-self-2
invariant_of-self-2 c =
    let a = c.self.inside in
    prepared_led a.heap c.prepare.new.heap a.cycles c.prepare.new.cycles c.in-Some.pacer c.prepare.new.self c.args.words a.log c.prepare.new.log c.self.invariant c.prepare.result c.prepare.ensures.prepares

pub returns : goal.returns
returns c =
    let a = c.self.inside in
    let is : a.pacer ≡ Some c.in-Some.pacer = search rules in
    let shows = subst (λ (p : Option PacerView). ringed a.heap a.log a.cycles p ≡ c.args.self.now) is c.self.view_is in
    let does = prepared_by a.heap c.prepare.new.heap a.cycles c.prepare.new.cycles c.in-Some.pacer c.prepare.new.self c.args.words a.log c.prepare.new.log c.self.invariant c.prepare.result c.prepare.ensures.prepares c.args.self.now shows in
    let same : c.match-prepare.result ≡ as_prepared c.prepare.result = elim c.match-prepare.branch [ in-Ok w ↦ w.result-is ∙ sym (ap as_prepared w.in-Ok.is) | in-Err w ↦ w.result-is ∙ sym (ap as_prepared w.in-Err.is) ] in
    subst (λ told. PreparesBy c.args.self.now c.args.words told (ringed c.prepare.new.heap c.prepare.new.log c.prepare.new.cycles (Some c.prepare.new.self))) (sym same) does
