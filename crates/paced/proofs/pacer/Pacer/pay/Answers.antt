use Rattle.std.proofs.Common.{rules, ◌≡◌, ◌+◌, ◌-◌, ◌^◌, min, ap, ◌∙◌, arith}
use Rattle.paced.specs.Pacing.{PacerView, paced_by, worked}
use Rattle.paced.proofs.Pieces.{figures_worked, worked_none, worked_more, worked_pays}
use Rattle.paced.proofs.pacer.Pacer.pay.Goals as goal

pub loop-self-init : goal.loop-self-init
loop-self-init g c = record {
  worked = worked_none g.L.Log.enters c.args.words (paced_by c.args.self.now c.args.heap.now c.args.cycles.now) c.args.log.now;
  figures = search rules;
  agrees = λ h a. a;
}

pub loop-self-preserved : goal.loop-self-preserved
loop-self-preserved g c =
    let old = paced_by c.args.self.now c.args.heap.now c.args.cycles.now in
    let now = paced_by c.loop-self.self c.loop-self.heap c.loop-self.cycles in
    let new = paced_by c.work-began.new.self c.work-began.new.heap c.work-began.new.cycles in
    let quanta = c.saturating_add-quanta.ensures ∙ ap (λ n. min (c.loop-self.quanta + n) (2 ^ 64 - 1)) c.from-in-loop-self.ensures in
    let begun = c.saturating_add-begun.ensures ∙ ap (λ n. min (c.loop-self.begun + n) (2 ^ 64 - 1)) c.from.ensures in
    record {
      worked = worked_more g.L.Log.enters c.args.words old now new c.args.log.now c.loop-self.log c.work-began.new.log c.loop-self.quanta c.loop-self.begun c.saturating_add-quanta.result c.saturating_add-begun.result c.work-began.result c.loop-self.invariant.worked (c.allows.ensures.no c.loop-self-test.true) c.work-began.ensures.piece quanta begun;
      figures = c.work-began.ensures.figures ∙ c.loop-self.invariant.figures;
      agrees = λ h a. c.work-began.ensures.agrees h (c.loop-self.invariant.agrees h a);
    }

pub returns : goal.returns
returns g c =
    let old = paced_by c.args.self.now c.args.heap.now c.args.cycles.now in
    let now = paced_by c.loop-self.self c.loop-self.heap c.loop-self.cycles in
    let q : PacerView = record { counts = record { plan = c.self-2.inside.plan; budget = c.self-2.inside.budget; words = c.self-2.inside.words + c.args.words; quanta = c.self-2.inside.quanta }; figures = c.with_work-self-inside.result } in
    let was = c.loop-self.invariant.worked in
    let f = c.if-words-self.false in
    let e : c.self.inside.plan.cycle_words ≡ c.args.self.now.counts.plan.cycle_words = ap (λ (p : PacerView). p.counts.plan.cycle_words) c.self.view_is in
    let figures : c.self-2.inside.figures ≡ c.args.self.now.figures = ap (λ (p : PacerView). p.figures) c.self-2.view_is ∙ c.loop-self.invariant.figures in
    worked_pays g.L.Log.enters c.args.words old now q c.args.log.now c.loop-self.log c.loop-self.quanta c.loop-self.begun was (omega (arith, f, e)) (c.allows.ensures.yes c.loop-self-test.false)
    (ap (λ (p : PacerView). record p.counts { words = p.counts.words + c.args.words }) c.self-2.view_is)
    (c.with_work-self-inside.ensures ∙ (figures_worked c.self-2.inside.figures was.0.work c.loop-self.quanta c.loop-self.begun was.0.quanta_done was.0.cycles_begun ∙ ap (λ x. worked x was.0.work) figures))
    c.loop-self.invariant.agrees
