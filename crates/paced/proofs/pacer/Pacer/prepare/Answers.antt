use Rattle.std.proofs.Common.{rules, ◌≡◌, ◌<◌, ◌^◌, List, [], subst, ap, ◌∙◌, arith, refl}
use Rattle.heap_model.specs.Event.{Event}
use Rattle.paced.specs.Logged.{Enters}
use Rattle.paced.specs.declared.figures.Figures.{Figures}
use Rattle.paced.specs.Pacing.{PacerView, paced_by, worked}
use Rattle.paced.proofs.Paths.{work_paces}
use Rattle.paced.proofs.Preparing.{figures_none, prepared}
use Rattle.paced.proofs.pacer.Pacer.prepare.Goals as goal

pub returns-clause-prepares : goal.returns-clause-prepares
returns-clause-prepares g c =
    let q : PacerView = record { counts = record { plan = c.self-2.inside.plan; budget = c.self-2.inside.budget; words = c.self-2.inside.words; quanta = c.self-2.inside.quanta }; figures = c.with_work-self-inside.result } in
    let So : List Event → Type 0 = λ es. Enters g.L.Log.enters c.args.log.now es c.work-began.new.log in
    let f = c.if-self-words.false in
    let e : c.self.inside.plan.cycle_words ≡ c.args.self.now.counts.plan.cycle_words = ap (λ (p : PacerView). p.counts.plan.cycle_words) c.self.view_is in
    let p = prepared So (paced_by c.args.self.now c.args.heap.now c.args.cycles.now) (paced_by c.work-began.new.self c.work-began.new.heap c.work-began.new.cycles) q c.args.words c.work-began.result c.left.result c.from.result c.from-2.result c.self-2.inside.figures
    (c.allows.ensures.no c.if-allows.false) (c.work-began.ensures.piece.0, (c.work-began.new.log, c.work-began.ensures.piece.1, refl)) (ap (λ (p : PacerView). p.counts) c.self-2.view_is) c.from.ensures c.from-2.ensures
    (ap (λ (p : PacerView). p.figures) c.self-2.view_is ∙ c.work-began.ensures.figures) c.with_work-self-inside.ensures c.work-began.ensures.agrees c.left.ensures.ready c.left.ensures.due c.left.ensures.told in
    (omega (arith, f, e), p.0, p.1)

pub returns-clause-paced : goal.returns-clause-paced
returns-clause-paced g c =
    let p = returns-clause-prepares g c in
    (p.1.work, work_paces c.args.words p.1.work _ _ p.1.works)

pub returns-then-allows-clause-prepares : goal.returns-then-allows-clause-prepares
returns-then-allows-clause-prepares g c =
    let may = c.allows.ensures.yes c.if-allows.true in
    let f = c.self.inside.figures in
    let is : f ≡ c.args.self.now.figures = ap (λ (p : PacerView). p.figures) c.self.view_is in
    let quanta : f.quanta < 2 ^ 64 = search rules in
    let cycles : f.cycles < 2 ^ 64 = search rules in
    let least = c.if-self-words.false in
    let e : c.self.inside.plan.cycle_words ≡ c.args.self.now.counts.plan.cycle_words = ap (λ (p : PacerView). p.counts.plan.cycle_words) c.self.view_is in (
      omega (arith, least, e),
      record {
        work = [];
        works = refl;
        least = λ no. absurd (no may);
        most = omega arith;
        figures = subst (λ (x : Figures). x ≡ worked x []) is (figures_none f quanta cycles);
        cycles = (refl, refl);
        agrees = λ h a. a;
        ready = λ none. may;
        due = λ some. absurd (omega (arith, some));
        told = λ some. absurd (omega (arith, some));
      },
      refl,
    )
