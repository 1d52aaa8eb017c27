use Rattle.std.proofs.Common.{◌≡◌, ◌<◌, ◌+◌, ℕ, ap, sym, refl, arith, subst, length, take, sum, slice_index}
use Rattle.std.proofs.lemmas.List.Sums.{sum_by_more}
use Rattle.std.proofs.lemmas.List.Elements.{All-more}
use Rattle.heap_model.specs.Event.{IsBudget}
use Rattle.heap_server.proofs.Collecting.{begins_or_on, spends_budget}
use Rattle.heap_server.proofs.workers.collect.Goals as goal

pub returns-in_default : goal.returns-in_default
returns-in_default g c =
    let i = c.loop-budget.invariant in
    let on = begins_or_on c.begin-on.result c.loop-budget.pacer c.begin-on.new.pacer c.begin-on.ensures.begun c.begin-on.ensures.busy in
    let err = c.in_default.ensures in
    let lt = c.loop-budget-test.true in
    let begun : c.quantum.new.pacer.begun ≡ c.begin-on.new.pacer.begun = ap (λ p. p.begun) err.err in
    let quanta : c.quantum.new.pacer.quanta ≡ c.begin-on.new.pacer.quanta = ap (λ p. p.quanta) err.err in
    let spent : c.quantum.new.pacer.spent ≡ c.begin-on.new.pacer.spent = ap (λ p. p.spent) err.err in
    record {
      within = omega (arith, i.used, lt);
      allowed = i.allowed;
      stops = λ short allowed. let no = err.range.1 (subst (λ (n : ℕ). IsBudget (slice_index c.args.budgets.now n)) i.used allowed) in cc;
      done = omega (arith, quanta, on.quanta, i.done);
      begun = omega (arith, begun, on.begun, i.begun, i.used, lt);
      least = omega (arith, spent, on.spent, i.least);
      most = omega (arith, spent, on.spent, i.most);
    }

pub loop-budget-preserved : goal.loop-budget-preserved
loop-budget-preserved g c =
    let i = c.loop-budget.invariant in
    let on = begins_or_on c.begin-on.result c.loop-budget.pacer c.begin-on.new.pacer c.begin-on.ensures.begun c.begin-on.ensures.busy in
    let ok = c.in-Ok.ensures in
    let spends = spends_budget c.loop-budget.pacer c.begin-on.new.pacer c.quantum.new.pacer _ c.in-Ok.field-0 on ok.paced in
    let lt = c.loop-budget-test.true in
    let at : c.loop-budget.used < length c.args.budgets.now = omega (arith, i.used, lt) in
    let same : slice_index c.args.budgets.now c.loop-budget.used ≡ slice_index c.args.budgets.now c.loop-budget.budget-index = ap (slice_index c.args.budgets.now) i.used in
    let more : sum (take (c.loop-budget.used + 1) c.args.budgets.now) ≡ sum (take c.loop-budget.used c.args.budgets.now) + slice_index c.args.budgets.now c.loop-budget.used = sum_by_more (λ (n : ℕ). n) c.args.budgets.now c.loop-budget.used 0 at in
    record {
      used = omega (arith, i.used);
      allowed = All-more IsBudget c.args.budgets.now c.loop-budget.used 0 at i.allowed (subst (λ (n : ℕ). IsBudget (slice_index c.args.budgets.now n)) (sym i.used) (ok.range.0 refl));
      done = omega (arith, spends.3, i.done);
      begun = omega (arith, spends.0, i.begun);
      least = omega (arith, spends.1, i.least);
      most = omega (arith, spends.2, i.most, more, same);
    }
