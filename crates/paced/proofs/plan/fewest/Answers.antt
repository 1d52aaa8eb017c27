use Rattle.std.proofs.Common.{◌≡◌, ℕ, ◌+◌, ◌<◌, ◌≤◌, ◌⊎◌, inl, inr, Bool, true, false, arith, sym, subst, ◌∙◌}
use Rattle.std.proofs.lemmas.Bool.{cases_lt}
use Rattle.fragmentation.specs.Flow.{classes_made}
use Rattle.paced.specs.Planning.{HasPlanOn}
use Rattle.paced.proofs.plan.fewest.Goals as goal

pub loop-pages-init : goal.loop-pages-init
loop-pages-init c = record { none = λ makes made pages one less fits. omega (arith, one, less) }

pub loop-pages-preserved : goal.loop-pages-preserved
loop-pages-preserved c = record { none = λ makes made pages one less fits. by_size makes made pages one less fits (cases_lt pages c.loop-pages.pages) }
  where
    by_size : (makes : ℕ → Bool) → classes_made makes ≡ c.args.classes → (pages : ℕ) → 1 ≤ pages → pages < c.loop-pages.pages + 1 → HasPlanOn makes c.args.config.now c.args.live_words c.args.largest pages → (pages < c.loop-pages.pages) ⊎ (c.loop-pages.pages ≤ pages) → ⊥
    by_size makes made pages one less fits (inl low) = c.loop-pages.invariant.none makes made pages one low fits
    by_size makes made pages one less fits (inr high) =
        let e : pages ≡ c.loop-pages.pages = omega (arith, less, high) in
        let t : c.has_plan_on.result ≡ true = (c.has_plan_on.ensures makes made).1 (subst (λ n. HasPlanOn makes c.args.config.now c.args.live_words c.args.largest n) e fits) in
        let f : c.has_plan_on.result ≡ false = c.if-has_plan_on.false in
        let z : true ≡ false = sym t ∙ f in cc

pub returns : goal.returns
returns c = λ makes made pages one small fits. c.loop-pages.invariant.none makes made pages one (omega (arith, c.loop-pages-test.false, c.loop-pages.auto.pages-end, small)) fits

pub returns-then-has_plan_on : goal.returns-then-has_plan_on
returns-then-has_plan_on c = λ makes made. (
  c.loop-pages.auto.pages,
  omega (arith, c.loop-pages-test.true, c.loop-pages.auto.pages-end),
  (c.has_plan_on.ensures makes made).0 c.if-has_plan_on.true,
  λ pages one less plan. c.loop-pages.invariant.none makes made pages one less plan,
)
