use Rattle.std.proofs.Common.{◌≡◌, ℕ, ◌+◌, ◌≤◌, Option, Some, None, arith, sym, subst}
use Rattle.std.specs.Option.{option_or}
use Rattle.size_classes.specs.declared.config.TheConstants.{MOST_PAGES}
use Rattle.space.specs.Fitting.{pace_in, pages_needed, FitsIn}
use Rattle.inspector.specs.NeededReport.{IsFrom}
use Rattle.inspector.proofs.pages_needed.Onward.{HoldsFrom, with_next, without_next}
use Rattle.inspector.proofs.pages_needed.from.fits_from.Goals as goal
use Rattle.inspector.proofs.pages_needed.from.fits_from.Goals.{then-needed-from, else-needed-from}

pub loop-pages-preserved : goal.loop-pages-preserved
loop-pages-preserved c = elim c.if-needed-from.branch [
  | then-needed-from w ↦ let e : option_or c.loop-pages.from (Some c.loop-pages.pages) ≡ c.if-needed-from.from = cc (w.from-is, w.or-from.ensures) in
      subst (HoldsFrom Fits (c.loop-pages.pages + 1)) e (with_next Fits c.loop-pages.pages c.loop-pages.from c.loop-pages.invariant (omega (arith, c.loop-pages.auto.pages)) (fits (omega (arith, w.if-needed-from.true, c.from.ensures))))
  | else-needed-from w ↦ let e : None ≡ c.if-needed-from.from = cc (w.from-is) in
      subst (HoldsFrom Fits (c.loop-pages.pages + 1)) e (without_next Fits c.loop-pages.pages (λ f. (let l = back f in absurd (omega (arith, l, w.if-needed-from.false, c.from.ensures)))))
]
  where
    Fits : ℕ → Type 0
    Fits = FitsIn c.args.config.now (pace_in c.args.pace.now)

    needed : c.pace_needs-needed.result.pages ≡ pages_needed c.args.config.now (pace_in c.args.pace.now) c.loop-pages.pages
    needed = c.pace_needs-needed.ensures.pages

    fits : c.pace_needs-needed.result.pages ≤ c.loop-pages.pages → Fits c.loop-pages.pages
    fits l = subst (λ z. z ≤ c.loop-pages.pages) needed l

    back : Fits c.loop-pages.pages → c.pace_needs-needed.result.pages ≤ c.loop-pages.pages
    back f = subst (λ z. z ≤ c.loop-pages.pages) (sym needed) f

pub returns : goal.returns
returns c = by_from c.loop-pages.from c.loop-pages.invariant
  where
    all : c.loop-pages.pages ≡ MOST_PAGES + 1
    all = omega (arith, c.loop-pages-test.false, c.loop-pages.auto.pages-end)

    by_from : (from : Option ℕ) → HoldsFrom (FitsIn c.args.config.now (pace_in c.args.pace.now)) c.loop-pages.pages from → IsFrom c.args.config.now (pace_in c.args.pace.now) from
    by_from None holds = λ fits. holds MOST_PAGES (sym all) (omega arith) fits
    by_from (Some from) holds = (holds.0, omega (arith, holds.1, all), (λ pages low high. holds.2 pages low (omega (arith, high, all))), holds.3)
