use Rattle.std.proofs.Common.{◌≡◌, ◌+◌, ◌*◌, ◌/◌, ◌≤◌, ap, ◌∙◌, arith, refl}
use Rattle.std.proofs.lemmas.Bool.{leb-true, le-leb}
use Rattle.fragmentation.specs.declared.flow.TheConstants.{LEAST_PAGE_FILL}
use Rattle.paced.proofs.Planning.{traced_on, words_traced}
use Rattle.paced.proofs.plan.fits_on.Goals as goal

pub returns-then-traced-from : goal.returns-then-traced-from
returns-then-traced-from c = λ makes made.
    let plan = c.args.plan.now in
    let traced = words_traced c.from.result c.from-2.result makes c.args.config.now c.args.live_words c.args.pages plan (c.from.ensures ∙ c.sweep_quanta-quanta.ensures.quanta makes plan refl) c.from-2.ensures in
    let live = c.from-3.ensures in
    let cycle = c.from-4.ensures in
    let most = c.from-5.ensures in
    let low : c.from.result * c.from-2.result ≤ c.from-5.result = c.if-traced-from.true in
    let words : c.from-3.result + (2 * c.from-4.result + c.from.result * c.from-2.result) ≡ c.args.live_words + (2 * plan.cycle_words + (traced_on makes c.args.config.now c.args.live_words c.args.pages plan + 0)) = omega (arith, live, cycle, traced) in
    let d = ap (λ z. z / LEAST_PAGE_FILL) words in
    let e = c.pages_for_words.ensures in
    let p = c.from-then-traced-from.ensures in (
      λ is. record { traced = omega (arith, low, traced, most); enough = (let n = leb-true _ _ is in omega (arith, n, d, e, p, made)) },
      λ fits. le-leb _ _ (let g = fits.enough in omega (arith, g, d, e, p, made)),
    )

pub returns-else-traced-from : goal.returns-else-traced-from
returns-else-traced-from c = λ makes made.
    let plan = c.args.plan.now in
    let traced = words_traced c.from.result c.from-2.result makes c.args.config.now c.args.live_words c.args.pages plan (c.from.ensures ∙ c.sweep_quanta-quanta.ensures.quanta makes plan refl) c.from-2.ensures in
    let most = c.from-5.ensures in (
      λ is. absurd (let f = c.if-traced-from.false in let n = leb-true _ _ is in omega (arith, f, n)),
      λ fits. le-leb _ _ (let g = fits.traced in omega (arith, g, traced, most)),
    )
