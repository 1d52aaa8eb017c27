use Rattle.std.proofs.Common.{◌≡◌, ℕ, ◌*◌, true, ap, ◌∙◌, arith}
use Rattle.std.proofs.lemmas.Bool.{leb-true, le-leb}
use Rattle.paced.specs.Rooms.{planned_flow}
use Rattle.paced.specs.Planning.{quanta_on}
use Rattle.paced.proofs.plan.lasts.Goals as goal

turned : (a b : ℕ) → a * b ≡ b * a
turned a b = grind arith

pub returns-then-plan-ge1 : goal.returns-then-plan-ge1
returns-then-plan-ge1 c =
    let plan = c.args.plan.now in
    let config = c.args.config.now in
    let quanta : ℕ = quanta_on config (planned_flow c.args.live_words plan) config.pages in
    let q = c.from.ensures ∙ c.cycle_quanta-quanta.ensures.quanta (λ class. true) in
    let words : c.from.result * c.from-2.result ≡ plan.quantum_words * quanta_on config (planned_flow c.args.live_words plan) config.pages =
    ap (λ z. z * c.from-2.result) q ∙ ap (λ z. quanta_on config (planned_flow c.args.live_words plan) config.pages * z) c.from-2.ensures ∙ turned (quanta_on config (planned_flow c.args.live_words plan) config.pages) plan.quantum_words in
    let l = c.from-then-plan-ge1.ensures in
    let d = c.from-then-plan-ge1-2.ensures in
    let s = c.if-plan-ge1.true in
    let b = c.fits-plan.1.0.1 in (
      λ is. record { some = omega (arith, s); lasts = (let t = leb-true _ _ is in omega (arith, t, words, l, d)); small = omega (arith, b) },
      λ w. le-leb _ _ (let t = w.lasts in omega (arith, t, words, l, d)),
    )
