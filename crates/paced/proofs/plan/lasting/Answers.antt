use Rattle.std.proofs.Common.{◌≡◌, ℕ, ◌+◌, ◌*◌, ◌≤◌, ap, ◌∙◌, sym, subst, arith}
use Rattle.paced.specs.declared.plan.Plan.{Plan}
use Rattle.paced.specs.Rooms.{flow_for}
use Rattle.paced.specs.Planning.{quanta_on, FillsPages}
use Rattle.paced.proofs.Planning.{one_fills}
use Rattle.paced.proofs.plan.lasting.Goals as goal

turned : (a b : ℕ) → a * b ≡ b * a
turned a b = grind arith

pub returns-then-words-from-clause-some : goal.returns-then-words-from-clause-some
returns-then-words-from-clause-some c = λ makes made.
    let config = c.args.config.now in
    let plan = c.in_ok-plan.plan in
    let f = subst (FillsPages makes config c.args.live_words c.args.pages c.args.quantum_words) c.in_ok-plan.was (c.fullest.ensures makes made) in
    let q = c.quanta_on-quanta.ensures.quanta makes in
    let a = c.from.ensures in
    let b = c.from-2.ensures in
    let m = c.from-3.ensures in
    let d = c.from-4.ensures in
    let words : c.from.result * c.from-2.result ≡ plan.quantum_words * quanta_on config (flow_for makes c.args.live_words plan) c.args.pages = ap (λ z. z * c.from-2.result) (a ∙ q) ∙ ap (λ z. quanta_on config (flow_for makes c.args.live_words plan) c.args.pages * z) (b ∙ sym f.0) ∙ turned (quanta_on config (flow_for makes c.args.live_words plan) c.args.pages) plan.quantum_words in
    (f.0, record { fits = f.1; lasts = (let t = c.if-words-from.true in omega (arith, t, words, m, d)) }, f.2)

pub returns-else-words-from-clause-none : goal.returns-else-words-from-clause-none
returns-else-words-from-clause-none c = λ makes made none other same lasts fullest.
    let config = c.args.config.now in
    let plan = c.in_ok-plan.plan in
    let f = subst (FillsPages makes config c.args.live_words c.args.pages c.args.quantum_words) c.in_ok-plan.was (c.fullest.ensures makes made) in
    let e = one_fills makes config c.args.live_words c.args.largest c.args.pages other plan (same ∙ sym f.0) lasts.fits f.1 fullest f.2 in
    let q = c.quanta_on-quanta.ensures.quanta makes in
    let a = c.from.ensures in
    let b = c.from-2.ensures in
    let m = c.from-3.ensures in
    let d = c.from-4.ensures in
    let words : c.from.result * c.from-2.result ≡ plan.quantum_words * quanta_on config (flow_for makes c.args.live_words plan) c.args.pages = ap (λ z. z * c.from-2.result) (a ∙ q) ∙ ap (λ z. quanta_on config (flow_for makes c.args.live_words plan) c.args.pages * z) (b ∙ sym f.0) ∙ turned (quanta_on config (flow_for makes c.args.live_words plan) c.args.pages) plan.quantum_words in
    let l : plan.quantum_words * quanta_on config (flow_for makes c.args.live_words plan) c.args.pages + c.args.largest ≤ plan.cycle_words = subst (λ (p : Plan). p.quantum_words * quanta_on config (flow_for makes c.args.live_words p) c.args.pages + c.args.largest ≤ p.cycle_words) e lasts.lasts in
    absurd (let t = c.if-words-from.false in omega (arith, t, words, m, d, l))
