use Rattle.std.proofs.Common.{◌≡◌, ℕ, ◌-◌, ◌≤◌, ◌⊎◌, inl, inr, Bool, ◌∙◌, sym, arith}
use Rattle.fragmentation.specs.Flow.{classes_made}
use Rattle.paced.specs.declared.plan.Plan.{Plan}
use Rattle.paced.specs.Planning.{MayChoose}
use Rattle.paced.proofs.Planning.{single_chosen, none_told, chosen_fastest}
use Rattle.paced.proofs.plan.fastest.Goals as goal

pub loop-words-init : goal.loop-words-init
loop-words-init c = record { most = λ makes made plan may. c.most_words-words.ensures makes made plan may.lasts }

pub returns-then-is_some : goal.returns-then-is_some
returns-then-is_some c = λ makes made.
    chosen_fastest makes c.args.config.now c.args.live_words c.args.largest c.loop-words.words (let l = c.loop-words-test.true in omega (arith, l)) c.lasting-plan.result (sym c.is_some.ensures ∙ c.if-is_some.true) (c.lasting-plan.ensures.some makes made) (c.loop-words.invariant.most makes made)

order : (a b : ℕ) → a ≤ b → (a ≡ b) ⊎ (a ≤ b - 1)
order a b l = grind arith

pub loop-words-preserved : goal.loop-words-preserved
loop-words-preserved c = record { most = λ makes made plan may. by_order makes made plan may (order plan.quantum_words c.loop-words.words (c.loop-words.invariant.most makes made plan may)) }
  where
    by_order : (makes : ℕ → Bool) → classes_made makes ≡ c.args.classes → (plan : Plan) → MayChoose makes c.args.config.now c.args.live_words c.args.largest plan → (plan.quantum_words ≡ c.loop-words.words) ⊎ (plan.quantum_words ≤ c.loop-words.words - 1) → plan.quantum_words ≤ c.loop-words.words - 1
    by_order makes made plan may (inl e) = absurd (c.lasting-plan.ensures.none makes made (none_told c.lasting-plan.result (sym c.is_some.ensures ∙ c.if-is_some.false)) plan e may.lasts may.fullest)
    by_order makes made plan may (inr l) = l

pub returns : goal.returns
returns c = λ makes made p.
    let s = single_chosen makes c.args.config.now c.args.live_words c.args.largest p in
    let m = c.loop-words.invariant.most makes made s.0 s.1 in
    let one = s.1.some in
    omega (arith, m, one, c.loop-words-test.false)
