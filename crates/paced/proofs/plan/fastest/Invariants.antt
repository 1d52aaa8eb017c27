use Rattle.std.proofs.Common.{◌≡◌, ℕ, ◌≤◌, Bool}
use Rattle.fragmentation.specs.Flow.{classes_made}
use Rattle.paced.specs.declared.plan.Plan.{Plan}
use Rattle.paced.specs.Planning.{MayChoose}
use Rattle.paced.proofs.plan.fastest.Given as goal

-- no plan has more words
abbrev pub invariant-loop-words : goal.invariant-loop-words
invariant-loop-words l = record {
  most : (makes : ℕ → Bool) → classes_made makes ≡ l.classes → (plan : Plan) → MayChoose makes l.config l.live_words l.largest plan → plan.quantum_words ≤ l.words;
}

abbrev pub decreases-loop-words : goal.decreases-loop-words
decreases-loop-words l = l.words
