-- A log that sees the steps of a run.
use Rattle.std.proofs.Common.{◌≡◌, ◌≢◌, ℕ, inl, inr, true, false, List, [], ◌∷◌, ◌++◌, ap, ◌∙◌, sym, subst}
use Rattle.std.specs.Prelude.{Result, Ok, Err, OnErr}
use Rattle.graph_heap.specs.declared.command.Entry.{Entry}
use Rattle.heap_model.specs.declared.phase.Phase.{Phase}
use Rattle.heap_model.specs.declared.phase.Phase.TheVariants as phases
use Rattle.heap_model.specs.Event.{Course, Does}
use Rattle.space.specs.Pace.{in_cycle}
use Rattle.space.proofs.Paces.Pacing.{idle_phase}
use Rattle.trace.specs.Observing.{Run, after_steps}
use Rattle.trace.specs.Steps.{Step, IsCommand, IsBegin, IsQuantum}
use Rattle.inspector.specs.declared.cycles.log.Log.{Log}
use Rattle.inspector.specs.Steps.{is_beginning, is_quantum, begins}
use Rattle.inspector.specs.Log.{IsLog, HasLogged}
use Rattle.inspector.proofs.cycles.Logging.{log_stays}

-- memory may be refused
pub on_err : {A E : Type 0} (r : Result A E) → OnErr r (Unit {0})
on_err (Ok x) = tt
on_err (Err e) = tt

-- a cycle is running
not_idle : (f : Phase) → in_cycle f ≡ true → f ≢ phases.Idle
not_idle f on e = let z : true ≡ false = sym on ∙ ap in_cycle e in cc

-- A run that is logged so far, and one step more.
module _ (run : Run) (s : Step) (old new : Log) (seen : HasLogged run old) (now : run.now ≡ s.before) where
  logged : IsLog run.steps s.before old
  logged = subst (λ r. IsLog run.steps r old) now seen

  -- a command
  pub command_logged : (e : Entry) → IsCommand e s → new ≡ old → HasLogged (after_steps run (s ∷ []) s.after) new
  command_logged e is same = subst (IsLog (run.steps ++ s ∷ []) s.after) (sym same) (log_stays run.steps s old logged (ap is_quantum is.0) (ap is_beginning is.0))

  -- A cycle is begun, if none is running, or is refused.
  pub on_logged : (number : ℕ) (r : Course) → IsBegin number r s → in_cycle r.heap.phase ≡ true → new ≡ old → HasLogged (after_steps run (s ∷ []) s.after) new
  on_logged number r is on same = elim is.2 [
    | inl begun ↦
        let d = subst (λ e. Does s.before e s.after) begun is.3 in
        absurd (not_idle s.before.heap.phase (ap (λ (x : Course). in_cycle x.heap.phase) is.1 ∙ on) d.idle)
    | inr still ↦ subst (IsLog (run.steps ++ s ∷ []) s.after) (sym same) (log_stays run.steps s old logged (ap is_quantum still) (ap is_beginning still))
  ]

  pub begin_logged : (number : ℕ) (r : Course) → IsBegin number r s → in_cycle r.heap.phase ≡ false
      → ((steps : List Step) (s : Step) → IsLog steps s.before old → begins s ≡ true → s.line ≡ number → s.before ≡ r → IsLog (steps ++ s ∷ []) s.after new) → HasLogged (after_steps run (s ∷ []) s.after) new
  begin_logged number r is off logs = elim is.2 [
    | inl begun ↦ logs run.steps s logged (ap is_beginning begun) is.0 is.1
    | inr still ↦
        let d = subst (λ e. Does s.before e s.after) still is.3 in
        absurd (d.0 (idle_phase s.before.heap.phase (ap (λ (x : Course). in_cycle x.heap.phase) is.1 ∙ off)))
  ]

  -- a quantum
  pub quantum_logged : (budget : ℕ) → IsQuantum budget s → ((steps : List Step) → IsLog steps s.before old → is_quantum s.event ≡ true → IsLog (steps ++ s ∷ []) s.after new) → HasLogged (after_steps run (s ∷ []) s.after) new
  quantum_logged budget is logs = logs run.steps logged (ap is_quantum is.0.2)
