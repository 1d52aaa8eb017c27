-- A source that reads from another one.
use Rattle.std.proofs.Common.{◌≡◌, ℕ, ◌+◌, Bool, List, ap, ◌∙◌, subst}
use Rattle.std.specs.Prelude.{Result}
use Rattle.command_line.specs.declared.job.Job.{Job}
use Rattle.trace.specs.Streams.{Taken, given_by}
use Rattle.program.specs.declared.configs.Configs.{Configs}
use Rattle.program.specs.declared.fault.Ending.{Ending}
use Rattle.program.specs.declared.fault.RunFault.{RunFault}
use Rattle.program.specs.Faults.{failed_reads}
use Rattle.program.specs.Done.{JobDone}

module _ {T S : Type 0} (old new : T) (source : T → S) (first : S) (is : source old ≡ first) where
  -- A job from this source is a job from the other one.
  pub done_below : (given : S → List ℕ) (ended : S → Bool) (job : Job) (configs : Configs) (taken : Taken) (r : Result Ending RunFault) → JobDone job configs (given_by (λ t. given (source t)) (λ t. ended (source t)) old new) taken r
      → JobDone job configs (given_by given ended first (source new)) taken r
  done_below given ended job configs taken r done = subst (λ (s : S). JobDone job configs (given_by given ended s (source new)) taken r) is done

  -- It also counts its failed reads.
  pub counts_below : (failures : S → ℕ) (r : Result Ending RunFault) → failures (source new) ≡ failures (source old) + failed_reads r → failures (source new) ≡ failures first + failed_reads r
  counts_below failures r e = e ∙ ap (λ s. failures s + failed_reads r) is
