-- A run whose sink is flushed at its end.
use Rattle.std.proofs.Common.{◌≡◌, ℕ, List, sym, subst}
use Rattle.std.specs.Prelude.{Result}
use Rattle.program.specs.declared.fault.Ending.{Ending}
use Rattle.program.specs.declared.fault.RunFault.{RunFault}
use Rattle.program.specs.Files.{KnownFiles}
use Rattle.program.specs.Run.{RunDone, Flushes, RunFlushed}

-- A flush takes no more bytes.
pub run_flushed : (files : KnownFiles) (words : List (List ℕ)) (before mid after : List ℕ) (sent sent' : ℕ) (done how : Result Ending RunFault) → after ≡ mid → RunDone files words (record { before = before; after = mid; sent = sent }) done
    → Flushes sent (record { before = before; after = after; sent = sent' }) done how → RunFlushed files words (record { before = before; after = after; sent = sent' }) how
run_flushed files words before mid after sent sent' done how same ran ends = (sent, done, subst (λ a. RunDone files words (record { before = before; after = a; sent = sent }) done) (sym same) ran, ends)
