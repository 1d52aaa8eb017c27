-- Reports that are written, of which some are made as a text first.
use Rattle.std.proofs.Common.{◌≡◌, ℕ, List, ◌++◌, inl, inr, refl, sym, subst}
use Rattle.std.specs.Prelude.{Result, Ok, Err, IfOk, OnOk, OnErr, String, string_bytes}
use Rattle.std.specs.declared.alloc.Global.{Global}
use Rattle.trace.specs.declared.fault.PlayFault.TheVariants.{Write}
use Rattle.trace.specs.Streams.{Taken, GrowsByPart}
use Rattle.program.specs.declared.fault.Ending.{Ending}
use Rattle.program.specs.declared.fault.Ending.TheVariants.{Done}
use Rattle.program.specs.declared.fault.RunFault.{RunFault}
use Rattle.program.specs.declared.fault.RunFault.TheVariants.{Text}
use Rattle.program.specs.Told.{TextWritten, MadeTextTold, ReportTold}

-- A run ends so that wrote a report, or a beginning of it.
pub ended_told : {E : Type 0} (text : List ℕ) (taken : Taken) (written : Result (Unit {0}) E) (result : Result Ending RunFault) → OnOk written (taken.after ≡ taken.before ++ text) → OnErr written (GrowsByPart taken.before taken.after text)
    → OnOk written (result ≡ Ok Done) → OnErr written (result ≡ Err (Text Write)) → TextWritten Done text taken result
ended_told text taken (Ok u) result all part ok err = subst (TextWritten Done text taken) (sym ok) (refl, all)
ended_told text taken (Err e) result all part ok err = subst (TextWritten Done text taken) (sym err) (refl, part)

-- If a report's text was written, the report is.
pub report_written : (IsReport : List ℕ → Type 0) (text : List ℕ) (taken : Taken) (result : Result Ending RunFault) → IsReport text → TextWritten Done text taken result → ReportTold IsReport taken result
report_written IsReport text taken (Ok ending) is told = (text, is, told.0, told.1)
report_written IsReport text taken (Err fault) is told = inl (text, is, told.0, told.1)

-- If a report's text was made, or memory for it was refused, the report is written or refused.
pub report_told : {E : Type 0} (IsReport : List ℕ → Type 0) (text : Result (String Global) E) (taken : Taken) (result : Result Ending RunFault) → IfOk text (λ t. IsReport (string_bytes t)) → MadeTextTold text taken result → ReportTold IsReport taken result
report_told IsReport (Ok text) taken result is told = report_written IsReport (string_bytes text) taken result is told
report_told IsReport (Err refused) taken (Ok ending) is told = elim told [ ]
report_told IsReport (Err refused) taken (Err fault) is told = inr told
