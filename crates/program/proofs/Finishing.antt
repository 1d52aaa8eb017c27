-- How a run ends.
use Rattle.std.proofs.Common.{◌≡◌, ap, sym, subst}
use Rattle.std.specs.Prelude.{Result, Ok, Err, IfOk, IfErr, OnOk}
use Rattle.std.specs.Result.{IsErrAnd}

-- a result that is this error
pub failed_so : {A E : Type 0} (r : Result A E) (why : E) → IsErrAnd r (λ e. e ≡ why) → r ≡ Err why
failed_so (Ok x) why h = elim h [ ]
failed_so (Err e) why h = ap Err h

-- a consequence for an answer that is no error
pub ok_so : {A E : Type 0} (r : Result A E) (P Q : Type 0) → (P → Q) → OnOk r P → OnOk r Q
ok_so (Ok x) P Q f h = f h
ok_so (Err e) P Q f h = tt

-- a consequence for a value
pub value_so : {A E : Type 0} (r : Result A E) (P Q : A → Type 0) → ((x : A) → P x → Q x) → IfOk r P → IfOk r Q
value_so (Ok x) P Q f h = f x h
value_so (Err e) P Q f h = tt

-- a consequence for an error
pub fault_so : {A E : Type 0} (r : Result A E) (why : E) (P : E → Type 0) → IsErrAnd r (λ e. e ≡ why) → P why → IfErr r P
fault_so (Ok x) why P h p = tt
fault_so (Err e) why P h p = subst P (sym h) p
