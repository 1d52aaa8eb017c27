-- What a handle is to hold is made, or not, and given back.
use Rattle.std.proofs.Common.{◌≡◌, ◌==◌, ℕ, false, true, sym, ap, subst}
use Rattle.std.specs.Prelude.{Option, Some, None, Result}
use Rattle.std.specs.Option.{is_some}
use Rattle.size_classes.specs.declared.settings.Settings.{Settings}
use Rattle.size_classes.specs.declared.fault.ConfigFault.{ConfigFault}
use Rattle.size_classes.specs.declared.ranges.Ranges.TheVariants.{Library}
use Rattle.size_classes.specs.Config.{fault_of}
use Rattle.metronome_c.specs.declared.status.Status.{Status}
use Rattle.metronome_c.specs.declared.status.Status.TheVariants.{Done}
use Rattle.metronome_c.specs.Status.{status_number}
use Rattle.metronome_c.specs.Opened.{held_by}
use Rattle.metronome_c.specs.Lifetime.{IsMade, MakesUnless, Creates}
use Rattle.metronome_c.proofs.Holding.{held_none}

-- where the handle is closed, what is made unless there is a fault is what is created
creates : {S : Type 0} (IsSo : Settings → S → Type 0) (check : ℕ) (old : Option S) (new : Result S Status) (s : Settings) (fault : Option ConfigFault) (n : ℕ)
    → is_some old ≡ false → (check == 0) ≡ true → fault ≡ fault_of Library s → MakesUnless fault (IsSo s) new n → Creates IsSo (held_by check old) s new n
creates {S} IsSo check old new s fault n none zero is m =
    subst (λ (x : Result S Status). Creates IsSo x s new n) (sym (held_none check old true none zero))
    (subst (λ (f : Option ConfigFault). MakesUnless f (IsSo s) new n) is m)

pub creates_one : {S : Type 0} (IsSo : Settings → S → Type 0) (check after : ℕ) (old new : Option S) (h : S) (s : Settings) (n : ℕ)
    → is_some old ≡ false → (check == 0) ≡ true → None ≡ fault_of Library s → new ≡ Some h → n ≡ status_number Done
    → IsSo s h → Creates IsSo (held_by check old) s (held_by after new) n
creates_one {S} IsSo check after old new h s n none zero e made m is =
    creates IsSo check old (held_by after new) s None n none zero e
    (subst (λ (x : Result S Status). IsMade (IsSo s) x n) (sym (ap (held_by after) made)) (m, is))
