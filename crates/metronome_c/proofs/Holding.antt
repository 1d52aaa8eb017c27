-- What a handle holds, by its check word and what there is.
use Rattle.std.proofs.Common.{◌≡◌, ◌==◌, ℕ, false, true, Bool, ap, subst}
use Rattle.std.specs.Prelude.{Option, Some, None, Err}
use Rattle.std.specs.Option.{is_some}
use Rattle.metronome_c.specs.Opened.{absence, held_by}

abbrev pub IsTruth : Bool → Type 0
IsTruth true = Unit {0}
IsTruth false = ⊥

-- a handle that holds nothing tells why
pub held_none : {S : Type 0} (check : ℕ) (old : Option S) (b : Bool) → is_some old ≡ false → (check == 0) ≡ b → held_by check old ≡ Err (absence b)
held_none check None b none is = ap (λ (x : Bool). Err (absence x)) is
held_none check (Some h) b none is = absurd (subst IsTruth none tt)
