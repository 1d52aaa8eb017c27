-- A phase by the answer whether it is idle.
use Rattle.std.proofs.Common.{◌≡◌, ◌≢◌, true, false, refl, ap, sym, ◌∙◌}
use Rattle.heap_model.specs.declared.phase.Phase.{Phase}
use Rattle.heap_model.specs.declared.phase.Phase.TheVariants as phases
use Rattle.heap_model.specs.Phases.{is_idle}

pub idle_is : (p : Phase) → is_idle p ≡ true → p ≡ phases.Idle
idle_is phases.Idle e = refl
idle_is (phases.Roots next) e = cc
idle_is (phases.Marking part cell) e = cc
idle_is (phases.Sweeping page block) e = cc
idle_is (phases.Moving m) e = cc

pub busy_is : (p : Phase) → is_idle p ≡ false → p ≢ phases.Idle
busy_is p e i = let z : true ≡ false = sym (ap is_idle i) ∙ e in cc
