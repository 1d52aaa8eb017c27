-- Ticks that pass.
use Rattle.std.proofs.Common.{◌≡◌, ℕ, ◌-◌, ◌<◌, ◌≤◌, true, List, [], ◌∷◌, ◌++◌, Ok, ap, ◌∙◌, sym, subst, refl, arith}
use Rattle.std.specs.Prelude.{Option, Some, None}
use Rattle.heap_model.specs.declared.phase.Phase.{Phase}
use Rattle.heap_model.specs.declared.phase.Phase.TheVariants as phases
use Rattle.heap_model.specs.Event.{Event, Quantum_done}
use Rattle.quanta.specs.Timetable.{Timetable}
use Rattle.trace.specs.Player.{PlayerState, QuantaDue, One_more, timetable_after, placed}
use Rattle.trace.specs.Ticking.{DueDone}

-- the ticks from the next quantum on, below a time
abbrev pub left_until : ℕ → Option ℕ → ℕ
left_until until None = 0
left_until until (Some due) = until - due

-- a quantum's end changes only when the next is due
pub behind_same : (phase : Phase) (t : Timetable) → timetable_after phase t ≡ record t { due = (timetable_after phase t).due }
behind_same phases.Idle t = refl
behind_same (phases.Roots next) t = refl
behind_same (phases.Marking part cell) t = refl
behind_same (phases.Sweeping page block) t = refl
behind_same (phases.Moving m) t = refl

-- the next is due later, or none is
behind_left : (phase : Phase) (t : Timetable) (until due : ℕ) → due < until → 1 ≤ t.collector_ticks → left_until until (timetable_after phase (placed due t)).due < until - due
behind_left phases.Idle t until due l c = omega arith
behind_left (phases.Roots next) t until due l c = omega arith
behind_left (phases.Marking part cell) t until due l c = omega arith
behind_left (phases.Sweeping page block) t until due l c = omega arith
behind_left (phases.Moving m) t until due l c = omega arith

-- one more quantum is done
module _ (old new : PlayerState) (until : ℕ) (d : DueDone until old new (Ok true)) where
  pub one_later : 1 ≤ old.timetable.collector_ticks → left_until until new.timetable.due < left_until until old.timetable.due
  one_later c =
      let l = behind_left d.2 old.timetable until d.0 d.5 c in
      subst (λ (x : PlayerState). left_until until x.timetable.due < left_until until old.timetable.due) (sym d.7)
      (subst (λ o. left_until until (timetable_after d.2 (placed d.0 old.timetable)).due < left_until until o) (sym d.4) l)

  pub clock_stays : new.timetable.clock ≡ old.timetable.clock
  clock_stays = ap (λ (x : PlayerState). x.timetable.clock) d.7 ∙ ap (λ (t : Timetable). t.clock) (behind_same d.2 (placed d.0 old.timetable))

  pub one_more : (p : PlayerState) → (es : List Event) × QuantaDue until p es old → (es : List Event) × QuantaDue until p es new
  one_more p w =
      (w.0 ++ Quantum_done old.budget d.1 d.2 ∷ [], subst (λ (x : PlayerState). QuantaDue until p (w.0 ++ Quantum_done old.budget d.1 d.2 ∷ []) x) (sym d.7) (One_more w.0 old d.0 d.1 d.2 d.3 w.1 d.4 d.5 d.6))
