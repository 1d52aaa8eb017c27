-- A shared heap that was made with a plan has found room.
use Rattle.std.proofs.Common.{◌≡◌, ◌∙◌, ⊎_elim, ℕ, refl}
use Rattle.std.specs.Prelude.{Option, Some, None, Result, Ok, Err, IfOk, IfSome}
use Rattle.size_classes.specs.declared.fault.ConfigFault.{ConfigFault}
use Rattle.size_classes.specs.declared.ranges.Ranges.TheVariants.{Library}
use Rattle.size_classes.specs.declared.settings.Settings.{Settings}
use Rattle.size_classes.specs.Config.{fault_of}
use Rattle.heap_shared.specs.Members.{MemberView, IsPromised}
use Rattle.heap_shared.specs.Ring.{Ringed}
use Rattle.metronome_c.specs.declared.held.Held.{Held}
use Rattle.metronome_c.specs.declared.held.Held.TheVariants as holds
use Rattle.metronome_c.specs.declared.planning.MetronomeFlow.{MetronomeFlow}
use Rattle.metronome_c.specs.declared.status.Status.{Status}
use Rattle.metronome_c.specs.declared.status.Status.TheVariants.{Closed}
use Rattle.metronome_c.specs.Lifetime.{MakesUnless}
use Rattle.metronome_c.specs.Planning.{plan_in, SuitsSettings}
use Rattle.metronome_c.specs.Sharing.{IsFirst, IsFirstMember, CreatesKept, IsAtHeapOf, HasFoundRoom, FindsRoomAt, KeepsPromises}

-- what was created had no fault
created_by : (log : ℕ) (flow : MetronomeFlow) (s : Settings) (first : Held) (n : ℕ) (fault : Option ConfigFault)
    → MakesUnless fault (IsFirst log (Some (plan_in flow)) s) (Ok first) n → (fault ≡ None) × IsFirst log (Some (plan_in flow)) s first
created_by log flow s first n (Some fault) made = absurd (let z : Ok first ≡ Err Closed = made.0 in cc)
created_by log flow s first n None made = (refl, made.1)

-- so the plan suits it
created_kept : (log : ℕ) (flow : MetronomeFlow) (s : Settings) (first : Held) (n : ℕ)
    → CreatesKept log flow (Err Closed) s (Ok first) n → (fault_of Library s ≡ None) × SuitsSettings s flow × IsFirst log (Some (plan_in flow)) s first
created_kept log flow s first n created = ⊎_elim
    (λ made. let one = created_by log flow s first n (fault_of Library s) made.1 in (one.0, made.0, one.1))
    (λ none. absurd (let z : Ok first ≡ Err Closed = none.1 in cc))
    created

-- a member at that heap has found room
room_now : (log : ℕ) (flow : MetronomeFlow) (s : Settings) (first v : MemberView) (r : Ringed)
    → fault_of Library s ≡ None → SuitsSettings s flow → IsFirstMember log (Some (plan_in flow)) s first → IsAtHeapOf first v → IsPromised v r → HasFoundRoom s flow v r
room_now log flow s first v r sound suit new at promised =
    let suits = suit sound new.config new.of in
    let room = promised.room new.config (plan_in flow) flow.live_words (at.settings ∙ new.settings.0) (at.budget ∙ new.budget) (at.plan ∙ new.settings.2) suits.moves suits.fits in (
      new.config,
      new.of,
      room.0,
      room.1,
      room.2,
    )

room_in_turn : (log : ℕ) (flow : MetronomeFlow) (s : Settings) (first v : MemberView) (turn : Option Ringed)
    → fault_of Library s ≡ None → SuitsSettings s flow → IsFirstMember log (Some (plan_in flow)) s first → IsAtHeapOf first v → IfSome turn (IsPromised v) → IfSome turn (HasFoundRoom s flow v)
room_in_turn log flow s first v None sound suit new at promised = promised
room_in_turn log flow s first v (Some r) sound suit new at promised = room_now log flow s first v r sound suit new at promised

room_at : (log : ℕ) (flow : MetronomeFlow) (s : Settings) (first held : Held) → fault_of Library s ≡ None → SuitsSettings s flow → IsFirst log (Some (plan_in flow)) s first
    → KeepsPromises held → FindsRoomAt s flow first held
room_at log flow s first (holds.Own h) sound suit new promised = tt
room_at log flow s (holds.Own h) (holds.Shared v) sound suit new promised = tt
room_at log flow s (holds.Shared first) (holds.Shared v) sound suit new promised = λ at. room_in_turn log flow s first v v.turn sound suit new at promised

pub room_found : (held : Result Held Status) → IfOk held KeepsPromises → (s : Settings) (log n : ℕ) (flow : MetronomeFlow) (first : Held)
    → CreatesKept log flow (Err Closed) s (Ok first) n → IfOk held (FindsRoomAt s flow first)
room_found (Err why) promised s log n flow first created = promised
room_found (Ok held) promised s log n flow first created = let made = created_kept log flow s first n created in room_at log flow s first held made.0 made.1 made.2 promised
