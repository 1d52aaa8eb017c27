-- Calls that prepare for words end soon.
use Rattle.std.proofs.Common.{◌≡◌, ◌∙◌, ℕ, zero, suc, ◌<◌, ◌≤◌, List, [], ◌∷◌, ◌++◌, length, Ok, Err, Result, refl, ap, sym, subst, arith, append_assoc, length-append}
use Rattle.size_classes.specs.declared.config.Config.{Config}
use Rattle.size_classes.specs.declared.settings.Settings.{Settings}
use Rattle.heap_model.specs.Event.{Event}
use Rattle.paced.specs.declared.plan.Plan.{Plan}
use Rattle.paced.specs.Bounds.{Deed, AreDone, events_of as deed_events, LastsWith, LiveWithinPlan, Prepares}
use Rattle.paced.specs.Pacing.{Counts, PacedState, PacedView, paced_by, state_of, Path, MayAsk, KeepsPlan, WorksFor}
use Rattle.paced.proofs.Deeds.{none_works, deeds_path}
use Rattle.paced.proofs.Paths.{path_then, work_paces, same_plan}
use Rattle.paced.proofs.Remaining.{pieces_fewer}
use Rattle.metronome_c.specs.declared.own_heap.OwnHeap.{OwnHeap}
use Rattle.metronome_c.specs.declared.planning.MetronomeFlow.{MetronomeFlow}
use Rattle.metronome_c.specs.declared.status.Status.{Status}
use Rattle.metronome_c.specs.declared.status.Status.TheVariants.{Done}
use Rattle.metronome_c.specs.Costs.{PrepareFor, last_left, EndsSoon}
use Rattle.metronome_c.specs.Figures.{IsTold}
use Rattle.metronome_c.specs.Keeping.{CanKeep, KeepsOwn}
use Rattle.metronome_c.specs.KeptCalls.{KeptCall, Called, List_called, Prepare_called, KeptCalls, WereEvents}
use Rattle.metronome_c.specs.Lifetime.{IsMadeOf}
use Rattle.metronome_c.specs.Planning.{plan_in}
use Rattle.metronome_c.specs.Preparing.{PreparesHeld, PreparesOpen}
use Rattle.metronome_c.specs.Status.{status_number}
use Rattle.metronome_c.proofs.KeptCalling.{held, are_work, were_kept, were_events, keeps_done, first_view, just_paced}

-- events leave the plan
path_plan : (Passes : PacedState → Event → Type 0) (es : List Event) (old new : PacedState) → Path Passes old es new → new.counts.plan ≡ old.counts.plan
path_plan Passes [] old new p = ap (λ (z : PacedState). z.counts.plan) p
path_plan Passes (e ∷ es) old new p = path_plan Passes es p.0 new p.4 ∙ ap (λ (z : Counts). z.plan) p.3 ∙ same_plan old.counts e

-- words that may be asked for may be asked for at the end of the work for them, as there is none
may_still : (words : ℕ) (work : List Event) (old new : PacedState) → Path (WorksFor words) old work new → MayAsk old words → MayAsk new words
may_still words work old new p may = subst (λ (z : PacedState). MayAsk z words) (sym (subst (λ w. Path (WorksFor words) old w new) (none_works work words old new may p) p)) may

module _ (config : Config) (words : ℕ) where
  -- words may be asked for exactly if no piece is left
  record Knows (v : PacedView) (left : ℕ) : Type 0 where
    pub ready : left ≡ 0 → MayAsk (state_of v) words
    pub due : 0 < left → MayAsk (state_of v) words → ⊥
    pub enough : words ≤ v.pacer.counts.plan.cycle_words

  -- each call of a row did a piece, if one is still left
  record Goes (v : PacedView) (left : ℕ) (row : List KeptCall) : Type 0 where
    pub view : PacedView
    pub work : List Event
    pub works : Path (WorksFor words) (state_of v) work (state_of view)
    pub some : 0 < last_left left row → length row ≤ length work
    pub none : 0 < last_left left row → MayAsk (state_of view) words → ⊥

  abbrev From : List KeptCall → Type 0
  From calls = (v : PacedView) (left : ℕ) (new : Result OwnHeap Status) → Knows v left → PrepareFor words calls → KeptCalls (Ok (held config v)) calls new → Goes v left calls

  one_more : (n before after status : ℕ) (calls : List KeptCall) → From calls → (v : PacedView) (left : ℕ) (next new : Result OwnHeap Status) (k : OwnHeap) (answer : Result ℕ Status) → Knows v left → PrepareFor words calls → next ≡ Ok k
      → PreparesHeld (held config v) words answer k → IsTold answer before after status → KeptCalls next calls new → Goes v left (Prepare_called n before after status ∷ calls)
  one_more n before after status calls from v left next new k (Err why) i row at p told d = absurd (let a = p.1 in let b = i.enough in omega (arith, a, b))
  one_more n before after status calls from v left next new k (Ok l) i row at p told d =
      record {
        view = rest.view;
        work = piece.work ++ rest.work;
        works = path_then (WorksFor words) piece.work rest.work (state_of v) (state_of w) (state_of rest.view) piece.works rest.works;
        some = λ more. (
            let a = length-append piece.work rest.work in
            let b = rest.some more in
            let c = piece.least (λ may. rest.none more (may_still words rest.work (state_of w) (state_of rest.view) rest.works (may_still words piece.work (state_of v) (state_of w) piece.works may))) in
            omega (arith, a, b, c)
            );
        none = rest.none;
      }
    where
      w : PacedView
      w = paced_by p.0 k.heap k.cycles

      piece : Prepares v words l w
      piece = p.3

      same : after ≡ l
      same = told.0

      rest : Goes w after calls
      rest = from w after new (record {
        ready = λ none. piece.ready (sym same ∙ none);
        due = λ some. piece.due (let e = same in omega (arith, e, some));
        enough = (let e = ap (λ (z : Plan). z.cycle_words) (path_plan (WorksFor words) piece.work (state_of v) (state_of w) piece.works) in let b = i.enough in omega (arith, e, b));
      }) row (subst (λ (x : Result OwnHeap Status). KeptCalls x calls new) (at ∙ ap Ok p.1) d)

  row_goes : (calls : List KeptCall) → From calls
  row_goes [] v left new i row d = record { view = v; work = []; works = refl; some = λ more. omega arith; none = i.due }
  row_goes (Called call ∷ calls) v left new i row d = absurd row
  row_goes (List_called m cs told ∷ calls) v left new i row d = absurd row
  row_goes (Prepare_called n before after status ∷ calls) v left new i row d =
      let p = d.1 in
      one_more n before after status calls (row_goes calls) v left d.0 new p.0 p.1 i row.1 p.2 (subst (λ m. PreparesHeld (held config v) m p.1 p.0) row.0 p.3) p.4 d.2

-- none is left at last
nothing_left : (n : ℕ) → (0 < n → ⊥) → n ≡ 0
nothing_left zero none = refl
nothing_left (suc n) none = absurd (none (omega arith))

module _ (s : Settings) (h : OwnHeap) (made : IsMadeOf s h) (flow : MetronomeFlow) (can : CanKeep h flow) (words : ℕ) where
  abbrev first : PacedState
  first = state_of (first_view h flow)

  abbrev Lasts : Type 0
  Lasts = LastsWith h.config (plan_in flow) flow.live_words words

  abbrev Lives : List Event → Type 0
  Lives es = LiveWithinPlan h.config (plan_in flow) flow.live_words es

  -- from where a call that prepares led
  ends : (es : List Event) (v w : PacedView) (left : ℕ) (row : List KeptCall) → Path KeepsPlan first es (state_of v) → (p : Prepares v words left w) → (g : Goes h.config words w left row) → left ≤ length row
      → Lasts → Lives (es ++ (p.work ++ g.work)) → last_left left row ≡ 0
  ends es v w left row path p g few lasts lives = nothing_left (last_left left row) (λ more. by_left more left refl)
    where
      led : Path KeepsPlan first (es ++ p.work) (state_of w)
      led = path_then KeepsPlan es p.work first (state_of v) (state_of w) path (work_paces words p.work (state_of v) (state_of w) p.works)

      by_left : 0 < last_left left row → (n : ℕ) → n ≡ left → ⊥
      by_left more zero none = g.none more (may_still words g.work (state_of w) (state_of g.view) g.works (p.ready (sym none)))
      by_left more (suc n) some =
          let told = p.told (omega (arith, some)) in
          let a = pieces_fewer h.config (plan_in flow) flow.live_words words first (just_paced s h made flow can) lasts (es ++ p.work) (state_of w) (state_of g.view) g.work led g.works
          (subst Lives (sym (append_assoc es p.work g.work)) lives) (g.none more) in
          let b = g.some more in
          omega (arith, told, a, b, few)

  by_answer : (before : List KeptCall) (ds : List Deed) (v : PacedView) (was left told : ℕ) (row : List KeptCall) (ready new : Result OwnHeap Status) (k : OwnHeap) (answer : Result ℕ Status) → AreDone first ds (state_of v) → WereEvents (deed_events ds) before
      → ready ≡ Ok k → PreparesHeld (held h.config v) words answer k → IsTold answer was left told → told ≡ status_number Done → PrepareFor words row → left ≤ length row → KeptCalls ready row new → EndsSoon h flow before words left row
  by_answer before ds v was left told row ready new k (Err why) led were at p tells done are few d = absurd (let a = ap status_number p.0 in let b = tells.1 in omega (arith, a, b, done))
  by_answer before ds v was left told row ready new k (Ok n) led were at p tells done are few d = record {
    earlier = deed_events ds;
    work = piece.work ++ goes.work;
    were_before = were;
    are_work = are_work words (piece.work ++ goes.work) (state_of v) (state_of goes.view) (path_then (WorksFor words) piece.work goes.work (state_of v) (state_of w) (state_of goes.view) piece.works goes.works);
    ends = λ lasts lives. subst (λ m. last_left m row ≡ 0) (sym tells.0) (ends (deed_events ds) v w n row (deeds_path ds first (state_of v) led) piece goes (let e = tells.0 in omega (arith, e, few)) lasts lives);
  }
    where
      w : PacedView
      w = paced_by p.0 k.heap k.cycles

      piece : Prepares v words n w
      piece = p.3

      goes : Goes h.config words w n row
      goes = row_goes h.config words row w n new (record {
        ready = piece.ready;
        due = piece.due;
        enough = (let e = ap (λ (z : Plan). z.cycle_words) (path_plan (WorksFor words) piece.work (state_of v) (state_of w) piece.works) in let b = p.2 in omega (arith, e, b));
      }) are (subst (λ (x : Result OwnHeap Status). KeptCalls x row new) (at ∙ ap Ok p.1) d)

pub ends_soon : (s : Settings) (h : OwnHeap) (made : IsMadeOf s h) (flow : MetronomeFlow) (k : OwnHeap) (status : ℕ) → KeepsOwn (Ok h) flow (Ok k) status → status ≡ status_number Done
    → (before row : List KeptCall) (mid ready new : Result OwnHeap Status) (words was left told : ℕ) → KeptCalls (Ok k) before mid → PreparesOpen mid words ready was left told → told ≡ status_number Done
    → PrepareFor words row → left ≤ length row → KeptCalls ready row new → EndsSoon h flow before words left row
ends_soon s h made flow k status keeps done before row mid ready new words was left told d p told_done are few e =
    let can = keeps_done h flow k status keeps done in
    let first = were_kept h.config before (first_view h flow) mid (subst (λ (x : Result OwnHeap Status). KeptCalls x before mid) can.1 d) in
    let q = subst (λ (x : Result OwnHeap Status). PreparesOpen x words ready was left told) first.left p in
    by_answer s h made flow can.0 words before first.deeds first.view was left told row ready new q.0 q.1 first.done (were_events before first.deeds first.tells) q.2 q.3 q.4 told_done are few e
