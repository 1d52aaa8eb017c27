-- What the calls of a program cost on a handle whose heap keeps a plan.
use Rattle.std.proofs.Common.{◌≡◌, ◌∙◌, ℕ, ◌≤◌, List, [], ◌∷◌, ◌++◌, Ok, Err, Result, ap, sym, subst, arith}
use Rattle.std.specs.List.{AllByRecursion}
use Rattle.size_classes.specs.declared.settings.Settings.{Settings}
use Rattle.heap_model.specs.Event.{Event}
use Rattle.paced.specs.Bounds.{words_in, Deed, AreDone, events_of as deed_events, LiveWithinPlan, KeepsToWords, IsShort}
use Rattle.paced.specs.Pacing.{PacedState, PacedView, paced_by, state_of, Path, MayAsk, KeepsPlan, WorksFor}
use Rattle.paced.proofs.Ahead.{ahead_free}
use Rattle.paced.proofs.Deeds.{idle_deed, deeds_path}
use Rattle.paced.proofs.Paths.{path_then, work_paces}
use Rattle.paced.proofs.Single.{small_one, each_short}
use Rattle.paced.proofs.Stretches.{stretches_keep}
use Rattle.metronome_c.specs.declared.own_heap.OwnHeap.{OwnHeap}
use Rattle.metronome_c.specs.declared.planning.MetronomeFlow.{MetronomeFlow}
use Rattle.metronome_c.specs.declared.status.Status.{Status}
use Rattle.metronome_c.specs.declared.status.Status.TheVariants.{Done}
use Rattle.metronome_c.specs.Costs.{WorksForWords, IsCheap, CostsFew, KeepsCosts, AreFree}
use Rattle.metronome_c.specs.Figures.{IsTold}
use Rattle.metronome_c.specs.Keeping.{kept, CanKeep, KeepsOwn}
use Rattle.metronome_c.specs.KeptCalls.{KeptCall, KeptCalls}
use Rattle.metronome_c.specs.Lifetime.{IsMadeOf}
use Rattle.metronome_c.specs.Planning.{plan_in}
use Rattle.metronome_c.specs.Preparing.{PreparesHeld, PreparesOpen}
use Rattle.metronome_c.specs.Status.{status_number}
use Rattle.metronome_c.proofs.KeptCalling.{held, were_kept, were_events, keeps_done, first_view, just_paced}

-- the collector works for words alone
only_words : (ds : List Deed) (old new : PacedState) → AreDone old ds new → AllByRecursion WorksForWords ds
only_words [] old new done = tt
only_words (d ∷ ds) old new done = (λ none. idle_deed old done.0 d done.1 none, only_words ds done.0 new done.2)

-- what is short for its words is cheap
are_cheap : (flow : MetronomeFlow) (ds : List Deed) → 1 ≤ flow.quantum_words → AllByRecursion (IsShort (plan_in flow) 0) ds → AllByRecursion (IsCheap flow) ds
are_cheap flow [] some short = tt
are_cheap flow (d ∷ ds) some short = (
  λ few. (let a = short.0 in let b = small_one (plan_in flow) 0 (words_in d.event) some few in omega (arith, a, b)),
  are_cheap flow ds some short.1,
)

module _ (s : Settings) (h : OwnHeap) (made : IsMadeOf s h) (flow : MetronomeFlow) (can : CanKeep h flow) where
  -- where the calls before a stretch led
  abbrev Led : PacedView → List Deed → Type 0
  Led v ds = AreDone (state_of (first_view h flow)) ds (state_of v)

  costs_few : (earlier ds : List Deed) (mid new : PacedView) → Led mid earlier → AreDone (state_of mid) ds (state_of new) → CostsFew h flow (deed_events earlier) ds
  costs_few earlier ds mid new led done =
      let first = state_of (first_view h flow) in
      let just = just_paced s h made flow can in
      let plan = plan_in flow in
      let path = deeds_path earlier first (state_of mid) led in
      let short = λ (lives : LiveWithinPlan h.config plan flow.live_words (deed_events earlier ++ deed_events ds)). each_short h.config plan flow.live_words 0 first just can.suits.lasts ds (deed_events earlier) (state_of mid) (state_of new) path done lives in
      record {
        keeps = λ largest lasts small lives. subst (λ b. KeepsToWords plan b ds) (sym can.suits.budget) (stretches_keep h.config plan flow.live_words largest first just lasts (deed_events earlier) (state_of mid) (state_of new) ds path done small lives);
        each = short;
        cheap = λ lives. are_cheap flow ds can.suits.lasts.some (short lives);
        only = only_words ds (state_of mid) (state_of new) done;
      }

  costs_kept : (before stretch : List KeptCall) (mid new : Result OwnHeap Status) → KeptCalls (Ok (kept h flow)) before mid → KeptCalls mid stretch new → KeepsCosts h flow before stretch
  costs_kept before stretch mid new d e =
      let first = were_kept h.config before (first_view h flow) mid d in
      let second = were_kept h.config stretch first.view new (subst (λ (x : Result OwnHeap Status). KeptCalls x stretch new) first.left e) in
      record {
        earlier = deed_events first.deeds;
        deeds = second.deeds;
        were_before = were_events before first.deeds first.tells;
        were = second.tells;
        costs = costs_few first.deeds second.deeds first.view second.view first.done second.done;
      }

  -- words that were prepared for are free
  free_from : (before : List Deed) (v : PacedView) (work : List Event) (w : PacedView) (words : ℕ) (stretch : List KeptCall) (new : Result OwnHeap Status) → Led v before → Path (WorksFor words) (state_of v) work (state_of w) → MayAsk (state_of w) words
      → KeptCalls (Ok (held h.config w)) stretch new → AreFree words stretch
  free_from before v work w words stretch new led works may d =
      let first = state_of (first_view h flow) in
      let path = path_then KeepsPlan (deed_events before) work first (state_of v) (state_of w) (deeds_path before first (state_of v) led) (work_paces words work (state_of v) (state_of w) works) in
      let second = were_kept h.config stretch w new d in
      record {
        deeds = second.deeds;
        were = second.tells;
        free = λ none few. ahead_free h.config (plan_in flow) first (just_paced s h made flow can) (deed_events before ++ work) (state_of w) (state_of second.view) words second.deeds path may second.done none few;
      }

  by_answer : (before : List Deed) (v : PacedView) (words was left told : ℕ) (stretch : List KeptCall) (ready new : Result OwnHeap Status) (k : OwnHeap) (answer : Result ℕ Status) → Led v before → ready ≡ Ok k → PreparesHeld (held h.config v) words answer k → IsTold answer was left told
      → told ≡ status_number Done → left ≡ 0 → KeptCalls ready stretch new → AreFree words stretch
  by_answer before v words was left told stretch ready new k (Err why) led at p tells done none d = absurd (let a = ap status_number p.0 in let b = tells.1 in omega (arith, a, b, done))
  by_answer before v words was left told stretch ready new k (Ok n) led at p tells done none d =
      let w : PacedView = paced_by p.0 k.heap k.cycles in
      free_from before v p.3.work w words stretch new led p.3.works (p.3.ready (sym tells.0 ∙ none)) (subst (λ (x : Result OwnHeap Status). KeptCalls x stretch new) (at ∙ ap Ok p.1) d)

  free_kept : (before stretch : List KeptCall) (mid ready new : Result OwnHeap Status) (words was left told : ℕ) → KeptCalls (Ok (kept h flow)) before mid → PreparesOpen mid words ready was left told → told ≡ status_number Done → left ≡ 0
      → KeptCalls ready stretch new → AreFree words stretch
  free_kept before stretch mid ready new words was left told d p done none e =
      let first = were_kept h.config before (first_view h flow) mid d in
      let q = subst (λ (x : Result OwnHeap Status). PreparesOpen x words ready was left told) first.left p in
      by_answer first.deeds first.view words was left told stretch ready new q.0 q.1 first.done q.2 q.3 q.4 done none e

module _ (s : Settings) (h : OwnHeap) (made : IsMadeOf s h) (flow : MetronomeFlow) (k : OwnHeap) (status : ℕ) (keeps : KeepsOwn (Ok h) flow (Ok k) status) (done : status ≡ status_number Done) (before : List KeptCall) (mid : Result OwnHeap Status) (d : KeptCalls (Ok k) before mid) where
  can : CanKeep h flow
  can = (keeps_done h flow k status keeps done).0

  from_kept : KeptCalls (Ok (kept h flow)) before mid
  from_kept = subst (λ (x : Result OwnHeap Status). KeptCalls x before mid) (keeps_done h flow k status keeps done).1 d

  pub keeps_costs : (stretch : List KeptCall) (new : Result OwnHeap Status) → KeptCalls mid stretch new → KeepsCosts h flow before stretch
  keeps_costs stretch new e = costs_kept s h made flow can before stretch mid new from_kept e

  pub are_free : (stretch : List KeptCall) (ready new : Result OwnHeap Status) (words was left told : ℕ) → PreparesOpen mid words ready was left told → told ≡ status_number Done → left ≡ 0 → KeptCalls ready stretch new → AreFree words stretch
  are_free stretch ready new words was left told p told_done none e = free_kept s h made flow can before stretch mid ready new words was left told from_kept p told_done none e
