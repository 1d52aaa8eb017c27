-- Members after lists, work ahead and touched pages.
use Rattle.std.proofs.Common.{◌≡◌, ℕ, Bool, true, false, List, [], ◌∷◌, ◌++◌, sym, ap, ◌∙◌, subst, None, Ok, Err}
use Rattle.std.specs.Prelude.{Result}
use Rattle.std.proofs.lemmas.List.Elements.{All-append}
use Rattle.atomic_table.specs.Table.{Me, rest}
use Rattle.atomic_table.specs.Seated.{TableId}
use Rattle.graph_heap.specs.declared.command.Command.{Command}
use Rattle.graph_heap.specs.declared.command.Reply.{Reply}
use Rattle.bulk.specs.declared.progress.Progress.{Progress}
use Rattle.bulk.specs.InOrder.{with_refusal, events_of}
use Rattle.paced.specs.declared.pacer.AbovePlan.{AbovePlan}
use Rattle.heap_shared.specs.declared.rule.Known.{Known}
use Rattle.heap_shared.specs.declared.shared_heap.SharedConfig.{SharedConfig}
use Rattle.heap_shared.specs.declared.fault.NotDone.{NotDone}
use Rattle.heap_shared.specs.declared.fault.NotDone.TheVariants as undone
use Rattle.heap_shared.specs.declared.fault.NotPrepared.{NotPrepared}
use Rattle.heap_shared.specs.declared.fault.NotPrepared.TheVariants as unprepared
use Rattle.heap_shared.specs.Accounts.{IsWithin, IsAllowed}
use Rattle.heap_shared.specs.Lists.{words_first, DoesList, MakesWith}
use Rattle.heap_shared.specs.Ring.{Ringed, IsAsAsked, PreparesBy, TouchesBy}
use Rattle.heap_shared.specs.Members.{MemberView, turn_of, shown_by, IsMember, MayCall, DoesListIn, CallsList, Refuses, PreparesIn}
use Rattle.heap_shared.proofs.Listing.{first_allowed, list_allowed}
use Rattle.heap_shared.proofs.Paid.{works_allowed}
use Rattle.heap_shared.proofs.Plans.{touched_asked}
use Rattle.heap_shared.proofs.Members.{has_inside, turn_was, asked_now, gone_by, changed, above_still, shows_more}

abbrev M : Type 0
M = Me Ringed Known

-- a member that carries another heap, after a step in its turn
module _ (c : SharedConfig) (b : Bool) (m : M) (now k : Ringed) (yes : b ≡ true) (is : IsMember c b m) (at : m.1 ≡ (0, now) ∷ rest m.1) where
  abbrev after : M
  after = (m.0, (0, k) ∷ rest m.1)

  same_view : (id : TableId) → k ≡ now → shown_by id c after ≡ shown_by id c m
  same_view id same = ap (λ (r : Ringed). shown_by id c (m.0, (0, r) ∷ rest m.1)) same ∙ ap (λ (l : List (ℕ × Ringed)). shown_by id c (m.0, l)) (sym at)

  -- the collector worked ahead, or didn't
  pub prepared_still : (words : ℕ) (told : Result ℕ NotPrepared) → PreparesBy now words told k → IsMember c b after
  prepared_still words (Ok left) w = gone_by c b m now k yes is at w.prepares.work (works_allowed m.0.from m.0.to words w.prepares.work _ _ w.prepares.works) w.goes
  prepared_still words (Err unprepared.Outside) w = absurd w
  prepared_still words (Err unprepared.NoPlan) w = above_still c b m now k yes is at w.1
  prepared_still words (Err unprepared.AbovePlan) w = above_still c b m now k yes is at w.1

  pub prepared_in : (id : TableId) (v : MemberView) → shown_by id c m ≡ v → (words : ℕ) (told : Result ℕ NotPrepared) → PreparesBy now words told k → PreparesIn v words told (shown_by id c after)
  prepared_in id v shows words (Ok left) w = subst (λ (x : MemberView). PreparesIn x words (Ok left) (shown_by id c after)) shows
      (now, k, turn_was c b m now k yes is at, w, shows_more c b m now k yes is at id w.prepares.work w.goes)
  prepared_in id v shows words (Err unprepared.Outside) w = absurd w
  prepared_in id v shows words (Err unprepared.NoPlan) w = subst (λ (x : MemberView). PreparesIn x words (Err unprepared.NoPlan) (shown_by id c after)) shows (now, turn_was c b m now k yes is at, w.0, same_view id w.1)
  prepared_in id v shows words (Err unprepared.AbovePlan) w = subst (λ (x : MemberView). PreparesIn x words (Err unprepared.AbovePlan) (shown_by id c after)) shows (now, turn_was c b m now k yes is at, w.0, same_view id w.1)

  -- pages are touched, or aren't
  pub touched_still : (pages : ℕ) (told : Bool) → TouchesBy pages now told k → IsMember c b after
  touched_still pages true w =
      changed c b m now k yes is at (ap (λ (r : Ringed). r.events) w.1) (pages ∷ [], ap (λ (r : Ringed). r.course) w.1) (subst (IsAsAsked c) (sym w.1) (touched_asked c now pages w.0 (asked_now c b m now k yes is at)))
  touched_still pages false w = above_still c b m now k yes is at w.1

  pub touched_events : (pages : ℕ) (told : Bool) → TouchesBy pages now told k → k.events ≡ now.events
  touched_events pages true w = ap (λ (r : Ringed). r.events) w.1
  touched_events pages false w = ap (λ (r : Ringed). r.events) w.1

-- what a list is told as
abbrev pub told_as : Result Progress AbovePlan → Result Progress NotDone
told_as (Ok p) = Ok p
told_as (Err above) = Err undone.AbovePlan

-- a member that may call for a mutator does a list of commands
module _ (c : SharedConfig) (b : Bool) (m : M) (now k : Ringed) (is : IsMember c b m) (at : m.1 ≡ (0, now) ∷ rest m.1) (id : TableId) (v : MemberView) (shows : shown_by id c m ≡ v) (mu : ℕ) (may : MayCall v mu (Ok tt)) (cs : List Command) where
  yes : b ≡ true
  yes = has_inside c b m is (λ (none : turn_of m.1 ≡ None). may.0 (ap (λ (x : MemberView). x.turn) (sym shows) ∙ none))

  within : IsWithin m.0.from m.0.to mu
  within = subst (λ (x : MemberView). IsWithin x.from x.to mu) (sym shows) may.1

  pub listed_still : (rs : List Reply) (p : Progress) → DoesList now mu cs rs p k → IsMember c b (m.0, (0, k) ∷ rest m.1)
  listed_still rs p d =
      let es = events_of mu cs (with_refusal rs p.refused) in
      gone_by c b m now k yes is at (d.work ++ es)
      (All-append (IsAllowed m.0.from m.0.to) d.work es (first_allowed m.0.from m.0.to cs now d.work k d.works) (list_allowed m.0.from m.0.to mu cs (with_refusal rs p.refused) within)) d.goes

  pub listed : (rs : List Reply) (p : Progress) → DoesList now mu cs rs p k → DoesListIn v mu cs rs p (shown_by id c (m.0, (0, k) ∷ rest m.1))
  listed rs p d =
      subst (λ (x : MemberView). DoesListIn x mu cs rs p (shown_by id c (m.0, (0, k) ∷ rest m.1))) shows
      (now, k, turn_was c b m now k yes is at, within, d, shows_more c b m now k yes is at id (d.work ++ events_of mu cs (with_refusal rs p.refused)) d.goes)

  pub made_still : (told : Result Progress AbovePlan) → MakesWith now mu cs told k → IsMember c b (m.0, (0, k) ∷ rest m.1)
  made_still (Ok p) d = listed_still d.0 p d.1
  made_still (Err above) d = above_still c b m now k yes is at d.1

  made_by : (told : Result Progress AbovePlan) → MakesWith now mu cs told k → CallsList v mu cs (told_as told) (shown_by id c (m.0, (0, k) ∷ rest m.1))
  made_by (Ok p) d = (d.0, listed d.0 p d.1)
  made_by (Err above) d =
      subst (λ (x : MemberView). Refuses x mu (words_first cs) undone.AbovePlan (shown_by id c (m.0, (0, k) ∷ rest m.1))) shows
      (now, turn_was c b m now k yes is at, within, d.0, same_view c b m now k yes is at id d.1)

  pub made_in : (done : Result Progress AbovePlan) (told : Result Progress NotDone) → told ≡ told_as done → MakesWith now mu cs done k → CallsList v mu cs told (shown_by id c (m.0, (0, k) ∷ rest m.1))
  made_in done told same d = subst (λ (x : Result Progress NotDone). CallsList v mu cs x (shown_by id c (m.0, (0, k) ∷ rest m.1))) (sym same) (made_by done d)
