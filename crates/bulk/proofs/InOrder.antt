-- Lists of commands done in order, one after the other.
use Rattle.std.proofs.Common.{◌≡◌, ℕ, ◌+◌, ◌<◌, ◌≤◌, true, false, List, [], ◌∷◌, ◌++◌, length, refl, sym, subst, arith, length-append}
use Rattle.std.specs.Prelude.{Option, Some, None, MatchOption, is_some}
use Rattle.graph_heap.specs.declared.command.Command.{Command}
use Rattle.graph_heap.specs.declared.command.Refusal.{Refusal}
use Rattle.graph_heap.specs.declared.command.Reply.{Reply}
use Rattle.graph_heap.specs.declared.command.Reply.TheVariants as replies
use Rattle.bulk.specs.declared.progress.Progress.{Progress}
use Rattle.bulk.specs.InOrder.{refusal_in, InOrderBy, DoesWithBy, DoesFrontBy, TellsAll}

-- A reply with a refusal is that refusal.
pub is_refusal : (r : Reply) (why : Refusal) → refusal_in r ≡ Some why → r ≡ replies.Refused why
is_refusal (replies.Made id) why e = cc
is_refusal (replies.Ref id) why e = cc
is_refusal (replies.Word w) why e = cc
is_refusal replies.Done why e = cc
is_refusal replies.Stored why e = cc
is_refusal (replies.Kept id) why e = cc
is_refusal (replies.KeptWord w) why e = cc
is_refusal (replies.Is b) why e = cc
is_refusal (replies.Described id shape) why e = cc
is_refusal (replies.Refused given) why e = cc

-- Progress may be replaced by an equal one.
pub told_as : {S : Type 0} (step : S → Command → Reply → S → Type 0) (h : S) (cs : List Command) (p q : Progress) (after : S) → p ≡ q → DoesFrontBy step h cs q after → DoesFrontBy step h cs p after
told_as step h cs p q after e w = subst (λ (x : Progress). DoesFrontBy step h cs x after) (sym e) w

-- Commands of which none was refused are followed by others.
joined : {S : Type 0} (step : S → Command → Reply → S → Type 0) (h mid after : S) (cs ds : List Command) (rs ss : List Reply) (refused : Option Refusal)
    → InOrderBy step h cs rs None mid → InOrderBy step mid ds ss refused after → InOrderBy step h (cs ++ ds) (rs ++ ss) refused after
joined step h mid after [] ds [] ss refused w v = subst (λ x. InOrderBy step x ds ss refused after) w v
joined step h mid after [] ds (r ∷ rs) ss refused w v = absurd w
joined step h mid after (c ∷ cs) ds [] ss refused w v = absurd w
joined step h mid after (c ∷ cs) ds (r ∷ rs) ss refused w v = (w.0, w.1, w.2, joined step w.0 mid after cs ds rs ss refused w.3 v)

-- Commands of which none was refused are followed by a refused one, whatever comes after it.
stopped : {S : Type 0} (step : S → Command → Reply → S → Type 0) (h mid after : S) (cs ds : List Command) (rs : List Reply) (c : Command) (why : Refusal)
    → InOrderBy step h cs rs None mid → step mid c (replies.Refused why) after → InOrderBy step h (cs ++ c ∷ ds) rs (Some why) after
stopped step h mid after [] ds [] c why w s = subst (λ x. step x c (replies.Refused why) after) w s
stopped step h mid after [] ds (r ∷ rs) c why w s = absurd w
stopped step h mid after (b ∷ cs) ds [] c why w s = absurd w
stopped step h mid after (b ∷ cs) ds (r ∷ rs) c why w s = (w.0, w.1, w.2, stopped step w.0 mid after cs ds rs c why w.3 s)

-- Commands of which one was refused are followed by any others.
stays : {S : Type 0} (step : S → Command → Reply → S → Type 0) (h after : S) (cs ds : List Command) (rs : List Reply) (why : Refusal)
    → InOrderBy step h cs rs (Some why) after → InOrderBy step h (cs ++ ds) rs (Some why) after
stays step h after [] ds [] why w = absurd w
stays step h after [] ds (r ∷ rs) why w = absurd w
stays step h after (c ∷ cs) ds [] why w = w
stays step h after (c ∷ cs) ds (r ∷ rs) why w = (w.0, w.1, w.2, stays step w.0 after cs ds rs why w.3)

-- All were done, or fewer.
counted : {S : Type 0} (step : S → Command → Reply → S → Type 0) (h after : S) (cs : List Command) (rs : List Reply) (refused : Option Refusal) (done : ℕ)
    → InOrderBy step h cs rs refused after → done ≡ length rs → MatchOption refused (done ≡ length cs) (λ why. done < length cs)
counted step h after [] [] None done w e = e
counted step h after [] [] (Some why) done w e = absurd w
counted step h after [] (r ∷ rs) refused done w e = absurd w
counted step h after (c ∷ cs) [] None done w e = absurd w
counted step h after (c ∷ cs) [] (Some why) done w e = omega arith
counted step h after (c ∷ cs) (r ∷ rs) None done w e = let rest = counted step w.0 after cs rs None (length rs) w.3 refl in omega (arith, rest)
counted step h after (c ∷ cs) (r ∷ rs) (Some why) done w e = let rest = counted step w.0 after cs rs (Some why) (length rs) w.3 refl in omega (arith, rest)

pub tells_all : {S : Type 0} (step : S → Command → Reply → S → Type 0) (h : S) (cs : List Command) (rs : List Reply) (p : Progress) (after : S) → DoesWithBy step h cs rs p after → TellsAll (length cs) p
tells_all step h cs rs p after w = counted step h after cs rs p.refused p.done w.order w.done

within_by : (refused : Option Refusal) (n done : ℕ) → MatchOption refused (done ≡ n) (λ why. done < n) → done ≤ n
within_by None n done e = omega arith
within_by (Some why) n done l = omega arith

-- At most as many were done as there are.
pub done_within : {S : Type 0} (step : S → Command → Reply → S → Type 0) (h : S) (cs : List Command) (p : Progress) (after : S) → DoesFrontBy step h cs p after → p.done ≤ length cs
done_within step h cs p after w = within_by p.refused (length cs) p.done (tells_all step h cs w.0 p after w.1)

pub none_done : {S : Type 0} (step : S → Command → Reply → S → Type 0) (h : S) → DoesFrontBy step h [] (record { done = 0; refused = None }) h
none_done step h = ([], record { order = refl; done = refl })

module _ {S : Type 0} (step : S → Command → Reply → S → Type 0) (h mid after : S) (cs : List Command) (n : ℕ) where
  pub more_with : (ds : List Command) (rs ss : List Reply) (p : Progress) (total : ℕ) → DoesWithBy step h cs rs (record { done = n; refused = None }) mid → DoesWithBy step mid ds ss p after → total ≡ n + p.done
      → DoesWithBy step h (cs ++ ds) (rs ++ ss) (record { done = total; refused = p.refused }) after
  more_with ds rs ss p total w v e = record {
    order = joined step h mid after cs ds rs ss p.refused w.order v.order;
    done = omega (arith, length-append rs ss, w.done, v.done);
  }

  pub one_more_with : (c : Command) (r : Reply) (rs : List Reply) → DoesWithBy step h cs rs (record { done = n; refused = None }) mid → step mid c r after → refusal_in r ≡ None
      → DoesWithBy step h (cs ++ c ∷ []) (rs ++ r ∷ []) (record { done = n + 1; refused = None }) after
  one_more_with c r rs w s e = more_with (c ∷ []) rs (r ∷ []) (record { done = 1; refused = None }) (n + 1) w (record { order = (after, s, e, refl); done = refl }) refl

  pub stops_with : (c : Command) (r : Reply) (why : Refusal) (ds : List Command) (rs : List Reply) → DoesWithBy step h cs rs (record { done = n; refused = None }) mid → step mid c r after
      → refusal_in r ≡ Some why → DoesWithBy step h (cs ++ c ∷ ds) rs (record { done = n; refused = Some why }) after
  stops_with c r why ds rs w s e = record {
    order = stopped step h mid after cs ds rs c why w.order (subst (λ (x : Reply). step mid c x after) (is_refusal r why e) s);
    done = w.done;
  }

  -- Two lists follow each other, whatever was replied.
  pub more : (ds : List Command) (p : Progress) (total : ℕ) → DoesFrontBy step h cs (record { done = n; refused = None }) mid → DoesFrontBy step mid ds p after → total ≡ n + p.done
      → DoesFrontBy step h (cs ++ ds) (record { done = total; refused = p.refused }) after
  more ds p total w v e = (w.0 ++ v.0, more_with ds w.0 v.0 p total w.1 v.1 e)

  pub one_more : (c : Command) (r : Reply) → DoesFrontBy step h cs (record { done = n; refused = None }) mid → step mid c r after → refusal_in r ≡ None
      → DoesFrontBy step h (cs ++ c ∷ []) (record { done = n + 1; refused = None }) after
  one_more c r w s e = (w.0 ++ r ∷ [], one_more_with c r w.0 w.1 s e)

  pub stops : (c : Command) (r : Reply) (why : Refusal) (ds : List Command) → DoesFrontBy step h cs (record { done = n; refused = None }) mid → step mid c r after → refusal_in r ≡ Some why
      → DoesFrontBy step h (cs ++ c ∷ ds) (record { done = n; refused = Some why }) after
  stops c r why ds w s e = (w.0, stops_with c r why ds w.0 w.1 s e)

-- If one was refused, others may follow in the list.
stays_by : {S : Type 0} (step : S → Command → Reply → S → Type 0) (h : S) (cs ds : List Command) (done : ℕ) (refused : Option Refusal) (after : S) → is_some refused ≡ true → DoesFrontBy step h cs (record { done = done; refused = refused }) after
    → DoesFrontBy step h (cs ++ ds) (record { done = done; refused = refused }) after
stays_by step h cs ds done None after e w = cc
stays_by step h cs ds done (Some why) after e w = (w.0, record { order = stays step h after cs ds w.0 why w.1.order; done = w.1.done })

pub stays_refused : {S : Type 0} (step : S → Command → Reply → S → Type 0) (h : S) (cs ds : List Command) (p : Progress) (after : S) → is_some p.refused ≡ true → DoesFrontBy step h cs p after → DoesFrontBy step h (cs ++ ds) p after
stays_refused step h cs ds p after e w = stays_by step h cs ds p.done p.refused after e w

-- If none was refused, the progress says so.
all_by : {S : Type 0} (step : S → Command → Reply → S → Type 0) (h : S) (cs : List Command) (done : ℕ) (refused : Option Refusal) (after : S) → is_some refused ≡ false → DoesFrontBy step h cs (record { done = done; refused = refused }) after
    → DoesFrontBy step h cs (record { done = done; refused = None }) after
all_by step h cs done None after e w = w
all_by step h cs done (Some why) after e w = cc

pub all_done : {S : Type 0} (step : S → Command → Reply → S → Type 0) (h : S) (cs : List Command) (p : Progress) (after : S) → is_some p.refused ≡ false → DoesFrontBy step h cs p after
    → DoesFrontBy step h cs (record { done = p.done; refused = None }) after
all_done step h cs p after e w = all_by step h cs p.done p.refused after e w
