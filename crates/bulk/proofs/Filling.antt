-- The cells of a new object are filled.
use Rattle.std.proofs.Common.{◌≡◌, ℕ, ◌+◌, ◌≤◌, true, false, List, [], ◌∷◌, length, refl, sym, ap, ◌∙◌, subst, arith}
use Rattle.std.specs.Prelude.{Option, Some, None, MatchOption, is_some}
use Rattle.graph_heap.specs.declared.command.Command.{Command}
use Rattle.graph_heap.specs.declared.command.Refusal.{Refusal}
use Rattle.graph_heap.specs.declared.command.Reply.{Reply}
use Rattle.bulk.specs.declared.progress.Progress.{Progress}
use Rattle.bulk.specs.InOrder.{refusal_in, DoesFrontBy, FollowsBy}
use Rattle.bulk.specs.Lists.{stores, puts, fills}
use Rattle.bulk.proofs.InOrder.{none_done, one_more, more, stops, stays_refused, all_done, done_within}
use Rattle.bulk.proofs.Lists.{row_length, store_at, put_at}

module _ {S : Type 0} (step : S → Command → Reply → S → Type 0) where
  pub stores_within : (h after : S) (obj : ℕ) (slots : List ℕ) (p : Progress) → DoesFrontBy step h (stores obj slots) p after → p.done ≤ length slots
  stores_within h after obj slots p w = omega (arith, done_within step h (stores obj slots) p after w, row_length (store_at obj slots) (length slots))

  pub puts_within : (h after : S) (obj first : ℕ) (words : List ℕ) (p : Progress) → DoesFrontBy step h (puts obj first words) p after → p.done ≤ length words
  puts_within h after obj first words p w = omega (arith, done_within step h (puts obj first words) p after w, row_length (put_at obj first words) (length words))

  -- If the first command was refused, that is all.
  pub follows_none : (h : S) (first : Reply) (cs : List Command) (p : Progress) (why : Refusal) → refusal_in first ≡ Some why → p ≡ record { done = 0; refused = Some why } → FollowsBy step h first cs p h
  follows_none h first cs p why is told = follows (refusal_in first) is
    where
      follows : (x : Option Refusal) → x ≡ Some why → MatchOption x ((q : Progress) × DoesFrontBy step h cs q h × (p ≡ record { done = 1 + q.done; refused = q.refused })) (λ w. (p ≡ record { done = 0; refused = Some w }) × (h ≡ h))
      follows None e = absurd (let z : None ≡ Some why = e in cc)
      follows (Some w) e = (told ∙ ap (λ x. record { done = 0; refused = x }) (sym e), refl)

  -- Else the others follow.
  pub follows_more : (h after : S) (first : Reply) (cs : List Command) (q p : Progress) → refusal_in first ≡ None → DoesFrontBy step h cs q after → p ≡ record { done = 1 + q.done; refused = q.refused } → FollowsBy step h first cs p after
  follows_more h after first cs q p is w told = follows (refusal_in first) is
    where
      follows : (x : Option Refusal) → x ≡ None → MatchOption x ((q : Progress) × DoesFrontBy step h cs q after × (p ≡ record { done = 1 + q.done; refused = q.refused })) (λ why. (p ≡ record { done = 0; refused = Some why }) × (after ≡ h))
      follows None e = (q, w, told)
      follows (Some why) e = absurd (let z : Some why ≡ None = e in cc)

  module _ (mid next : S) (dst : ℕ) (refs words : List ℕ) (stored : Progress) (does : DoesFrontBy step mid (stores dst refs) stored next) where
    -- A store was refused.
    pub filled_by_part : is_some stored.refused ≡ true → DoesFrontBy step mid (fills dst refs words) stored next
    filled_by_part e = stays_refused step mid (stores dst refs) (puts dst 0 words) stored next e does

    -- No store was refused.
    pub filled : (after : S) (put : Progress) → is_some stored.refused ≡ false → DoesFrontBy step next (puts dst 0 words) put after
        → DoesFrontBy step mid (fills dst refs words) (record { done = stored.done + put.done; refused = put.refused }) after
    filled after put e v = more step mid next after (stores dst refs) stored.done (puts dst 0 words) put (stored.done + put.done) (all_done step mid (stores dst refs) stored next e does) v refl

-- The commands that follow a first one make a list with it.
module _ {S : Type 0} (step : S → Command → Reply → S → Type 0) (h mid after : S) (first : Command) (r : Reply) (cs : List Command) (p : Progress) (made : step h first r mid) where
  pub follows_list : FollowsBy step mid r cs p after → DoesFrontBy step h (first ∷ cs) p after
  follows_list w = by (refusal_in r) refl w
    where
      by : (x : Option Refusal) → refusal_in r ≡ x → MatchOption x ((q : Progress) × DoesFrontBy step mid cs q after × (p ≡ record { done = 1 + q.done; refused = q.refused })) (λ why. (p ≡ record { done = 0; refused = Some why }) × (after ≡ mid))
          → DoesFrontBy step h (first ∷ cs) p after
      by None is w = subst (λ (q : Progress). DoesFrontBy step h (first ∷ cs) q after) (sym w.2)
          (more step h mid after (first ∷ []) 1 cs w.0 (1 + w.0.done) (one_more step h h mid [] 0 first r (none_done step h) made is) w.1 refl)
      by (Some why) is w = subst (λ x. DoesFrontBy step h (first ∷ cs) p x) (sym w.1)
          (subst (λ (q : Progress). DoesFrontBy step h (first ∷ cs) q mid) (sym w.0) (stops step h h mid [] 0 first r why cs (none_done step h) made is))
