-- The last events of a log that grows by one, and their places in it.
use Rattle.std.proofs.Common.{◌≡◌, ◌≢◌, ℕ, ◌+◌, ◌-◌, ◌%◌, ◌<◌, ◌≤◌, Bool, true, false, true≢false, List, [], ◌∷◌, ◌++◌, length, drop, map, refl, sym, ap, ◌∙◌, subst, arith, Some, None, length-append, length-drop, drop-drop}
use Rattle.std.specs.Prelude.{◌↔◌, IsTrue, Option, slice_get, nat_le, ok_or, if◌then◌else◌}
use Rattle.std.proofs.lemmas.Bool.Decides.{nat_tests}
use Rattle.std.proofs.lemmas.List.{drop-append-le, drop-map, length-map, map-append}
use Rattle.std.proofs.lemmas.Option.{slice_get-map}
use Rattle.std.specs.Option.{option_map}
use Rattle.circular_buffer.specs.Buffer.{Buffer, buffer, keep_last}
use Rattle.circular_buffer.proofs.Places.{slice_get-drop, slice_get-some}
use Rattle.heap_model.specs.Event.{Event}
use Rattle.paced.specs.declared.logged.Logged.{Logged}
use Rattle.heap_shared.specs.declared.fault.NoEntry.TheVariants.{Gone}
use Rattle.paced.specs.Logged.{event_of}
use Rattle.heap_shared.specs.Ring.{entry_ago, IsKeptAt, TellsEntry}

-- a longer log keeps the last of the events that were kept and the new event
pub kept_more : (kept : ℕ) (log : List Event) (e : Event) → keep_last kept (keep_last kept log ++ e ∷ []) ≡ keep_last kept (log ++ e ∷ [])
kept_more kept log e =
    let from = length log - kept in
    let more = log ++ e ∷ [] in
    let grown : keep_last kept log ++ e ∷ [] ≡ drop from more = sym (drop-append-le from log (e ∷ []) (omega arith)) in
    let places : from + (length (drop from more) - kept) ≡ length more - kept = omega (arith, length-drop from more, length-append log (e ∷ [])) in
    ap (keep_last kept) grown ∙ (drop-drop (length (drop from more) - kept) from more ∙ ap (λ (n : ℕ). drop n more) places)

-- the events of the entries that are kept
kept_events : (kept : ℕ) (items : List Logged) → map event_of (keep_last kept items) ≡ keep_last kept (map event_of items)
kept_events kept items = sym (drop-map event_of (length items - kept) items) ∙ ap (λ (n : ℕ). drop (n - kept) (map event_of items)) (sym (length-map items event_of))

pub kept_on : (old new : Buffer Logged) (log : List Event) (e : Logged) → new ≡ buffer (keep_last old.capacity (old.items ++ e ∷ [])) old.capacity → map event_of old.items ≡ keep_last old.capacity log
    → map event_of new.items ≡ keep_last new.capacity (log ++ event_of e ∷ [])
kept_on old new log e is was =
    ap (λ (b : Buffer Logged). map event_of b.items) is
    ∙ (kept_events old.capacity (old.items ++ e ∷ [])
    ∙ (ap (keep_last old.capacity) (map-append event_of old.items (e ∷ []))
    ∙ (ap (λ (xs : List Event). keep_last old.capacity (xs ++ event_of e ∷ [])) was
    ∙ (kept_more old.capacity log (event_of e)
    ∙ ap (λ (b : Buffer Logged). keep_last b.capacity (log ++ event_of e ∷ [])) (sym is)))))

-- the length of a log with one more event, as it wraps
pub more_by_one : (log more : List Event) (e : Event) (count after : ℕ) → count ≡ length log % 18446744073709551616 → after ≡ (count + 1) % 18446744073709551616 → more ≡ log ++ e ∷ [] → after ≡ length more % 18446744073709551616
more_by_one log more e count after was is grown = let n = ap length grown in let l = length-append log (e ∷ []) in omega (arith, was, is, n, l)

-- and it isn't empty
some_event : (log : List Event) (e : Event) → log ++ e ∷ [] ≡ [] → ⊥
some_event [] e is = cc
some_event (x ∷ log) e is = cc

pub never_empty : (log more : List Event) (e : Event) → more ≡ log ++ e ∷ [] → IsTrue false ↔ (more ≡ [])
never_empty log more e grown = ((λ no. absurd (true≢false (sym no))), λ none. absurd (some_event log e (sym grown ∙ none)))

-- the event of that long ago is found
ago_in : (items : List Logged) (ago n : ℕ) (b : Bool) → option_map event_of (if b then slice_get items (n - ago) else None) ≡ (if b then slice_get (map event_of items) (n - ago) else None)
ago_in items ago n true = sym (slice_get-map event_of items (n - ago))
ago_in items ago n false = refl

pub logged_ago : (items : List Logged) (log : List Event) (kept ago : ℕ) (told : Option Logged) → map event_of items ≡ keep_last kept log → told ≡ (if nat_le ago (length items) then slice_get items (length items - ago) else None)
    → option_map event_of told ≡ entry_ago kept log ago
logged_ago items log kept ago told was is =
    ap (option_map event_of) is
    ∙ (ago_in items ago (length items) (nat_le ago (length items))
    ∙ (ap (λ (n : ℕ). if nat_le ago n then slice_get (map event_of items) (n - ago) else None) (sym (length-map items event_of))
    ∙ ap (λ (es : List Event). if nat_le ago (length es) then slice_get es (length es - ago) else None) was))

-- how long ago a place is, as places wrap
module _ (log : List Event) (place count ago : ℕ) (at : count ≡ length log % 18446744073709551616) (since : (place + ago) % 9223372036854775808 ≡ count % 9223372036854775808) (wraps : ago < 9223372036854775808) where
  length_is : (place + ago) % 9223372036854775808 ≡ length log % 9223372036854775808
  length_is = omega (arith, since, at)

  pub not_yet : ago ≡ 0 → place % 9223372036854775808 ≡ length log % 9223372036854775808
  not_yet none = let l = length_is in omega (arith, l, none)

  passed : ago ≢ 0 → place % 9223372036854775808 ≢ length log % 9223372036854775808
  passed some same = let l = length_is in omega (arith, l, wraps, some, same)

  -- a number of this place is that long ago
  there : (q kept : ℕ) → kept < 9223372036854775808 → ago ≢ 0 → IsKeptAt kept log place q → q + ago ≡ length log
  there q kept small some is = let l = length_is in omega (arith, l, wraps, some, small, is.0, is.1, is.2)

  its_place : ago ≤ length log → (length log - ago) % 9223372036854775808 ≡ place % 9223372036854775808
  its_place within = let l = length_is in omega (arith, l, within)

  module _ (kept : ℕ) (small : kept < 9223372036854775808) (some : ago ≢ 0) where
    ring_length : length (keep_last kept log) ≡ length log - (length log - kept)
    ring_length = length-drop (length log - kept) log

    -- the entry of that long ago
    abbrev Found : Option Event → Type 0
    Found None = (place % 9223372036854775808 ≢ length log % 9223372036854775808) × ((q : ℕ) → ¬ IsKeptAt kept log place q)
    Found (Some e) = (q : ℕ) × IsKeptAt kept log place q × (slice_get log q ≡ Some e)

    found : (b : Bool) → nat_le ago (length (keep_last kept log)) ≡ b → Found (if b then slice_get (keep_last kept log) (length (keep_last kept log) - ago) else None)
    found true is =
        let within : ago ≤ length (keep_last kept log) = grind (arith, nat_tests) in
        let q = length log - ago in
        let same : q ≡ (length log - kept) + (length (keep_last kept log) - ago) = omega (arith, ring_length, within) in
        let x = slice_get-some log q (omega (arith, ring_length, within, some)) in
        let got : slice_get (keep_last kept log) (length (keep_last kept log) - ago) ≡ Some x.0 = slice_get-drop (length log - kept) log (length (keep_last kept log) - ago) q same ∙ x.1 in
        subst Found (sym got) (q, (its_place (omega (arith, ring_length, within)), omega (arith, ring_length, within, some), omega (arith, ring_length, within)), x.1)
    found false isnt =
        let beyond : length (keep_last kept log) < ago = grind (arith, nat_tests) in
        (passed some, λ q is. let t = there q kept small some is in omega (arith, t, ring_length, beyond, is.1, is.2))

    told_so : (told : Option Logged) → Found (option_map event_of told) → TellsEntry kept log place (ok_or told Gone)
    told_so None f = f
    told_so (Some e) f = f

    -- an entry is found at a place that had an event
    pub tells : (told : Option Logged) → option_map event_of told ≡ entry_ago kept log ago → TellsEntry kept log place (ok_or told Gone)
    tells told is = told_so told (subst Found (sym is) (found (nat_le ago (length (keep_last kept log))) refl))
