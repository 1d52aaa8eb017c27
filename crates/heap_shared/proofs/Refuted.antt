-- No work in a turn can be hidden: an event contradicts the contracts of the calls around it.
use Rattle.std.proofs.Common.{◌≡◌, ℕ, suc, ◌%◌, List, [], ◌∷◌, ◌++◌, true, length, refl, sym, ap, ◌∙◌, subst, arith, Some, None, Ok, append_assoc, length-append}
use Rattle.std.specs.Prelude.{Option}
use Rattle.std.specs.List.{All}
use Rattle.std.proofs.lemmas.List.{length-map, append_cancel_left}
use mathlib.Core.Option as home
use mathlib.Core.Option.{some-injective, some-ne-none}
use Rattle.std.proofs.Common.{get_or}
use Rattle.atomic_table.specs.Table.{opening}
use Rattle.heap_model.specs.Event.{Event}
use Rattle.heap_shared.specs.declared.shared_heap.SharedConfig.{SharedConfig}
use Rattle.heap_shared.specs.Accounts.{account_of, events_of}
use Rattle.heap_shared.specs.Ring.{Ringed}
use Rattle.heap_shared.specs.Turns.{Turn, free, taken, newcomer, IsTurn, Keeps}
use Rattle.heap_shared.proofs.Merging.{nothing_between}
use Rattle.heap_shared.specs.declared.deed.Deed.{Deed}
use Rattle.heap_shared.specs.declared.rule.Account.{Account}
use Rattle.heap_shared.specs.Accounts.{member_of, IsOthers, BearsOut, signed}
use Rattle.heap_shared.specs.Members.{MemberView, own_account, Enters, Leaves, Places, DoesIn, DoesInTurn}

-- an event in the turn leaves this
did_one : {A : Type 0} (event : A → Event) (old : MemberView) (a : A) (new : MemberView) → (t : Option Ringed) → DoesIn t event old (Some a) new → (new.did ≡ old.did ++ event a ∷ []) × (new.seen ≡ old.seen) × (new.number ≡ old.number)
did_one event old a new None d = absurd (let z : Some a ≡ None = d.0 in cc)
did_one {A} event old a new (Some r) d =
    let same : d.0 ≡ a = (let z : Some a ≡ Some d.0 = d.2 in cc) in
    (ap (λ (v : MemberView). v.did) d.4 ∙ ap (λ (x : A). old.did ++ event x ∷ []) same, ap (λ (v : MemberView). v.seen) d.4, ap (λ (v : MemberView). v.number) d.4)

some_more : (xs : List Event) (e : Event) → xs ++ e ∷ [] ≡ [] → ⊥
some_more [] e is = cc
some_more (x ∷ xs) e is = cc

-- to enter and begin isn't to enter; nor is any other event of the turn
pub no_enter_and_do : {A : Type 0} (event : A → Event) (old mid new : MemberView) (a : A) → DoesInTurn event mid (Some a) new → Enters old (Ok tt) new → ⊥
no_enter_and_do event old mid new a d e =
    let one = did_one event mid a new mid.turn d in
    some_more mid.did (event a) (sym one.0 ∙ ap (λ (v : MemberView). v.did) e.3)

-- to do an event and leave isn't to leave
abbrev by_number : ℕ → Event → Deed
by_number n e = record { by = n; event = e }

longer : (seen : List Deed) (n : ℕ) (did : List Event) (e : Event) → seen ++ signed n (did ++ e ∷ []) ≡ seen ++ signed n did → ⊥
longer seen n did e is =
    let same : length (signed n (did ++ e ∷ [])) ≡ length (signed n did) = ap length (append_cancel_left seen (signed n (did ++ e ∷ [])) (signed n did) is) in
    omega (arith, same, length-map (did ++ e ∷ []) (by_number n), length-map did (by_number n), length-append did (e ∷ []))

pub no_do_and_leave : {A : Type 0} (event : A → Event) (old mid new : MemberView) (a : A) → DoesInTurn event old (Some a) mid → Leaves mid true new → Leaves old true new → ⊥
no_do_and_leave event old mid new a d left claims =
    let one = did_one event old a mid old.turn d in
    let was : new.seen ≡ mid.seen ++ signed mid.number mid.did = ap (λ (v : MemberView). v.seen) left.3 in
    let is : new.seen ≡ old.seen ++ signed old.number old.did = ap (λ (v : MemberView). v.seen) claims.3 in
    longer old.seen old.number old.did (event a) ((λ i. sym one.1 i ++ signed (sym one.2 i) (sym one.0 i)) ∙ (sym was ∙ is))

-- A turn of one's own with an event in it shows in the log that is seen afterwards: to enter, do the event, leave and enter again isn't
-- to enter.
own_deed : (a : Account) (log seen between added : List Deed) (d : Deed) → a.number % a.step ≡ a.number → d.by ≡ a.number → a.seen ++ between ≡ seen → (seen ++ d ∷ []) ++ added ≡ log → BearsOut log a → ⊥
own_deed a log seen between added d named by first then bears =
    let tail : List Deed = between ++ (d ∷ added) in
    let whole : a.seen ++ tail ≡ log = sym (append_assoc a.seen between (d ∷ added)) ∙ (ap (λ (xs : List Deed). xs ++ (d ∷ added)) first ∙ (sym (append_assoc seen (d ∷ []) added) ∙ then)) in
    let same : bears.0 ≡ tail = append_cancel_left a.seen bears.0 tail (bears.1 ∙ sym whole) in
    let all : All (IsOthers a) tail = subst (All (IsOthers a)) same bears.2 in
    in_tail between all
  where
    in_tail : (xs : List Deed) → All (IsOthers a) (xs ++ (d ∷ added)) → ⊥
    in_tail [] all = all 0 d (omega arith) (member_of d.by) (ap (λ (n : ℕ). n % a.step) by ∙ named) refl
    in_tail (x ∷ xs) all = in_tail xs (λ k e lt. all (suc k) e (omega (arith, lt)))

module _ {A : Type 0} (event : A → Event) (old m1 m2 m3 : MemberView) (a : A) (named : old.number % old.step ≡ old.number) (entered : Enters old (Ok tt) m1) (did : DoesInTurn event m1 (Some a) m2) (left : Leaves m2 true m3) where
  one : (m2.did ≡ m1.did ++ event a ∷ []) × (m2.seen ≡ m1.seen) × (m2.number ≡ m1.number)
  one = did_one event m1 a m2 m1.turn did

  abbrev deed : Deed
  deed = record { by = old.number; event = event a }

  seen_then : m3.seen ≡ entered.0 ++ deed ∷ []
  seen_then =
      let number : m2.number ≡ old.number = one.2 ∙ ap (λ (v : MemberView). v.number) entered.3 in
      let none : m1.did ≡ [] = ap (λ (v : MemberView). v.did) entered.3 in
      let seen : m2.seen ≡ entered.0 = one.1 ∙ ap (λ (v : MemberView). v.seen) entered.3 in
      ap (λ (v : MemberView). v.seen) left.3 ∙ (λ i. seen i ++ signed (number i) ((one.0 ∙ ap (λ (es : List Event). es ++ event a ∷ []) none) i))

  -- no log that goes on from there bears out the member's account of before
  no_log : (log : List Deed) → (added : List Deed) → m3.seen ++ added ≡ log → BearsOut log (own_account old) → ⊥
  no_log log added goes bears =
      own_deed (own_account old) log entered.0 entered.4.own.0 added deed named refl entered.4.own.1 (ap (λ (xs : List Deed). xs ++ added) (sym seen_then) ∙ goes) bears

  pub no_turn_before_entering : (new : MemberView) → Enters m3 (Ok tt) new → Enters old (Ok tt) new → ⊥
  no_turn_before_entering new again claims =
      let same : again.0 ≡ claims.0 = ap (λ (v : MemberView). v.seen) (sym again.3 ∙ claims.3) in
      no_log claims.0 again.4.own.0 (again.4.own.1 ∙ same) claims.4.own

  pub no_turn_before_looking : (n : ℕ) (new : MemberView) → Places m3 (Some n) new → Places old (Some n) new → ⊥
  no_turn_before_looking n new looks claims = no_log new.seen looks.1.own.0 looks.1.own.1 claims.1.own

  -- and a heap that was just made has seen nothing
  pub no_turn_in_a_new_heap : m3.seen ≡ [] → ⊥
  no_turn_in_a_new_heap is = some_deed entered.0 (sym seen_then ∙ is)
    where
      some_deed : (xs : List Deed) → xs ++ deed ∷ [] ≡ [] → ⊥
      some_deed [] e = cc
      some_deed (x ∷ xs) e = cc

-- a table that begins with a heap at which something was done keeps no rule
no_work_by : (c : SharedConfig) (ws : List ℕ) (r : Ringed) (log : List Deed) (t : Turn) → log ≡ [] → IsTurn c (opening ws (r ∷ []) (newcomer c)) log t → r.events ≡ []
no_work_by c ws r log (free x) none is =
    let same : r ≡ x = some-injective r x (ap (λ (hs : List (home.Option Ringed)). get_or hs 0 home.none) is.1) in
    ap (λ (y : Ringed). y.events) same ∙ (sym is.2 ∙ ap events_of none)
no_work_by c ws r log (taken k found) none is = absurd (some-ne-none r (ap (λ (hs : List (home.Option Ringed)). get_or hs 0 home.none) is.1))

pub no_work_before : (c : SharedConfig) (ws : List ℕ) (r : Ringed) → Keeps c (opening ws (r ∷ []) (newcomer c)) → r.events ≡ []
no_work_before c ws r k =
    let none : k.log ≡ [] = nothing_between k.log (account_of (newcomer c)) (k.known 0 (newcomer c) refl).own refl refl in
    no_work_by c ws r k.log k.turn none k.stands
