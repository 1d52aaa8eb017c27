-- Each step keeps the rule of the word.
use Rattle.std.proofs.Common.{◌≡◌, ◌≢◌, ℕ, zero, suc, eq-eqb, ne_eqb, ◌+◌, ◌/◌, ◌%◌, ◌<◌, eqb, Bool, true, false, true≢false, List, [], ◌∷◌, ◌++◌, length, get_or, set, refl, sym, ap, ◌∙◌, subst, arith, Some, None, length-append}
use Rattle.std.specs.Prelude.{Option as Maybe, IfSome}
use Rattle.std.specs.List.{All}
use Rattle.std.proofs.lemmas.List.{length-map, set-get_or, get_or-set_same, length-set}
use Rattle.std.proofs.lemmas.List.Elements.{All-append, All-map, All-nil}
use mathlib.Core.Logic.{dite}
use mathlib.Core.Option.{Option, none, some, some-injective, some-ne-none}
use native.Mathlib.Decide.{ℕ_discrete}
use prog.Atomic.{either}
use lib.ListN.{get_elem?}
use Rattle.atomic_table.specs.Table.{State, Me, Act, step, keeps, takes, gives, stepped, opening, carried_after, Valid, Allows}
use Rattle.atomic_table.proofs.Lists.{set_again}
use Rattle.heap_model.specs.Event.{Course, Event}
use Rattle.heap_shared.specs.declared.deed.Deed.{Deed}
use Rattle.heap_shared.specs.declared.rule.Account.{Account}
use Rattle.heap_shared.specs.declared.rule.Known.{Known}
use Rattle.heap_shared.specs.declared.rule.Last.{Last}
use Rattle.heap_shared.specs.declared.rule.TheConstants.{TURN_WORD}
use Rattle.heap_shared.specs.declared.shared_heap.SharedConfig.{SharedConfig}
use Rattle.heap_shared.specs.Accounts.{Doer, Has, IsOthers, BearsOut, IsAllowed, GoesOn, AreBelow, account_of, events_of, signed}
use Rattle.heap_shared.specs.Past.{IsTouched}
use Rattle.heap_shared.specs.Ring.{Ringed, IsAsAsked}
use Rattle.heap_shared.specs.Turns.{Turn, free, taken, newcomer, word_of, heap_at, IsTurn, Knows, Remembers, Keeps, Told, HasTurn, Entered, seen_now, Left, Looked, Cut}
use Rattle.heap_shared.proofs.Accounts.{bears_more, bears_all, not_theirs}
use Rattle.heap_shared.proofs.Owners.{own_number}
use Rattle.heap_shared.proofs.Pasts.{done_is, events_then, touched_then}
use Rattle.heap_shared.proofs.Views.{others}
use Rattle.heap_shared.proofs.Words.{odd, half, half_odd}

abbrev S : Type 0
S = State Ringed Known

-- a value that isn't true is false
not_true : (b : Bool) → (b ≡ true → ⊥) → b ≡ false
not_true true n = absurd (n refl)
not_true false n = refl

pub both_ways : (b : Bool) → b ≡ false → b ≡ true → ⊥
both_ways b isnt holds = true≢false (sym holds ∙ isnt)

-- the word stays
same_word : (ws : List ℕ) → set ws TURN_WORD (get_or ws TURN_WORD 0) ≡ ws
same_word ws = set-get_or ws TURN_WORD 0

-- the word is written
new_word : (ws : List ℕ) (n : ℕ) → TURN_WORD < length ws → get_or (set ws TURN_WORD n) TURN_WORD 0 ≡ n
new_word ws n there = get_or-set_same ws TURN_WORD n 0 there

still_there : (ws : List ℕ) (n : ℕ) → TURN_WORD < length ws → TURN_WORD < length (set ws TURN_WORD n)
still_there ws n there = subst (λ (l : ℕ). TURN_WORD < l) (sym (length-set ws TURN_WORD n)) there

-- nothing is done
unchanged : (c : SharedConfig) (s : S) (id : ℕ) (v : Known) (carried : List (ℕ × Ringed)) → Keeps c s → get_elem? s.views id ≡ some v → Keeps c (stepped s TURN_WORD (get_or s.words TURN_WORD 0) id carried v keeps)
unchanged c s id v carried k at =
    subst (Keeps c) (λ i. record { words = sym (same_word s.words) i; homes = s.homes; views = sym (set_again s.views id v at) i }) k

-- a member that has seen the whole log knows the same else
whole : (c : SharedConfig) (log : List Deed) (owner : Doer → Option ℕ) (k : ℕ) (v : Known) (inside : Bool) (last : Maybe Last) → Knows c log owner k v → Knows c log owner k (record v { seen = log; inside = inside; last = last })
whole c log owner k v inside last knows = record {
  config = knows.config;
  numbered = knows.numbered;
  range = knows.range;
  own = bears_all log (account_of (record v { seen = log })) refl;
  owns = knows.owns;
  learnt = knows.learnt;
  gone = knows.gone;
}

-- members learn this of a log
told : (c : SharedConfig) (s : S) (kept : Keeps c s) (id : ℕ) (v : Known) → get_elem? s.views id ≡ some v → Told kept.log v
told c s kept id v at = record {
  own = (kept.known id v at).own;
  learnt = (kept.known id v at).learnt;
  below = λ d is. subst (λ (x : SharedConfig). AreBelow x.config.mutators kept.log) (sym ((kept.known id v at).config d is)) kept.below;
}

-- a new heap has one member, who isn't inside
idle : (c : SharedConfig) (k : ℕ) (v : Known) → get_elem? (newcomer c ∷ []) k ≡ some v → v.inside ≡ false
idle c zero v e = ap (λ (u : Known). u.inside) (sym (some-injective _ _ e))
idle c (suc k) v e = absurd (some-ne-none v (sym e))

abbrev alone : Doer → Option ℕ
alone x = some 0

some_config : (c d : SharedConfig) → Some c ≡ Some d → d ≡ c
some_config c d e = cc

newcomer_knows : (c : SharedConfig) → Knows c [] alone 0 (newcomer c)
newcomer_knows c = record {
  config = λ d is. some_config c d is;
  numbered = λ d is. omega arith;
  range = omega arith;
  own = bears_all [] (account_of (newcomer c)) refl;
  owns = λ x h. refl;
  learnt = All-nil (BearsOut []);
  gone = All-nil (λ (a : Account). (x : Doer) → Has a x → alone x ≡ none);
}

first_knows : (c : SharedConfig) (k : ℕ) (v : Known) → get_elem? (newcomer c ∷ []) k ≡ some v → Knows c [] alone k v
first_knows c zero v e = subst (Knows c [] alone 0) (some-injective _ _ e) (newcomer_knows c)
first_knows c (suc k) v e = absurd (some-ne-none v (sym e))

-- a member that has just found or put back a heap remembers it
remembers_new : (log : List Deed) (heap : Course) (v : Known) → v.last ≡ Some (record { length = length log; heap = heap }) → Remembers log heap v
remembers_new log heap v is x has =
    let e : record { length = length log; heap = heap } ≡ x = (let z : Some (record { length = length log; heap = heap }) ≡ Some x = sym is ∙ has in cc) in
    ((let l = ap (λ (y : Last). y.length) e in omega (arith, l)), λ _. subst (λ (y : Last). IsTouched y.heap heap) e ([], refl))

-- a member that has found none yet remembers none
pub remembers_none : (log : List Deed) (heap : Course) (v : Known) → v.last ≡ None → Remembers log heap v
remembers_none log heap v is x has = absurd (let z : None ≡ Some x = sym is ∙ has in cc)

first_remembers : (c : SharedConfig) (heap : Course) (k : ℕ) (v : Known) → get_elem? (newcomer c ∷ []) k ≡ some v → Remembers [] heap v
first_remembers c heap zero v e = remembers_none [] heap v (ap (λ (u : Known). u.last) (sym (some-injective _ _ e)))
first_remembers c heap (suc k) v e = absurd (some-ne-none v (sym e))

module _ (c : SharedConfig) where
  -- a heap is new
  pub opens : (ws : List ℕ) (r : Ringed) → TURN_WORD < length ws → get_or ws TURN_WORD 0 ≡ 0 → r.events ≡ [] → IsAsAsked c r → Keeps c (opening ws (r ∷ []) (newcomer c))
  opens ws r there number empty asked = record {
    log = [];
    turn = free r;
    owner = alone;
    has_word = there;
    stands = (number, refl, sym empty, asked, idle c);
    known = first_knows c;
    remembered = first_remembers c r.course;
    below = All-nil (λ (d : Deed). IsAllowed 0 c.config.mutators d.event);
  }

module _ (c : SharedConfig) (slots : ℕ) where
  -- a member that takes the turn learns this
  abbrev Takes : S → ℕ → ℕ → Known → Type 0
  Takes s n id v = (w : Known) × (a : Act Ringed) × Valid s.homes [] a × Keeps c (stepped s TURN_WORD (n + 1) id [] w a) × HasTurn v n (w, carried_after [] a)

  abbrev AllRemember : S → List Deed → Turn → Type 0
  AllRemember s log t = (k : ℕ) (u : Known) → get_elem? s.views k ≡ some u → Remembers log (heap_at t) u

  take_turn : (s : S) (n id : ℕ) (v : Known) (kept : Keeps c s) (t : Turn) → IsTurn c s kept.log t → AllRemember s kept.log t → get_elem? s.views id ≡ some v → n % 2 ≡ 0 → get_or s.words TURN_WORD 0 ≡ n → Takes s n id v
  take_turn s n id v kept (taken by found) is rem at even here = absurd (odd (length kept.log) n (sym here ∙ is.0) even)
  take_turn s n id v kept (free r) is rem at even here =
      let number : n ≡ word_of (length kept.log) = sym here ∙ is.0 in
      let log = kept.log in
      let now : Last = record { length = length log; heap = r.course } in
      let w : Known = record v { seen = log; inside = true; last = Some now } in (
        w,
        takes 0 r,
        ap (λ (hs : List (Option Ringed)). get_elem? hs 0) is.1,
        record {
          log = log;
          turn = taken id r.course;
          owner = kept.owner;
          has_word = still_there s.words (n + 1) kept.has_word;
          stands = (
            new_word s.words (n + 1) kept.has_word ∙ ap (λ (x : ℕ). x + 1) number,
            ap (λ (hs : List (Option Ringed)). set hs 0 none) is.1,
            others (λ k u. u.inside ≡ true → (k ≡ id) × (u.seen ≡ log) × (u.last ≡ Some now)) s.views id w (λ _. (refl, refl, refl)) (λ k u apart e inside. absurd (both_ways u.inside (is.4 k u e) inside)),
          );
          known = others (Knows c log kept.owner) s.views id w (whole c log kept.owner id v true (Some now) (kept.known id v at)) (λ k u apart e. kept.known k u e);
          remembered = others (λ k u. Remembers log r.course u) s.views id w (remembers_new log r.course w refl) (λ k u apart e. rem k u e);
          below = kept.below;
        },
        record {
          log = log;
          held = r;
          has = refl;
          same = λ x has long. (rem id v at x has).1 long;
          told = told c s kept id v at;
          events = is.2;
          asked = λ d it_is. subst (λ (x : SharedConfig). IsAsAsked x r) (sym ((kept.known id v at).config d it_is)) is.3;
          word = number;
        },
      )

  -- a compare-exchange that takes the turn where the word is still the even number that was seen
  enters_from : (id n : ℕ) (v : Known) → n % 2 ≡ 0 → Allows (Keeps c) slots id (v, []) TURN_WORD (λ x. either (eqb x n) (n + 1) x) (Entered (step slots TURN_WORD n (n + 1) none) (v, []))
  enters_from id n v even s k wide at below = let x : ℕ = get_or s.words TURN_WORD 0 in dite (ℕ_discrete x n)
      (λ hit. let t = take_turn s n id v k k.turn k.stands k.remembered at even hit in (
        t.0,
        t.1,
        t.2,
        subst (λ b. Keeps c (stepped s TURN_WORD (either b (n + 1) x) id [] t.0 t.1)) (sym (eq-eqb x n hit)) t.3,
        ((λ _. subst (λ y. HasTurn v y (t.0, carried_after [] t.1)) (sym hit) t.4), λ miss. absurd (miss hit)),
      ))
      (λ miss. (
        v,
        keeps,
        tt,
        subst (λ b. Keeps c (stepped s TURN_WORD (either b (n + 1) x) id [] v keeps)) (sym (ne_eqb x n miss)) (unchanged c s id v [] k at),
        ((λ hit. absurd (miss hit)), λ _. refl),
      ))

  pub enters : (id n : ℕ) (m : Me Ringed Known) → m.1 ≡ [] → n % 2 ≡ 0 → Allows (Keeps c) slots id m TURN_WORD (λ x. either (eqb x n) (n + 1) x) (Entered (step slots TURN_WORD n (n + 1) none) m)
  enters id n m none-carried even =
      subst (λ (y : Me Ringed Known). Allows (Keeps c) slots id y TURN_WORD (λ x. either (eqb x n) (n + 1) x) (Entered (step slots TURN_WORD n (n + 1) none) y)) (λ i. (m.0, sym none-carried i)) (enters_from id n m.0 even)

  -- deeds of a member are others' to an account with none of its mutators and numbers
  abbrev Foreign : (Doer → Option ℕ) → ℕ → List Deed → Type 0
  Foreign owner id added = (a : Account) → ((x : Doer) → Has a x → owner x ≢ some id) → All (IsOthers a) added

  -- other members' knowledge of the log, to which a member's deeds were added
  others_know : (log added : List Deed) (owner : Doer → Option ℕ) (id k : ℕ) (u : Known) → Foreign owner id added → k ≢ id → Knows c log owner k u → Knows c (log ++ added) owner k u
  others_know log added owner id k u foreign apart knows = record {
    config = knows.config;
    numbered = knows.numbered;
    range = knows.range;
    own = bears_more log added (account_of u) knows.own (foreign (account_of u) (λ x h e. apart (some-injective k id (sym (knows.owns x h) ∙ e))));
    owns = knows.owns;
    learnt = λ j d lt. bears_more log added _ (knows.learnt j d lt) (foreign (get_or u.learnt j d) (λ x h e. some-ne-none id (sym e ∙ knows.gone j d lt x h)));
    gone = knows.gone;
  }

  -- and its own knowledge
  knows_after : (log added : List Deed) (owner : Doer → Option ℕ) (id : ℕ) (v : Known) → Foreign owner id added → Knows c log owner id v → (last : Maybe Last) → Knows c (log ++ added) owner id (record v { seen = log ++ added; inside = false; last = last })
  knows_after log added owner id v foreign knows last = record {
    config = knows.config;
    numbered = knows.numbered;
    range = knows.range;
    own = bears_all (log ++ added) (account_of (record v { seen = log ++ added })) refl;
    owns = knows.owns;
    learnt = λ j d lt. bears_more log added _ (knows.learnt j d lt) (foreign (get_or v.learnt j d) (λ x h e. some-ne-none id (sym e ∙ knows.gone j d lt x h)));
    gone = knows.gone;
  }

  -- if nothing was done yet, it is the heap that was found, except for touched pages
  abbrev Still : Known → Ringed → Type 0
  Still v r = length r.events ≡ length v.seen → IfSome v.last (λ x. IsTouched x.heap r.course)

  -- the member put back that heap last
  abbrev behind : Known → Ringed → Known
  behind v r = record v { seen = seen_now (v, (0, r) ∷ []); inside = false; last = Some (record { length = length (seen_now (v, (0, r) ∷ [])); heap = r.course }) }

  -- others remember the heap that was put back as they did the one that was found: only pages were touched, or the log went on
  others_remember : (log now : List Deed) (v : Known) (r : Ringed) (found : Course) (did : List Event) → length now ≡ length log + length did → length r.events ≡ length v.seen + length did
      → v.last ≡ Some (record { length = length log; heap = found }) → Still v r → (u : Known) → Remembers log found u → Remembers now r.course u
  others_remember log now v r found did long events mine still u theirs x has =
      let was = theirs x has in (
        (let l = was.0 in omega (arith, l, long)),
        λ same.
            let none : length did ≡ 0 = (let l = was.0 in omega (arith, l, long, same)) in
            let on : IsTouched found r.course = subst (λ (l : Maybe Last). IfSome l (λ y. IsTouched y.heap r.course)) mine (still (omega (arith, events, none))) in
            touched_then x.heap found r.course (was.1 (omega (arith, same, long, none))) on,
      )

  give_turn : (s : S) (new id : ℕ) (v : Known) (r : Ringed) (kept : Keeps c s) (t : Turn) → IsTurn c s kept.log t → AllRemember s kept.log t → get_elem? s.views id ≡ some v → v.inside ≡ true
      → GoesOn v.from v.to (events_of v.seen) r.events → (d : SharedConfig) → v.config ≡ Some d → IsAsAsked d r → new ≡ word_of (length r.events) → Still v r
      → Keeps c (stepped s TURN_WORD new id ((0, r) ∷ []) (behind v r) gives)
  give_turn s new id v r kept (free was) is rem at inside goes d config asked number still = absurd (both_ways v.inside (is.4 id v at) inside)
  give_turn s new id v r kept (taken by found) is rem at inside goes d config asked number still =
      let mine = is.2 id v at inside in
      let log = kept.log in
      let did = goes.0 in
      let added : List Deed = signed v.number did in
      let knows = kept.known id v at in
      let named = own_number v.number v.step (knows.numbered d config) in
      let foreign : Foreign kept.owner id added = λ a apart. not_theirs kept.owner id (account_of v) named knows.owns a apart did goes.2 in
      let now : List Deed = seen_now (v, (0, r) ∷ []) in
      let since = done_is v.seen did r.events goes.1 in
      let grown : log ++ added ≡ now = λ i. sym mine.1 i ++ signed v.number (sym since i) in
      let w : Known = behind v r in
      let below_new : AreBelow c.config.mutators (log ++ added) = All-append (λ (x : Deed). IsAllowed 0 c.config.mutators x.event) log added kept.below
      (All-map (λ (x : Deed). IsAllowed 0 c.config.mutators x.event) (λ (e : Event). record { by = v.number; event = e }) did (λ k e lt m of. (let h = goes.2 k e lt m of in let top = knows.range in (omega arith, omega (arith, h.1, top))))) in
      let events : events_of now ≡ r.events = ap (λ (es : List Event). events_of (v.seen ++ signed v.number es)) since ∙ (events_then v.seen v.number did ∙ goes.1) in
      let signs : length added ≡ length did = length-map did (λ (e : Event). record { by = v.number; event = e }) in
      let more : length now ≡ length log + length did = sym (ap length grown) ∙ (length-append log added ∙ ap (λ (n : ℕ). length log + n) signs) in
      let all : length r.events ≡ length v.seen + length did = (let g = ap length goes.1 in let a = length-append (events_of v.seen) did in let m = length-map v.seen (λ (x : Deed). x.event) in omega (arith, g, a, m)) in
      let long : length now ≡ length r.events = sym (length-map now (λ (x : Deed). x.event)) ∙ ap length events in
      record {
        log = now;
        turn = free r;
        owner = kept.owner;
        has_word = still_there s.words new kept.has_word;
        stands = (
          new_word s.words new kept.has_word ∙ (number ∙ ap word_of (sym long)),
          ap (λ (hs : List (Option Ringed)). set hs 0 (some r)) is.1,
          events,
          subst (λ (x : SharedConfig). IsAsAsked x r) (knows.config d config) asked,
          others (λ k u. u.inside ≡ false) s.views id w refl (λ k u apart e. not_true u.inside (λ so. apart ((is.2 k u e so).0 ∙ sym mine.0))),
        );
        known = others (Knows c now kept.owner) s.views id w
            (subst (λ (xs : List Deed). Knows c xs kept.owner id (record v { seen = xs; inside = false; last = w.last })) grown (knows_after log added kept.owner id v foreign knows w.last))
            (λ k u apart e. subst (λ (xs : List Deed). Knows c xs kept.owner k u) grown (others_know log added kept.owner id k u foreign apart (kept.known k u e)));
        remembered = others (λ k u. Remembers now r.course u) s.views id w (remembers_new now r.course w refl)
            (λ k u apart e. others_remember log now v r found did more all mine.2 still u (rem k u e));
        below = subst (AreBelow c.config.mutators) grown below_new;
      }

  leaves_from : (id new : ℕ) (v : Known) (r : Ringed) → v.inside ≡ true → GoesOn v.from v.to (events_of v.seen) r.events → (d : SharedConfig) → v.config ≡ Some d → IsAsAsked d r → new ≡ word_of (length r.events) → Still v r
      → Allows (Keeps c) slots id (v, (0, r) ∷ []) TURN_WORD (λ _. new) (λ _. Left (step slots TURN_WORD new 0 none) (v, (0, r) ∷ []) new)
  leaves_from id new v r inside goes d config asked number still s k wide at below =
      (behind v r, gives, tt, give_turn s new id v r k k.turn k.stands k.remembered at inside goes d config asked number still, refl)

  -- the turn is given back
  pub leaves : (id new : ℕ) (m : Me Ringed Known) (r : Ringed) → m.1 ≡ (0, r) ∷ [] → m.0.inside ≡ true → GoesOn m.0.from m.0.to (events_of m.0.seen) r.events → (d : SharedConfig) → m.0.config ≡ Some d → IsAsAsked d r → new ≡ word_of (length r.events) → Still m.0 r
      → Allows (Keeps c) slots id m TURN_WORD (λ _. new) (λ _. Left (step slots TURN_WORD new 0 none) m new)
  leaves id new m r carried inside goes d config asked number still =
      subst (λ (y : Me Ringed Known). Allows (Keeps c) slots id y TURN_WORD (λ _. new) (λ _. Left (step slots TURN_WORD new 0 none) y new)) (λ i. (m.0, sym carried i)) (leaves_from id new m.0 r inside goes d config asked number still)

  -- another view of a member that isn't inside leaves the turn as it is
  turn_stays : (s : S) (id : ℕ) (w : Known) (log : List Deed) (t : Turn) → IsTurn c s log t → w.inside ≡ false
      → IsTurn c (stepped s TURN_WORD (get_or s.words TURN_WORD 0) id [] w keeps) log t
  turn_stays s id w log (free r) is out =
      (ap (λ (ws : List ℕ). get_or ws TURN_WORD 0) (same_word s.words) ∙ is.0, is.1, is.2, is.3, others (λ k u. u.inside ≡ false) s.views id w out (λ k u apart e. is.4 k u e))
  turn_stays s id w log (taken by found) is out =
      (ap (λ (ws : List ℕ). get_or ws TURN_WORD 0) (same_word s.words) ∙ is.0, is.1, others (λ k u. u.inside ≡ true → (k ≡ by) × (u.seen ≡ log) × (u.last ≡ Some (record { length = length log; heap = found }))) s.views id w (λ so. absurd (both_ways w.inside out so)) (λ k u apart e. is.2 k u e))

  view_changes : (s : S) (kept : Keeps c s) (id : ℕ) (w : Known) → w.inside ≡ false → Knows c kept.log kept.owner id w → Remembers kept.log (heap_at kept.turn) w → Keeps c (stepped s TURN_WORD (get_or s.words TURN_WORD 0) id [] w keeps)
  view_changes s kept id w out knows remembers = record {
    log = kept.log;
    turn = kept.turn;
    owner = kept.owner;
    has_word = still_there s.words _ kept.has_word;
    stands = turn_stays s id w kept.log kept.turn kept.stands out;
    known = others (Knows c kept.log kept.owner) s.views id w knows (λ k u apart e. kept.known k u e);
    remembered = others (λ k u. Remembers kept.log (heap_at kept.turn) u) s.views id w remembers (λ k u apart e. kept.remembered k u e);
    below = kept.below;
  }

  number_is : (s : S) (log : List Deed) (t : Turn) → IsTurn c s log t → get_or s.words TURN_WORD 0 / 2 ≡ length log % 9223372036854775808
  number_is s log (free r) is = half (length log) _ is.0
  number_is s log (taken by found) is = half_odd (length log) _ is.0

  looks_from : (id : ℕ) (v : Known) → v.inside ≡ false → Allows (Keeps c) slots id (v, []) TURN_WORD (λ n. n) (Looked (step slots TURN_WORD 0 0 none) (v, []))
  looks_from id v out s k wide at below =
      let w : Known = record v { seen = k.log } in
      let knows : Knows c k.log k.owner id w = record { config = (k.known id v at).config; numbered = (k.known id v at).numbered; range = (k.known id v at).range; own = bears_all k.log (account_of w) refl; owns = (k.known id v at).owns; learnt = (k.known id v at).learnt; gone = (k.known id v at).gone } in
      (w, keeps, tt, view_changes s k id w out knows (k.remembered id v at), (refl, told c s k id v at, number_is s k.log k.turn k.stands))

  -- the word is looked at
  pub looks : (id : ℕ) (m : Me Ringed Known) → m.1 ≡ [] → m.0.inside ≡ false → Allows (Keeps c) slots id m TURN_WORD (λ n. n) (Looked (step slots TURN_WORD 0 0 none) m)
  looks id m none-carried out =
      subst (λ (y : Me Ringed Known). Allows (Keeps c) slots id y TURN_WORD (λ n. n) (Looked (step slots TURN_WORD 0 0 none) y)) (λ i. (m.0, sym none-carried i)) (looks_from id m.0 out)

  either_same : (x n : ℕ) → either (eqb x n) n x ≡ x
  either_same x n = dite (ℕ_discrete x n) (λ (hit : x ≡ n). ap (λ b. either b n x) (eq-eqb x n hit) ∙ sym hit) (λ (miss : x ≢ n). ap (λ b. either b n x) (ne_eqb x n miss))

  cuts_from : (id n : ℕ) (v : Known) → v.inside ≡ false → Allows (Keeps c) slots id (v, []) TURN_WORD (λ x. either (eqb x n) n x) (Cut (step slots TURN_WORD n n none) (v, []))
  cuts_from id n v out s k wide at below =
      let w : Known = record v { cut = n } in
      let x : ℕ = get_or s.words TURN_WORD 0 in
      let knows : Knows c k.log k.owner id w = record { config = (k.known id v at).config; numbered = (k.known id v at).numbered; range = (k.known id v at).range; own = (k.known id v at).own; owns = (k.known id v at).owns; learnt = (k.known id v at).learnt; gone = (k.known id v at).gone } in
      (w, keeps, tt, subst (λ y. Keeps c (stepped s TURN_WORD y id [] w keeps)) (sym (either_same x n)) (view_changes s k id w out knows (k.remembered id v at)), refl)

  -- a place is named at which the member's mutators are cut in two
  pub cuts : (id n : ℕ) (m : Me Ringed Known) → m.1 ≡ [] → m.0.inside ≡ false → Allows (Keeps c) slots id m TURN_WORD (λ x. either (eqb x n) n x) (Cut (step slots TURN_WORD n n none) m)
  cuts id n m none-carried out =
      subst (λ (y : Me Ringed Known). Allows (Keeps c) slots id y TURN_WORD (λ x. either (eqb x n) n x) (Cut (step slots TURN_WORD n n none) y)) (λ i. (m.0, sym none-carried i)) (cuts_from id n m.0 out)
