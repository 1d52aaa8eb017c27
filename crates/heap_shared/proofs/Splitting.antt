-- A member's mutators are cut in two, a spare seat is made, and a member learns another's accounts: each keeps the rule of the word.
use Rattle.std.proofs.Common.{◌≡◌, ◌≢◌, ℕ, zero, suc, ◌+◌, ◌%◌, ◌<◌, ◌≤◌, true, false, List, [], ◌∷◌, ◌++◌, length, set, refl, sym, ap, ◌∙◌, arith, Some, None}
use Rattle.std.specs.List.{All}
use Rattle.std.specs.Prelude.{Option as Maybe}
use Rattle.std.proofs.lemmas.List.Elements.{All-append, All-cons, All-nil}
use mathlib.Core.Option.{Option, none, some, some-ne-none}
use lib.ListN.{get_elem?}
use Rattle.atomic_table.specs.Table.{State, Splits, Joins}
use Rattle.heap_shared.specs.declared.deed.Deed.{Deed}
use Rattle.heap_shared.specs.declared.rule.Account.{Account}
use Rattle.heap_shared.specs.declared.rule.Known.{Known}
use Rattle.heap_shared.specs.declared.shared_heap.SharedConfig.{SharedConfig}
use Rattle.heap_shared.specs.Accounts.{Doer, mutator_of, member_of, Has, BearsOut, account_of}
use Rattle.heap_shared.specs.Ring.{Ringed}
use Rattle.heap_shared.specs.Turns.{Turn, free, taken, before_cut, behind_cut, told_by, learning, nobody, heap_at, IsTurn, Knows, Remembers, Keeps}
use Rattle.heap_shared.proofs.Accounts.{bears_fewer}
use Rattle.heap_shared.proofs.Owners.{given, given_within, given_else, given_other, apart_some, low_number, high_number, not_both}
use Rattle.heap_shared.proofs.Turns.{both_ways, remembers_none}
use Rattle.heap_shared.proofs.Views.{below_there, others_and_new, others_two}

abbrev S : Type 0
S = State Ringed Known

-- All mutators and numbers of one member change their owner: the other members know the same.
module _ (c : SharedConfig) (log : List Deed) (owner now : Doer → Option ℕ) (whose : ℕ) (stays : (x : Doer) (y : Option ℕ) → owner x ≡ y → y ≢ some whose → now x ≡ y) where
  gone_still : (xs : List Account) → All (λ a. (x : Doer) → Has a x → owner x ≡ none) xs → All (λ a. (x : Doer) → Has a x → now x ≡ none) xs
  gone_still xs gone j d lt x h = stays x none (gone j d lt x h) (λ e. some-ne-none whose (sym e))

  pub others_same : (k : ℕ) (u : Known) → k ≢ whose → Knows c log owner k u → Knows c log now k u
  others_same k u apart knows = record {
    config = knows.config;
    numbered = knows.numbered;
    range = knows.range;
    own = knows.own;
    owns = λ x h. stays x (some k) (knows.owns x h) (apart_some k whose apart);
    learnt = knows.learnt;
    gone = gone_still u.learnt knows.gone;
  }

module _ (c : SharedConfig) (log : List Deed) (owner : Doer → Option ℕ) (id new : ℕ) (v : Known) (fresh : id < new) (low : v.from ≤ v.cut) (high : v.cut ≤ v.to) (some_step : v.number < v.step) (knows : Knows c log owner id v) where
  abbrev upper : Account
  upper = account_of (behind_cut v)

  abbrev split : Doer → Option ℕ
  split = given upper (some new) owner

  upper_has : (x : Doer) → Has upper x → Has (account_of v) x
  upper_has (mutator_of m) w = (omega (arith, low, w.0), w.1)
  upper_has (member_of n) is = high_number n v.number v.step some_step is

  lower_has : (x : Doer) → Has (account_of (before_cut v)) x → Has (account_of v) x
  lower_has (mutator_of m) w = (w.0, omega (arith, w.1, high))
  lower_has (member_of n) is = low_number n v.number v.step some_step is

  lower_isnt : (x : Doer) → Has (account_of (before_cut v)) x → Has upper x → ⊥
  lower_isnt (mutator_of m) w r = omega (arith, w.1, r.0)
  lower_isnt (member_of n) is also = not_both (n % (v.step + v.step)) v.number v.step some_step is also

  stays : (x : Doer) (y : Option ℕ) → owner x ≡ y → y ≢ some id → split x ≡ y
  stays x y is apart = given_other upper (some new) (some id) owner x y (λ h. knows.owns x (upper_has x h)) is apart

  pub left_knows : Knows c log split id (before_cut v)
  left_knows = record {
    config = knows.config;
    numbered = λ d is. omega (arith, some_step);
    range = (let t = knows.range in omega (arith, high, t));
    own = bears_fewer log (account_of v) (account_of (before_cut v)) refl lower_has knows.own;
    owns = λ x h. given_else upper (some new) owner x (lower_isnt x h) ∙ knows.owns x (lower_has x h);
    learnt = knows.learnt;
    gone = gone_still c log owner split id stays v.learnt knows.gone;
  }

  pub right_knows : Knows c log split new (behind_cut v)
  right_knows = record {
    config = knows.config;
    numbered = λ d is. omega (arith, some_step);
    range = knows.range;
    own = bears_fewer log (account_of v) upper refl upper_has knows.own;
    owns = λ x h. given_within upper (some new) owner x h;
    learnt = All-nil (BearsOut log);
    gone = All-nil (λ (a : Account). (x : Doer) → Has a x → split x ≡ none);
  }

  pub rest_knows : (k : ℕ) (u : Known) → k ≢ id → Knows c log owner k u → Knows c log split k u
  rest_knows = others_same c log owner split id stays

turn_split : (c : SharedConfig) (s : S) (log : List Deed) (id : ℕ) (v : Known) → v.inside ≡ false → (t : Turn) → IsTurn c s log t
    → IsTurn c (record { words = s.words; homes = s.homes; views = set s.views id (before_cut v) ++ behind_cut v ∷ [] }) log t
turn_split c s log id v out (free r) is = (is.0, is.1, is.2, is.3, others_and_new (λ k u. u.inside ≡ false) s.views id (before_cut v) (behind_cut v) out refl (λ k u apart below e. is.4 k u e))
turn_split c s log id v out (taken by found) is = (
  is.0,
  is.1,
  others_and_new (λ k u. u.inside ≡ true → (k ≡ by) × (u.seen ≡ log) × (u.last ≡ Some (record { length = length log; heap = found }))) s.views id (before_cut v) (behind_cut v) (λ so. absurd (both_ways v.inside out so)) (λ so. absurd (both_ways false refl so)) (λ k u apart below e. is.2 k u e),
)

-- a member's mutators are cut in two
pub splits : (c : SharedConfig) (id : ℕ) (v : Known) (d : SharedConfig) → v.config ≡ Some d → v.inside ≡ false → v.from ≤ v.cut → v.cut ≤ v.to → Splits (Keeps c) id v (before_cut v) (behind_cut v)
splits c id v d config out low high s k at =
    let new = length s.views in
    let fresh = below_there s.views id v at in
    let knows = k.known id v at in
    let some_step = knows.numbered d config in
    let owner = given (account_of (behind_cut v)) (some new) k.owner in record {
      log = k.log;
      turn = k.turn;
      owner = owner;
      has_word = k.has_word;
      stands = turn_split c s k.log id v out k.turn k.stands;
      known = others_and_new (Knows c k.log owner) s.views id (before_cut v) (behind_cut v)
          (left_knows c k.log k.owner id new v fresh low high some_step knows)
          (right_knows c k.log k.owner id new v fresh low high some_step knows)
          (λ j u apart below e. rest_knows c k.log k.owner id new v fresh low high some_step knows j u apart (k.known j u e));
      remembered = others_and_new (λ j u. Remembers k.log (heap_at k.turn) u) s.views id (before_cut v) (behind_cut v) (k.remembered id v at) (k.remembered id v at) (λ j u apart below e. k.remembered j u e);
      below = k.below;
    }

-- nobody has no accounts
no_number : (n : ℕ) → n % 1 ≡ 1 → ⊥
no_number n is = omega (arith, is)

nobody_has : (x : Doer) → Has (account_of nobody) x → ⊥
nobody_has (mutator_of m) w = omega (arith, w.1)
nobody_has (member_of n) is = no_number n is

pub nobody_knows : (c : SharedConfig) (log : List Deed) (owner : Doer → Option ℕ) (k : ℕ) → Knows c log owner k nobody
nobody_knows c log owner k = record {
  config = λ d is. let z : None ≡ Some d = is in cc;
  numbered = λ d is. let z : None ≡ Some d = is in cc;
  range = omega arith;
  own = (log, refl, λ j d lt x has of. nobody_has x has);
  owns = λ x has. absurd (nobody_has x has);
  learnt = All-nil (BearsOut log);
  gone = All-nil (λ (a : Account). (x : Doer) → Has a x → owner x ≡ none);
}

turn_spared : (c : SharedConfig) (s : S) (log : List Deed) (id : ℕ) (v : Known) → get_elem? s.views id ≡ some v → (t : Turn) → IsTurn c s log t
    → IsTurn c (record { words = s.words; homes = s.homes; views = set s.views id v ++ nobody ∷ [] }) log t
turn_spared c s log id v at (free r) is = (is.0, is.1, is.2, is.3, others_and_new (λ k u. u.inside ≡ false) s.views id v nobody (is.4 id v at) refl (λ k u apart below e. is.4 k u e))
turn_spared c s log id v at (taken by found) is = (
  is.0,
  is.1,
  others_and_new (λ k u. u.inside ≡ true → (k ≡ by) × (u.seen ≡ log) × (u.last ≡ Some (record { length = length log; heap = found }))) s.views id v nobody (is.2 id v at) (λ so. absurd (both_ways false refl so)) (λ k u apart below e. is.2 k u e),
)

-- a spare seat is made
pub spares : (c : SharedConfig) (id : ℕ) (v : Known) → Splits (Keeps c) id v v nobody
spares c id v s k at = record {
  log = k.log;
  turn = k.turn;
  owner = k.owner;
  has_word = k.has_word;
  stands = turn_spared c s k.log id v at k.turn k.stands;
  known = others_and_new (Knows c k.log k.owner) s.views id v nobody (k.known id v at) (nobody_knows c k.log k.owner (length s.views)) (λ j u apart below e. k.known j u e);
  remembered = others_and_new (λ j u. Remembers k.log (heap_at k.turn) u) s.views id v nobody (k.remembered id v at) (remembers_none k.log (heap_at k.turn) nobody refl) (λ j u apart below e. k.remembered j u e);
  below = k.below;
}

module _ (c : SharedConfig) (log : List Deed) (owner : Doer → Option ℕ) (id other : ℕ) (v w : Known) (apart : id ≢ other) (knows : Knows c log owner id v) (theirs : Knows c log owner other w) where
  abbrev freed : Doer → Option ℕ
  freed = given (account_of w) none owner

  keeps_owner : (x : Doer) (y : Option ℕ) → owner x ≡ y → y ≢ some other → freed x ≡ y
  keeps_owner x y is off = given_other (account_of w) none (some other) owner x y (theirs.owns x) is off

  abbrev Gone : Account → Type 0
  Gone a = (x : Doer) → Has a x → freed x ≡ none

  told_so : (x : Maybe SharedConfig) → All (BearsOut log) (told_by x w)
  told_so None = All-nil (BearsOut log)
  told_so (Some d) = All-cons (BearsOut log) (account_of w) w.learnt theirs.own theirs.learnt

  told_gone : (x : Maybe SharedConfig) → All Gone (told_by x w)
  told_gone None = All-nil Gone
  told_gone (Some d) = All-cons Gone (account_of w) w.learnt (λ x h. given_within (account_of w) none owner x h) (gone_still c log owner freed other keeps_owner w.learnt theirs.gone)

  pub both_know : Knows c log freed id (learning v w)
  both_know = record {
    config = knows.config;
    numbered = knows.numbered;
    range = knows.range;
    own = knows.own;
    owns = λ x h. keeps_owner x (some id) (knows.owns x h) (apart_some id other apart);
    learnt = All-append (BearsOut log) v.learnt (told_by w.config w) knows.learnt (told_so w.config);
    gone = All-append Gone v.learnt (told_by w.config w) (gone_still c log owner freed other keeps_owner v.learnt knows.gone) (told_gone w.config);
  }

  pub rest_still : (k : ℕ) (u : Known) → k ≢ other → Knows c log owner k u → Knows c log freed k u
  rest_still = others_same c log owner freed other keeps_owner

turn_learnt : (c : SharedConfig) (s : S) (log : List Deed) (id other : ℕ) (v w : Known) → id ≢ other → get_elem? s.views id ≡ some v → (t : Turn) → IsTurn c s log t
    → IsTurn c (record { words = s.words; homes = s.homes; views = set (set s.views id (learning v w)) other nobody }) log t
turn_learnt c s log id other v w apart at (free r) is = (is.0, is.1, is.2, is.3, others_two (λ k u. u.inside ≡ false) s.views id other (learning v w) nobody (is.4 id v at) refl (λ k u off far e. is.4 k u e) apart)
turn_learnt c s log id other v w apart at (taken by found) is = (
  is.0,
  is.1,
  others_two (λ k u. u.inside ≡ true → (k ≡ by) × (u.seen ≡ log) × (u.last ≡ Some (record { length = length log; heap = found }))) s.views id other (learning v w) nobody (λ so. is.2 id v at so) (λ so. absurd (both_ways false refl so)) (λ k u off far e. is.2 k u e) apart,
)

-- the view of another member stays
pub there_else : (vs : List Known) (id other : ℕ) (u w : Known) → ¬ (other ≡ id) → get_elem? (set vs id u) other ≡ some w → get_elem? vs other ≡ some w
there_else [] id other u w n e = e
there_else (x ∷ xs) zero zero u w n e = absurd (n refl)
there_else (x ∷ xs) zero (suc other) u w n e = e
there_else (x ∷ xs) (suc id) zero u w n e = e
there_else (x ∷ xs) (suc id) (suc other) u w n e = there_else xs id other u w (λ h. n (ap suc h)) e

-- a member learns another's accounts
pub learns : (c : SharedConfig) (id : ℕ) (v : Known) (other : ℕ) (w : Known) → Joins (Keeps c) id v other w (learning v w) nobody
learns c id v other w s k at off there =
    let apart : id ≢ other = λ e. off (sym e) in
    let was = there_else s.views id other (learning v w) w off there in
    let knows = k.known id v at in
    let theirs = k.known other w was in record {
      log = k.log;
      turn = k.turn;
      owner = given (account_of w) none k.owner;
      has_word = k.has_word;
      stands = turn_learnt c s k.log id other v w apart at k.turn k.stands;
      known = others_two (Knows c k.log (given (account_of w) none k.owner)) s.views id other (learning v w) nobody
          (both_know c k.log k.owner id other v w apart knows theirs)
          (nobody_knows c k.log (given (account_of w) none k.owner) other)
          (λ j u off_id off_other e. rest_still c k.log k.owner id other v w apart knows theirs j u off_other (k.known j u e))
          apart;
      remembered = others_two (λ j u. Remembers k.log (heap_at k.turn) u) s.views id other (learning v w) nobody (k.remembered id v at) (remembers_none k.log (heap_at k.turn) nobody refl) (λ j u off_id off_other e. k.remembered j u e) apart;
      below = k.below;
    }
