-- A member takes back what it gave to another, which did nothing.
use Rattle.std.proofs.Common.{◌≡◌, ◌≢◌, ℕ, ◌+◌, ◌-◌, ◌%◌, ◌<◌, ◌≤◌, ◌⊎◌, inl, inr, ⊎_elim, true, false, List, [], ◌++◌, length, set, refl, sym, ap, ◌∙◌, subst, arith, Some, None, Ok}
use Rattle.std.specs.List.{All}
use Rattle.std.proofs.lemmas.List.{append_cancel_left}
use mathlib.Core.Option.{Option, none, some, some-ne-none}
use lib.ListN.{get_elem?}
use Rattle.atomic_table.specs.Table.{State, Me, Joins}
use Rattle.atomic_table.specs.Seated.{TableId}
use Rattle.heap_shared.specs.declared.deed.Deed.{Deed}
use Rattle.heap_shared.specs.declared.rule.Known.{Known}
use Rattle.heap_shared.specs.declared.shared_heap.SharedConfig.{SharedConfig}
use Rattle.heap_shared.specs.Accounts.{Doer, mutator_of, member_of, Has, IsOthers, BearsOut, account_of}
use Rattle.heap_shared.specs.Members.{MemberView, shown_by, Adds, before_giving}
use Rattle.heap_shared.specs.Ring.{Ringed}
use Rattle.heap_shared.specs.Turns.{Turn, free, taken, rejoined, nobody, heap_at, IsTurn, Knows, Remembers, Keeps}
use Rattle.heap_shared.proofs.Owners.{given, given_within, given_other, given_same, one_of_two}
use Rattle.heap_shared.proofs.Splitting.{others_same, nobody_knows, there_else}
use Rattle.heap_shared.proofs.Turns.{both_ways, remembers_none}
use Rattle.heap_shared.proofs.Views.{others_two}

abbrev S : Type 0
S = State Ringed Known

below_or : (m n : ℕ) → (m < n) ⊎ (n ≤ m)
below_or m n = grind arith

-- a member whose mutators were cut in two gave half of them to another
pub record IsHalf (v w : Known) : Type 0 where
  pub width : ℕ
  pub next : w.number ≡ v.number + width
  pub mine : v.step ≡ width + width
  pub theirs : w.step ≡ width + width
  pub joins : w.from ≡ v.to
  pub low : v.from ≤ v.to
  pub high : w.from ≤ w.to
  pub seen : w.seen ≡ v.seen

module _ (c : SharedConfig) (log : List Deed) (owner : Doer → Option ℕ) (id other : ℕ) (v w : Known) (half : IsHalf v w) (d : SharedConfig) (config : w.config ≡ Some d) (knows : Knows c log owner id v) (theirs : Knows c log owner other w) where
  abbrev s : ℕ
  s = half.width

  abbrev whole : Known
  whole = rejoined v w

  step_is : w.number - v.number ≡ s
  step_is = (let next = half.next in omega (arith, next))

  below : v.number < s
  below = (let lt = theirs.numbered d config in let same = half.theirs in let next = half.next in omega (arith, lt, same, next))

  either_has : (x : Doer) → Has (account_of whole) x → Has (account_of v) x ⊎ Has (account_of w) x
  either_has (mutator_of m) h = ⊎_elim
      (λ (lt : m < v.to). inl (h.0, lt))
      (λ (le : v.to ≤ m). inr ((let joins = half.joins in omega (arith, le, joins)), h.1))
      (below_or m v.to)
  either_has (member_of n) is = ⊎_elim
      (λ (t : n % (s + s) ≡ v.number). inl (ap (λ (y : ℕ). n % y) half.mine ∙ t))
      (λ (t : n % (s + s) ≡ v.number + s). inr (ap (λ (y : ℕ). n % y) half.theirs ∙ (t ∙ sym half.next)))
      (one_of_two n v.number s below (ap (λ (y : ℕ). n % y) (sym step_is) ∙ is))

  abbrev back : Doer → Option ℕ
  back = given (account_of w) (some id) owner

  stays : (x : Doer) (y : Option ℕ) → owner x ≡ y → y ≢ some other → back x ≡ y
  stays x y is off = given_other (account_of w) (some id) (some other) owner x y (theirs.owns x) is off

  -- the log went on with deeds of others than both
  own_bears : BearsOut log (account_of whole)
  own_bears =
      let both : v.seen ++ theirs.own.0 ≡ v.seen ++ knows.own.0 = ap (λ (xs : List Deed). xs ++ theirs.own.0) (sym half.seen) ∙ (theirs.own.1 ∙ sym knows.own.1) in
      let same : theirs.own.0 ≡ knows.own.0 = append_cancel_left v.seen theirs.own.0 knows.own.0 both in
      let theirs_too : All (IsOthers (account_of w)) knows.own.0 = subst (All (IsOthers (account_of w))) same theirs.own.2 in (
        knows.own.0,
        knows.own.1,
        (λ k e lt x h of. ⊎_elim (λ (t : Has (account_of v) x). knows.own.2 k e lt x t of) (λ (t : Has (account_of w) x). theirs_too k e lt x t of) (either_has x h)),
      )

  pub whole_knows : Knows c log back id whole
  whole_knows = record {
    config = knows.config;
    numbered = λ e is. (let lt = below in let same = step_is in omega (arith, lt, same));
    range = theirs.range;
    own = own_bears;
    owns = λ x h. ⊎_elim (λ (t : Has (account_of v) x). given_same (account_of w) (some id) owner x (knows.owns x t)) (λ (t : Has (account_of w) x). given_within (account_of w) (some id) owner x t) (either_has x h);
    learnt = knows.learnt;
    gone = λ j a lt x h. stays x none (knows.gone j a lt x h) (λ e. some-ne-none other (sym e));
  }

  pub rest_know : (k : ℕ) (u : Known) → k ≢ other → Knows c log owner k u → Knows c log back k u
  rest_know = others_same c log owner back other stays

turn_rejoined : (c : SharedConfig) (s : S) (log : List Deed) (id other : ℕ) (v w : Known) → id ≢ other → get_elem? s.views id ≡ some v → (t : Turn) → IsTurn c s log t
    → IsTurn c (record { words = s.words; homes = s.homes; views = set (set s.views id (rejoined v w)) other nobody }) log t
turn_rejoined c s log id other v w apart at (free r) is = (is.0, is.1, is.2, is.3, others_two (λ k u. u.inside ≡ false) s.views id other (rejoined v w) nobody (is.4 id v at) refl (λ k u off far e. is.4 k u e) apart)
turn_rejoined c s log id other v w apart at (taken by found) is = (
  is.0,
  is.1,
  others_two (λ k u. u.inside ≡ true → (k ≡ by) × (u.seen ≡ log) × (u.last ≡ Some (record { length = length log; heap = found }))) s.views id other (rejoined v w) nobody (λ so. is.2 id v at so) (λ so. absurd (both_ways false refl so)) (λ k u off far e. is.2 k u e) apart,
)

-- a member takes back what it gave away
pub rejoins : (c : SharedConfig) (id : ℕ) (v : Known) (other : ℕ) (w : Known) (d : SharedConfig) → w.config ≡ Some d → IsHalf v w → Joins (Keeps c) id v other w (rejoined v w) nobody
rejoins c id v other w d config half st k at off there =
    let apart : id ≢ other = λ e. off (sym e) in
    let was = there_else st.views id other (rejoined v w) w off there in
    let knows = k.known id v at in
    let theirs = k.known other w was in
    let owner = given (account_of w) (some id) k.owner in record {
      log = k.log;
      turn = k.turn;
      owner = owner;
      has_word = k.has_word;
      stands = turn_rejoined c st k.log id other v w apart at k.turn k.stands;
      known = others_two (Knows c k.log owner) st.views id other (rejoined v w) nobody
          (whole_knows c k.log k.owner id other v w half d config knows theirs)
          (nobody_knows c k.log owner other)
          (λ j u off_id off_other e. rest_know c k.log k.owner id other v w half d config knows theirs j u off_other (k.known j u e))
          apart;
      remembered = others_two (λ j u. Remembers k.log (heap_at k.turn) u) st.views id other (rejoined v w) nobody (k.remembered id v at) (remembers_none k.log (heap_at k.turn) nobody refl) (λ j u off_id off_other e. k.remembered j u e) apart;
      below = k.below;
    }

-- a member got from another the mutators from its last one on and every other number, and both have seen the same
record IsUpper (v made : MemberView) : Type 0 where
  pub width : ℕ
  pub next : made.number ≡ v.number + width
  pub mine : v.step ≡ width + width
  pub theirs : made.step ≡ width + width
  pub joins : made.from ≡ v.to
  pub low : v.from ≤ v.to
  pub high : made.from ≤ made.to
  pub seen : made.seen ≡ v.seen

-- the member that was given them has the upper half
upper : (old : MemberView) (from : ℕ) (made new : MemberView) → Adds old from (Ok made) new → IsUpper new made
upper old from made new adds =
    let cut : MemberView = record old { to = from; step = old.step + old.step } in
    let got : MemberView = record old { from = from; number = old.number + old.step; step = old.step + old.step; learnt = [] } in
    let is : IsUpper cut got = record { width = old.step; next = refl; mine = refl; theirs = refl; joins = refl; low = adds.1; high = adds.2; seen = refl } in
    subst (λ (x : MemberView). IsUpper x made) (sym adds.3) (subst (IsUpper cut) (sym adds.4) is)

-- as they are shown
pub half_shown : (id there : TableId) (c d : SharedConfig) (m n : Me Ringed Known) (v w : MemberView) → shown_by id c m ≡ v → shown_by there d n ≡ w → (old : MemberView) (from : ℕ) → Adds old from (Ok w) v → IsHalf m.0 n.0
half_shown id there c d m n v w mine theirs old from adds =
    let u : IsUpper (shown_by id c m) (shown_by there d n) = subst (λ (x : MemberView). IsUpper x (shown_by there d n)) (sym mine) (subst (IsUpper v) (sym theirs) (upper old from w v adds)) in
    record { width = u.width; next = u.next; mine = u.mine; theirs = u.theirs; joins = u.joins; low = u.low; high = u.high; seen = u.seen }

-- both are at the same heap, and neither has the turn
pub given_here : (old : MemberView) (from : ℕ) (made new : MemberView) → Adds old from (Ok made) new → (made.heap ≡ new.heap) × (made.turn ≡ None)
given_here old from made new adds = (ap (λ (v : MemberView). v.heap) adds.4 ∙ sym (ap (λ (v : MemberView). v.heap) adds.3), ap (λ (v : MemberView). v.turn) adds.4 ∙ adds.0)

-- a member that takes back what it has just given is as it was
pub as_before : (old : MemberView) (from : ℕ) (made new : MemberView) → Adds old from (Ok made) new → before_giving new made ≡ old
as_before old from made new adds =
    let cut : MemberView = record old { to = from; step = old.step + old.step } in
    let got : MemberView = record old { from = from; number = old.number + old.step; step = old.step + old.step; learnt = [] } in
    let step : got.number - cut.number ≡ old.step = omega arith in
    let back : before_giving cut got ≡ old = ap (λ (n : ℕ). record old { step = n }) step in
    ap (λ (v : MemberView). before_giving v made) adds.3 ∙ (ap (before_giving cut) adds.4 ∙ back)
