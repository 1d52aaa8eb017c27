-- Lists of commands at a shared heap.
use Rattle.std.proofs.Common.{◌≡◌, ◌∙◌, ℕ, suc, ◌+◌, ◌<◌, List, [], ◌∷◌, ◌++◌, map, length, refl, sym, ap, subst, arith, append-nil, append_assoc, Ok}
use Rattle.std.specs.Prelude.{Option, Some, None, MatchOption}
use Rattle.std.specs.List.{All, flat_map}
use Rattle.std.proofs.lemmas.List.Elements.{All-cons, All-nil}
use Rattle.graph_heap.specs.declared.command.Command.{Command}
use Rattle.graph_heap.specs.declared.command.Command.TheVariants as commands
use Rattle.graph_heap.specs.declared.command.Refusal.{Refusal}
use Rattle.graph_heap.specs.declared.command.Reply.{Reply}
use Rattle.graph_heap.specs.declared.command.Reply.TheVariants as replies
use Rattle.graph_heap.specs.declared.command.Shape.{Shape}
use Rattle.heap_model.specs.Event.{Event, Command_done}
use Rattle.space.specs.Room.{asks}
use Rattle.fragmentation.specs.Flow.{words_of}
use Rattle.machine.proofs.Courses.{runs_then}
use Rattle.bulk.specs.declared.progress.Progress.{Progress}
use Rattle.bulk.specs.InOrder.{refusal_in, with_refusal, events_of, TellsAll, InOrderBy, DoesWithBy, DoesFrontBy, FollowsBy}
use Rattle.bulk.specs.Lists.{upto, clears, gets, puts, copies}
use Rattle.bulk.proofs.InOrder.{is_refusal, tells_all}
use Rattle.bulk.proofs.Lists.{clear_at, get_at, put_at, load_at, store_from}
use Rattle.paced.specs.Pacing.{MakesNothing}
use Rattle.paced.proofs.Paths.{cycles_then}
use Rattle.heap_shared.specs.Accounts.{IsWithin, IsAllowed}
use Rattle.heap_shared.specs.Lists.{by_shared, WorksBefore, WorksFirst, DoesList, MakesWith}
use Rattle.heap_shared.specs.Ring.{Ringed, Goes, figures_of, Makes}
use Rattle.heap_shared.proofs.Accounts.{command_allowed}
use Rattle.heap_shared.proofs.Paid.{work_allowed}
use Rattle.heap_shared.proofs.Plans.{keeps_then, keeps_none}

-- events one after the other
pub goes_then : (es fs : List Event) (r mid k : Ringed) → Goes r es mid → Goes mid fs k → Goes r (es ++ fs) k
goes_then es fs r mid k p q = record {
  runs = runs_then es fs r.course mid.course k.course p.runs q.runs;
  events = q.events ∙ (ap (λ (xs : List Event). xs ++ fs) p.events ∙ append_assoc r.events es fs);
  ring = q.ring ∙ p.ring;
  cycles = cycles_then es fs r.course.heap mid.course.heap k.course.heap r.cycles mid.cycles k.cycles p.cycles q.cycles;
  keeps = keeps_then r.pacer mid.pacer k.pacer r.course.heap mid.course.heap k.course.heap es fs p.keeps q.keeps;
}

goes_none : (r : Ringed) → Goes r [] r
goes_none r = record { runs = refl; events = sym (append-nil r.events); ring = refl; cycles = (refl, refl); keeps = keeps_none r.pacer r.course.heap }

-- no event is left, if no reply is
none_left : (m : ℕ) (cs : List Command) → events_of m cs [] ≡ []
none_left m [] = refl
none_left m (c ∷ cs) = refl

-- commands that are done in order are events, and the figures stay
pub goes_each : (m : ℕ) (cs : List Command) (rs : List Reply) (refused : Option Refusal) (r k : Ringed) → InOrderBy (by_shared m) r cs rs refused k
    → Goes r (events_of m cs (with_refusal rs refused)) k × (figures_of k ≡ figures_of r)
goes_each m [] [] None r k w = (subst (λ (x : Ringed). Goes r [] x) (sym w) (goes_none r), ap figures_of w)
goes_each m [] [] (Some why) r k w = absurd w
goes_each m [] (q ∷ qs) refused r k w = absurd w
goes_each m (c ∷ cs) [] None r k w = absurd w
goes_each m (c ∷ cs) [] (Some why) r k w = (subst (λ (es : List Event). Goes r (Command_done m c (replies.Refused why) ∷ es) k) (sym (none_left m cs)) w.0, w.1)
goes_each m (c ∷ cs) (q ∷ qs) None r k w =
    let more = goes_each m cs qs None w.0 k w.3 in
    (goes_then (Command_done m c q ∷ []) (events_of m cs (with_refusal qs None)) r w.0 k w.1.0 more.0, more.1 ∙ w.1.1)
goes_each m (c ∷ cs) (q ∷ qs) (Some why) r k w =
    let more = goes_each m cs qs (Some why) w.0 k w.3 in
    (goes_then (Command_done m c q ∷ []) (events_of m cs (with_refusal qs (Some why))) r w.0 k w.1.0 more.0, more.1 ∙ w.1.1)

-- no reply is a refusal, of those that aren't told as refused
abbrev Passed : Reply → Type 0
Passed reply = refusal_in reply ≡ None

pub all_passed : (m : ℕ) (cs : List Command) (rs : List Reply) (refused : Option Refusal) (r k : Ringed) → InOrderBy (by_shared m) r cs rs refused k → All Passed rs
all_passed m [] [] refused r k w = All-nil Passed
all_passed m [] (q ∷ qs) refused r k w = absurd w
all_passed m (c ∷ cs) [] refused r k w = All-nil Passed
all_passed m (c ∷ cs) (q ∷ qs) refused r k w = All-cons Passed q qs w.2 (all_passed m cs qs refused w.0 k w.3)

-- the first command makes no object
abbrev pub BeginsQuietly : List Command → Type 0
BeginsQuietly [] = Unit {0}
BeginsQuietly (c ∷ cs) = MakesNothing c

row_quiet : (f : ℕ → Command) (xs : List ℕ) → ((i : ℕ) → MakesNothing (f i)) → BeginsQuietly (map f xs)
row_quiet f [] none = tt
row_quiet f (x ∷ xs) none = none x

rows_quiet : (a b : ℕ → Command) (xs : List ℕ) → ((i : ℕ) → MakesNothing (a i)) → BeginsQuietly (flat_map (λ i. a i ∷ b i ∷ []) xs)
rows_quiet a b [] none = tt
rows_quiet a b (x ∷ xs) none = none x

-- so it is with each list that makes no object
pub clears_quiet : (first count : ℕ) → BeginsQuietly (clears first count)
clears_quiet first count = row_quiet (clear_at first) (upto count) (λ i. tt)

pub gets_quiet : (obj first count : ℕ) → BeginsQuietly (gets obj first count)
gets_quiet obj first count = row_quiet (get_at obj first) (upto count) (λ i. tt)

pub puts_quiet : (obj first : ℕ) (words : List ℕ) → BeginsQuietly (puts obj first words)
puts_quiet obj first words = row_quiet (put_at obj first words) (upto (length words)) (λ i. tt)

pub copies_quiet : (through from from_first to to_first count : ℕ) → BeginsQuietly (copies through from from_first to to_first count)
copies_quiet through from from_first to to_first count = rows_quiet (load_at through from from_first) (store_from through to to_first) (upto count) (λ i. tt)

no_work : (c : Command) (r k : Ringed) → MakesNothing c → figures_of k ≡ figures_of r → WorksBefore c r [] k
no_work (commands.New dst shape) r k none same = absurd none
no_work c r k none same = (refl, same)

no_work_first : (cs : List Command) (r k : Ringed) → BeginsQuietly cs → figures_of k ≡ figures_of r → WorksFirst cs r [] k
no_work_first [] r k quiet same = (refl, same)
no_work_first (c ∷ cs) r k quiet same = no_work c r k quiet same

-- so a list is done
pub lists : (m : ℕ) (cs : List Command) (rs : List Reply) (p : Progress) (r k : Ringed) → BeginsQuietly cs → DoesWithBy (by_shared m) r cs rs p k → DoesList r m cs rs p k
lists m cs rs p r k quiet w =
    let does = goes_each m cs rs p.refused r k w.order in
    record {
      work = [];
      works = no_work_first cs r k quiet does.1;
      goes = does.0;
      done = w.done;
      all = tells_all (by_shared m) r cs rs p k w;
      passed = all_passed m cs rs p.refused r k w.order;
    }

-- an object is made, and its cells are filled
more_told : (n : ℕ) (p q : Progress) → TellsAll n q → p ≡ record { done = 1 + q.done; refused = q.refused } → TellsAll (suc n) p
more_told n p q all is = subst (TellsAll (suc n)) (sym is) (by q.refused all)
  where
    by : (x : Option Refusal) → MatchOption x (q.done ≡ n) (λ why. q.done < n) → MatchOption x (1 + q.done ≡ suc n) (λ why. 1 + q.done < suc n)
    by None e = omega (arith, e)
    by (Some why) l = omega (arith, l)

module _ (m dst : ℕ) (shape : Shape) (cs : List Command) (r mid k : Ringed) (reply : Reply) (p : Progress) (made : Makes r m (commands.New dst shape) (Ok reply) mid) where
  abbrev first : Command
  first = commands.New dst shape

  by : (x : Option Refusal) → refusal_in reply ≡ x
      → MatchOption x ((q : Progress) × DoesFrontBy (by_shared m) mid cs q k × (p ≡ record { done = 1 + q.done; refused = q.refused })) (λ why. (p ≡ record { done = 0; refused = Some why }) × (k ≡ mid))
      → MakesWith r m (first ∷ cs) (Ok p) k
  by None is w =
      let q = w.0 in
      let rs = w.1.0 in
      let each = goes_each m cs rs q.refused mid k w.1.1.order in
      let es = events_of m cs (with_refusal rs q.refused) in
      let all : Goes r (made.0 ++ Command_done m first reply ∷ es) k = subst (λ (xs : List Event). Goes r xs k) (append_assoc made.0 (Command_done m first reply ∷ []) es) (goes_then (made.0 ++ Command_done m first reply ∷ []) es r mid k made.2 each.0) in
      subst (λ (x : Progress). MakesWith r m (first ∷ cs) (Ok x) k) (sym w.2) (
        reply ∷ rs,
        record {
          work = made.0;
          works = (made.1, each.1 ∙ made.3);
          goes = subst (λ (xs : List Event). Goes r (made.0 ++ xs) k) (sym (told q.refused rs)) all;
          done = (let d = w.1.1.done in omega (arith, d));
          all = more_told (length cs) (record { done = 1 + q.done; refused = q.refused }) q (tells_all (by_shared m) mid cs rs q k w.1.1) refl;
          passed = All-cons Passed reply rs is (all_passed m cs rs q.refused mid k w.1.1.order);
        },
      )
    where
      told : (x : Option Refusal) (rs : List Reply) → events_of m (first ∷ cs) (with_refusal (reply ∷ rs) x) ≡ Command_done m first reply ∷ events_of m cs (with_refusal rs x)
      told None rs = refl
      told (Some why) rs = refl
  by (Some why) is w =
      let refused = is_refusal reply why is in
      let goes : Goes r (made.0 ++ Command_done m first (replies.Refused why) ∷ []) k = subst (λ (x : Ringed). Goes r (made.0 ++ Command_done m first (replies.Refused why) ∷ []) x) (sym w.1) (subst (λ (x : Reply). Goes r (made.0 ++ Command_done m first x ∷ []) mid) refused made.2) in
      subst (λ (x : Progress). MakesWith r m (first ∷ cs) (Ok x) k) (sym w.0) (
        [],
        record {
          work = made.0;
          works = (made.1, ap figures_of w.1 ∙ made.3);
          goes = subst (λ (xs : List Event). Goes r (made.0 ++ (Command_done m first (replies.Refused why) ∷ xs)) k) (sym (none_left m cs)) goes;
          done = refl;
          all = omega arith;
          passed = All-nil Passed;
        },
      )

  pub makes_with : FollowsBy (by_shared m) mid reply cs p k → MakesWith r m (first ∷ cs) (Ok p) k
  makes_with w = by (refusal_in reply) refl w

-- a member's list has events that it may do
pub list_allowed : (from to m : ℕ) (cs : List Command) (rs : List Reply) → IsWithin from to m → All (IsAllowed from to) (events_of m cs rs)
list_allowed from to m [] rs within = All-nil (IsAllowed from to)
list_allowed from to m (c ∷ cs) [] within = All-nil (IsAllowed from to)
list_allowed from to m (c ∷ cs) (r ∷ rs) within = All-cons (IsAllowed from to) (Command_done m c r) (events_of m cs rs) (command_allowed from to m c r within) (list_allowed from to m cs rs within)

none_allowed : (from to : ℕ) (work : List Event) → work ≡ [] → All (IsAllowed from to) work
none_allowed from to work is = subst (All (IsAllowed from to)) (sym is) (All-nil (IsAllowed from to))

before_allowed : (from to : ℕ) (c : Command) (r : Ringed) (work : List Event) (k : Ringed) → WorksBefore c r work k → All (IsAllowed from to) work
before_allowed from to (commands.New dst shape) r work k w = work_allowed from to r.pacer r.course.heap (words_of (asks (commands.New dst shape))) work w.0
before_allowed from to c r work k w = none_allowed from to work w.0

pub first_allowed : (from to : ℕ) (cs : List Command) (r : Ringed) (work : List Event) (k : Ringed) → WorksFirst cs r work k → All (IsAllowed from to) work
first_allowed from to [] r work k w = none_allowed from to work w.0
first_allowed from to (c ∷ cs) r work k w = before_allowed from to c r work k w
