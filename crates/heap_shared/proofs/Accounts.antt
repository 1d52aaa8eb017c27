-- A longer log still bears out accounts.
use Rattle.std.proofs.Common.{◌≡◌, ◌≢◌, ℕ, suc, ◌+◌, ◌%◌, List, [], ◌∷◌, ◌++◌, Bool, false, length, refl, sym, ap, ◌∙◌, subst, arith, append_assoc, append-nil}
use Rattle.std.specs.Prelude.{nat_eq, if◌then◌else◌}
use Rattle.std.specs.List.{All}
use Rattle.std.proofs.lemmas.Bool.Decides.{nat_tests}
use Rattle.std.proofs.lemmas.List.Elements.{All-append, All-cons, All-nil, All-map}
use mathlib.Core.Option.{Option, some}
use Rattle.graph_heap.specs.declared.command.Command.{Command}
use Rattle.graph_heap.specs.declared.command.Entry.{Entry}
use Rattle.graph_heap.specs.declared.command.Reply.{Reply}
use Rattle.graph_heap.specs.Merge.{mine_from, mine}
use Rattle.graph_heap.proofs.Merge.{mine_append}
use Rattle.heap_model.specs.Event.{Event, Command_done}
use Rattle.heap_shared.specs.declared.deed.Deed.{Deed}
use Rattle.heap_shared.specs.declared.rule.Account.{Account}
use Rattle.heap_shared.specs.Accounts.{Doer, mutator_of, member_of, Has, IsOthers, BearsOut, IsWithin, IsAllowed, GoesOn, signed}

-- entries of others are none of a mutator's
others_from : (es : List Entry) (m k : ℕ) → All (λ e. e.mutator ≢ m) es → mine_from k es m ≡ []
others_from [] m k all = refl
others_from (e ∷ es) m k all =
    let first : e.mutator ≢ m = all 0 e (omega arith) in
    let rest : mine_from (k + 1) es m ≡ [] = others_from es m (k + 1) (λ j d lt. all (suc j) d (omega (arith, lt))) in
    let isnt : nat_eq e.mutator m ≡ false = grind (arith, nat_tests) in
    ap (λ (b : Bool). if b then (k, e) ∷ mine_from (k + 1) es m else mine_from (k + 1) es m) isnt ∙ rest

pub mine_others : (es : List Entry) (m : ℕ) → All (λ e. e.mutator ≢ m) es → mine es m ≡ []
mine_others es m all = others_from es m 0 all

-- a mutator has the same entries if only others' entries are added
pub mine_same : (log added : List Entry) (m : ℕ) → All (λ e. e.mutator ≢ m) added → mine (log ++ added) m ≡ mine log m
mine_same log added m all = mine_append log added m ∙ (ap (λ w. mine log m ++ w) (others_from added m (length log) all) ∙ append-nil (mine log m))

-- a longer log bears out an account if the new deeds are others'
pub bears_more : (log added : List Deed) (a : Account) → BearsOut log a → All (IsOthers a) added → BearsOut (log ++ added) a
bears_more log added a b new = (b.0 ++ added, sym (append_assoc a.seen b.0 added) ∙ ap (λ (xs : List Deed). xs ++ added) b.1, All-append (IsOthers a) b.0 added b.2 new)

-- a log bears out the account of a member that has seen all of it
pub bears_all : (log : List Deed) (a : Account) → a.seen ≡ log → BearsOut log a
bears_all log a whole = ([], append-nil a.seen ∙ whole, All-nil (IsOthers a))

-- fewer mutators and numbers
pub bears_fewer : (log : List Deed) (a b : Account) → b.seen ≡ a.seen → ((x : Doer) → Has b x → Has a x) → BearsOut log a → BearsOut log b
bears_fewer log a b same fewer w = (w.0, ap (λ (xs : List Deed). xs ++ w.0) same ∙ w.1, λ k d lt x h of. w.2 k d lt x (fewer x h) of)

-- events go on by nothing, and by more
pub goes_none : (from to : ℕ) (es : List Event) → GoesOn from to es es
goes_none from to es = ([], append-nil es, All-nil (IsAllowed from to))

pub goes_more : (from to : ℕ) (es now more : List Event) → All (IsAllowed from to) more → GoesOn from to es now → GoesOn from to es (now ++ more)
goes_more from to es now more may g = (
  g.0 ++ more,
  sym (append_assoc es g.0 more) ∙ ap (λ xs. xs ++ more) g.1,
  All-append (IsAllowed from to) g.0 more g.2 may,
)

pub all_one : (from to : ℕ) (e : Event) → IsAllowed from to e → All (IsAllowed from to) (e ∷ [])
all_one from to e may = All-cons (IsAllowed from to) e [] may (All-nil (IsAllowed from to))

-- a command of one of its mutators
pub command_allowed : (from to m : ℕ) (c : Command) (reply : Reply) → IsWithin from to m → IsAllowed from to (Command_done m c reply)
command_allowed from to m c reply within k of = subst (IsWithin from to) of within

-- The deeds of a member are others' to an account with none of its mutators and numbers.
module _ (owner : Doer → Option ℕ) (id : ℕ) (mine : Account) (named : mine.number % mine.step ≡ mine.number) (owns : (x : Doer) → Has mine x → owner x ≡ some id) (a : Account) (apart : (x : Doer) → Has a x → owner x ≢ some id) where
  theirs : (e : Event) → IsAllowed mine.from mine.to e → IsOthers a (record { by = mine.number; event = e })
  theirs e may (mutator_of m) has of = apart (mutator_of m) has (owns (mutator_of m) (may m of))
  theirs e may (member_of n) has of = apart (member_of n) has (owns (member_of n) (subst (λ (y : ℕ). y % mine.step ≡ mine.number) of named))

  pub not_theirs : (did : List Event) → All (IsAllowed mine.from mine.to) did → All (IsOthers a) (signed mine.number did)
  not_theirs did all = All-map (IsOthers a) (λ (e : Event). record { by = mine.number; event = e }) did (λ k e lt. theirs _ (all k e lt))
