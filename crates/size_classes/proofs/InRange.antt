-- Settings in their ranges.
use Rattle.std.proofs.Common.{◌≡◌, sym, subst, ℕ, ◌≤◌, zero, suc, ℤ, pos, negsuc, nat_abs, ◌≤ℤ◌, Bool, true, false, not, cond, refl, arith, rules, tests, List, [], ◌∷◌, Option, Some, None}
use Rattle.std.proofs.lemmas.Int.{ints}
use Rattle.std.specs.List.{All, find}
use Rattle.size_classes.specs.declared.ranges.Ranges.{Ranges}
use Rattle.size_classes.specs.declared.ranges.Ranges.TheVariants.{File, Library}
use Rattle.size_classes.specs.declared.key.Key.{Key}
use Rattle.size_classes.specs.declared.key.Key.TheVariants.{Pages, Mutators, Slots, Statics, Identities, DefragBelow, DefragPages, CollectorTicks, MutatorTicks, Rate, Live}
use Rattle.size_classes.specs.declared.key.TheConstants.Key.{ALL}
use Rattle.size_classes.specs.declared.settings.Settings.{Settings}
use Rattle.size_classes.specs.Keys.{row_of, is_between, is_allowed}
use Rattle.size_classes.specs.Config.{setting, first_outside}

-- if no element fails, each passes
step : {X : Type 0} (b : Bool) (x : X) (rest : Option X) → cond (not b) (Some x) rest ≡ None → (b ≡ true) × (rest ≡ None)
step true x rest e = (refl, e)
step false x rest e = absurd (cc)

all_pass : {X : Type 0} (p : X → Bool) (xs : List X) → find (λ x. not (p x)) xs ≡ None → All (λ x. p x ≡ true) xs
all_pass p [] e k d h = absurd (omega arith)
all_pass p (x ∷ xs) e zero d h = (step (p x) x (find (λ x. not (p x)) xs) e).0
all_pass p (x ∷ xs) e (suc k) d h = all_pass p xs (step (p x) x (find (λ x. not (p x)) xs) e).1 k d (omega arith)

each_key : (p : Key → Bool) → All (λ key. p key ≡ true) ALL → (key : Key) → p key ≡ true
each_key p all Pages = all 0 Pages (omega arith)
each_key p all Mutators = all 1 Pages (omega arith)
each_key p all Slots = all 2 Pages (omega arith)
each_key p all Statics = all 3 Pages (omega arith)
each_key p all Identities = all 4 Pages (omega arith)
each_key p all DefragBelow = all 5 Pages (omega arith)
each_key p all DefragPages = all 6 Pages (omega arith)
each_key p all CollectorTicks = all 7 Pages (omega arith)
each_key p all MutatorTicks = all 8 Pages (omega arith)
each_key p all Rate = all 9 Pages (omega arith)
each_key p all Live = all 10 Pages (omega arith)

between : (least : ℕ) (greatest value : ℤ) → is_between least greatest value ≡ true → (pos least ≤ℤ value) × (value ≤ℤ greatest)
unfolding is_between
between least greatest value e = (search (rules, tests), search (rules, tests))

inside : (least : ℕ) (greatest value : ℤ) → pos least ≤ℤ value → value ≤ℤ greatest → is_between least greatest value ≡ true
unfolding is_between
inside least greatest value low high = grind (arith, ints)

pub in_range : (ranges : Ranges) (s : Settings) (key : Key) → first_outside ranges s ≡ None
    → (pos (row_of ranges s.mutators key).least ≤ℤ setting s key) × (setting s key ≤ℤ (row_of ranges s.mutators key).greatest)
in_range ranges s key e =
    let p : Key → Bool = λ key. is_allowed ranges s.mutators key (setting s key) in
    between (row_of ranges s.mutators key).least (row_of ranges s.mutators key).greatest (setting s key) (each_key p (all_pass p ALL e) key)

-- each range of a file is within the library's
wider : (mutators : ℤ) (key : Key) → ((row_of Library mutators key).least ≡ (row_of File mutators key).least) × ((row_of File mutators key).greatest ≤ℤ (row_of Library mutators key).greatest)
wider mutators Pages = (refl, omega (arith, ints))
wider mutators Mutators = (refl, omega (arith, ints))
wider mutators Slots = (refl, omega (arith, ints))
wider mutators Statics = (refl, omega (arith, ints))
wider mutators Identities = (refl, omega (arith, ints))
wider mutators DefragBelow = (refl, omega (arith, ints))
wider mutators DefragPages = (refl, omega (arith, ints))
wider mutators CollectorTicks = (refl, omega (arith, ints))
wider mutators MutatorTicks = (refl, omega (arith, ints))
wider mutators Rate = (refl, omega (arith, ints))
wider mutators Live = (refl, omega (arith, ints))

allowed : (s : Settings) → first_outside File s ≡ None → (key : Key) → is_allowed Library s.mutators key (setting s key) ≡ true
allowed s e key =
    let r = in_range File s key e in
    let w = wider s.mutators key in
    inside (row_of Library s.mutators key).least (row_of Library s.mutators key).greatest (setting s key) (subst (λ n. pos n ≤ℤ setting s key) (sym w.0) r.0) (omega (arith, ints, r.1, w.1))

-- settings that are in a file's ranges are in the library's
file_within : (s : Settings) → first_outside File s ≡ None → first_outside Library s ≡ None
file_within s e = rw (allowed s e Pages, allowed s e Mutators, allowed s e Slots, allowed s e Statics, allowed s e Identities, allowed s e DefragBelow, allowed s e DefragPages, allowed s e CollectorTicks, allowed s e MutatorTicks, allowed s e Rate, allowed s e Live) refl

-- so are those that are in either's
pub any_within : (ranges : Ranges) (s : Settings) → first_outside ranges s ≡ None → first_outside Library s ≡ None
any_within File s e = file_within s e
any_within Library s e = e

-- a natural number that is at most an integer
pub below_abs : (n : ℕ) (z : ℤ) → pos n ≤ℤ z → n ≤ nat_abs z
below_abs n (pos m) e = omega (arith, ints)
below_abs n (negsuc m) e = omega (arith, ints)
