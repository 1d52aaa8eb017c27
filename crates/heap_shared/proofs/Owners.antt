-- The owners of mutators and numbers, if a member's are cut in two or learnt.
use Rattle.std.proofs.Common.{◌≡◌, ◌≢◌, ℕ, suc, ◌+◌, ◌-◌, ◌*◌, ◌/◌, ◌%◌, ◌<◌, ◌≤◌, ◌⊎◌, inl, inr, ⊎_elim, refl, sym, ap, ◌∙◌, arith}
use Rattle.std.proofs.Math.Nat.{add-mul-mod_self_right, add-mod_right, mod-add-div', mod-eq_of_lt, mod-lt, mul-add}
use mathlib.Core.Option.{Option, some, some-injective}
use native.Mathlib.Decide.{dec_le, ℕ_discrete}
use Rattle.heap_shared.specs.declared.rule.Account.{Account}
use Rattle.heap_shared.specs.Accounts.{IsWithin, Doer, mutator_of, member_of, Has}

abbrev both_dec : {P Q : Type 0} → Dec P → Dec Q → Dec (P × Q)
both_dec (yes p) (yes q) = yes (p, q)
both_dec (yes p) (no n) = no (λ t. n t.1)
both_dec (no n) d = no (λ t. n t.0)

abbrev within_dec : (from to m : ℕ) → Dec (IsWithin from to m)
within_dec from to m = both_dec (dec_le from m) (dec_le (suc m) to)

abbrev has_dec : (a : Account) (x : Doer) → Dec (Has a x)
has_dec a (mutator_of m) = within_dec a.from a.to m
has_dec a (member_of n) = ℕ_discrete (n % a.step) a.number

abbrev chosen : {P : Type 0} → Dec P → Option ℕ → Option ℕ → Option ℕ
chosen (yes p) a b = a
chosen (no n) a b = b

chosen_yes : {P : Type 0} (d : Dec P) (a b : Option ℕ) → P → chosen d a b ≡ a
chosen_yes (yes p) a b holds = refl
chosen_yes (no n) a b holds = absurd (n holds)

chosen_no : {P : Type 0} (d : Dec P) (a b : Option ℕ) → ¬ P → chosen d a b ≡ b
chosen_no (yes p) a b isnt = absurd (isnt p)
chosen_no (no n) a b isnt = refl

-- the mutators and numbers of an account belong to this member now
abbrev pub given : Account → Option ℕ → (Doer → Option ℕ) → Doer → Option ℕ
given a to_whom owner x = chosen (has_dec a x) to_whom (owner x)

module _ (a : Account) (to_whom : Option ℕ) (owner : Doer → Option ℕ) (x : Doer) where
  pub given_within : Has a x → given a to_whom owner x ≡ to_whom
  given_within h = chosen_yes (has_dec a x) to_whom (owner x) h

  pub given_else : ¬ Has a x → given a to_whom owner x ≡ owner x
  given_else isnt = chosen_no (has_dec a x) to_whom (owner x) isnt

-- a member keeps those that it owns
same_chosen : {P : Type 0} (d : Dec P) (a b : Option ℕ) → b ≡ a → chosen d a b ≡ a
same_chosen (yes p) a b is = refl
same_chosen (no n) a b is = is

pub given_same : (a : Account) (to_whom : Option ℕ) (owner : Doer → Option ℕ) (x : Doer) → owner x ≡ to_whom → given a to_whom owner x ≡ to_whom
given_same a to_whom owner x is = same_chosen (has_dec a x) to_whom (owner x) is

-- a mutator or number whose owner isn't the one of the account keeps that owner
pub given_other : (a : Account) (to_whom was : Option ℕ) (owner : Doer → Option ℕ) (x : Doer) (y : Option ℕ) → (Has a x → owner x ≡ was) → owner x ≡ y → y ≢ was → given a to_whom owner x ≡ y
given_other a to_whom was owner x y mine is apart = given_else a to_whom owner x (λ h. apart (sym is ∙ mine h)) ∙ is

pub apart_some : (j k : ℕ) → j ≢ k → some j ≢ some k
apart_some j k n e = n (some-injective j k e)

-- every other number goes to a new member
in_two : (n r a b : ℕ) → r + b ≡ n → b ≡ a + a → n ≡ r + a + a
in_two n r a b sum twice = omega arith

mod_twice : (n s : ℕ) → n % s ≡ n % (s + s) % s
mod_twice n s =
    let q = n / (s + s) in
    let r = n % (s + s) in
    ap (λ (x : ℕ). x % s) (in_two n r (q * s) (q * (s + s)) (mod-add-div' n (s + s)) (mul-add q s s)) ∙ (add-mul-mod_self_right (r + q * s) q s ∙ add-mul-mod_self_right r q s)

pub own_number : (r s : ℕ) → r < s → r % s ≡ r
own_number r s lt = mod-eq_of_lt lt

pub low_number : (n r s : ℕ) → r < s → n % (s + s) ≡ r → n % s ≡ r
low_number n r s lt is = mod_twice n s ∙ (ap (λ (x : ℕ). x % s) is ∙ own_number r s lt)

pub high_number : (n r s : ℕ) → r < s → n % (s + s) ≡ r + s → n % s ≡ r
high_number n r s lt is = mod_twice n s ∙ (ap (λ (x : ℕ). x % s) is ∙ (add-mod_right r s ∙ own_number r s lt))

pub not_both : (n r s : ℕ) → r < s → n ≡ r → n ≡ r + s → ⊥
not_both n r s lt low high = omega (arith, lt, low, high)

-- a number is among the lower or the upper ones
half_of : (y r s : ℕ) → r < s → y < s + s → (y < s → y ≡ r) → (s ≤ y → y ≡ r + s) → (y ≡ r) ⊎ (y ≡ r + s)
half_of y r s lt most low high = ⊎_elim (λ (t : y < s). inl (low t)) (λ (t : s ≤ y). inr (high t)) (either_half y s)
  where
    either_half : (y s : ℕ) → (y < s) ⊎ (s ≤ y)
    either_half y s = grind arith

upper_is : (y r s : ℕ) → s ≤ y → y < s + s → y % s ≡ r → y ≡ r + s
upper_is y r s le most is =
    let z = y - s in
    let whole : z + s ≡ y = omega (arith, le) in
    let few : z < s = omega (arith, le, most) in
    let same : z ≡ r = sym (own_number z s few) ∙ (sym (add-mod_right z s) ∙ (ap (λ (x : ℕ). x % s) whole ∙ is)) in
    sym whole ∙ ap (λ (x : ℕ). x + s) same

pub one_of_two : (n r s : ℕ) → r < s → n % s ≡ r → (n % (s + s) ≡ r) ⊎ (n % (s + s) ≡ r + s)
one_of_two n r s lt is =
    let y = n % (s + s) in
    let most : y < s + s = mod-lt n (omega (arith, lt)) in
    let rest : y % s ≡ r = sym (mod_twice n s) ∙ is in
    half_of y r s lt most (λ few. sym (own_number y s few) ∙ rest) (λ many. upper_is y r s many most rest)
