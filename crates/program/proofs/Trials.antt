-- How many pages are enough for a trace.
use Rattle.std.proofs.Common.{◌≡◌, ℕ, ◌+◌, ◌-◌, ◌<◌, ◌≤◌, min, max, List, Bool, true, false, Some, None, inl, inr, sym, subst, arith, if◌then◌else◌}
use Rattle.std.specs.Prelude.{Result, Ok, Err}
use Rattle.std.specs.Result.{IsErrAnd}
use Rattle.size_classes.specs.declared.config.Config.{Config}
use Rattle.trace.specs.declared.fault.PlayFault.{PlayFault}
use Rattle.program.specs.declared.room.Trial.{Trial}
use Rattle.program.specs.declared.room.Bounds.{Bounds}
use Rattle.program.specs.Demand.{Measures, AreTooFew, IsEnoughOn, IsFound, FailsBy, OrFault}
use Rattle.program.specs.Bounds.{enough_of, AreBounds}

module _ (config : Config) (text : List ℕ) where
  -- The fault of a measurement is handed on.
  pub handed_on : {A : Type 0} (Is : A → Type 0) (r : Result A PlayFault) (why : PlayFault) → IsErrAnd r (λ e. e ≡ why) → FailsBy config text why → OrFault config text Is r
  handed_on Is (Ok it) why h m = elim h [ ]
  handed_on Is (Err e) why h m = subst (FailsBy config text) (sym h) m

  -- a consequence for each measurement that ends without a fault
  pub or_fault : {A : Type 0} (P Q : A → Type 0) (r : Result A PlayFault) → ((it : A) → P it → Q it) → OrFault config text P r → OrFault config text Q r
  or_fault P Q (Ok it) f h = f it h
  or_fault P Q (Err why) f h = h

  module _ (pages : ℕ) where
    -- The pages are enough without moving.
    pub still_enough : (t : Trial) → t.enough ≡ true → Measures config text false pages t.enough t.config → IsEnoughOn config text pages (enough_of t)
    still_enough t e m = subst (λ b. Measures config text false pages b t.config → IsEnoughOn config text pages (if b then Some t.config else None)) (sym e) (λ r. inl r) m

    -- The pages are too few without moving.
    pub still_few : (t : Trial) → t.enough ≡ false → Measures config text false pages t.enough t.config → AreTooFew config text false pages
    still_few t e m = (t.config, subst (λ b. Measures config text false pages b t.config) e m)

    -- So moving alone decides.
    pub moved_decides : AreTooFew config text false pages → (t : Trial) → Measures config text true pages t.enough t.config → IsEnoughOn config text pages (enough_of t)
    moved_decides none t m = by_moving t.enough t.config m
      where
        by_moving : (b : Bool) (c : Config) → Measures config text true pages b c → IsEnoughOn config text pages (if b then Some c else None)
        by_moving true c r = inr (none, r)
        by_moving false c r = (none, (c, r))

    -- A configuration that is found has these pages.
    has_pages : (c : Config) → IsEnoughOn config text pages (Some c) → c.pages ≡ pages
    has_pages c (inl still) = still.0.pages
    has_pages c (inr moved) = moved.1.0.pages

    pub enough_here : (t : Trial) → t.enough ≡ true → IsEnoughOn config text pages (enough_of t) → (t.config.pages ≡ pages) × IsEnoughOn config text t.config.pages (Some t.config)
    enough_here t e r =
        let here = subst (λ b. IsEnoughOn config text pages (if b then Some t.config else None)) e r in
        let is = has_pages t.config here in
        (is, subst (λ n. IsEnoughOn config text n (Some t.config)) (sym is) here)

  -- Bounds that meet give the configuration that is sought.
  pub bounds_meet : (b : Bounds) → AreBounds config text b → b.found.config.pages ≤ b.below + 1 → IsFound config text (Some b.found.config)
  bounds_meet b is near = (
    is.most,
    is.enough,
    (λ fewer some so. (let l = is.fewer in let e : b.below ≡ fewer = omega (arith, near, so, l) in subst (λ n. IsEnoughOn config text n None) e (is.too_few (omega (arith, some, e))))),
  )

-- The next number of pages lies between the bounds.
pub next_above : (next below high least pages : ℕ) → 1 < high - below → least ≡ max next (below + 1) → pages ≡ min least (high - 1) → below < pages
next_above next below high least pages far l p = grind arith

pub next_below : (next below high least pages : ℕ) → 1 < high - below → least ≡ max next (below + 1) → pages ≡ min least (high - 1) → pages < high
next_below next below high least pages far l p = grind arith
