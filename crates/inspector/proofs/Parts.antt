-- Texts that are written one behind the other.
use Rattle.std.proofs.Common.{◌≡◌, ℕ, ◌+◌, ◌≤◌, List, ◌++◌, length, take, ap, ◌∙◌, sym, subst, arith, append_assoc, length-append}
use Rattle.std.specs.Prelude.{Result, Ok, Err, OnOk, OnErr}
use Rattle.std.proofs.lemmas.List.{take-append-le}
use Rattle.std.proofs.Math.Seq.{take-append-add}
use Rattle.trace.specs.Streams.{GrowsByPart}

-- a part of the first text is a part of both
pub part_first : (old new a b : List ℕ) → GrowsByPart old new a → GrowsByPart old new (a ++ b)
part_first old new a b g =
    let n : g.0 ≤ length a = omega (arith, g.1) in
    (g.0, omega (arith, g.1, length-append a b), g.2 ∙ ap (λ t. old ++ t) (sym (take-append-le g.0 a b n)))

-- the first text and a part of the second are a part of both
pub part_after : (old mid new a b : List ℕ) → mid ≡ old ++ a → GrowsByPart mid new b → GrowsByPart old new (a ++ b)
part_after old mid new a b e g = (
  length a + g.0,
  omega (arith, g.1, length-append a b),
  g.2 ∙ ap (λ t. t ++ take g.0 b) e ∙ append_assoc old a (take g.0 b) ∙ ap (λ t. old ++ t) (sym (take-append-add a b g.0)),
)

-- what holds, holds at an error too
pub at_err : {A E : Type 0} (r : Result A E) (P : Type 0) → P → OnErr r P
at_err (Ok x) P p = tt
at_err (Err e) P p = p

pub ok_so : {A E : Type 0} (r : Result A E) (P Q : Type 0) → (P → Q) → OnOk r P → OnOk r Q
ok_so (Ok x) P Q f h = f h
ok_so (Err e) P Q f h = tt

pub err_so : {A E : Type 0} (r : Result A E) (P Q : Type 0) → (P → Q) → OnErr r P → OnErr r Q
err_so (Ok x) P Q f h = tt
err_so (Err e) P Q f h = f h

-- a text of three parts
module _ (a b c all : List ℕ) (whole : all ≡ a ++ (b ++ c)) (t0 t1 : List ℕ) where
  pub first_of_three : GrowsByPart t0 t1 a → GrowsByPart t0 t1 all
  first_of_three g = subst (GrowsByPart t0 t1) (sym whole) (part_first t0 t1 a (b ++ c) g)

  module _ (t2 : List ℕ) (one : t1 ≡ t0 ++ a) where
    pub second_of_three : GrowsByPart t1 t2 b → GrowsByPart t0 t2 all
    second_of_three g = subst (GrowsByPart t0 t2) (sym whole) (part_after t0 t1 t2 a (b ++ c) one (part_first t1 t2 b c g))

    module _ (t3 : List ℕ) (two : t2 ≡ t1 ++ b) where
      pub third_of_three : GrowsByPart t2 t3 c → GrowsByPart t0 t3 all
      third_of_three g = subst (GrowsByPart t0 t3) (sym whole) (part_after t0 t1 t3 a (b ++ c) one (part_after t1 t2 t3 b c two g))

      pub three : t3 ≡ t2 ++ c → t3 ≡ t0 ++ all
      three e = e ∙ ap (λ t. t ++ c) two ∙ ap (λ t. (t ++ b) ++ c) one ∙ append_assoc (t0 ++ a) b c ∙ append_assoc t0 a (b ++ c) ∙ ap (λ t. t0 ++ t) (sym whole)
