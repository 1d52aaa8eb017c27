-- Parts of a text that are written one behind the other.
use Rattle.std.proofs.Common.{◌≡◌, ℕ, ◌+◌, ◌<◌, ◌≤◌, List, [], ◌++◌, length, take, ap, ◌∙◌, sym, subst, arith, append-nil, append_assoc, length-append, refl}
use Rattle.std.specs.Prelude.{Result, Ok, Err, OnErr}
use Rattle.std.proofs.lemmas.List.{take-append-le}
use Rattle.std.proofs.Math.Seq.{take-append-add}
use Rattle.trace.specs.Streams.{GrowsByPart}

-- what holds, holds at an error too
pub at_err : {A E : Type 0} (r : Result A E) (P : Type 0) → P → OnErr r P
at_err (Ok x) P p = tt
at_err (Err e) P p = p

-- the text of parts: that of the first ones, and of those behind them
pub record IsText {A : Type 0} (text : List A → List ℕ) : Type 0 where
  pub both : (a b : List A) → text (a ++ b) ≡ text a ++ text b
  pub empty : text [] ≡ []

-- Some parts are written, and the rest is to come.
pub record SoFar {A : Type 0} (text : List A → List ℕ) (old new : List ℕ) (all rest : List A) : Type 0 where
  pub done : List A
  pub written : new ≡ old ++ text done
  pub still : all ≡ done ++ rest

module _ {A : Type 0} {text : List A → List ℕ} (w : IsText text) where
  -- no part is written
  pub none : (t : List ℕ) → t ≡ t ++ text []
  none t = sym (append-nil t) ∙ ap (λ x. t ++ x) (sym w.empty)

  -- some are written
  module _ (t0 t1 : List ℕ) (done : List A) (so : t1 ≡ t0 ++ text done) (t2 : List ℕ) (next : List A) where
    -- and others behind them
    pub more : t2 ≡ t1 ++ text next → t2 ≡ t0 ++ text (done ++ next)
    more e = e ∙ ap (λ t. t ++ text next) so ∙ append_assoc t0 (text done) (text next) ∙ ap (λ t. t0 ++ t) (sym (w.both done next))

    -- and a part of others after them, if more are to come
    pub part : (rest : List A) → GrowsByPart t1 t2 (text next) → GrowsByPart t0 t2 (text (done ++ (next ++ rest)))
    part rest g =
        let a = text done in
        let b = text next in
        let c = text rest in
        let all : text (done ++ (next ++ rest)) ≡ a ++ (b ++ c) = w.both done (next ++ rest) ∙ ap (λ t. a ++ t) (w.both next rest) in
        let few : g.0 ≤ length b = omega (arith, g.1) in
        let within : length a + g.0 < length (a ++ (b ++ c)) = omega (arith, g.1, length-append a (b ++ c), length-append b c) in
        let grown : t2 ≡ t0 ++ take (length a + g.0) (a ++ (b ++ c)) =
        g.2 ∙ ap (λ t. t ++ take g.0 b) so ∙ append_assoc t0 a (take g.0 b)
        ∙ ap (λ t. t0 ++ (a ++ t)) (sym (take-append-le g.0 b c few)) ∙ ap (λ t. t0 ++ t) (sym (take-append-add a (b ++ c) g.0)) in
        subst (GrowsByPart t0 t2) (sym all) (length a + g.0, within, grown)

  pub none_yet : (old : List ℕ) (all : List A) → SoFar text old old all all
  none_yet old all = record { done = []; written = none old; still = refl }

  module _ (old mid : List ℕ) (all rest : List A) (so : SoFar text old mid all rest) (here behind : List A) (is : rest ≡ here ++ behind) (new : List ℕ) where
    split : all ≡ so.done ++ (here ++ behind)
    split = so.still ∙ ap (λ xs. so.done ++ xs) is

    -- The next pieces are written, too.
    pub further : new ≡ mid ++ text here → SoFar text old new all behind
    further e = record { done = so.done ++ here; written = more old mid so.done so.written new here e; still = split ∙ sym (append_assoc so.done here behind) }

    -- A part of the next pieces is written.
    pub cut_short : GrowsByPart mid new (text here) → GrowsByPart old new (text all)
    cut_short g =
        let Part : List A → Type 0 = λ xs. GrowsByPart old new (text xs) in
        subst Part (sym split) (part old mid so.done so.written new here behind g)

  module _ (old mid : List ℕ) (all rest : List A) (so : SoFar text old mid all rest) (new : List ℕ) where
    -- with all that was to come
    pub to_last : new ≡ mid ++ text rest → new ≡ old ++ text all
    to_last e = more old mid so.done so.written new rest e ∙ ap (λ xs. old ++ text xs) (sym so.still)

    -- A part of the last pieces is written.
    pub in_last : GrowsByPart mid new (text rest) → GrowsByPart old new (text all)
    in_last g = cut_short old mid all rest so rest [] (sym (append-nil rest)) new g

-- all are written
pub all_of : {A : Type 0} {text : List A → List ℕ} (old new : List ℕ) (all rest : List A) → SoFar text old new all rest → rest ≡ [] → new ≡ old ++ text all
all_of {text = text} old new all rest so e = so.written ∙ ap (λ xs. old ++ text xs) (sym (so.still ∙ ap (λ xs. so.done ++ xs) e ∙ append-nil so.done))
