-- One step more, of the steps of a cycle and of all steps.
use Rattle.std.proofs.Common.{◌≡◌, ◌≢◌, ◌⊎◌, ℕ, ◌+◌, ◌-◌, ◌^◌, min, Bool, true, false, not, ◌&&◌, cond, inl, inr, List, [], ◌∷◌, ◌++◌, refl, ap, ◌∙◌, sym, arith, append_assoc}
use Rattle.std.specs.Prelude.{Option, Some, None, is_some, count_by}
use Rattle.std.proofs.lemmas.List.Sums.{sum_by_push, sum_by-cons, fold_push}
use Rattle.heap_model.specs.Event.{Course, Event, Command_done, Cycle_begun, Begin_refused, Quantum_done, Quantum_refused}
use Rattle.heap_model.specs.Phases.{awaits_sweep_end}
use Rattle.space.specs.Pace.{in_cycle}
use Rattle.inspector.specs.declared.cycles.cycle.Sweep.{Sweep}
use Rattle.inspector.specs.declared.cycles.open.End.{End}
use Rattle.trace.specs.Steps.{Step}
use Rattle.inspector.specs.Steps.{is_beginning, is_quantum, begins, works, ends_sweep, ends_cycle}
use Rattle.inspector.specs.Cycles.{counted, after_last, end_of, IsSweep, SweptBy}
use Rattle.inspector.specs.Log.{IsEnd, end_at}

-- a count with one step more
pub count_push : (is : Step → Bool) (steps : List Step) (s : Step) → count_by is (steps ++ s ∷ []) ≡ count_by is steps + cond (is s) 1 0
count_push is steps s = sum_by_push (λ x. cond (is x) 1 0) steps s

pub count_other : (is : Step → Bool) (steps : List Step) (s : Step) → is s ≡ false → count_by is (steps ++ s ∷ []) ≡ count_by is steps
count_other is steps s e = count_push is steps s ∙ ap {B = ℕ} (λ b. count_by is steps + cond b 1 0) e ∙ omega arith

pub count_one : (is : Step → Bool) (steps : List Step) (s : Step) → is s ≡ true → count_by is (steps ++ s ∷ []) ≡ count_by is steps + 1
count_one is steps s e = count_push is steps s ∙ ap {B = ℕ} (λ b. count_by is steps + cond b 1 0) e

pub count_first : (is : Step → Bool) (s : Step) (steps : List Step) → count_by is (s ∷ steps) ≡ cond (is s) 1 0 + count_by is steps
count_first is s steps = sum_by-cons (λ x. cond (is x) 1 0) s steps

none_here : (b : Bool) (n : ℕ) → cond b 1 0 + n ≡ 0 → b ≡ false
none_here true n e = absurd (omega (arith, e))
none_here false n e = refl

none_before : (b : Bool) (n : ℕ) → n + cond b 1 0 ≡ 0 → n ≡ 0
none_before true n e = absurd (omega (arith, e))
none_before false n e = omega (arith, e)

pub fewer : (is : Step → Bool) (steps : List Step) (s : Step) → count_by is (steps ++ s ∷ []) ≡ 0 → count_by is steps ≡ 0
fewer is steps s e = none_before (is s) (count_by is steps) (sym (count_push is steps s) ∙ e)

pub more : (is : Step → Bool) (steps : List Step) (s : Step) → count_by is steps ≢ 0 → count_by is (steps ++ s ∷ []) ≢ 0
more is steps s some e = some (fewer is steps s e)

-- what is no quantum ends nothing, and neither does a beginning
pub idles : (s : Step) → is_quantum s.event ≡ false → works s ≡ false
idles s e = ap (λ b. b && in_cycle s.before.heap.phase) e

pub ends_none : (s : Step) → works s ≡ false → (ends_sweep s ≡ false) × (ends_cycle s ≡ false)
ends_none s e = (ap (λ b. b && (awaits_sweep_end s.before.heap.phase && not (awaits_sweep_end s.after.heap.phase))) e, ap (λ b. b && not (in_cycle s.after.heap.phase)) e)

pub no_quantum : (e : Event) → is_beginning e ≡ true → is_quantum e ≡ false
no_quantum (Command_done m c reply) is = refl
no_quantum Cycle_begun is = refl
no_quantum Begin_refused is = refl
no_quantum (Quantum_done budget units phase) is = sym is
no_quantum (Quantum_refused budget) is = refl

-- the moment of an end
pub end_here : (f : Step) (later : List Step) (s : Step) → ends_cycle f ≡ false → count_by ends_cycle later ≡ 0 → end_of f (later ++ s ∷ []) ≡ s.after
end_here f [] s on none = ap (λ b. cond b f.after s.after) on
end_here f (t ∷ later) s on none =
    let e = sym (count_first ends_cycle t later) ∙ none in
    ap (λ b. cond b f.after (end_of t (later ++ s ∷ []))) on ∙ end_here t later s (none_here (ends_cycle t) (count_by ends_cycle later) e) (rest (ends_cycle t) (count_by ends_cycle later) e)
  where
    rest : (b : Bool) (n : ℕ) → cond b 1 0 + n ≡ 0 → n ≡ 0
    rest true n e = absurd (omega (arith, e))
    rest false n e = omega (arith, e)

some_left : (t : Step) (later : List Step) (b : Bool) → ends_cycle t ≡ b → count_by ends_cycle (t ∷ later) ≢ 0 → (ends_cycle t ≡ true) ⊎ (count_by ends_cycle later ≢ 0)
some_left t later true is some = inl is
some_left t later false is some = inr (λ e. let none : count_by ends_cycle (t ∷ later) ≡ 0 + count_by ends_cycle later = count_first ends_cycle t later ∙ ap {B = ℕ} (λ b. cond b 1 0 + count_by ends_cycle later) is in some (omega (arith, none, e)))

pub end_stays : (f : Step) (later rest : List Step) → (ends_cycle f ≡ true) ⊎ (count_by ends_cycle later ≢ 0) → end_of f (later ++ rest) ≡ end_of f later
end_stays f [] [] over = refl
end_stays f [] (m ∷ rest) (inl e) = ap (λ b. cond b f.after (end_of m rest)) e
end_stays f [] (m ∷ rest) (inr some) = absurd (some refl)
end_stays f (t ∷ later) rest over = by (ends_cycle f) refl over (λ o. end_stays t later rest o)
  where
    by : (b : Bool) → ends_cycle f ≡ b → (ends_cycle f ≡ true) ⊎ (count_by ends_cycle (t ∷ later) ≢ 0) → ((ends_cycle t ≡ true) ⊎ (count_by ends_cycle later ≢ 0) → end_of t (later ++ rest) ≡ end_of t later)
        → cond (ends_cycle f) f.after (end_of t (later ++ rest)) ≡ cond (ends_cycle f) f.after (end_of t later)
    by true is over so = ap (λ b. cond b f.after (end_of t (later ++ rest))) is ∙ sym (ap (λ b. cond b f.after (end_of t later)) is)
    by false is (inl e) so = absurd (let z : true ≡ false = sym e ∙ is in cc)
    by false is (inr some) so = ap (λ b. cond b f.after (end_of t (later ++ rest))) is ∙ so (some_left t later (ends_cycle t) refl some) ∙ sym (ap (λ b. cond b f.after (end_of t later)) is)

-- the moment behind the last of some steps
pub last_push : (is : Step → Bool) (o : Option Course) (steps : List Step) (s : Step) → after_last is o (steps ++ s ∷ []) ≡ cond (is s) (Some s.after) (after_last is o steps)
last_push is o steps s = fold_push (λ last x. cond (is x) (Some x.after) last) o steps s

-- the sweep with one step more
pub swept_stays : (earlier : List Step) (first : Step) (later : List Step) (s : Step) (sweep : Sweep) → SweptBy earlier first later (Some sweep) → SweptBy earlier first (later ++ s ∷ []) (Some sweep)
swept_stays earlier first later s sweep (front, last, behind, whole, none, ends, is) =
    (front, last, behind ++ s ∷ [], ap (λ l. l ++ s ∷ []) whole ∙ append_assoc front (last ∷ behind) (s ∷ []), none, ends, is)

pub swept_other : (earlier : List Step) (first : Step) (later : List Step) (s : Step) (o : Option Sweep) → ends_sweep s ≡ false → SweptBy earlier first later o → SweptBy earlier first (later ++ s ∷ []) o
swept_other earlier first later s None e none = count_other ends_sweep later s e ∙ none
swept_other earlier first later s (Some sweep) e is = swept_stays earlier first later s sweep is

-- the end with one step more
pub end_kept : (first : Step) (later : List Step) (s : Step) (e : End) → IsEnd first later (Some e) → IsEnd first (later ++ s ∷ []) (Some e)
end_kept first later s e (some, is) = (more ends_cycle later s some, is ∙ ap end_at (sym (end_stays first later (s ∷ []) (inr some))))

pub end_other : (first : Step) (later : List Step) (s : Step) (o : Option End) → ends_cycle s ≡ false → IsEnd first later o → IsEnd first (later ++ s ∷ []) o
end_other first later s None e none = count_other ends_cycle later s e ∙ none
end_other first later s (Some end) e is = end_kept first later s end is

-- a count, as far as it can be represented
pub counted_more : (n : ℕ) (b : Bool) → min (counted n + cond b 1 0) (2 ^ 64 - 1) ≡ counted (n + cond b 1 0)
counted_more n true = omega arith
counted_more n false = omega arith

-- how a sweep is reported after one step more, by whether it was reported before
module _ (earlier : List Step) (first : Step) (later : List Step) (s : Step) where
  pub swept_some : (o : Option Sweep) → is_some o ≡ true → SweptBy earlier first later o → SweptBy earlier first (later ++ s ∷ []) o
  swept_some None e is = absurd (cc)
  swept_some (Some sweep) e is = swept_stays earlier first later s sweep is

  pub swept_none : (o : Option Sweep) → is_some o ≡ false → ends_sweep s ≡ false → SweptBy earlier first later o → SweptBy earlier first (later ++ s ∷ []) None
  swept_none None e ends none = count_other ends_sweep later s ends ∙ none
  swept_none (Some sweep) e ends is = absurd (cc)

  pub swept_now : (o : Option Sweep) → is_some o ≡ false → ends_sweep s ≡ true → SweptBy earlier first later o → (sweep : Sweep) → IsSweep (after_last ends_sweep None earlier) (after_last ends_cycle None earlier) first.before s.after sweep
      → SweptBy earlier first (later ++ s ∷ []) (Some sweep)
  swept_now None e ends none sweep is = (later, s, [], refl, none, ends, is)
  swept_now (Some other) e ends none sweep is = absurd (cc)

-- how an end is reported after one step more, by whether it was reported before
module _ (first : Step) (later : List Step) (s : Step) where
  pub end_some : (o : Option End) → is_some o ≡ true → IsEnd first later o → IsEnd first (later ++ s ∷ []) o
  end_some None e is = absurd (cc)
  end_some (Some end) e is = end_kept first later s end is

  pub end_none : (o : Option End) → is_some o ≡ false → ends_cycle s ≡ false → IsEnd first later o → IsEnd first (later ++ s ∷ []) None
  end_none None e ends none = count_other ends_cycle later s ends ∙ none
  end_none (Some end) e ends is = absurd (cc)

  pub end_now : (o : Option End) → is_some o ≡ false → ends_cycle first ≡ false → ends_cycle s ≡ true → IsEnd first later o → (end : End) → end ≡ end_at s.after → IsEnd first (later ++ s ∷ []) (Some end)
  end_now None e on ends none end is = ((λ z. let m : count_by ends_cycle later + 1 ≡ 0 = sym (count_one ends_cycle later s ends) ∙ z in omega (arith, m)), is ∙ ap end_at (sym (end_here first later s on none)))
  end_now (Some other) e on ends none end is = absurd (cc)

-- a beginning is no end of a cycle
pub begins_on : (s : Step) → begins s ≡ true → ends_cycle s ≡ false
begins_on s is = (ends_none s (idles s (no_quantum s.event is))).1

-- a quantum is no beginning
pub quantum_begins_none : (e : Event) → is_quantum e ≡ true → is_beginning e ≡ false
quantum_begins_none (Command_done m c reply) is = refl
quantum_begins_none Cycle_begun is = sym is
quantum_begins_none Begin_refused is = refl
quantum_begins_none (Quantum_done budget units phase) is = refl
quantum_begins_none (Quantum_refused budget) is = refl
