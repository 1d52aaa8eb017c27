-- Scripts, line after line.
use Rattle.std.proofs.Common.{zero, suc, Bool, true, false, ◌≡◌, ℕ, ◌+◌, ◌<◌, ◌==◌, eqb, if◌then◌else◌, List, [], ◌∷◌, ◌++◌, inl, inr, length, set, get_or, map, replicate, arith, append-nil, ap, ◌∙◌, sym, subst, refl}
use Rattle.std.specs.Prelude.{IsTrue, Option, Some, None, Vec, vec_len, Result, Ok, Err}
use Rattle.std.specs.List.{range_with_len}
use Rattle.std.specs.declared.alloc.Global.{Global}
use Rattle.std.proofs.lemmas.List.{ext_get_or, map-set, length-set, get_or-set_same, get_or-set_other, get_or-map}
use Rattle.std.proofs.lemmas.List.FromFn.{length-map-range_with_len, get_or-map-range_with_len}
use Rattle.std.proofs.lemmas.Bool.{eqb-true, eqb-false}
use Rattle.graph_heap.specs.declared.command.Command.{Command}
use Rattle.trace.specs.declared.line.Line.{Line}
use Rattle.trace.specs.declared.line.Line.TheVariants as lines
use Rattle.trace.specs.declared.version.Version.{Version}
use Rattle.trace.specs.declared.fault.PlayFault.{PlayFault}
use Rattle.trace.specs.declared.line_handler.InputEnd.{InputEnd}
use Rattle.trace.specs.declared.transcripts.scripts.Scripts.{Scripts}
use Rattle.trace.specs.LinesProcessed.{LineEffect, LinesDone}
use Rattle.trace.specs.Handling.{LinesHandled}
use Rattle.trace.specs.Streams.{Given}
use Rattle.trace.proofs.Handling.{Follows, all_moved, over_all, over_stopped}
use Rattle.trace.specs.TextLine.{Text, text_after}
use Rattle.trace.specs.Spelling.{Spells, is_skipped}
use Rattle.trace.specs.Scripts.{IsOfScripts, script_of, scripts_of, one_more, with_line, AsksNothing, DoesScript, lists_in, LineAdded, ScriptStops, ReadScripts, ScriptsRead}

-- a mutator's commands in two parts
in_parts : (b : Bool) (c : Command) (whole front back : List Command) → whole ≡ front ++ back → (if b then c ∷ whole else whole) ≡ (if b then c ∷ front else front) ++ back
in_parts true c whole front back e = ap (λ l. c ∷ l) e
in_parts false c whole front back e = e

script_parts : (ls ks : List Line) (m : ℕ) → script_of (ls ++ ks) m ≡ script_of ls m ++ script_of ks m
script_parts [] ks m = refl
script_parts (lines.Skip ∷ ls) ks m = script_parts ls ks m
script_parts (lines.Command k c ∷ ls) ks m = in_parts (k == m) c (script_of (ls ++ ks) m) (script_of ls m) (script_of ks m) (script_parts ls ks m)
script_parts (lines.Begin ∷ ls) ks m = script_parts ls ks m
script_parts (lines.Quantum n ∷ ls) ks m = script_parts ls ks m
script_parts (lines.Tick n ∷ ls) ks m = script_parts ls ks m

-- a skipped line changes no script
scripts_skip : (n : ℕ) (ls : List Line) → scripts_of n (ls ++ lines.Skip ∷ []) ≡ scripts_of n ls
scripts_skip n ls =
    let f = script_of (ls ++ lines.Skip ∷ []) in
    let g = script_of ls in
    let e = length-map-range_with_len f 0 n in
    ext_get_or [] _ _ (e ∙ sym (length-map-range_with_len g 0 n)) (λ i h.
    let below : i < n = subst (λ k. i < k) e h in
    let zero_on : 0 + i ≡ i = omega arith in
    get_or-map-range_with_len f 0 n i i [] below zero_on ∙ (script_parts ls (lines.Skip ∷ []) i ∙ append-nil (script_of ls i)) ∙ sym (get_or-map-range_with_len g 0 n i i [] below zero_on))

-- a command goes behind those of its mutator
only_here : (m k : ℕ) (c : Command) (b : Bool) → eqb m k ≡ b → (front : List Command) → front ++ (if m == k then c ∷ [] else []) ≡ (if b then front ++ c ∷ [] else front)
only_here m k c true e front = ap (λ (t : Bool). front ++ (if t then c ∷ [] else [])) e
only_here m k c false e front = ap (λ (t : Bool). front ++ (if t then c ∷ [] else [])) e ∙ append-nil front

put_at : (ss : List (List Command)) (m k : ℕ) (s : List Command) (b : Bool) → eqb m k ≡ b → m < length ss → get_or (set ss m s) k [] ≡ (if b then s else get_or ss k [])
put_at ss m k s true e h = ap (λ j. get_or (set ss m s) j []) (sym (eqb-true m k e)) ∙ get_or-set_same ss m s [] h
put_at ss m k s false e h = get_or-set_other ss m k s [] (λ same. eqb-false m k e (sym same))

same_if : (b : Bool) (m k : ℕ) (f : ℕ → List Command) (c : Command) → eqb m k ≡ b → (if b then f k ++ c ∷ [] else f k) ≡ (if b then f m ++ c ∷ [] else f k)
same_if true m k f c e = ap (λ j. f j ++ c ∷ []) (sym (eqb-true m k e))
same_if false m k f c e = refl

scripts_put : (n : ℕ) (ls : List Line) (m : ℕ) (c : Command) → m < n → scripts_of n (ls ++ lines.Command m c ∷ []) ≡ one_more (scripts_of n ls) m c
scripts_put n ls m c within =
    let f = script_of (ls ++ lines.Command m c ∷ []) in
    let g = script_of ls in
    let e = length-map-range_with_len f 0 n in
    let e' = length-map-range_with_len g 0 n in
    let at_m = get_or-map-range_with_len g 0 n m m [] within (omega arith) in
    let new = get_or (scripts_of n ls) m [] ++ c ∷ [] in
    let is_new : new ≡ g m ++ c ∷ [] = ap (λ t. t ++ c ∷ []) at_m in
    ext_get_or [] _ _ (e ∙ sym e' ∙ sym (length-set (scripts_of n ls) m new)) (λ k h.
    let below : k < n = subst (λ j. k < j) e h in
    let zero_on : 0 + k ≡ k = omega arith in
    let small : m < length (scripts_of n ls) = omega (arith, e') in
    get_or-map-range_with_len f 0 n k k [] below zero_on
    ∙ script_parts ls (lines.Command m c ∷ []) k
    ∙ only_here m k c (eqb m k) refl (g k)
    ∙ same_if (eqb m k) m k g c refl
    ∙ ap (λ (t : List Command). if eqb m k then t else g k) (sym is_new)
    ∙ ap (λ (t : List Command). if eqb m k then new else t) (sym (get_or-map-range_with_len g 0 n k k [] below zero_on))
    ∙ sym (put_at (scripts_of n ls) m k new (eqb m k) refl small))

scripts_more : (n : ℕ) (ls : List Line) (line : Line) → IsOfScripts n line → scripts_of n (ls ++ line ∷ []) ≡ with_line (scripts_of n ls) line
scripts_more n ls lines.Skip is = scripts_skip n ls
scripts_more n ls (lines.Command m c) is = scripts_put n ls m c is
scripts_more n ls lines.Begin is = absurd is
scripts_more n ls (lines.Quantum k) is = absurd is
scripts_more n ls (lines.Tick k) is = absurd is

-- no script has a command yet
none_yet : (a n : ℕ) → replicate n [] ≡ map (script_of []) (range_with_len a n)
none_yet a zero = refl
none_yet a (suc n) = ap (λ (l : List (List Command)). [] ∷ l) (none_yet (a + 1) n)

pub empty_scripts : (n : ℕ) → replicate n [] ≡ scripts_of n []
empty_scripts n = none_yet 0 n

abbrev commands_in : Vec Command Global → List Command
commands_in script = script.items

pub lists_put : (xs : List (Vec Command Global)) (m : ℕ) (c : Command) (old new : Vec Command Global) → m < length xs → old ≡ get_or xs m old → new.items ≡ old.items ++ c ∷ []
    → map commands_in (set xs m new) ≡ one_more (map commands_in xs) m c
lists_put xs m c old new h is pushed =
    map-set commands_in xs m new ∙ ap (λ (s : List Command). set (map commands_in xs) m s) (pushed ∙ ap (λ t. t ++ c ∷ []) (ap commands_in is ∙ sym (get_or-map commands_in xs m old [] h)))

-- a line that spells neither a skipped line nor a command
pub not_command : (version : Version) (text : List ℕ) (line : Line) → (line ≡ lines.Skip → ⊥) → ((m : ℕ) (c : Command) → line ≡ lines.Command m c → ⊥) → ((x : Line) → Spells version text x → Some line ≡ Some x)
    → (¬ IsTrue (is_skipped text)) × ((m : ℕ) (c : Command) → Spells version text (lines.Command m c) → ⊥)
not_command version text line skip command only = (λ s. skip (let e = only lines.Skip s in cc), λ m c s. command m c (let e = only (lines.Command m c) s in cc))

pub no_line : (version : Version) (text : List ℕ) → ((x : Line) → Spells version text x → ◌≡◌ {A = Option Line} None (Some x)) → (¬ IsTrue (is_skipped text)) × ((m : ℕ) (c : Command) → Spells version text (lines.Command m c) → ⊥)
no_line version text only = (λ s. let e = only lines.Skip s in cc, λ m c s. let e = only (lines.Command m c) s in cc)

-- what a line of an input does to the scripts
pub line_goes : (text : Text) (mutators : ℕ) (old new : Vec (Vec Command Global) Global) → vec_len old ≡ mutators → LineAdded text old new (Ok tt)
    → (spelled : List Line) × LineEffect AsksNothing (DoesScript mutators) text tt spelled tt × ((ls : List Line) → lists_in old ≡ scripts_of mutators ls → lists_in new ≡ scripts_of mutators (ls ++ spelled))
line_goes text mutators old new len (inl told, same) =
    ([], inl (told.0, refl, tt), λ ls e. told.1 ∙ e ∙ ap (scripts_of mutators) (sym (append-nil ls)))
line_goes text mutators old new len (inr (other, (line, does, lists)), same) =
    let below = subst (λ n. IsOfScripts n line) len does.1 in
    (line ∷ [], inr (other, (does.0, below)), λ ls e. lists ∙ ap (λ s. with_line s line) e ∙ sym (scripts_more mutators ls line below))

-- the scripts so far, as lines add to them
abbrev Adds : Text → Scripts → Scripts → Result (Unit {0}) PlayFault → Type 0
Adds text old new result = LineAdded text old.lists new.lists result

module _ (given : Given) (mutators : ℕ) (first new : Scripts) (none : lists_in first.lists ≡ replicate mutators []) (len : vec_len first.lists ≡ mutators) where
  -- the scripts are those of the lines so far
  abbrev Known : (lines : List (List ℕ)) (version : Version) (spelled : List Line) (now : Scripts) → LinesDone (LineEffect AsksNothing (DoesScript mutators)) tt lines version spelled tt → Type 0
  Known lines version spelled now done = (lists_in now.lists ≡ scripts_of mutators spelled) × (vec_len now.lists ≡ mutators)

  follows : Follows Adds (LineEffect AsksNothing (DoesScript mutators)) (λ scripts. tt) first Known
  follows = record {
    at_first = (none ∙ empty_scripts mutators, len);
    then = λ lines version spelled mid done known line new added.
        let went = line_goes (text_after lines version line) mutators mid.lists new.lists known.1 added in
        (went.0, went.1, λ next after. (went.2 spelled known.0, added.1 ∙ known.1));
  }

  -- the input has ended
  pub scripts_read : (end : InputEnd) → LinesHandled Adds given first new (Ok end) → ScriptsRead given mutators (Ok (end.version, new.lists)) × (vec_len new.lists ≡ mutators)
  scripts_read end h =
      let a = all_moved Adds (LineEffect AsksNothing (DoesScript mutators)) (λ scripts. tt) first Known follows given new end h in
      (inr (record { over = over_all Adds (LineEffect AsksNothing (DoesScript mutators)) (λ scripts. tt) first Known (ScriptStops mutators) ReadScripts given new (end.version, new.lists) a; are = (refl, a.knows.0) }), a.knows.1)

  -- a fault
  pub scripts_stopped : (fault : PlayFault) → LinesHandled Adds given first new (Err fault) → ScriptsRead given mutators (Err fault)
  scripts_stopped fault h = inr (record {
    over = over_stopped Adds (LineEffect AsksNothing (DoesScript mutators)) (λ scripts. tt) first Known (ScriptStops mutators) ReadScripts given new fault
        (λ lines version spelled mid done known line stops. subst (λ n. ScriptStops n fault (text_after lines version line) tt tt) known.1 stops) follows h;
    are = tt;
  })
