-- Texts in lines.
use Rattle.std.proofs.Common.{◌≡◌, ℕ, ◌+◌, ◌≤◌, ◌<◌, List, [], ◌∷◌, ◌++◌, length, get_or, Some, arith, length-append, append_assoc, append-nil, ap, ◌∙◌, sym, refl}
use Rattle.std.specs.List.{AllByRecursion}
use Rattle.std.proofs.lemmas.Option.{same_Some}
use Rattle.std.proofs.lemmas.List.{get_or_at}
use Rattle.trace.specs.Lines.{NoLf, IsLine, text_of, Splits}
use Rattle.trace.specs.Reading.{cut_at}
use Rattle.trace.proofs.Exact.{Lacks, cut_at-Some, cut_at-spelled}

one_more_text : (lines : List (List ℕ)) (line rest : List ℕ) → text_of lines ++ (line ++ 10 ∷ rest) ≡ text_of (lines ++ line ∷ []) ++ rest
one_more_text [] line rest = sym (append_assoc line (10 ∷ []) rest) ∙ ap (λ t. t ++ rest) (sym (append-nil (line ++ 10 ∷ [])))
one_more_text (l ∷ lines) line rest =
    append_assoc (l ++ 10 ∷ []) (text_of lines) (line ++ 10 ∷ rest)
    ∙ ap (λ t. (l ++ 10 ∷ []) ++ t) (one_more_text lines line rest)
    ∙ sym (append_assoc (l ++ 10 ∷ []) (text_of (lines ++ line ∷ [])) rest)

all_more : (lines : List (List ℕ)) (line : List ℕ) → AllByRecursion IsLine lines → IsLine line → AllByRecursion IsLine (lines ++ line ∷ [])
all_more [] line all this = (this, tt)
all_more (l ∷ lines) line all this = (all.0, all_more lines line all.1 this)

-- the next line, among the bytes after the lines so far and those that came
pub one_more : (text more rest rest' line : List ℕ) (lines : List (List ℕ)) → Splits text lines rest → rest ++ more ≡ line ++ 10 ∷ rest' → IsLine line → Splits (text ++ more) (lines ++ line ∷ []) rest'
one_more text more rest rest' line lines s e this = record {
  whole = ap (λ t. t ++ more) s.whole ∙ append_assoc (text_of lines) rest more ∙ ap (λ t. text_of lines ++ t) e ∙ one_more_text lines line rest';
  each = all_more lines line s.each this;
}

few_in : (lines : List (List ℕ)) → length lines ≤ length (text_of lines)
few_in [] = omega arith
few_in (l ∷ lines) = omega (arith, few_in lines, length-append (l ++ 10 ∷ []) (text_of lines), length-append l (10 ∷ []))

-- there are at least as many bytes as lines
pub as_many : (text rest : List ℕ) (lines : List (List ℕ)) → Splits text lines rest → length lines + length rest ≤ length text
as_many text rest lines s = omega (arith, few_in lines, ap length s.whole, length-append (text_of lines) rest)

-- the first line of a text is cut off at its first LF
lacks_lf : (line : List ℕ) → NoLf line → Lacks 10 line
lacks_lf line none k h = none k 0 h

first_cut : (line rest : List ℕ) (lines : List (List ℕ)) → NoLf line → cut_at 10 (text_of (line ∷ lines) ++ rest) ≡ Some (line, text_of lines ++ rest)
first_cut line rest lines none =
    ap (cut_at 10) (append_assoc (line ++ 10 ∷ []) (text_of lines) rest ∙ append_assoc line (10 ∷ []) (text_of lines ++ rest))
    ∙ cut_at-spelled 10 line (text_of lines ++ rest) (lacks_lf line none)

-- a text without LF isn't cut
not_cut : (bytes : List ℕ) (c : List ℕ × List ℕ) → NoLf bytes → cut_at 10 bytes ≡ Some c → ⊥
not_cut bytes c none e =
    let is = cut_at-Some 10 bytes c e in
    let within : length c.0 < length bytes = omega (arith, ap length is, length-append c.0 (10 ∷ c.1)) in
    none (length c.0) 0 within (ap (λ l. get_or l (length c.0) 0) is ∙ get_or_at c.0 10 c.1 0 (length c.0) refl)

same_parts : (lines lines' : List (List ℕ)) (rest rest' : List ℕ) → AllByRecursion IsLine lines → AllByRecursion IsLine lines' → NoLf rest → NoLf rest' → text_of lines ++ rest ≡ text_of lines' ++ rest' → (lines ≡ lines') × (rest ≡ rest')
same_parts [] [] rest rest' all all' none none' e = (refl, e)
same_parts [] (l ∷ lines') rest rest' all all' none none' e = absurd (not_cut rest _ none (ap (cut_at 10) e ∙ first_cut l rest' lines' all'.0.0))
same_parts (l ∷ lines) [] rest rest' all all' none none' e = absurd (not_cut rest' _ none' (ap (cut_at 10) (sym e) ∙ first_cut l rest lines all.0.0))
same_parts (l ∷ lines) (l' ∷ lines') rest rest' all all' none none' e =
    let same = same_Some _ _ (sym (first_cut l rest lines all.0.0) ∙ ap (cut_at 10) e ∙ first_cut l' rest' lines' all'.0.0) in
    let heads : l ≡ l' = ap (λ (c : List ℕ × List ℕ). c.0) same in
    let more = same_parts lines lines' rest rest' all.1 all'.1 none none' (ap (λ (c : List ℕ × List ℕ). c.1) same) in
    ((cc (heads, more.0)), more.1)

pub one_cutting : (text rest rest' : List ℕ) (lines lines' : List (List ℕ)) → Splits text lines rest → Splits text lines' rest' → NoLf rest → NoLf rest' → (lines ≡ lines') × (rest ≡ rest')
one_cutting text rest rest' lines lines' s t none none' = same_parts lines lines' rest rest' s.each t.each none none' (sym s.whole ∙ t.whole)
