-- The arguments that clap found, read as rows.
use Rattle.std.proofs.Common.{◌≡◌, ℕ, Bool, true, false, List, [], ◌∷◌, map, take, get_or, length, ◌++◌, ◌+◌, ◌<◌, Option, Some, None, option_map, refl, ap, ◌∙◌, sym, subst}
use Rattle.std.specs.Prelude.{option_and_then, slice_get, find, codes, unwrap_or, Result, Ok, Err}
use Rattle.std.specs.Borrow.{Bor}
use Rattle.std.specs.List.{AllZip}
use Rattle.std.proofs.lemmas.List.{take_more, get_or-map, length-map}
use Rattle.std.specs.Str.{bytes_eq}
use Rattle.size_classes.specs.Sizes.{size_of}
use Rattle.clap.proofs.WalkLemmas.{find-map}
use Rattle.clap.specs.Facts.{Entry}
use Rattle.clap.specs.Walk.{Row, row_of, row_text}
use Rattle.clap.specs.Words.{rows_of, first_of, one_of, all_of, first_value, one_text, matched_of, raw_values, read_as}
use Rattle.clap.specs.Matches.{ReadsOne}
use Rattle.clap.specs.declared.parser.matches.Found.{Found}
use Rattle.std.specs.Str.Parse.{ParsesUnsigned}
use Rattle.command_line.specs.Words.{IsFlag, IsNumber, IsClassOf}

first_text : (vs : List (Bor (List ℕ))) → slice_get (map (λ s. s.now) vs) 0 ≡ option_map (λ s. s.now) (slice_get vs 0)
first_text [] = refl
first_text (v ∷ vs) = refl

first_in : (o : Option Entry) → option_and_then (λ r. slice_get r.values 0) (option_map row_of o) ≡ option_and_then (λ a. option_map (λ s. s.now) (slice_get a.vals.items 0)) (option_map (λ e. e.1) o)
first_in None = refl
first_in (Some e) = first_text e.1.vals.items

text_in : (o : Option Entry) → option_and_then row_text (option_map row_of o) ≡ option_and_then (λ a. option_map (λ s. read_as a.reading s.now) (slice_get a.vals.items 0)) (option_map (λ e. e.1) o)
text_in None = refl
text_in (Some e) = one (slice_get e.1.vals.items 0) (first_text e.1.vals.items)
  where
    one : (o : Option (Bor (List ℕ))) → slice_get (map (λ s. s.now) e.1.vals.items) 0 ≡ option_map (λ s. s.now) o
        → option_map (read_as e.1.reading) (slice_get (map (λ s. s.now) e.1.vals.items) 0) ≡ option_map (λ s. read_as e.1.reading s.now) o
    one None h = ap (option_map (read_as e.1.reading)) h
    one (Some v) h = ap (option_map (read_as e.1.reading)) h

all_in : (o : Option Entry) → option_map (λ r. r.values) (option_map row_of o) ≡ option_map raw_values (option_map (λ e. e.1) o)
all_in None = refl
all_in (Some e) = refl

module _ (f : Found) (id : List ℕ) where
  row_found : find (λ r. bytes_eq r.id id) (rows_of f) ≡ option_map row_of (find (λ e. bytes_eq e.0.now id) f.entries.items)
  row_found = sym (find-map (λ r. bytes_eq r.id id) row_of f.entries.items)

  pub first_found : first_of id (rows_of f) ≡ first_value f id
  first_found = ap (option_and_then (λ (r : Row). slice_get r.values 0)) row_found ∙ first_in (find (λ e. bytes_eq e.0.now id) f.entries.items)

  pub one_found : one_of id (rows_of f) ≡ one_text f id
  one_found = ap (option_and_then row_text) row_found ∙ text_in (find (λ e. bytes_eq e.0.now id) f.entries.items)

  pub all_found : all_of id (rows_of f) ≡ option_map raw_values (matched_of f id)
  all_found = ap (option_map (λ (r : Row). r.values)) row_found ∙ all_in (find (λ e. bytes_eq e.0.now id) f.entries.items)

-- a flag, by its text
pub is_flag : (t o : Option (List ℕ)) (b : Bool) → t ≡ o → (o ≡ None → b ≡ false) → (o ≡ Some (codes "true") → b ≡ true) → (o ≡ Some (codes "false") → b ≡ false) → IsFlag t b
is_flag None o b e none set unset = none (sym e)
is_flag (Some x) o b e none set unset = ((λ h. set (sym e ∙ ap Some h)), (λ h. unset (sym e ∙ ap Some h)))

-- a number, by its text
pub is_number : {E : Type 0} (bits : ℕ) (G : List ℕ → Result ℕ E → Type 0) (t o : Option (List ℕ)) (n : Option ℕ) → t ≡ o → (o ≡ None → n ≡ None) → ((u : List ℕ) → o ≡ Some u → ReadsOne G u n)
    → ((u : List ℕ) (x : Result ℕ E) → G u x → ParsesUnsigned bits 10 u x) → IsNumber bits t n
is_number bits G None o n e none some parses = none (sym e)
is_number bits G (Some u) o (Some v) e none some parses = parses u (Ok v) (some u (sym e))
is_number bits G (Some u) o None e none some parses = let r = some u (sym e) in parses u (Err r.0) r.1

-- all words, if there are any
pub words_in : {A : Type 0} (o : Option A) (v : A → List (List ℕ)) (d : A) (all : Option (List (List ℕ))) (r : A) → option_map v o ≡ all → v d ≡ [] → r ≡ unwrap_or o d → v r ≡ unwrap_or all []
words_in None v d all r e none is = ap v is ∙ none ∙ ap (λ a. unwrap_or a []) e
words_in (Some x) v d all r e none is = ap v is ∙ ap (λ a. unwrap_or a []) e

-- the first word, or none
pub word_in : (o : Option (Bor (List ℕ))) (d r : Bor (List ℕ)) (first : Option (List ℕ)) → option_map (λ s. s.now) o ≡ first → d.now ≡ [] → r ≡ unwrap_or o d → r.now ≡ unwrap_or first []
word_in None d r first e none is = ap (λ (s : Bor (List ℕ)). s.now) is ∙ none ∙ ap (λ a. unwrap_or a []) e
word_in (Some x) d r first e none is = ap (λ (s : Bor (List ℕ)). s.now) is ∙ ap (λ a. unwrap_or a []) e

-- one more word, and what is said of it
pub one_more : {A : Type 0} (IsOf : List ℕ → A → Type 0) (words : List (Bor (List ℕ))) (i : ℕ) (d : Bor (List ℕ)) (items new : List A) (n : A) → i < length words → AllZip IsOf (take i (map (λ w. w.now) words)) items
    → new ≡ items ++ n ∷ [] → IsOf (get_or words i d).now n → AllZip IsOf (take (i + 1) (map (λ w. w.now) words)) new
one_more {A} IsOf words i d items new n low so is h =
    let texts = map (λ (w : Bor (List ℕ)). w.now) words in
    let within : i < length texts = subst (λ k. i < k) (sym (length-map words (λ (w : Bor (List ℕ)). w.now))) low in
    let word : get_or texts i d.now ≡ (get_or words i d).now = get_or-map (λ (w : Bor (List ℕ)). w.now) words i d d.now low in
    let more : take (i + 1) texts ≡ take i texts ++ (get_or words i d).now ∷ [] = take_more texts i d.now within ∙ ap (λ x. take i texts ++ x ∷ []) word in
    subst (λ x. AllZip IsOf x new) (sym more) (subst (λ x. AllZip IsOf (take i texts ++ (get_or words i d).now ∷ []) x) (sym is) (zip_more (take i texts) items _ n so h))
  where
    zip_more : (xs : List (List ℕ)) (ys : List A) (x : List ℕ) (y : A) → AllZip IsOf xs ys → IsOf x y → AllZip IsOf (xs ++ x ∷ []) (ys ++ y ∷ [])
    zip_more [] [] x y z r = (r, tt)
    zip_more [] (b ∷ ys) x y z r = elim z [ ]
    zip_more (a ∷ xs) [] x y z r = elim z [ ]
    zip_more (a ∷ xs) (b ∷ ys) x y z r = (z.0, zip_more xs ys x y z.1 r)

-- one more size, and its class
pub one_class : (sizes : List (Bor (List ℕ))) (i : ℕ) (d : Bor (List ℕ)) (classes new : List ℕ) (words class : ℕ) → i < length sizes → AllZip IsClassOf (take i (map (λ s. s.now) sizes)) classes → new ≡ classes ++ class ∷ []
    → IsNumber 32 (Some (get_or sizes i d).now) (Some words) → size_of class ≡ words → AllZip IsClassOf (take (i + 1) (map (λ s. s.now) sizes)) new
one_class sizes i d classes new words class low so is said has =
    one_more IsClassOf sizes i d classes new class low so is (subst (λ n. IsNumber 32 (Some (get_or sizes i d).now) (Some n)) (sym has) said)
