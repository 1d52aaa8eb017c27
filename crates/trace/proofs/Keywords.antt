-- The keyword at the front.
use Rattle.std.proofs.Common.{◌≡◌, ℕ, List, [], ◌∷◌, ◌++◌, Option, None, Some, append_assoc, ◌∙◌, refl}
use Rattle.std.specs.Prelude.{codes}
use Rattle.trace.specs.declared.commands.Keyword.{Keyword}
use Rattle.trace.specs.declared.commands.Keyword.TheVariants as keywords
use Rattle.trace.specs.Spelling.{keyword_text}
use Rattle.trace.specs.Reading.{after_in, found_or, keywords_by, first_keyword_in, front_keyword_in}
use Rattle.trace.proofs.Exact.{told, after_in-Some}

-- the word of a kind, with a blank after it, belongs to that kind alone
pub front_keyword_in-spelled : (k : Keyword) (rest : List ℕ) → front_keyword_in (keyword_text k ++ 32 ∷ rest) ≡ Some (k, rest)
unfolding front_keyword_in keywords_by first_keyword_in after_in
front_keyword_in-spelled keywords.New rest = refl
front_keyword_in-spelled keywords.Load rest = refl
front_keyword_in-spelled keywords.Store rest = refl
front_keyword_in-spelled keywords.CompareStore rest = refl
front_keyword_in-spelled keywords.Get rest = refl
front_keyword_in-spelled keywords.Put rest = refl
front_keyword_in-spelled keywords.ComparePut rest = refl
front_keyword_in-spelled keywords.Copy rest = refl
front_keyword_in-spelled keywords.Clear rest = refl
front_keyword_in-spelled keywords.LoadStatic rest = refl
front_keyword_in-spelled keywords.StoreStatic rest = refl
front_keyword_in-spelled keywords.CompareStatic rest = refl
front_keyword_in-spelled keywords.Same rest = refl
front_keyword_in-spelled keywords.Describe rest = refl

-- a keyword and the bytes after it, at the front of bytes
abbrev pub Begins : List ℕ → Keyword × List ℕ → Type 0
Begins bytes p = bytes ≡ keyword_text p.0 ++ 32 ∷ p.1

found_case : (bytes : List ℕ) (k : Keyword) (o : Option (List ℕ)) (other : Option (Keyword × List ℕ)) (p : Keyword × List ℕ) → ((rest : List ℕ) → o ≡ Some rest → Begins bytes (k, rest)) → (other ≡ Some p → Begins bytes p) → found_or k o other ≡ Some p → Begins bytes p
found_case bytes k None other p is later e = later e
found_case bytes k (Some rest) other p is later e = told (Begins bytes) (k, rest) p (is rest refl) e

first_begins : (ks : List Keyword) (bytes : List ℕ) (p : Keyword × List ℕ) → first_keyword_in ks bytes ≡ Some p → Begins bytes p
unfolding first_keyword_in
first_begins [] bytes p e = absurd (cc)
first_begins (k ∷ ks) bytes p e =
    found_case bytes k (after_in (keyword_text k ++ codes " ") bytes) (first_keyword_in ks bytes) p
    (λ rest is. after_in-Some (keyword_text k ++ codes " ") bytes rest is ∙ append_assoc (keyword_text k) (codes " ") rest)
    (first_begins ks bytes p) e

-- the keyword that is found stands at the front
pub front_keyword_in-Some : (bytes : List ℕ) (p : Keyword × List ℕ) → front_keyword_in bytes ≡ Some p → Begins bytes p
unfolding front_keyword_in
front_keyword_in-Some bytes p e = first_begins _ bytes p e
