-- Items, and lines, one for each number of pages so far.
use Rattle.std.proofs.Common.{◌≡◌, ℕ, Bool, List, [], ◌∷◌, ◌++◌, Option, Some, None, append_assoc, append-nil, ap, ◌∙◌, sym, subst}
use Rattle.std.specs.Prelude.{IfSome, ◌≤◌}
use Rattle.std.specs.List.{AllZip, concat}
use Rattle.std.proofs.lemmas.List.Folds.{concat-append}
use Rattle.size_classes.specs.declared.config.Config.{Config}
use Rattle.size_classes.specs.declared.config.TheConstants.{MOST_HEAP_PAGES}
use Rattle.paced.specs.declared.plan.Plan.{Plan}
use Rattle.paced.specs.Planning.{IsFastestFor, IsLeastPagesFor}
use Rattle.plans.specs.Order.{IsNext, AreInOrder, OneForEach}
use Rattle.plans.specs.Report.{IsTable}

-- The numbers up to a bound have an item each: whatever numbers come above it are in order with them.
pub record HasItems {A : Type 0} (IsOf : ℕ → A → Type 0) (numbers : List ℕ) (above : ℕ) (items : List A) : Type 0 where
  pub shown : List ℕ
  pub in_order : (rest : List ℕ) → AreInOrder numbers above rest → AreInOrder numbers 0 (shown ++ rest)
  pub each : AllZip IsOf shown items

pub zip_more : {A B : Type 0} (R : A → B → Type 0) (xs : List A) (ys : List B) (x : A) (y : B) → AllZip R xs ys → R x y → AllZip R (xs ++ x ∷ []) (ys ++ y ∷ [])
zip_more R [] [] x y h r = (r, tt)
zip_more R [] (b ∷ ys) x y h r = elim h [ ]
zip_more R (a ∷ xs) [] x y h r = elim h [ ]
zip_more R (a ∷ xs) (b ∷ ys) x y h r = (h.0, zip_more R xs ys x y h.1 r)

pub concat_more : (lines : List (List ℕ)) (line : List ℕ) → concat (lines ++ line ∷ []) ≡ concat lines ++ line
concat_more lines line = concat-append lines (line ∷ []) ∙ ap (λ t. concat lines ++ t) (append-nil line)

module _ {A : Type 0} (IsOf : ℕ → A → Type 0) (numbers : List ℕ) where
  -- There is no item yet.
  pub no_items : HasItems IsOf numbers 0 []
  no_items = record { shown = []; in_order = λ rest order. order; each = tt }

  -- The next item is added.
  pub one_item : (above : ℕ) (items : List A) (next : ℕ) (item : A) → HasItems IsOf numbers above items → IsNext numbers above (Some next) → IsOf next item → HasItems IsOf numbers next (items ++ item ∷ [])
  one_item above items next item so is one = record {
    shown = so.shown ++ next ∷ [];
    in_order = λ rest order. subst (AreInOrder numbers 0) (sym (append_assoc so.shown (next ∷ []) rest)) (so.in_order (next ∷ rest) (is, order));
    each = zip_more IsOf so.shown items next item so.each one;
  }

  -- All items are there.
  pub all_items : (above : ℕ) (items : List A) → HasItems IsOf numbers above items → IsNext numbers above None → OneForEach IsOf numbers items
  all_items above items so none = record {
    shown = so.shown;
    in_order = subst (AreInOrder numbers 0) (append-nil so.shown) (so.in_order [] none);
    each = so.each;
  }

-- The numbers up to a bound have their lines, and these are a text.
pub record HasRows (IsOf : ℕ → List ℕ → Type 0) (numbers : List ℕ) (above : ℕ) (text : List ℕ) : Type 0 where
  pub rows : List (List ℕ)
  pub each : HasItems IsOf numbers above rows
  pub told : text ≡ concat rows

module _ (IsOf : ℕ → List ℕ → Type 0) (numbers : List ℕ) where
  -- There is no row yet.
  pub no_rows : (text : List ℕ) → text ≡ [] → HasRows IsOf numbers 0 text
  no_rows text e = record { rows = []; each = no_items IsOf numbers; told = e }

  -- The next row is added.
  pub one_row : (above : ℕ) (text : List ℕ) (next : ℕ) (row new : List ℕ) → HasRows IsOf numbers above text → IsNext numbers above (Some next) → IsOf next row → new ≡ text ++ row → HasRows IsOf numbers next new
  one_row above text next row new so is of e = record {
    rows = so.rows ++ row ∷ [];
    each = one_item IsOf numbers above so.rows next row so.each is of;
    told = e ∙ ap (λ t. t ++ row) so.told ∙ sym (concat_more so.rows row);
  }

  -- All rows are there.
  pub all_rows : (above : ℕ) (text : List ℕ) → HasRows IsOf numbers above text → IsNext numbers above None → IsTable IsOf numbers text
  all_rows above text so none = record { rows = so.rows; each = all_items IsOf numbers above so.rows so.each none; told = so.told }

-- the fastest plan has a word for each quantum
pub fastest_words : (makes : ℕ → Bool) (c : Config) (live largest : ℕ) (plan : Option Plan) → IsFastestFor makes c live largest plan → IfSome plan (λ p. 1 ≤ p.quantum_words)
fastest_words makes c live largest None is = tt
fastest_words makes c live largest (Some plan) is = is.0.some

-- the least number of pages is one that a heap may have
pub least_within : (makes : ℕ → Bool) (c : Config) (live largest : ℕ) (least : Option ℕ) → IsLeastPagesFor makes c live largest least → IfSome least (λ pages. pages ≤ MOST_HEAP_PAGES)
least_within makes c live largest None is = tt
least_within makes c live largest (Some pages) is = is.1
