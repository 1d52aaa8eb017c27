-- The shares of windows, window after window.
use Rattle.std.proofs.Common.{◌≡◌, ℕ, ◌+◌, ◌<◌, get_or, List, [], ◌∷◌, ◌++◌, length, take, sym, subst}
use Rattle.std.specs.Prelude.{slice_index}
use Rattle.std.specs.List.{AllZip}
use Rattle.std.proofs.lemmas.List.{take_more}
use Rattle.size_classes.specs.declared.config.Config.{Config}
use Rattle.quanta.specs.Timetable.{Timetable, with_reserved}
use Rattle.pictures.specs.declared.share.Share.{Share}
use Rattle.pictures.specs.declared.share.TheConstants.{WINDOWS}
use Rattle.pictures.specs.Utilisation.{span_of, IsShare, AreShares}

-- The rows go on by one pair.
pub zip_more : {A B : Type 0} (R : A → B → Type 0) (xs : List A) (ys : List B) (x : A) (y : B) → AllZip R xs ys → R x y → AllZip R (xs ++ x ∷ []) (ys ++ y ∷ [])
zip_more R [] [] x y h r = (r, tt)
zip_more R [] (b ∷ ys) x y h r = elim h [ ]
zip_more R (a ∷ xs) [] x y h r = elim h [ ]
zip_more R (a ∷ xs) (b ∷ ys) x y h r = (h.0, zip_more R xs ys x y h.1 r)

-- one pair more, of the next window
pub zip_push : {A : Type 0} (R : ℕ → A → Type 0) (xs : List ℕ) (ys zs : List A) (i : ℕ) (y : A) → i < length xs → zs ≡ ys ++ y ∷ [] → AllZip R (take i xs) ys → R (get_or xs i 0) y → AllZip R (take (i + 1) xs) zs
zip_push {A} R xs ys zs i y l is h r =
    subst (λ (b : List A). AllZip R (take (i + 1) xs) b) (sym is)
    (subst (λ (a : List ℕ). AllZip R a (ys ++ y ∷ [])) (sym (take_more xs i 0 l)) (zip_more R (take i xs) ys (get_or xs i 0) y h r))

-- the shares of all windows that were looked at
pub are_shares : (config : Config) (t : Timetable) (count : ℕ) (shares : List Share) → length shares ≡ count → AllZip (IsShare config t) (take count WINDOWS) shares → (count < 39 → span_of t < slice_index WINDOWS count) → AreShares config t shares
are_shares config t count shares n each next = record {
  each = subst (λ (k : ℕ). AllZip (IsShare config t) (take k WINDOWS) shares) (sym n) each;
  next = subst (λ (k : ℕ). k < 39 → span_of t < slice_index WINDOWS k) (sym n) next;
}

zip_so : {A B : Type 0} (R S : A → B → Type 0) → ((x : A) (y : B) → R x y → S x y) → (xs : List A) (ys : List B) → AllZip R xs ys → AllZip S xs ys
zip_so R S f [] [] h = tt
zip_so R S f [] (y ∷ ys) h = elim h [ ]
zip_so R S f (x ∷ xs) [] h = elim h [ ]
zip_so R S f (x ∷ xs) (y ∷ ys) h = (f x y h.0, zip_so R S f xs ys h.1)

-- they don't hang on the memory that is reserved
pub shares_reserved : (config : Config) (t : Timetable) (n : ℕ) (shares : List Share) → AreShares config t shares → AreShares config (with_reserved t n) shares
shares_reserved config t n shares a = record {
  each = zip_so (IsShare config t) (IsShare config (with_reserved t n)) (λ window share is. record { window_is = is.window_is; measured_is = is.measured_is; promised_is = is.promised_is }) _ _ a.each;
  next = a.next;
}
