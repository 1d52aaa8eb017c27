-- Texts that are written one after the other.
use Rattle.std.proofs.Common.{take_all, ◌≡◌, ℕ, ◌+◌, ◌<◌, ◌≤◌, List, ◌++◌, length, take, drop, get_or, suc, ap, ◌∙◌, sym, subst}
use Rattle.std.specs.List.{flat_map}
use Rattle.std.proofs.lemmas.List.{flat_map_more, take_more, take-append-drop}
use Rattle.std.proofs.lemmas.Grind.{flat_map-append}
use Rattle.std.proofs.Math.Seq.{drop-cons}
use Rattle.trace.specs.Streams.{GrowsByPart}
use Rattle.inspector.proofs.Parts.{part_first, part_after}

module _ {X : Type 0} (f : X → List ℕ) (old mid new : List ℕ) (xs : List X) (i : ℕ) (d : X) (l : i < length xs) (so : mid ≡ old ++ flat_map f (take i xs)) where
  -- The text of the next one is written, too.
  pub with_next : new ≡ mid ++ f (get_or xs i d) → new ≡ old ++ flat_map f (take (i + 1) xs)
  with_next e = e ∙ ap (λ t. t ++ f (get_or xs i d)) so ∙ flat_map_more f old (take i xs) (get_or xs i d) ∙ ap (λ t. old ++ flat_map f t) (sym (take_more xs i d l))

  -- A part of the next text is written.
  pub with_part : GrowsByPart mid new (f (get_or xs i d)) → GrowsByPart old new (flat_map f xs)
  with_part g =
      let here = f (get_or xs i d) in
      let behind = flat_map f (drop (suc i) xs) in
      let all : flat_map f xs ≡ flat_map f (take i xs) ++ (here ++ behind) =
      ap (flat_map f) (sym (take-append-drop i xs)) ∙ flat_map-append f (take i xs) (drop i xs) ∙ ap (λ t. flat_map f (take i xs) ++ flat_map f t) (drop-cons xs i d l) in
      subst (GrowsByPart old new) (sym all) (part_after old mid new (flat_map f (take i xs)) (here ++ behind) so (part_first mid new here behind g))

-- After the last text, all are written.
pub at_end : {X : Type 0} (f : X → List ℕ) (old new : List ℕ) (xs : List X) (i : ℕ) → length xs ≤ i → new ≡ old ++ flat_map f (take i xs) → new ≡ old ++ flat_map f xs
at_end f old new xs i l e = e ∙ ap (λ t. old ++ flat_map f t) (take_all i xs l)
