-- Lists with some left out, and the part of its script that a seat has seen done.
use Rattle.std.proofs.Common.{◌≡◌, ℕ, ◌≤◌, inl, inr, List, [], ◌∷◌, ◌++◌, length, refl, sym, ap, ◌∙◌, subst, arith}
use Rattle.std.proofs.lemmas.List.{map-append}
use mathlib.Core.List.{IsPrefix}
use Rattle.graph_heap.specs.declared.command.Command.{Command}
use Rattle.graph_heap.specs.declared.command.Entry.{Entry}
use Rattle.graph_heap.specs.Merge.{mine_from, mine, commands_of}
use Rattle.graph_heap.proofs.Merge.{mine_append, mine_own}
use Rattle.heap_server.specs.Played.{IsPart}

part_more : (xs ys zs : List Command) → IsPart xs ys → IsPart xs (ys ++ zs)
part_more [] ys zs p = tt
part_more (x ∷ xs) [] zs p = absurd p
part_more (x ∷ xs) (y ∷ ys) zs (inl p) = inl (p.0, part_more xs ys zs p.1)
part_more (x ∷ xs) (y ∷ ys) zs (inr p) = inr (part_more (x ∷ xs) ys zs p)

part_one : (c : Command) (ys : List Command) → IsPart (c ∷ []) (ys ++ c ∷ [])
part_one c [] = inl (refl, tt)
part_one c (y ∷ ys) = inr (part_one c ys)

part_push : (xs ys : List Command) (c : Command) → IsPart xs ys → IsPart (xs ++ c ∷ []) (ys ++ c ∷ [])
part_push [] ys c p = part_one c ys
part_push (x ∷ xs) [] c p = absurd p
part_push (x ∷ xs) (y ∷ ys) c (inl p) = inl (p.0, part_push xs ys c p.1)
part_push (x ∷ xs) (y ∷ ys) c (inr p) = inr (part_push (x ∷ xs) ys c p)

part_length : (xs ys : List Command) → IsPart xs ys → length xs ≤ length ys
part_length [] ys p = omega arith
part_length (x ∷ xs) [] p = absurd p
part_length (x ∷ xs) (y ∷ ys) (inl p) = omega (arith, part_length xs ys p.1)
part_length (x ∷ xs) (y ∷ ys) (inr p) = omega (arith, part_length (x ∷ xs) ys p)

-- a part as long as the whole is the whole
pub part_whole : (xs ys : List Command) → IsPart xs ys → length ys ≤ length xs → xs ≡ ys
part_whole [] [] p le = refl
part_whole [] (y ∷ ys) p le = absurd (omega arith)
part_whole (x ∷ xs) [] p le = absurd p
part_whole (x ∷ xs) (y ∷ ys) (inl p) le = let rest = part_whole xs ys p.1 (omega arith) in cc (p.0, rest)
part_whole (x ∷ xs) (y ∷ ys) (inr p) le = absurd (omega (arith, part_length (x ∷ xs) ys p))

own_append : (xs ys : List Entry) (m : ℕ) → commands_of (mine (xs ++ ys) m) ≡ commands_of (mine xs m) ++ commands_of (mine_from (length xs) ys m)
own_append xs ys m = ap commands_of (mine_append xs ys m) ∙ map-append (λ (e : ℕ × Entry). e.1.command) (mine xs m) (mine_from (length xs) ys m)

-- what was told stays told
pub told_grows : (cs : List Command) (xs ys : List Entry) (m : ℕ) → IsPrefix xs ys → IsPart cs (commands_of (mine xs m)) → IsPart cs (commands_of (mine ys m))
told_grows cs xs ys m p t =
    subst (λ (w : List Command). IsPart cs w) (sym (own_append xs p.0 m) ∙ ap (λ (w : List Entry). commands_of (mine w m)) p.1) (part_more cs (commands_of (mine xs m)) (commands_of (mine_from (length xs) p.0 m)) t)

-- a call more was told
pub told_more : (cs : List Command) (c : Command) (xs before ys : List Entry) (e : Entry) (m : ℕ) → IsPrefix xs before → ys ≡ before ++ e ∷ [] → e.mutator ≡ m → e.command ≡ c → IsPart cs (commands_of (mine xs m)) → IsPart (cs ++ c ∷ []) (commands_of (mine ys m))
told_more cs c xs before ys e m p is by same t =
    let own : commands_of (mine ys m) ≡ commands_of (mine before m) ++ c ∷ [] = ap (λ (w : List Entry). commands_of (mine w m)) is ∙ (own_append before (e ∷ []) m ∙ (ap (λ (w : List (ℕ × Entry)). commands_of (mine before m) ++ commands_of w) (mine_own e m (length before) by) ∙ ap (λ (d : Command). commands_of (mine before m) ++ d ∷ []) same)) in
    subst (λ (w : List Command). IsPart (cs ++ c ∷ []) w) (sym own) (part_push cs (commands_of (mine before m)) c (told_grows cs xs before m p t))
