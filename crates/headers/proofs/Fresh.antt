-- A run of words written at once.
use Rattle.std.proofs.Common.{◌≡◌, ℕ, ◌+◌, ◌-◌, ◌<◌, ◌≤◌, ◌⊎◌, inl, inr, List, ◌++◌, length, take, drop, replicate, [], get_or, ap, ◌∙◌, sym, arith, append_assoc}
use Rattle.std.proofs.lemmas.List.{drop_at, get_or-take, get_or-drop, length-take, length-drop, length-take-le, length-replicate, length-append, append-nil, take-append-le, take-replicate, replicate-append-replicate}
use Rattle.std.proofs.Math.ListN.{drop_of_length-le}
use borrow.Rule.Slice.PartMut.{mid_of, put_mid}
use Rattle.std.proofs.lemmas.Grind.{same_number_lists, common_steps}
use Rattle.std.proofs.Math.Seq.{take-append-add}
use Rattle.heap_model.specs.Block.{words_at, spliced}

-- words that are there in both, and are the same one by one
pub words_at-there : (xs ys : List ℕ) (b t : ℕ) → b + t ≤ length xs → b + t ≤ length ys → ((k : ℕ) → b ≤ k → k < b + t → get_or xs k 0 ≡ get_or ys k 0) → words_at xs b t ≡ words_at ys b t
words_at-there xs ys b t long long' same = same_number_lists (words_at xs b t) (words_at ys b t)
    (omega (arith, long, long', length-take t (drop b xs), length-take t (drop b ys), length-drop b xs, length-drop b ys))
    (λ k h. let small : k < t = omega (arith, h, length-take t (drop b xs)) in
    get_or-take t (drop b xs) k 0 small ∙ get_or-drop b xs k 0 ∙ same (b + k) (omega arith) (omega (arith, small)) ∙ sym (get_or-drop b ys k 0) ∙ sym (get_or-take t (drop b ys) k 0 small))

-- words of as many, that are the same one by one
pub words_at-same : (xs ys : List ℕ) (b t : ℕ) → length xs ≡ length ys → ((k : ℕ) → b ≤ k → k < b + t → get_or xs k 0 ≡ get_or ys k 0) → words_at xs b t ≡ words_at ys b t
words_at-same xs ys b t e same = same_number_lists (words_at xs b t) (words_at ys b t)
    (omega (arith, length-take t (drop b xs), length-take t (drop b ys), length-drop b xs, length-drop b ys, e))
    (λ k h. let small : k < t = omega (arith, h, length-take t (drop b xs)) in
    get_or-take t (drop b xs) k 0 small ∙ get_or-drop b xs k 0 ∙ same (b + k) (omega arith) (omega (arith, small)) ∙ sym (get_or-drop b ys k 0) ∙ sym (get_or-take t (drop b ys) k 0 small))

pub length-spliced : (words others : List ℕ) (a : ℕ) → a + length others ≤ length words → length (spliced words a others) ≡ length words
length-spliced words others a h = grind (arith, common_steps)

pub spliced_other : (words others : List ℕ) (a k : ℕ) → a + length others ≤ length words → (k < a) ⊎ (a + length others ≤ k) → get_or (spliced words a others) k 0 ≡ get_or words k 0
spliced_other words others a k h w = grind (arith, common_steps, w)

pub words_at-spliced_other : (words others : List ℕ) (a b t : ℕ) → a + length others ≤ length words → (b + t ≤ a) ⊎ (a + length others ≤ b) → words_at (spliced words a others) b t ≡ words_at words b t
words_at-spliced_other words others a b t h w = words_at-same _ _ b t (length-spliced words others a h) (λ k low high. spliced_other words others a k h (side k low high w))
  where
    side : (k : ℕ) → b ≤ k → k < b + t → (b + t ≤ a) ⊎ (a + length others ≤ b) → (k < a) ⊎ (a + length others ≤ k)
    side k low high (inl x) = inl (omega arith)
    side k low high (inr y) = inr (omega arith)

pub words_at-spliced : (words others : List ℕ) (a s : ℕ) → a ≤ length words → length others ≤ s →
    words_at (spliced words a others) a s ≡ others ++ take (s - length others) (drop (a + length others) words)
words_at-spliced words others a s h fit =
    let rest = drop (a + length others) words in
    let n : s ≡ length others + (s - length others) = omega arith in
    ap (λ l. take s (drop a l)) (append_assoc (take a words) others rest)
    ∙ ap (take s) (drop_at (take a words) (others ++ rest) a (length-take-le a words h))
    ∙ ap (λ m. take m (others ++ rest)) n ∙ take-append-add others rest (s - length others)

-- two runs of four words that meet, or overlap, are one run
pub two_runs : (words front back : List ℕ) → 4 ≤ length words → length words - 4 ≤ 4 → front ≡ replicate (length (take 4 words)) 0
    → back ≡ replicate (length (mid_of (length words - 4) (length (front ++ drop 4 words) - (length words - 4)) (front ++ drop 4 words))) 0
    → put_mid (length words - 4) (length (front ++ drop 4 words) - (length words - 4)) (front ++ drop 4 words) back ≡ replicate (length words) 0
two_runs words front back some few f b =
    let a = length words - 4 in
    let xs = front ++ drop 4 words in
    let four : length front ≡ 4 = ap length f ∙ length-replicate {A = ℕ} (length (take 4 words)) 0 ∙ length-take-le 4 words some in
    let long : length xs ≡ length words = omega (arith, some, four, length-append front (drop 4 words), length-drop 4 words) in
    let last : length (mid_of a (length xs - a) xs) ≡ 4 = omega (arith, some, long, length-take (length xs - a) (drop a xs), length-drop a xs) in
    let none : drop (length xs - a) (drop a xs) ≡ [] = drop_of_length-le (drop a xs) (omega (arith, length-drop a xs)) in
    let before : take a xs ≡ replicate a 0 = take-append-le a front (drop 4 words) (omega (arith, few, four))
    ∙ ap (take a) f ∙ take-replicate a (length (take 4 words)) 0 (omega (arith, few, length-take-le 4 words some)) in
    (λ i. before i ++ ((b ∙ ap (λ n. replicate {A = ℕ} n 0) last) i ++ none i))
    ∙ ap (λ l. replicate {A = ℕ} a 0 ++ l) (append-nil (replicate {A = ℕ} 4 0))
    ∙ replicate-append-replicate {A = ℕ} a 4 0 ∙ ap (λ n. replicate {A = ℕ} n 0) (omega (arith, some))
