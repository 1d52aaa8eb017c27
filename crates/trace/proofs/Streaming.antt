-- The bytes that a read adds.
use Rattle.std.proofs.Common.{◌≡◌, ℕ, ◌+◌, ◌-◌, ◌≤◌, List, ◌++◌, length, take, arith, length-take, length-append, ap, ◌∙◌, sym}
use Rattle.std.specs.Prelude.{Result, Ok, Err, IfOk}
use Rattle.std.proofs.Math.Seq.{take-append-add}
use Rattle.std.proofs.lemmas.List.{take-append-le}
use borrow.Rule.Slice.PartMut.{put_mid, post_of}
use Rattle.trace.specs.Lines.{Comes}

length_front : (n : ℕ) (xs : List ℕ) → n ≤ length xs → length (take n xs) ≡ n
length_front n xs h = omega (arith, length-take n xs)

-- the front of a buffer, and the bytes read after it
front : (at len n : ℕ) (xs ys : List ℕ) → at ≤ length xs → n ≤ length ys → take (at + n) (put_mid at len xs ys) ≡ take at xs ++ take n ys
front at len n xs ys h k =
    let zs = ys ++ post_of at len xs in
    ap (λ m. take (m + n) (take at xs ++ zs)) (sym (length_front at xs h))
    ∙ take-append-add (take at xs) zs n
    ∙ ap (λ l. take at xs ++ l) (take-append-le n ys (post_of at len xs) k)

-- the bytes that a read adds after the front of a buffer
pub reads_behind : {E : Type 0} (r : Result ℕ E) (at len : ℕ) (xs ys given given' : List ℕ) → at ≤ length xs → IfOk r (λ n. n ≤ length ys) → IfOk r (λ n. given' ≡ given ++ take n ys)
    → IfOk r (λ n. Comes given given' (take at xs) (take (at + n) (put_mid at len xs ys)))
reads_behind (Ok n) at len xs ys given given' h k e = record { more = take n ys; given_more = e; makes = sym (front at len n xs ys h k) }
reads_behind (Err e) at len xs ys given given' h k _ = tt

-- the number of bytes given
pub reads_so_many : {E : Type 0} (r : Result ℕ E) (ys given given' : List ℕ) → IfOk r (λ n. n ≤ length ys) → IfOk r (λ n. given' ≡ given ++ take n ys) → IfOk r (λ n. length given' ≡ length given + n)
reads_so_many (Ok n) ys given given' k e = let s : length given' ≡ length (given ++ take n ys) = ap length e in omega (arith, s, length-append given (take n ys), length_front n ys k)
reads_so_many (Err e) ys given given' k _ = tt
