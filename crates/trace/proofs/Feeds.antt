-- Lines in a buffer.
use Rattle.std.proofs.Common.{◌≡◌, ℕ, ◌+◌, ◌-◌, ◌≤◌, ◌<◌, List, [], ◌∷◌, ◌++◌, length, take, drop, Some, None, Option, arith, length-take, get_or-take, take-take, drop-drop, append_assoc, append-nil, refl, Bool, Err, ap, ◌∙◌, sym, subst}
use Rattle.std.specs.Prelude.{IfSome, IsNone, min, slice_range}
use Rattle.std.proofs.lemmas.Bool.{eqb-true, eq-eqb}
use Rattle.std.proofs.lemmas.List.{drop-take, get_or_default, take_min}
use Rattle.memchr.specs.Find.{IsFirstByte, is_byte}
use Rattle.trace.specs.Lines.{NoLf, IsLine, Comes, FirstLf}
use Rattle.trace.specs.LineReader.{Lines, IsOutcome, ReadsLine}
use Rattle.trace.specs.declared.fault.PlayFault.{PlayFault}
use Rattle.trace.proofs.Cuts.{whole, parted}

-- the first LF of the first n bytes, which are at most 257, is the first of all
first_in : (n : ℕ) → n ≤ 257 → (bytes : List ℕ) (i : ℕ) → IsFirstByte (is_byte 10) (take n bytes) (Some i) → FirstLf bytes i
first_in n few bytes i first =
    let at = first.0 in
    let near : i < n = omega (arith, at.high, length-take n bytes) in
    let within : i < length bytes = omega (arith, at.high, length-take n bytes) in
    record {
      near = omega arith;
      within = within;
      here = parted 10 bytes i within (sym (get_or-take n bytes i 0 near) ∙ eqb-true _ 10 first.1);
      before = λ k d h is. let low : k < i = omega (arith, h, length-take i bytes) in
          let small : k < n = omega arith in
          let inside : k < length bytes = omega arith in
          at.before k (omega arith) low (eq-eqb _ 10 (get_or-take n bytes k 0 small ∙ get_or_default bytes k 0 d inside ∙ sym (get_or-take i bytes k d low) ∙ is));
    }

none_in : (xs : List ℕ) → IsFirstByte (is_byte 10) xs None → NoLf xs
none_in xs nowhere k d h is = nowhere k (omega arith) h (eq-eqb _ 10 (get_or_default xs k 0 d h ∙ is))

pub found_in : (n : ℕ) → n ≤ 257 → (bytes : List ℕ) (o : Option ℕ) → IsFirstByte (is_byte 10) (take n bytes) o → IfSome o (λ i. FirstLf bytes i)
found_in n few bytes None first = tt
found_in n few bytes (Some i) first = first_in n few bytes i first

pub none_found : (bytes : List ℕ) (o : Option ℕ) → IsFirstByte (is_byte 10) (take 257 bytes) o → IsNone o → NoLf (take 257 bytes)
none_found bytes None first h = none_in (take 257 bytes) first
none_found bytes (Some i) first h = absurd (cc h)

-- the bytes that are searched are the first 257
pub front_is : (bytes : List ℕ) (n : ℕ) → n ≡ min (length bytes) 257 → take n bytes ≡ take 257 bytes
front_is bytes n e =
    let same : n ≡ min 257 (length bytes) = omega (arith, e) in
    ap (λ k. take k bytes) same ∙ take_min 257 bytes

-- the line in a buffer, and the bytes kept after it
module _ (buffer : List ℕ) (start end i : ℕ) (range : start ≤ end) (within : end ≤ length buffer) (lf : FirstLf (slice_range buffer start end) i) where
  short : i < end - start
  short = omega (arith, lf.within, length-take (end - start) (drop start buffer))

  front : take i (slice_range buffer start end) ≡ slice_range buffer start (start + i)
  front =
      let same : i ≡ start + i - start = omega arith in
      let le : i ≤ end - start = omega (arith, short) in
      take-take i (end - start) (drop start buffer) le ∙ ap (λ n. take n (drop start buffer)) same

  back : drop (i + 1) (slice_range buffer start end) ≡ slice_range buffer (start + i + 1) end
  back =
      let rest = end - (start + i + 1) in
      let split : end - start ≡ (i + 1) + rest = omega (arith, short) in
      let place : start + (i + 1) ≡ start + i + 1 = omega arith in
      ap (λ n. drop (i + 1) (take n (drop start buffer))) split
      ∙ drop-take (i + 1) rest (drop start buffer)
      ∙ ap (take rest) (drop-drop (i + 1) start buffer ∙ ap (λ n. drop n buffer) place)

  pub cut_off : slice_range buffer start end ≡ slice_range buffer start (start + i) ++ 10 ∷ slice_range buffer (start + i + 1) end
  cut_off = lf.here ∙ ap (λ l. l ++ 10 ∷ drop (i + 1) (slice_range buffer start end)) front ∙ ap (λ l. slice_range buffer start (start + i) ++ 10 ∷ l) back

  pub cut_is_line : IsLine (slice_range buffer start (start + i))
  cut_is_line = (subst NoLf front lf.before, omega (arith, lf.near, length-take (start + i - start) (drop start buffer)))

-- few bytes without LF
pub short_line : (xs : List ℕ) → length xs ≤ 256 → NoLf (take 257 xs) → IsLine xs
short_line xs few none = (subst NoLf (whole 257 xs (omega (arith, few))) none, few)

-- bytes that came one after the other
pub comes_on : {given between given' kept text text' : List ℕ} → Comes given between kept text → Comes between given' text text' → Comes given given' kept text'
comes_on {given = given} {kept = kept} p q = record {
  more = p.more ++ q.more;
  given_more = q.given_more ∙ ap (λ t. t ++ q.more) p.given_more ∙ append_assoc given p.more q.more;
  makes = sym (append_assoc kept p.more q.more) ∙ ap (λ t. t ++ q.more) p.makes ∙ q.makes;
}

-- nothing was read, and no line handed out
pub none_came : (given : List ℕ) (ended : Bool) (old : Lines) (fault : PlayFault) → IsOutcome (Err fault) old ended → length old.kept ≤ 65536 → ReadsLine (record { before = given; after = given; ended = ended }) old old (Err fault)
none_came given ended old fault says small = record {
  text = record { more = []; given_more = sym (append-nil given); makes = append-nil old.kept };
  says = says;
  number = omega arith;
  versions = refl;
  small = small;
}
