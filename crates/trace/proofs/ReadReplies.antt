-- Reading a reply is exact.
use Rattle.std.proofs.Common.{◌≡◌, ℕ, ◌^◌, ◌<◌, inl, inr, true, false, eqb, List, ◌∷◌, ◌++◌, Some, ap, ◌∙◌, sym, subst, refl, arith}
use Rattle.std.specs.Prelude.{decimal, codes}
use Rattle.std.specs.Str.{bytes_eq}
use Rattle.std.proofs.lemmas.Bool.{eqb-true}
use Rattle.std.proofs.lemmas.Slice.Eq.{bytes_eq-Decides}
use Rattle.graph_heap.specs.declared.command.Reply.{Reply}
use Rattle.graph_heap.specs.declared.command.Reply.TheVariants as replies
use Rattle.graph_heap.specs.declared.command.Refusal.{Refusal}
use Rattle.graph_heap.specs.declared.command.Refusal.TheVariants as refusals
use Rattle.graph_heap.specs.Refusal.{refusal_number}
use Rattle.trace.specs.Spelling.{shape_text, reply_text, ShapeFits, ReplyFits}
use Rattle.trace.specs.Reading.{◌>>=◌, number_in, after_in, refusal_in, refused_in, all_refusals, identity_and_shape_in, shape_in, long_reply_in, reply_in}
use Rattle.trace.proofs.Exact.{bind_parts, told, chosen, found_passes, after_in-Some, word_or, made_of, Exact, wide, exact_number, exact_front}
use Rattle.trace.proofs.ReadCommands.{exact_shape}

-- the number of a refusal, and the refusal of a number
refusal_found : (n : ℕ) (r : Refusal) → refusal_in n ≡ Some r → refusal_number r ≡ n
unfolding refusal_in
refusal_found n r e = eqb-true (refusal_number r) n (found_passes (λ q. eqb (refusal_number q) n) all_refusals r e)

-- a refusal is found by its number, which is small
refusal_only : (r : Refusal) → (refusal_in (refusal_number r) ≡ Some r) × (refusal_number r < 2 ^ 64)
unfolding refusal_in
refusal_only refusals.BadSlot = (refl, omega arith)
refusal_only refusals.NullSlot = (refl, omega arith)
refusal_only refusals.BadIndex = (refl, omega arith)
refusal_only refusals.WrongKind = (refl, omega arith)
refusal_only refusals.TooLarge = (refl, omega arith)
refusal_only refusals.IdentitiesSpent = (refl, omega arith)
refusal_only refusals.NoSpace = (refl, omega arith)
refusal_only refusals.BadStatic = (refl, omega arith)
refusal_only refusals.NotLive = (refl, omega arith)
refusal_only refusals.AlreadyLive = (refl, omega arith)

abbrev SpellsReply : List ℕ → Reply → Type 0
SpellsReply bytes r = (bytes ≡ reply_text r) × ReplyFits r

exact_identity_and_shape : Exact identity_and_shape_in (λ p. decimal p.0 ++ 32 ∷ shape_text p.1) (λ p. (p.0 < 2 ^ 64) × ShapeFits p.1)
exact_identity_and_shape = exact_front 64 wide shape_in shape_text ShapeFits exact_shape

-- a number after a word at the front, made into a reply
number_found : (word bytes rest : List ℕ) (f : ℕ → Reply) → ((n : ℕ) → n < 2 ^ 64 → SpellsReply (word ++ decimal n) (f n))
    → (r : Reply) → after_in word bytes ≡ Some rest → (number_in 64 rest >>= λ n. Some (f n)) ≡ Some r → SpellsReply bytes r
number_found word bytes rest f is r front e = made_of SpellsReply word bytes rest _ _ _ (exact_number 64 wide) f is r front e

refused_found : (rest : List ℕ) (r : Reply) → refused_in rest ≡ Some r → SpellsReply (codes "refused " ++ rest) r
unfolding refused_in
refused_found rest r e = bind_parts (number_in 64 rest) _ r e (λ n en e1. bind_parts (refusal_in n) _ r e1 (λ q eq e2.
    let t = (exact_number 64 wide).found rest n en in
    told (SpellsReply (codes "refused " ++ rest)) (replies.Refused q) r (ap (λ l. codes "refused " ++ l) (t.0 ∙ ap decimal (sym (refusal_found n q eq))), tt) e2))

long_found : (bytes : List ℕ) (r : Reply) → long_reply_in bytes ≡ Some r → SpellsReply bytes r
unfolding long_reply_in
long_found bytes r e =
    word_or (after_in (codes "made ") bytes) _ _ r e
    (λ rest front x. number_found (codes "made ") bytes rest (λ n. replies.Made n) (λ n f. (refl, f)) r front x)
    (λ e. word_or (after_in (codes "ref ") bytes) _ _ r e
    (λ rest front x. number_found (codes "ref ") bytes rest (λ n. replies.Ref n) (λ n f. (refl, f)) r front x)
    (λ e. word_or (after_in (codes "word ") bytes) _ _ r e
    (λ rest front x. number_found (codes "word ") bytes rest (λ n. replies.Word n) (λ n f. (refl, f)) r front x)
    (λ e. word_or (after_in (codes "kept ") bytes) _ _ r e
    (λ rest front x. number_found (codes "kept ") bytes rest (λ n. replies.Kept n) (λ n f. (refl, f)) r front x)
    (λ e. word_or (after_in (codes "keptword ") bytes) _ _ r e
    (λ rest front x. number_found (codes "keptword ") bytes rest (λ n. replies.KeptWord n) (λ n f. (refl, f)) r front x)
    (λ e. word_or (after_in (codes "described ") bytes) _ _ r e
    (λ rest front x. made_of SpellsReply (codes "described ") bytes rest _ _ _ exact_identity_and_shape (λ n. replies.Described n.0 n.1) (λ n f. (refl, f)) r front x)
    (λ e. word_or (after_in (codes "refused ") bytes) _ _ r e
    (λ rest front x. subst (λ l. SpellsReply l r) (sym (after_in-Some (codes "refused ") bytes rest front)) (refused_found rest r x))
    (λ e. absurd (cc e))))))))

reply_found : (bytes : List ℕ) (r : Reply) → reply_in bytes ≡ Some r → SpellsReply bytes r
unfolding reply_in
reply_found bytes r e = elim (chosen (bytes_eq bytes (codes "done")) _ _ r e) [
  | inl h ↦ told (SpellsReply bytes) replies.Done r ((bytes_eq-Decides bytes (codes "done")).0 h.0, tt) h.1
  | inr s ↦ elim (chosen (bytes_eq bytes (codes "stored")) _ _ r s.1) [
    | inl h ↦ told (SpellsReply bytes) replies.Stored r ((bytes_eq-Decides bytes (codes "stored")).0 h.0, tt) h.1
    | inr s ↦ elim (chosen (bytes_eq bytes (codes "is yes")) _ _ r s.1) [
      | inl h ↦ told (SpellsReply bytes) (replies.Is true) r ((bytes_eq-Decides bytes (codes "is yes")).0 h.0, tt) h.1
      | inr s ↦ elim (chosen (bytes_eq bytes (codes "is no")) _ _ r s.1) [
        | inl h ↦ told (SpellsReply bytes) (replies.Is false) r ((bytes_eq-Decides bytes (codes "is no")).0 h.0, tt) h.1
        | inr s ↦ long_found bytes r s.1
      ]
    ]
  ]
]

reply_only : (r : Reply) → ReplyFits r → reply_in (reply_text r) ≡ Some r
unfolding reply_in long_reply_in refused_in after_in
reply_only (replies.Made id) f = rw ((exact_number 64 wide).only id f) refl
reply_only (replies.Ref id) f = rw ((exact_number 64 wide).only id f) refl
reply_only (replies.Word w) f = rw ((exact_number 64 wide).only w f) refl
reply_only replies.Done f = refl
reply_only replies.Stored f = refl
reply_only (replies.Kept id) f = rw ((exact_number 64 wide).only id f) refl
reply_only (replies.KeptWord w) f = rw ((exact_number 64 wide).only w f) refl
reply_only (replies.Is true) f = refl
reply_only (replies.Is false) f = refl
reply_only (replies.Described id shape) f = rw (exact_identity_and_shape.only (id, shape) f) refl
reply_only (replies.Refused r) f = rw ((exact_number 64 wide).only (refusal_number r) (refusal_only r).1, (refusal_only r).0) refl

pub exact_reply : Exact reply_in reply_text ReplyFits
exact_reply = record { found = reply_found; only = reply_only }
