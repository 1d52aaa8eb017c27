-- Reading a line is exact.
use Rattle.std.proofs.Common.{◌≡◌, ℕ, ◌^◌, ◌<◌, ◌≤◌, inl, inr, Bool, true, false, ◌&&◌, eqb, leb, List, [], ◌∷◌, ◌++◌, length, get_or, Some, None, Option, ap, ◌∙◌, sym, refl, arith}
use Rattle.std.specs.Prelude.{decimal, codes, IfSome}
use Rattle.std.specs.Str.{bytes_eq}
use Rattle.std.proofs.lemmas.Bool.{le-leb, leb-true, ne_eqb}
use Rattle.std.proofs.lemmas.Slice.Eq.{bytes_eq-Decides}
use Rattle.std.proofs.lemmas.Fmt.{digits_decimal, decimal_nonempty}
use Rattle.std.proofs.lemmas.List.{get_or_append_left}
use Rattle.std.proofs.lemmas.Str.Parse.{digit_at}
use Rattle.graph_heap.specs.declared.command.Command.{Command}
use Rattle.quanta.specs.declared.schedule.TheConstants.{CLOCK_LIMIT}
use Rattle.size_classes.specs.declared.config.TheConstants.{LEAST_BUDGET, MOST_BUDGET}
use Rattle.trace.specs.declared.line.Line.{Line}
use Rattle.trace.specs.declared.line.Line.TheVariants as lines
use Rattle.trace.specs.declared.version.Version.{Version}
use Rattle.trace.specs.Spelling.{command_line, command_text, CommandFits, IsOf, is_skipped, version_line, Spells}
use Rattle.trace.specs.Reading.{◌>>=◌, number_in, cut_at, mutator_and_command_in, collector_in, event_in, line_in}
use Rattle.trace.proofs.Numbers.{read_digits, number_in-spelled, number_in-Some}
use Rattle.trace.proofs.Exact.{bind_parts, told, chosen, lacks, cut_at-Some, cut_at-spelled, narrow}
use Rattle.trace.proofs.ReadCommands.{exact_mutator_and_command}

-- tests joined
all_parts : (a b c : Bool) → (a && (b && c)) ≡ true → (a ≡ true) × (b ≡ true) × (c ≡ true)
all_parts true true c h = (refl, refl, h)
all_parts true false c h = absurd (cc)
all_parts false b c h = absurd (cc)

-- a name and a number after it
named : (name rest word : List ℕ) (n : ℕ) → bytes_eq name word ≡ true → rest ≡ decimal n → name ++ 32 ∷ rest ≡ word ++ 32 ∷ decimal n
named name rest word n e g = ap (λ l. l ++ 32 ∷ rest) ((bytes_eq-Decides name word).0 e) ∙ ap (λ l. word ++ 32 ∷ l) g

collector_found : (version : Version) (bytes : List ℕ) (l : Line) → collector_in bytes ≡ Some l → Spells version bytes l
unfolding collector_in
collector_found version bytes l e = elim (chosen (bytes_eq bytes (codes "begin")) _ _ l e) [
  | inl h ↦ told (Spells version bytes) lines.Begin l ((bytes_eq-Decides bytes (codes "begin")).0 h.0) h.1
  | inr r ↦ bind_parts (cut_at 32 bytes) _ l r.1 (λ c ec e1. bind_parts (number_in 64 c.1) _ l e1 (λ n en e2.
      let t = number_in-Some 64 n c.1 en in
      elim (chosen (bytes_eq c.0 (codes "quantum") && (leb LEAST_BUDGET n && leb n MOST_BUDGET)) _ _ l e2) [
        | inl h ↦ let a = all_parts _ _ _ h.0 in told (Spells version bytes) (lines.Quantum n) l (cut_at-Some 32 bytes c ec ∙ named c.0 c.1 (codes "quantum") n a.0 t.1, leb-true LEAST_BUDGET n a.1, leb-true n MOST_BUDGET a.2) h.1
        | inr s ↦ elim (chosen (bytes_eq c.0 (codes "tick") && (leb 1 n && leb n CLOCK_LIMIT)) _ _ l s.1) [
          | inl h ↦ let a = all_parts _ _ _ h.0 in told (Spells version bytes) (lines.Tick n) l (cut_at-Some 32 bytes c ec ∙ named c.0 c.1 (codes "tick") n a.0 t.1, leb-true 1 n a.1, leb-true n CLOCK_LIMIT a.2) h.1
          | inr s ↦ absurd (cc s.1)
        ]
      ]))
]

event_found : (version : Version) (bytes : List ℕ) (l : Line) → event_in version bytes ≡ Some l → Spells version bytes l
event_found version [] l e = collector_found version [] l e
event_found version (b ∷ bs) l e = elim (chosen (leb 48 b && leb b 57) _ _ l e) [
  | inl h ↦ bind_parts (mutator_and_command_in version (b ∷ bs)) _ l h.1 (λ a ea e1. let x = (exact_mutator_and_command version).found (b ∷ bs) a ea in told (Spells version (b ∷ bs)) (lines.Command a.0 a.1) l (x.0, x.1.0, x.1.1.0, x.1.1.1) e1)
  | inr s ↦ collector_found version (b ∷ bs) l s.1
]

line_found : (version : Version) (bytes : List ℕ) (l : Line) → line_in version bytes ≡ Some l → Spells version bytes l
unfolding line_in
line_found version bytes l e = elim (chosen (is_skipped bytes) _ _ l e) [
  | inl h ↦ told (Spells version bytes) lines.Skip l h.0 h.1
  | inr r ↦ event_found version bytes l r.1
]

-- a line that begins with a digit is a command or nothing
by_digit : (version : Version) (front rest : List ℕ) → 0 < length front → 48 ≤ get_or front 0 0 → get_or front 0 0 ≤ 57 → line_in version (front ++ rest) ≡ (mutator_and_command_in version (front ++ rest) >>= λ a. Some (lines.Command a.0 a.1))
unfolding line_in
by_digit version [] rest some low high = absurd (omega (arith, some))
by_digit version (b ∷ bs) rest some low high =
    let other : eqb b 35 ≡ false = ne_eqb b 35 (λ e. omega arith) in
    rw (other, le-leb 48 b low, le-leb b 57 high) refl

command_only : (version : Version) (m : ℕ) (c : Command) → m < 2 ^ 32 → CommandFits c → IsOf c version → line_in version (command_line m c) ≡ Some (lines.Command m c)
command_only version m c small fits is =
    let d = digit_at (decimal m) 0 (digits_decimal read_digits m (narrow m small)) (decimal_nonempty m (narrow m small)) in
    by_digit version (decimal m) (32 ∷ command_text c) (decimal_nonempty m (narrow m small)) d.0 d.1
    ∙ ap (λ o. o >>= λ a. Some (lines.Command a.0 a.1)) ((exact_mutator_and_command version).only (m, c) (small, (fits, is)))

quantum_only : (version : Version) (n : ℕ) → LEAST_BUDGET ≤ n → n ≤ MOST_BUDGET → line_in version (codes "quantum " ++ decimal n) ≡ Some (lines.Quantum n)
unfolding line_in collector_in
quantum_only version n low high =
    let small : n < 2 ^ 64 = omega arith in
    rw (cut_at-spelled 32 (codes "quantum") (decimal n) (lacks 32 (codes "quantum") refl), number_in-spelled 64 n (decimal n) small small refl, le-leb LEAST_BUDGET n low, le-leb n MOST_BUDGET high) refl

tick_only : (version : Version) (n : ℕ) → 1 ≤ n → n ≤ CLOCK_LIMIT → line_in version (codes "tick " ++ decimal n) ≡ Some (lines.Tick n)
unfolding line_in collector_in
tick_only version n low high =
    let small : n < 2 ^ 64 = omega arith in
    rw (cut_at-spelled 32 (codes "tick") (decimal n) (lacks 32 (codes "tick") refl), number_in-spelled 64 n (decimal n) small small refl, le-leb 1 n low, le-leb n CLOCK_LIMIT high) refl

line_only : (version : Version) (bytes : List ℕ) (l : Line) → Spells version bytes l → line_in version bytes ≡ Some l
unfolding line_in collector_in
line_only version bytes lines.Skip h = rw h refl
line_only version bytes (lines.Command m c) h = ap (line_in version) h.0 ∙ command_only version m c h.1 h.2 h.3
line_only version bytes lines.Begin h = ap (line_in version) h
line_only version bytes (lines.Quantum n) h = ap (line_in version) h.0 ∙ quantum_only version n h.1 h.2
line_only version bytes (lines.Tick n) h = ap (line_in version) h.0 ∙ tick_only version n h.1 h.2

pub read_found : (version : Version) (bytes : List ℕ) (o : Option Line) → o ≡ line_in version bytes → IfSome o (Spells version bytes)
read_found version bytes None e = tt
read_found version bytes (Some l) e = line_found version bytes l (sym e)

pub read_only : (version : Version) (bytes : List ℕ) (o : Option Line) → o ≡ line_in version bytes → (l : Line) → Spells version bytes l → o ≡ Some l
read_only version bytes o e l h = e ∙ line_only version bytes l h

-- the line that tells the version is no line of a version, by its first byte
first_byte : (bytes : List ℕ) → version_line ≡ bytes → get_or bytes 0 0 ≡ 118
first_byte bytes e = sym (ap (λ l. get_or l 0 0) e)

pub unread : (version : Version) (l : Line) → Spells version version_line l → ⊥
unread version lines.Skip s = absurd (let e : false ≡ true = s in cc)
unread version (lines.Command m c) s =
    let small = narrow m s.1 in
    let d = digit_at (decimal m) 0 (digits_decimal read_digits m small) (decimal_nonempty m small) in
    let at : get_or (command_line m c) 0 0 ≡ get_or (decimal m) 0 0 = get_or_append_left (decimal m) (32 ∷ command_text c) 0 0 (decimal_nonempty m small) in
    absurd (omega (arith, d, at, first_byte (command_line m c) s.0))
unread version lines.Begin s = let e : 98 ≡ 118 = first_byte (codes "begin") s in absurd (omega (arith, e))
unread version (lines.Quantum n) s = let e : 113 ≡ 118 = first_byte (codes "quantum " ++ decimal n) s.0 in absurd (omega (arith, e))
unread version (lines.Tick n) s = let e : 116 ≡ 118 = first_byte (codes "tick " ++ decimal n) s.0 in absurd (omega (arith, e))
