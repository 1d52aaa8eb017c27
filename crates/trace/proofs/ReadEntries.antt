-- Reading a line of a history is exact.
use Rattle.std.proofs.Common.{◌≡◌, ℕ, zero, suc, ◌-◌, ◌^◌, ◌<◌, ◌≤◌, inl, inr, true, false, eqb, List, [], ◌∷◌, ◌++◌, length, take, drop, get_or, Some, None, Option, ap, ◌∙◌, sym, refl, arith, append_assoc, length-append}
use Rattle.std.specs.Prelude.{decimal, codes, IfSome}
use Rattle.std.specs.Str.{bytes_eq}
use Rattle.std.proofs.lemmas.Bool.{ne_eqb}
use Rattle.std.proofs.lemmas.List.{take-append-drop, take_at, drop_at}
use Rattle.std.proofs.lemmas.Slice.Eq.{bytes_eq-Decides}
use Rattle.std.proofs.lemmas.Fmt.{digits_decimal, decimal_nonempty}
use Rattle.std.proofs.lemmas.Str.Parse.{digit_at}
use Rattle.graph_heap.specs.declared.command.Shape.{Shape}
use Rattle.graph_heap.specs.declared.command.Shape.TheVariants.{Plain, RefArray, WordArray}
use Rattle.graph_heap.specs.declared.command.Command.{Command}
use Rattle.graph_heap.specs.declared.command.Command.TheVariants as commands
use Rattle.graph_heap.specs.declared.command.Entry.{Entry}
use Rattle.trace.specs.declared.entry.EntryLine.{EntryLine}
use Rattle.trace.specs.declared.entry.EntryLine.TheVariants as lines
use Rattle.trace.specs.declared.version.Version.{Version}
use Rattle.trace.specs.Spelling.{two, three, four, shape_text, command_text, command_line, reply_text, entry_line, ShapeFits, CommandFits, IsOf, ReplyFits, is_skipped, SpellsEntry}
use Rattle.trace.specs.Reading.{◌>>=◌, cut_at, mutator_and_command_in, reply_in, before_blank_in, after_in, arrow_in, entry_in, entry_line_in}
use Rattle.trace.proofs.Numbers.{found_case, read_digits}
use Rattle.trace.proofs.Exact.{bind_parts, told, chosen, Lacks, free, lacks, plain, narrow, cut_at-Some, cut_at-spelled, after_in-Some, after_in-spelled}
use Rattle.trace.proofs.ReadCommands.{exact_mutator_and_command}
use Rattle.trace.proofs.ReadReplies.{exact_reply}

before_blank-Some : (bytes front : List ℕ) → before_blank_in bytes ≡ Some front → bytes ≡ front ++ 32 ∷ []
unfolding before_blank_in
before_blank-Some bytes front e =
    let n = length bytes - 1 in
    let p = found_case (bytes_eq (drop n bytes) (codes " ")) (take n bytes) front e in
    sym (take-append-drop n bytes) ∙ ap (λ l. take n bytes ++ l) ((bytes_eq-Decides (drop n bytes) (codes " ")).0 p.0) ∙ ap (λ l. l ++ 32 ∷ []) p.1

before_blank-spelled : (front : List ℕ) → before_blank_in (front ++ 32 ∷ []) ≡ Some front
unfolding before_blank_in
before_blank-spelled front =
    let n : length (front ++ 32 ∷ []) - 1 ≡ length front = omega (arith, length-append front (32 ∷ [])) in
    rw (n, drop_at front (32 ∷ []) (length front) refl, take_at front (32 ∷ []) (length front) refl) refl

-- the two sides of an arrow
sides : (front back : List ℕ) → (front ++ 32 ∷ []) ++ 61 ∷ (codes "> " ++ back) ≡ (front ++ codes " => ") ++ back
sides front back = append_assoc front (32 ∷ []) (61 ∷ (codes "> " ++ back)) ∙ sym (append_assoc front (codes " => ") back)

arrow_found : (bytes : List ℕ) (c : List ℕ × List ℕ) → arrow_in bytes ≡ Some c → bytes ≡ (c.0 ++ codes " => ") ++ c.1
unfolding arrow_in
arrow_found bytes c e = bind_parts (cut_at 61 bytes) _ c e (λ d ed e1. bind_parts (before_blank_in d.0) _ c e1 (λ front ef e2. bind_parts (after_in (codes "> ") d.1) _ c e2 (λ back eb e3.
    told (λ (p : List ℕ × List ℕ). bytes ≡ (p.0 ++ codes " => ") ++ p.1) (front, back) c
    (cut_at-Some 61 bytes d ed ∙ ap (λ l. l ++ 61 ∷ d.1) (before_blank-Some d.0 front ef) ∙ ap (λ l. (front ++ 32 ∷ []) ++ 61 ∷ l) (after_in-Some (codes "> ") d.1 back eb) ∙ sides front back) e3)))

arrow_only : (front back : List ℕ) → Lacks 61 (front ++ 32 ∷ []) → arrow_in ((front ++ codes " => ") ++ back) ≡ Some (front, back)
unfolding arrow_in
arrow_only front back none = rw (← sides front back) (rw (cut_at-spelled 61 (front ++ 32 ∷ []) (codes "> " ++ back) none, before_blank-spelled front, after_in-spelled (codes "> ") back) refl)

entry_found : (version : Version) (bytes : List ℕ) (x : Entry) → entry_in version bytes ≡ Some x → SpellsEntry version bytes (lines.Entry x)
unfolding entry_in
entry_found version bytes x e = bind_parts (arrow_in bytes) _ x e (λ c ec e1. bind_parts (mutator_and_command_in version c.0) _ x e1 (λ a ea e2. bind_parts (reply_in c.1) _ x e2 (λ r er e3.
    let f = (exact_mutator_and_command version).found c.0 a ea in
    let g = exact_reply.found c.1 r er in
    told (λ y. SpellsEntry version bytes (lines.Entry y)) (record { mutator = a.0; command = a.1; reply = r }) x
    (arrow_found bytes c ec ∙ ap (λ l. (l ++ codes " => ") ++ c.1) f.0 ∙ ap (λ l. (command_line a.0 a.1 ++ codes " => ") ++ l) g.0, f.1.0, f.1.1.0, g.1, f.1.1.1) e3)))

-- no = stands in a command
lacks_both : (x y : List ℕ) → Lacks 61 x → Lacks 61 y → Lacks 61 (x ++ y)
lacks_both [] y p q k h e = q k h e
lacks_both (c ∷ x) y p q zero h e = p zero (omega arith) e
lacks_both (c ∷ x) y p q (suc k) h e = lacks_both x y (λ j g d. p (suc j) (omega (arith, g)) d) q k (omega (arith, h)) e

digits : (n : ℕ) → n < 2 ^ 64 → Lacks 61 (decimal n)
digits n h = plain 61 n (inr (omega arith)) h

-- a number, and the bytes after a blank
behind : (n : ℕ) (rest : List ℕ) → n < 2 ^ 64 → Lacks 61 rest → Lacks 61 (decimal n ++ 32 ∷ rest)
behind n rest h p = lacks_both (decimal n) (32 ∷ rest) (digits n h) (lacks_both (32 ∷ []) rest (lacks 61 (32 ∷ []) refl) p)

two_lack : (a b : ℕ) → a < 2 ^ 64 → b < 2 ^ 64 → Lacks 61 (two a b)
two_lack a b ha hb = behind a (decimal b) ha (digits b hb)

three_lack : (a b c : ℕ) → a < 2 ^ 64 → b < 2 ^ 64 → c < 2 ^ 64 → Lacks 61 (three a b c)
three_lack a b c ha hb hc = behind a (two b c) ha (two_lack b c hb hc)

four_lack : (a b c d : ℕ) → a < 2 ^ 64 → b < 2 ^ 64 → c < 2 ^ 64 → d < 2 ^ 64 → Lacks 61 (four a b c d)
four_lack a b c d ha hb hc hd = behind a (three b c d) ha (three_lack b c d hb hc hd)

-- a word, and the bytes after it
worded : (word rest : List ℕ) → free 61 word ≡ true → Lacks 61 rest → Lacks 61 (word ++ rest)
worded word rest e p = lacks_both word rest (lacks 61 word e) p

shape_lacks : (s : Shape) → ShapeFits s → Lacks 61 (shape_text s)
shape_lacks (Plain refs words) f = worded (codes "plain ") (two refs words) refl (two_lack refs words (narrow refs f.0) (narrow words f.1))
shape_lacks (RefArray n) f = worded (codes "refs ") (decimal n) refl (digits n (narrow n f))
shape_lacks (WordArray n) f = worded (codes "words ") (decimal n) refl (digits n (narrow n f))

command_lacks : (c : Command) → CommandFits c → Lacks 61 (command_text c)
command_lacks (commands.New dst shape) f = worded (codes "new ") (decimal dst ++ 32 ∷ shape_text shape) refl (behind dst (shape_text shape) (narrow dst f.0) (shape_lacks shape f.1))
command_lacks (commands.Load dst obj i) f = worded (codes "load ") (three dst obj i) refl (three_lack dst obj i (narrow dst f.0) (narrow obj f.1) (narrow i f.2))
command_lacks (commands.Store obj i src) f = worded (codes "store ") (three obj i src) refl (three_lack obj i src (narrow obj f.0) (narrow i f.1) (narrow src f.2))
command_lacks (commands.CompareStore obj i expect new) f = worded (codes "cas ") (four obj i expect new) refl (four_lack obj i expect new (narrow obj f.0) (narrow i f.1) (narrow expect f.2) (narrow new f.3))
command_lacks (commands.Get obj i) f = worded (codes "get ") (two obj i) refl (two_lack obj i (narrow obj f.0) (narrow i f.1))
command_lacks (commands.Put obj i word) f = worded (codes "put ") (three obj i word) refl (three_lack obj i word (narrow obj f.0) (narrow i f.1) f.2)
command_lacks (commands.ComparePut obj i old new) f = worded (codes "casput ") (four obj i old new) refl (four_lack obj i old new (narrow obj f.0) (narrow i f.1) f.2 f.3)
command_lacks (commands.Copy dst src) f = worded (codes "copy ") (two dst src) refl (two_lack dst src (narrow dst f.0) (narrow src f.1))
command_lacks (commands.Clear dst) f = worded (codes "clear ") (decimal dst) refl (digits dst (narrow dst f))
command_lacks (commands.LoadStatic dst k) f = worded (codes "loadstatic ") (two dst k) refl (two_lack dst k (narrow dst f.0) (narrow k f.1))
command_lacks (commands.StoreStatic k src) f = worded (codes "storestatic ") (two k src) refl (two_lack k src (narrow k f.0) (narrow src f.1))
command_lacks (commands.CompareStatic k expect new) f = worded (codes "casstatic ") (three k expect new) refl (three_lack k expect new (narrow k f.0) (narrow expect f.1) (narrow new f.2))
command_lacks (commands.Same a b) f = worded (codes "same ") (two a b) refl (two_lack a b (narrow a f.0) (narrow b f.1))
command_lacks (commands.Describe a) f = worded (codes "describe ") (decimal a) refl (digits a (narrow a f))
command_lacks commands.Join f = lacks 61 (codes "join") refl
command_lacks commands.Leave f = lacks 61 (codes "leave") refl

line_lacks : (m : ℕ) (c : Command) → m < 2 ^ 32 → CommandFits c → Lacks 61 (command_line m c ++ 32 ∷ [])
line_lacks m c h f = lacks_both (command_line m c) (32 ∷ []) (behind m (command_text c) (narrow m h) (command_lacks c f)) (lacks 61 (32 ∷ []) refl)

entry_only : (version : Version) (x : Entry) → x.mutator < 2 ^ 32 → CommandFits x.command → ReplyFits x.reply → IsOf x.command version → entry_in version (entry_line x) ≡ Some x
unfolding entry_in
entry_only version x h f g is = rw (arrow_only (command_line x.mutator x.command) (reply_text x.reply) (line_lacks x.mutator x.command h f), (exact_mutator_and_command version).only (x.mutator, x.command) (h, (f, is)), exact_reply.only x.reply g) refl

line_found : (version : Version) (bytes : List ℕ) (l : EntryLine) → entry_line_in version bytes ≡ Some l → SpellsEntry version bytes l
unfolding entry_line_in
line_found version bytes l e = elim (chosen (is_skipped bytes) _ _ l e) [
  | inl h ↦ told (SpellsEntry version bytes) lines.Skip l h.0 h.1
  | inr r ↦ bind_parts (entry_in version bytes) _ l r.1 (λ x ex e1. told (SpellsEntry version bytes) (lines.Entry x) l (entry_found version bytes x ex) e1)
]

-- a line that begins with a digit is an entry or nothing
by_digit : (version : Version) (front rest : List ℕ) → 0 < length front → 48 ≤ get_or front 0 0 → entry_line_in version (front ++ rest) ≡ (entry_in version (front ++ rest) >>= λ x. Some (lines.Entry x))
unfolding entry_line_in
by_digit version [] rest some low = absurd (omega (arith, some))
by_digit version (b ∷ bs) rest some low = let other : eqb b 35 ≡ false = ne_eqb b 35 (λ e. omega arith) in rw other refl

-- an entry, as a number and the rest
abbrev tail : Entry → List ℕ
tail x = 32 ∷ (command_text x.command ++ (codes " => " ++ reply_text x.reply))

regrouped : (x : Entry) → entry_line x ≡ decimal x.mutator ++ tail x
regrouped x =
    append_assoc (command_line x.mutator x.command) (codes " => ") (reply_text x.reply)
    ∙ append_assoc (decimal x.mutator) (32 ∷ command_text x.command) (codes " => " ++ reply_text x.reply)

line_only : (version : Version) (bytes : List ℕ) (l : EntryLine) → SpellsEntry version bytes l → entry_line_in version bytes ≡ Some l
unfolding entry_line_in
line_only version bytes lines.Skip h = rw h refl
line_only version bytes (lines.Entry x) h =
    let small = narrow x.mutator h.1 in
    let d = digit_at (decimal x.mutator) 0 (digits_decimal read_digits x.mutator small) (decimal_nonempty x.mutator small) in
    ap (entry_line_in version) h.0
    ∙ ap (entry_line_in version) (regrouped x)
    ∙ by_digit version (decimal x.mutator) (tail x) (decimal_nonempty x.mutator small) d.0
    ∙ ap (λ o. o >>= λ y. Some (lines.Entry y)) (ap (entry_in version) (sym (regrouped x)) ∙ entry_only version x h.1 h.2 h.3 h.4)

pub read_found : (version : Version) (bytes : List ℕ) (o : Option EntryLine) → o ≡ entry_line_in version bytes → IfSome o (SpellsEntry version bytes)
read_found version bytes None e = tt
read_found version bytes (Some l) e = line_found version bytes l (sym e)

pub read_only : (version : Version) (bytes : List ℕ) (o : Option EntryLine) → o ≡ entry_line_in version bytes → (l : EntryLine) → SpellsEntry version bytes l → o ≡ Some l
read_only version bytes o e l h = e ∙ line_only version bytes l h
