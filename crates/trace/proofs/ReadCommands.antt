-- Reading a command is exact.
use Rattle.std.proofs.Common.{◌≡◌, ℕ, ◌^◌, ◌<◌, inl, inr, List, ◌∷◌, ◌++◌, Some, None, Option, ap, ◌∙◌, refl}
use Rattle.std.specs.Prelude.{decimal, codes}
use Rattle.std.specs.Str.{bytes_eq}
use Rattle.std.proofs.lemmas.Slice.Eq.{bytes_eq-Decides}
use Rattle.graph_heap.specs.declared.command.Shape.{Shape}
use Rattle.graph_heap.specs.declared.command.Shape.TheVariants.{Plain, RefArray, WordArray}
use Rattle.graph_heap.specs.declared.command.Command.{Command}
use Rattle.graph_heap.specs.declared.command.Command.TheVariants as commands
use Rattle.trace.specs.declared.commands.Keyword.{Keyword}
use Rattle.trace.specs.declared.commands.Keyword.TheVariants as keywords
use Rattle.trace.specs.declared.version.Version.{Version}
use Rattle.trace.specs.declared.version.Version.TheVariants.{First, Second}
use Rattle.trace.specs.Spelling.{shape_text, keyword_text, command_text, command_line, ShapeFits, CommandFits, IsOf}
use Rattle.trace.specs.Reading.{◌>>=◌, after_in, keywords_by, first_keyword_in, front_keyword_in, shape_in, slot_and_shape_in, arguments_in, bare_in, keyword_or, command_in, mutator_and_command_in}
use Rattle.trace.proofs.Keywords.{front_keyword_in-spelled, front_keyword_in-Some}
use Rattle.trace.proofs.Exact.{bind_parts, told, chosen, word_or, made_of, Exact, narrow, wide, exact_number, exact_front, exact_two, exact_three, exact_four}

abbrev SpellsShape : List ℕ → Shape → Type 0
SpellsShape bytes s = (bytes ≡ shape_text s) × ShapeFits s

shape_found : (bytes : List ℕ) (s : Shape) → shape_in bytes ≡ Some s → SpellsShape bytes s
unfolding shape_in
shape_found bytes s e =
    word_or (after_in (codes "plain ") bytes) _ _ s e
    (λ rest front r. made_of SpellsShape (codes "plain ") bytes rest _ _ _ (exact_two 32 32 narrow narrow) (λ n. Plain n.0 n.1) (λ n f. (refl, f)) s front r)
    (λ e1. word_or (after_in (codes "refs ") bytes) _ _ s e1
    (λ rest front r. made_of SpellsShape (codes "refs ") bytes rest _ _ _ (exact_number 32 narrow) RefArray (λ n f. (refl, f)) s front r)
    (λ e2. word_or (after_in (codes "words ") bytes) _ _ s e2
    (λ rest front r. made_of SpellsShape (codes "words ") bytes rest _ _ _ (exact_number 32 narrow) WordArray (λ n f. (refl, f)) s front r)
    (λ e3. absurd (cc e3))))

shape_only : (s : Shape) → ShapeFits s → shape_in (shape_text s) ≡ Some s
unfolding shape_in after_in
shape_only (Plain refs words) f = rw ((exact_two 32 32 narrow narrow).only (refs, words) f) refl
shape_only (RefArray n) f = rw ((exact_number 32 narrow).only n f) refl
shape_only (WordArray n) f = rw ((exact_number 32 narrow).only n f) refl

pub exact_shape : Exact shape_in shape_text ShapeFits
exact_shape = record { found = shape_found; only = shape_only }

exact_slot_and_shape : Exact slot_and_shape_in (λ p. decimal p.0 ++ 32 ∷ shape_text p.1) (λ p. (p.0 < 2 ^ 32) × ShapeFits p.1)
exact_slot_and_shape = exact_front 32 narrow shape_in shape_text ShapeFits exact_shape

-- the text of a command that a version has
abbrev SpellsCommand : Version → List ℕ → Command → Type 0
SpellsCommand version bytes c = (bytes ≡ command_text c) × CommandFits c × IsOf c version

-- the value of a reader, made into a command
made : {A : Type 0} (version : Version) (read : List ℕ → Option A) (text : A → List ℕ) (Fits : A → Type 0) → Exact read text Fits → (k : Keyword) (f : A → Command) → ((x : A) → Fits x → SpellsCommand version (keyword_text k ++ 32 ∷ text x) (f x))
    → (rest : List ℕ) (c : Command) → (read rest >>= λ x. Some (f x)) ≡ Some c → SpellsCommand version (keyword_text k ++ 32 ∷ rest) c
made version read text Fits exact k f is rest c e = bind_parts (read rest) _ c e (λ x ex e1.
    let r = exact.found rest x ex in
    let t = is x r.1 in
    told (SpellsCommand version (keyword_text k ++ 32 ∷ rest)) (f x) c (ap (λ l. keyword_text k ++ 32 ∷ l) r.0 ∙ t.0, t.1, t.2) e1)

arguments_found : (version : Version) (k : Keyword) (rest : List ℕ) (c : Command) → arguments_in k rest ≡ Some c → SpellsCommand version (keyword_text k ++ 32 ∷ rest) c
unfolding arguments_in
arguments_found version keywords.New = made version _ _ _ exact_slot_and_shape keywords.New (λ n. commands.New n.0 n.1) (λ n f. (refl, f, tt))
arguments_found version keywords.Load = made version _ _ _ (exact_three 32 32 32 narrow narrow narrow) keywords.Load (λ n. commands.Load n.0 n.1.0 n.1.1) (λ n f. (refl, (f.0, f.1.0, f.1.1), tt))
arguments_found version keywords.Store = made version _ _ _ (exact_three 32 32 32 narrow narrow narrow) keywords.Store (λ n. commands.Store n.0 n.1.0 n.1.1) (λ n f. (refl, (f.0, f.1.0, f.1.1), tt))
arguments_found version keywords.CompareStore = made version _ _ _ (exact_four 32 32 32 32 narrow narrow narrow narrow) keywords.CompareStore (λ n. commands.CompareStore n.0 n.1.0 n.1.1.0 n.1.1.1) (λ n f. (refl, (f.0, f.1.0, f.1.1.0, f.1.1.1), tt))
arguments_found version keywords.Get = made version _ _ _ (exact_two 32 32 narrow narrow) keywords.Get (λ n. commands.Get n.0 n.1) (λ n f. (refl, f, tt))
arguments_found version keywords.Put = made version _ _ _ (exact_three 32 32 64 narrow narrow wide) keywords.Put (λ n. commands.Put n.0 n.1.0 n.1.1) (λ n f. (refl, (f.0, f.1.0, f.1.1), tt))
arguments_found version keywords.ComparePut = made version _ _ _ (exact_four 32 32 64 64 narrow narrow wide wide) keywords.ComparePut (λ n. commands.ComparePut n.0 n.1.0 n.1.1.0 n.1.1.1) (λ n f. (refl, (f.0, f.1.0, f.1.1.0, f.1.1.1), tt))
arguments_found version keywords.Copy = made version _ _ _ (exact_two 32 32 narrow narrow) keywords.Copy (λ n. commands.Copy n.0 n.1) (λ n f. (refl, f, tt))
arguments_found version keywords.Clear = made version _ _ _ (exact_number 32 narrow) keywords.Clear (λ n. commands.Clear n) (λ n f. (refl, f, tt))
arguments_found version keywords.LoadStatic = made version _ _ _ (exact_two 32 32 narrow narrow) keywords.LoadStatic (λ n. commands.LoadStatic n.0 n.1) (λ n f. (refl, f, tt))
arguments_found version keywords.StoreStatic = made version _ _ _ (exact_two 32 32 narrow narrow) keywords.StoreStatic (λ n. commands.StoreStatic n.0 n.1) (λ n f. (refl, f, tt))
arguments_found version keywords.CompareStatic = made version _ _ _ (exact_three 32 32 32 narrow narrow narrow) keywords.CompareStatic (λ n. commands.CompareStatic n.0 n.1.0 n.1.1) (λ n f. (refl, (f.0, f.1.0, f.1.1), tt))
arguments_found version keywords.Same = made version _ _ _ (exact_two 32 32 narrow narrow) keywords.Same (λ n. commands.Same n.0 n.1) (λ n f. (refl, f, tt))
arguments_found version keywords.Describe = made version _ _ _ (exact_number 32 narrow) keywords.Describe (λ n. commands.Describe n) (λ n f. (refl, f, tt))

-- a command is read again, if its arguments are
again : {A : Type 0} (version : Version) (read : List ℕ → Option A) (text : A → List ℕ) (Fits : A → Type 0) → Exact read text Fits → (k : Keyword) (f : A → Command) → ((bytes : List ℕ) → arguments_in k bytes ≡ (read bytes >>= λ y. Some (f y)))
    → (x : A) → Fits x → command_in version (keyword_text k ++ 32 ∷ text x) ≡ Some (f x)
unfolding command_in
again version read text Fits exact k f is x h =
    rw (front_keyword_in-spelled k (text x)) (is (text x) ∙ ap (λ o. o >>= λ y. Some (f y)) (exact.only x h))

-- a word alone
bare_found : (version : Version) (bytes : List ℕ) (c : Command) → bare_in version bytes ≡ Some c → SpellsCommand version bytes c
unfolding bare_in
bare_found First bytes c e = absurd (cc)
bare_found Second bytes c e = elim (chosen (bytes_eq bytes (codes "join")) _ _ c e) [
  | inl h ↦ told (SpellsCommand Second bytes) commands.Join c ((bytes_eq-Decides bytes (codes "join")).0 h.0, tt, tt) h.1
  | inr r ↦ elim (chosen (bytes_eq bytes (codes "leave")) _ _ c r.1) [
    | inl h ↦ told (SpellsCommand Second bytes) commands.Leave c ((bytes_eq-Decides bytes (codes "leave")).0 h.0, tt, tt) h.1
    | inr r ↦ absurd (cc r.1)
  ]
]

-- either a keyword was read or a word alone
either : {P : Type 0} (o : Option (Keyword × List ℕ)) (bare : Option Command) (c : Command) → keyword_or o bare ≡ Some c → ((p : Keyword × List ℕ) → o ≡ Some p → arguments_in p.0 p.1 ≡ Some c → P) → (bare ≡ Some c → P) → P
either None bare c e f g = g e
either (Some p) bare c e f g = f p refl e

command_found : (version : Version) (bytes : List ℕ) (c : Command) → command_in version bytes ≡ Some c → SpellsCommand version bytes c
unfolding command_in
command_found version bytes c e =
    either (front_keyword_in bytes) (bare_in version bytes) c e
    (λ p ep e1. let r = arguments_found version p.0 p.1 c e1 in (front_keyword_in-Some bytes p ep ∙ r.0, r.1, r.2))
    (bare_found version bytes c)

command_only : (version : Version) (c : Command) → CommandFits c → IsOf c version → command_in version (command_text c) ≡ Some c
unfolding arguments_in command_in front_keyword_in keywords_by first_keyword_in after_in bare_in
command_only version (commands.New dst shape) f is = again version _ _ _ exact_slot_and_shape keywords.New (λ n. commands.New n.0 n.1) (λ bytes. refl) (dst, shape) f
command_only version (commands.Load dst obj i) f is = again version _ _ _ (exact_three 32 32 32 narrow narrow narrow) keywords.Load (λ n. commands.Load n.0 n.1.0 n.1.1) (λ bytes. refl) (dst, (obj, i)) (f.0, (f.1, f.2))
command_only version (commands.Store obj i src) f is = again version _ _ _ (exact_three 32 32 32 narrow narrow narrow) keywords.Store (λ n. commands.Store n.0 n.1.0 n.1.1) (λ bytes. refl) (obj, (i, src)) (f.0, (f.1, f.2))
command_only version (commands.CompareStore obj i expect new) f is = again version _ _ _ (exact_four 32 32 32 32 narrow narrow narrow narrow) keywords.CompareStore (λ n. commands.CompareStore n.0 n.1.0 n.1.1.0 n.1.1.1) (λ bytes. refl) (obj, (i, (expect, new))) (f.0, (f.1, (f.2, f.3)))
command_only version (commands.Get obj i) f is = again version _ _ _ (exact_two 32 32 narrow narrow) keywords.Get (λ n. commands.Get n.0 n.1) (λ bytes. refl) (obj, i) f
command_only version (commands.Put obj i word) f is = again version _ _ _ (exact_three 32 32 64 narrow narrow wide) keywords.Put (λ n. commands.Put n.0 n.1.0 n.1.1) (λ bytes. refl) (obj, (i, word)) (f.0, (f.1, f.2))
command_only version (commands.ComparePut obj i old new) f is = again version _ _ _ (exact_four 32 32 64 64 narrow narrow wide wide) keywords.ComparePut (λ n. commands.ComparePut n.0 n.1.0 n.1.1.0 n.1.1.1) (λ bytes. refl) (obj, (i, (old, new))) (f.0, (f.1, (f.2, f.3)))
command_only version (commands.Copy dst src) f is = again version _ _ _ (exact_two 32 32 narrow narrow) keywords.Copy (λ n. commands.Copy n.0 n.1) (λ bytes. refl) (dst, src) f
command_only version (commands.Clear dst) f is = again version _ _ _ (exact_number 32 narrow) keywords.Clear (λ n. commands.Clear n) (λ bytes. refl) dst f
command_only version (commands.LoadStatic dst k) f is = again version _ _ _ (exact_two 32 32 narrow narrow) keywords.LoadStatic (λ n. commands.LoadStatic n.0 n.1) (λ bytes. refl) (dst, k) f
command_only version (commands.StoreStatic k src) f is = again version _ _ _ (exact_two 32 32 narrow narrow) keywords.StoreStatic (λ n. commands.StoreStatic n.0 n.1) (λ bytes. refl) (k, src) f
command_only version (commands.CompareStatic k expect new) f is = again version _ _ _ (exact_three 32 32 32 narrow narrow narrow) keywords.CompareStatic (λ n. commands.CompareStatic n.0 n.1.0 n.1.1) (λ bytes. refl) (k, (expect, new)) (f.0, (f.1, f.2))
command_only version (commands.Same a b) f is = again version _ _ _ (exact_two 32 32 narrow narrow) keywords.Same (λ n. commands.Same n.0 n.1) (λ bytes. refl) (a, b) f
command_only version (commands.Describe a) f is = again version _ _ _ (exact_number 32 narrow) keywords.Describe (λ n. commands.Describe n) (λ bytes. refl) a f
command_only First commands.Join f is = absurd is
command_only First commands.Leave f is = absurd is
command_only Second commands.Join f is = refl
command_only Second commands.Leave f is = refl

-- the numbers of a command fit, and a version has it
abbrev pub FitsIn : Version → Command → Type 0
FitsIn version c = CommandFits c × IsOf c version

pub exact_command : (version : Version) → Exact (command_in version) command_text (FitsIn version)
exact_command version = record { found = λ bytes c e. let r = command_found version bytes c e in (r.0, (r.1, r.2)); only = λ c f. command_only version c f.0 f.1 }

pub exact_mutator_and_command : (version : Version) → Exact (mutator_and_command_in version) (λ p. command_line p.0 p.1) (λ p. (p.0 < 2 ^ 32) × FitsIn version p.1)
unfolding mutator_and_command_in
exact_mutator_and_command version = exact_front 32 narrow (command_in version) command_text (FitsIn version) (exact_command version)
