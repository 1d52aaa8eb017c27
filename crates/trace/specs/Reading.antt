-- The reading of private functions, as functions on lists. Spelling has the promises.
use Rattle.std.specs.Prelude.{ℕ, ◌+◌, ◌-◌, ◌^◌, true, false, ◌&&◌, nat_lt, nat_le, ◌==◌, if◌then◌else◌, List, [], ◌∷◌, ◌++◌, length, take, drop, get_or, codes, decimal, Option, Some, None, position, find}
use Rattle.std.specs.Str.{bytes_eq}
use Rattle.std.specs.Str.Parse.{digits_value}
use Rattle.graph_heap.specs.declared.command.Shape.{Shape}
use Rattle.graph_heap.specs.declared.command.Shape.TheVariants.{Plain, RefArray, WordArray}
use Rattle.graph_heap.specs.declared.command.Command.{Command}
use Rattle.graph_heap.specs.declared.command.Command.TheVariants as commands
use Rattle.graph_heap.specs.declared.command.Reply.{Reply}
use Rattle.graph_heap.specs.declared.command.Reply.TheVariants as replies
use Rattle.graph_heap.specs.declared.command.Refusal.{Refusal}
use Rattle.graph_heap.specs.declared.command.Refusal.TheVariants as refusals
use Rattle.graph_heap.specs.declared.command.Entry.{Entry}
use Rattle.graph_heap.specs.Refusal.{refusal_number}
use Rattle.quanta.specs.declared.schedule.TheConstants.{CLOCK_LIMIT}
use Rattle.size_classes.specs.declared.config.TheConstants.{LEAST_BUDGET, MOST_BUDGET}
use Rattle.trace.specs.Spelling.{is_skipped, keyword_text}
use Rattle.trace.specs.declared.entry.EntryLine.{EntryLine}
use Rattle.trace.specs.declared.entry.EntryLine.TheVariants as entry_lines
use Rattle.trace.specs.declared.commands.Keyword.{Keyword}
use Rattle.trace.specs.declared.commands.Keyword.TheVariants as keywords
use Rattle.trace.specs.declared.line.Line.{Line}
use Rattle.trace.specs.declared.line.Line.TheVariants as lines
use Rattle.trace.specs.declared.version.Version.{Version}
use Rattle.trace.specs.declared.version.Version.TheVariants.{First, Second}

infixl 10 ◌>>=◌
abbrev pub ◌>>=◌ : {A B : Type 0} → Option A → (A → Option B) → Option B
None >>= f = None
(Some x) >>= f = f x

-- the number below 2 ^ bits that the bytes spell
unfoldable pub number_in : ℕ → List ℕ → Option ℕ
number_in bits bytes = if nat_lt (digits_value 10 bytes) (2 ^ bits) && bytes_eq bytes (decimal (digits_value 10 bytes))
    then Some (digits_value 10 bytes) else None

-- the bytes before the first such byte, and those after it
unfoldable pub cut_at : ℕ → List ℕ → Option (List ℕ × List ℕ)
cut_at byte bytes = do
  i ← position (λ b. b == byte) bytes
  Some (take i bytes, drop (i + 1) bytes)

-- the number before the first blank, and the bytes after it
unfoldable pub field_in : ℕ → List ℕ → Option (ℕ × List ℕ)
field_in bits bytes = do
  c ← cut_at 32 bytes
  n ← number_in bits c.0
  Some (n, c.1)

-- the value before the first blank, and after it the result of another reader
abbrev pub lead_then : {A B : Type 0} → (List ℕ → Option (A × List ℕ)) → (List ℕ → Option B) → List ℕ → Option (A × B)
lead_then lead read bytes = lead bytes >>= λ a. read a.1 >>= λ b. Some (a.0, b)

-- a number of this many bits, a blank, and after it the result of another reader
abbrev pub number_then : {A : Type 0} → ℕ → (List ℕ → Option A) → List ℕ → Option (ℕ × A)
number_then bits = lead_then (field_in bits)

-- numbers of a and b bits, separated by a blank
abbrev pub two_in : ℕ → ℕ → List ℕ → Option (ℕ × ℕ)
two_in a b = number_then a (number_in b)

abbrev pub three_in : ℕ → ℕ → ℕ → List ℕ → Option (ℕ × (ℕ × ℕ))
three_in a b c = number_then a (two_in b c)

abbrev pub four_in : ℕ → ℕ → ℕ → ℕ → List ℕ → Option (ℕ × (ℕ × (ℕ × ℕ)))
four_in a b c d = number_then a (three_in b c d)

-- the bytes after a word at the front
unfoldable pub after_in : List ℕ → List ℕ → Option (List ℕ)
after_in word bytes = if bytes_eq (take (length word) bytes) word then Some (drop (length word) bytes) else None

-- the kinds of commands that compare and then write
abbrev pub comparing : List Keyword
comparing = keywords.CompareStore ∷ keywords.ComparePut ∷ keywords.CompareStatic ∷ []

-- the kinds whose words begin with these two bytes; if no word does, some of the kinds
unfoldable pub keywords_by : ℕ → ℕ → List Keyword
keywords_by first second =
    if first == 110 then keywords.New ∷ [] else
    if first == 103 then keywords.Get ∷ [] else
    if first == 112 then keywords.Put ∷ [] else
    if first == 100 then keywords.Describe ∷ [] else
    if first == 108 then keywords.Load ∷ keywords.LoadStatic ∷ [] else
    if first == 115 then (if second == 97 then keywords.Same ∷ [] else keywords.Store ∷ keywords.StoreStatic ∷ []) else
    if second == 111 then keywords.Copy ∷ [] else
    if second == 108 then keywords.Clear ∷ [] else comparing

-- a kind and the bytes after its word, if they were found; if not, another result
abbrev pub found_or : Keyword → Option (List ℕ) → Option (Keyword × List ℕ) → Option (Keyword × List ℕ)
found_or k None other = other
found_or k (Some rest) other = Some (k, rest)

-- the first of these kinds whose word is at the front, and the bytes after it and a blank
unfoldable pub first_keyword_in : List Keyword → List ℕ → Option (Keyword × List ℕ)
first_keyword_in [] bytes = None
first_keyword_in (k ∷ ks) bytes = found_or k (after_in (keyword_text k ++ codes " ") bytes) (first_keyword_in ks bytes)

-- the kind whose word is at the front, and the bytes after it and a blank
unfoldable pub front_keyword_in : List ℕ → Option (Keyword × List ℕ)
front_keyword_in bytes = first_keyword_in (keywords_by (get_or bytes 0 0) (get_or bytes 1 0)) bytes

-- the result of a reader for the bytes after a word at the front; if there are none, another result
abbrev pub after_or : {A : Type 0} → Option (List ℕ) → (List ℕ → Option A) → Option A → Option A
after_or None read other = other
after_or (Some rest) read other = read rest

-- a shape
unfoldable pub shape_in : List ℕ → Option Shape
shape_in bytes =
    after_or (after_in (codes "plain ") bytes) (λ rest. two_in 32 32 rest >>= (λ n. Some (Plain n.0 n.1)))
    (after_or (after_in (codes "refs ") bytes) (λ rest. number_in 32 rest >>= (λ n. Some (RefArray n)))
    (after_or (after_in (codes "words ") bytes) (λ rest. number_in 32 rest >>= (λ n. Some (WordArray n))) None))

-- a slot and a shape
abbrev pub slot_and_shape_in : List ℕ → Option (ℕ × Shape)
slot_and_shape_in = number_then 32 shape_in

-- the arguments of a command, after its keyword
unfoldable pub arguments_in : Keyword → List ℕ → Option Command
arguments_in keywords.New bytes = slot_and_shape_in bytes >>= λ n. Some (commands.New n.0 n.1)
arguments_in keywords.Load bytes = three_in 32 32 32 bytes >>= λ n. Some (commands.Load n.0 n.1.0 n.1.1)
arguments_in keywords.Store bytes = three_in 32 32 32 bytes >>= λ n. Some (commands.Store n.0 n.1.0 n.1.1)
arguments_in keywords.CompareStore bytes =
    four_in 32 32 32 32 bytes >>= λ n. Some (commands.CompareStore n.0 n.1.0 n.1.1.0 n.1.1.1)
arguments_in keywords.Get bytes = two_in 32 32 bytes >>= λ n. Some (commands.Get n.0 n.1)
arguments_in keywords.Put bytes = three_in 32 32 64 bytes >>= λ n. Some (commands.Put n.0 n.1.0 n.1.1)
arguments_in keywords.ComparePut bytes =
    four_in 32 32 64 64 bytes >>= λ n. Some (commands.ComparePut n.0 n.1.0 n.1.1.0 n.1.1.1)
arguments_in keywords.Copy bytes = two_in 32 32 bytes >>= λ n. Some (commands.Copy n.0 n.1)
arguments_in keywords.Clear bytes = number_in 32 bytes >>= λ n. Some (commands.Clear n)
arguments_in keywords.LoadStatic bytes = two_in 32 32 bytes >>= λ n. Some (commands.LoadStatic n.0 n.1)
arguments_in keywords.StoreStatic bytes = two_in 32 32 bytes >>= λ n. Some (commands.StoreStatic n.0 n.1)
arguments_in keywords.CompareStatic bytes =
    three_in 32 32 32 bytes >>= λ n. Some (commands.CompareStatic n.0 n.1.0 n.1.1)
arguments_in keywords.Same bytes = two_in 32 32 bytes >>= λ n. Some (commands.Same n.0 n.1)
arguments_in keywords.Describe bytes = number_in 32 bytes >>= λ n. Some (commands.Describe n)

-- a command that is a word alone
unfoldable pub bare_in : Version → List ℕ → Option Command
bare_in First bytes = None
bare_in Second bytes =
    if bytes_eq bytes (codes "join") then Some commands.Join else
    if bytes_eq bytes (codes "leave") then Some commands.Leave else None

-- the command after a keyword; if there is no keyword, a command without arguments
abbrev pub keyword_or : Option (Keyword × List ℕ) → Option Command → Option Command
keyword_or None bare = bare
keyword_or (Some c) bare = arguments_in c.0 c.1

-- a command
unfoldable pub command_in : Version → List ℕ → Option Command
command_in version bytes = keyword_or (front_keyword_in bytes) (bare_in version bytes)

-- a command of a mutator
unfoldable pub mutator_and_command_in : Version → List ℕ → Option (ℕ × Command)
mutator_and_command_in version = number_then 32 (command_in version)

-- a line for the collector
unfoldable pub collector_in : List ℕ → Option Line
collector_in bytes = if bytes_eq bytes (codes "begin") then Some lines.Begin else (do
  c ← cut_at 32 bytes
  n ← number_in 64 c.1
  if bytes_eq c.0 (codes "quantum") && (nat_le LEAST_BUDGET n && nat_le n MOST_BUDGET) then Some (lines.Quantum n) else
      if bytes_eq c.0 (codes "tick") && (nat_le 1 n && nat_le n CLOCK_LIMIT) then Some (lines.Tick n) else None)

-- a line that isn't skipped, by its first byte: a digit, or something else
abbrev pub event_in : Version → List ℕ → Option Line
event_in version [] = collector_in []
event_in version (first ∷ rest) = if nat_le 48 first && nat_le first 57
    then mutator_and_command_in version (first ∷ rest) >>= (λ a. Some (lines.Command a.0 a.1))
    else collector_in (first ∷ rest)

unfoldable pub line_in : Version → List ℕ → Option Line
line_in version bytes = if is_skipped bytes then Some lines.Skip else event_in version bytes

-- all refusals, in the order of their numbers
abbrev pub all_refusals : List Refusal
all_refusals = refusals.BadSlot ∷ refusals.NullSlot ∷ refusals.BadIndex ∷ refusals.WrongKind ∷ refusals.TooLarge
    ∷ refusals.IdentitiesSpent ∷ refusals.NoSpace ∷ refusals.BadStatic ∷ refusals.NotLive ∷ refusals.AlreadyLive ∷ []

unfoldable pub refusal_in : ℕ → Option Refusal
refusal_in n = find (λ r. refusal_number r == n) all_refusals

-- an identity and a shape
abbrev pub identity_and_shape_in : List ℕ → Option (ℕ × Shape)
identity_and_shape_in = number_then 64 shape_in

-- a refusal by its number, as a reply
unfoldable pub refused_in : List ℕ → Option Reply
refused_in bytes = number_in 64 bytes >>= λ n. refusal_in n >>= λ r. Some (replies.Refused r)

-- a reply of several words, by the first of them
unfoldable pub long_reply_in : List ℕ → Option Reply
long_reply_in bytes =
    after_or (after_in (codes "made ") bytes) (λ rest. number_in 64 rest >>= (λ n. Some (replies.Made n)))
    (after_or (after_in (codes "ref ") bytes) (λ rest. number_in 64 rest >>= (λ n. Some (replies.Ref n)))
    (after_or (after_in (codes "word ") bytes) (λ rest. number_in 64 rest >>= (λ n. Some (replies.Word n)))
    (after_or (after_in (codes "kept ") bytes) (λ rest. number_in 64 rest >>= (λ n. Some (replies.Kept n)))
    (after_or (after_in (codes "keptword ") bytes) (λ rest. number_in 64 rest >>= (λ n. Some (replies.KeptWord n)))
    (after_or (after_in (codes "described ") bytes)
    (λ rest. identity_and_shape_in rest >>= (λ n. Some (replies.Described n.0 n.1)))
    (after_or (after_in (codes "refused ") bytes) refused_in None))))))

-- a reply
unfoldable pub reply_in : List ℕ → Option Reply
reply_in bytes =
    if bytes_eq bytes (codes "done") then Some replies.Done else
    if bytes_eq bytes (codes "stored") then Some replies.Stored else
    if bytes_eq bytes (codes "is yes") then Some (replies.Is true) else
    if bytes_eq bytes (codes "is no") then Some (replies.Is false) else long_reply_in bytes

-- the bytes before the blank at the end
unfoldable pub before_blank_in : List ℕ → Option (List ℕ)
before_blank_in bytes = if bytes_eq (drop (length bytes - 1) bytes) (codes " ")
    then Some (take (length bytes - 1) bytes) else None

-- the bytes before the arrow " => ", and those after it
unfoldable pub arrow_in : List ℕ → Option (List ℕ × List ℕ)
arrow_in bytes = do
  c ← cut_at 61 bytes
  front ← before_blank_in c.0
  back ← after_in (codes "> ") c.1
  Some (front, back)

-- an entry
unfoldable pub entry_in : Version → List ℕ → Option Entry
entry_in version bytes = do
  c ← arrow_in bytes
  a ← mutator_and_command_in version c.0
  r ← reply_in c.1
  Some (record { mutator = a.0; command = a.1; reply = r })

-- a line of a history
unfoldable pub entry_line_in : Version → List ℕ → Option EntryLine
entry_line_in version bytes = if is_skipped bytes then Some entry_lines.Skip
    else (entry_in version bytes >>= λ e. Some (entry_lines.Entry e))
