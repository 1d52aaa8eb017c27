-- The grammar of traces and histories: how commands, lines, replies and entries are spelled, and which commands a
-- version has.
use Rattle.std.specs.Prelude.{◌≡◌, ℕ, ◌^◌, ◌<◌, ◌≤◌, ◌==◌, Bool, true, false, IsTrue, List, [], ◌∷◌, ◌++◌, codes, decimal}
use Rattle.graph_heap.specs.declared.command.Shape.{Shape}
use Rattle.graph_heap.specs.declared.command.Shape.TheVariants.{Plain, RefArray, WordArray}
use Rattle.graph_heap.specs.declared.command.Command.{Command}
use Rattle.graph_heap.specs.declared.command.Command.TheVariants as commands
use Rattle.graph_heap.specs.declared.command.Reply.{Reply}
use Rattle.graph_heap.specs.declared.command.Reply.TheVariants as replies
use Rattle.graph_heap.specs.declared.command.Entry.{Entry}
use Rattle.graph_heap.specs.Refusal.{refusal_number}
use Rattle.quanta.specs.declared.schedule.TheConstants.{CLOCK_LIMIT}
use Rattle.size_classes.specs.declared.config.TheConstants.{LEAST_BUDGET, MOST_BUDGET}
use Rattle.trace.specs.declared.entry.EntryLine.{EntryLine}
use Rattle.trace.specs.declared.entry.EntryLine.TheVariants as entry_lines
use Rattle.trace.specs.declared.commands.Keyword.{Keyword}
use Rattle.trace.specs.declared.commands.Keyword.TheVariants as keywords
use Rattle.trace.specs.declared.line.Line.{Line}
use Rattle.trace.specs.declared.line.Line.TheVariants as lines
use Rattle.trace.specs.declared.version.Version.{Version}
use Rattle.trace.specs.declared.version.Version.TheVariants.{First}

-- the line that tells the second version, as the first of a text
abbrev pub version_line : List ℕ
version_line = codes "version 2"

-- a line tells the version of the lines after it: it is number 1, and the line of the second version
abbrev pub TellsVersion : ℕ → List ℕ → Type 0
TellsVersion number line = (number ≡ 1) × (line ≡ version_line)

-- two numbers in decimal, without leading zeros, separated by one blank (byte 32)
abbrev pub two : ℕ → ℕ → List ℕ
two a b = decimal a ++ 32 ∷ decimal b

-- three numbers in decimal
abbrev pub three : ℕ → ℕ → ℕ → List ℕ
three a b c = decimal a ++ 32 ∷ two b c

-- four numbers in decimal
abbrev pub four : ℕ → ℕ → ℕ → ℕ → List ℕ
four a b c d = decimal a ++ 32 ∷ three b c d

-- a shape
abbrev pub shape_text : Shape → List ℕ
shape_text (Plain refs words) = codes "plain " ++ two refs words
shape_text (RefArray n) = codes "refs " ++ decimal n
shape_text (WordArray n) = codes "words " ++ decimal n

-- the word with which a command begins
abbrev pub keyword_text : Keyword → List ℕ
keyword_text keywords.New = codes "new"
keyword_text keywords.Load = codes "load"
keyword_text keywords.Store = codes "store"
keyword_text keywords.CompareStore = codes "cas"
keyword_text keywords.Get = codes "get"
keyword_text keywords.Put = codes "put"
keyword_text keywords.ComparePut = codes "casput"
keyword_text keywords.Copy = codes "copy"
keyword_text keywords.Clear = codes "clear"
keyword_text keywords.LoadStatic = codes "loadstatic"
keyword_text keywords.StoreStatic = codes "storestatic"
keyword_text keywords.CompareStatic = codes "casstatic"
keyword_text keywords.Same = codes "same"
keyword_text keywords.Describe = codes "describe"

-- a command
abbrev pub command_text : Command → List ℕ
command_text (commands.New dst shape) = keyword_text keywords.New ++ 32 ∷ decimal dst ++ 32 ∷ shape_text shape
command_text (commands.Load dst obj i) = keyword_text keywords.Load ++ 32 ∷ three dst obj i
command_text (commands.Store obj i src) = keyword_text keywords.Store ++ 32 ∷ three obj i src
command_text (commands.CompareStore obj i expect new) = keyword_text keywords.CompareStore ++ 32 ∷ four obj i expect new
command_text (commands.Get obj i) = keyword_text keywords.Get ++ 32 ∷ two obj i
command_text (commands.Put obj i word) = keyword_text keywords.Put ++ 32 ∷ three obj i word
command_text (commands.ComparePut obj i old new) = keyword_text keywords.ComparePut ++ 32 ∷ four obj i old new
command_text (commands.Copy dst src) = keyword_text keywords.Copy ++ 32 ∷ two dst src
command_text (commands.Clear dst) = keyword_text keywords.Clear ++ 32 ∷ decimal dst
command_text (commands.LoadStatic dst k) = keyword_text keywords.LoadStatic ++ 32 ∷ two dst k
command_text (commands.StoreStatic k src) = keyword_text keywords.StoreStatic ++ 32 ∷ two k src
command_text (commands.CompareStatic k expect new) = keyword_text keywords.CompareStatic ++ 32 ∷ three k expect new
command_text (commands.Same a b) = keyword_text keywords.Same ++ 32 ∷ two a b
command_text (commands.Describe a) = keyword_text keywords.Describe ++ 32 ∷ decimal a
command_text commands.Join = codes "join"
command_text commands.Leave = codes "leave"

-- a command of a mutator
abbrev pub command_line : ℕ → Command → List ℕ
command_line mutator command = decimal mutator ++ 32 ∷ command_text command

-- The numbers of a shape, or of a command, are at most 4294967295, and the words of a command at
-- most 18446744073709551615.
abbrev pub ShapeFits : Shape → Type 0
ShapeFits (Plain refs words) = (refs < 2 ^ 32) × (words < 2 ^ 32)
ShapeFits (RefArray n) = n < 2 ^ 32
ShapeFits (WordArray n) = n < 2 ^ 32

-- the numbers of a command fit in lines
abbrev pub CommandFits : Command → Type 0
CommandFits (commands.New dst shape) = (dst < 2 ^ 32) × ShapeFits shape
CommandFits (commands.Load dst obj i) = (dst < 2 ^ 32) × (obj < 2 ^ 32) × (i < 2 ^ 32)
CommandFits (commands.Store obj i src) = (obj < 2 ^ 32) × (i < 2 ^ 32) × (src < 2 ^ 32)
CommandFits (commands.CompareStore obj i expect new) = (obj < 2 ^ 32) × (i < 2 ^ 32) × (expect < 2 ^ 32)
    × (new < 2 ^ 32)
CommandFits (commands.Get obj i) = (obj < 2 ^ 32) × (i < 2 ^ 32)
CommandFits (commands.Put obj i word) = (obj < 2 ^ 32) × (i < 2 ^ 32) × (word < 2 ^ 64)
CommandFits (commands.ComparePut obj i old new) = (obj < 2 ^ 32) × (i < 2 ^ 32) × (old < 2 ^ 64) × (new < 2 ^ 64)
CommandFits (commands.Copy dst src) = (dst < 2 ^ 32) × (src < 2 ^ 32)
CommandFits (commands.Clear dst) = dst < 2 ^ 32
CommandFits (commands.LoadStatic dst k) = (dst < 2 ^ 32) × (k < 2 ^ 32)
CommandFits (commands.StoreStatic k src) = (k < 2 ^ 32) × (src < 2 ^ 32)
CommandFits (commands.CompareStatic k expect new) = (k < 2 ^ 32) × (expect < 2 ^ 32) × (new < 2 ^ 32)
CommandFits (commands.Same a b) = (a < 2 ^ 32) × (b < 2 ^ 32)
CommandFits (commands.Describe a) = a < 2 ^ 32
CommandFits commands.Join = Unit {0}
CommandFits commands.Leave = Unit {0}

-- the commands of a version: in the first no mutator joins or leaves
abbrev pub IsOf : Command → Version → Type 0
IsOf commands.Join First = ⊥
IsOf commands.Leave First = ⊥
IsOf command version = Unit {0}

-- a skipped line: an empty one, or one whose first byte is # (byte 35), with any bytes after it
abbrev pub is_skipped : List ℕ → Bool
is_skipped [] = true
is_skipped (first ∷ rest) = first == 35

-- In a version the bytes are a spelling of the line. Each line has one spelling, except skipped ones.
abbrev pub Spells : Version → List ℕ → Line → Type 0
Spells version bytes lines.Skip = IsTrue (is_skipped bytes)
Spells version bytes (lines.Command mutator command) = (bytes ≡ command_line mutator command) × (mutator < 2 ^ 32)
    × CommandFits command × IsOf command version
Spells version bytes lines.Begin = bytes ≡ codes "begin"
Spells version bytes (lines.Quantum budget) = (bytes ≡ codes "quantum " ++ decimal budget)
    × (LEAST_BUDGET ≤ budget) × (budget ≤ MOST_BUDGET)
Spells version bytes (lines.Tick ticks) = (bytes ≡ codes "tick " ++ decimal ticks) × (1 ≤ ticks) × (ticks ≤ CLOCK_LIMIT)

-- a reply
abbrev pub reply_text : Reply → List ℕ
reply_text (replies.Made id) = codes "made " ++ decimal id
reply_text (replies.Ref id) = codes "ref " ++ decimal id
reply_text (replies.Word w) = codes "word " ++ decimal w
reply_text replies.Done = codes "done"
reply_text replies.Stored = codes "stored"
reply_text (replies.Kept id) = codes "kept " ++ decimal id
reply_text (replies.KeptWord w) = codes "keptword " ++ decimal w
reply_text (replies.Is true) = codes "is yes"
reply_text (replies.Is false) = codes "is no"
reply_text (replies.Described id shape) = codes "described " ++ decimal id ++ 32 ∷ shape_text shape
reply_text (replies.Refused refusal) = codes "refused " ++ decimal (refusal_number refusal)

-- an entry: the command's line, " => " and the reply
abbrev pub entry_line : Entry → List ℕ
entry_line e = command_line e.mutator e.command ++ codes " => " ++ reply_text e.reply

-- the identities and words of a reply are at most 18446744073709551615
abbrev pub ReplyFits : Reply → Type 0
ReplyFits (replies.Made id) = id < 2 ^ 64
ReplyFits (replies.Ref id) = id < 2 ^ 64
ReplyFits (replies.Word w) = w < 2 ^ 64
ReplyFits replies.Done = Unit {0}
ReplyFits replies.Stored = Unit {0}
ReplyFits (replies.Kept id) = id < 2 ^ 64
ReplyFits (replies.KeptWord w) = w < 2 ^ 64
ReplyFits (replies.Is b) = Unit {0}
ReplyFits (replies.Described id shape) = (id < 2 ^ 64) × ShapeFits shape
ReplyFits (replies.Refused refusal) = Unit {0}

-- In a version the bytes are a spelling of the line of a history. Each entry has one spelling.
abbrev pub SpellsEntry : Version → List ℕ → EntryLine → Type 0
SpellsEntry version bytes entry_lines.Skip = IsTrue (is_skipped bytes)
SpellsEntry version bytes (entry_lines.Entry e) = (bytes ≡ entry_line e) × (e.mutator < 2 ^ 32) × CommandFits e.command
    × ReplyFits e.reply × IsOf e.command version
