-- The words that the program takes: its subcommands, and the arguments of each.
use Rattle.std.specs.Prelude.{◌≡◌, pos, true, false, List, [], ◌∷◌, Some, codes}
use Rattle.clap.specs.Words.{App, Rule, Shape, Text, app_of, new_rule, rule_of}
use Rattle.clap.specs.Simple.{new_shape}
use Rattle.clap.specs.Lexer.{usize_max}
use Rattle.clap.specs.declared.builder.action.ArgAction.TheVariants.{SetTrue}
use Rattle.clap.specs.declared.builder.value_parser.ValueParser.{ValueParser}
use Rattle.clap.specs.declared.builder.value_parser.ValueParser.TheVariants.{Signed, Unsigned}
use Rattle.clap.specs.declared.builder.arg.Arg.{Arg}
use Rattle.clap.specs.declared.builder.command.Command.{Command}

-- a number that fits 32 bits
abbrev pub short_number : ValueParser
short_number = Signed (pos 0) (pos 4294967295)

-- a number that fits 64 bits
abbrev pub long_number : ValueParser
long_number = Unsigned 0 18446744073709551615

-- an argument that is needed
abbrev pub needed : Rule → Rule
needed rule = record rule { required = true }

-- a word in its place, which is needed
abbrev pub place : Text → Rule
place name = needed (new_rule name)

-- an argument that is a number of 64 bits
abbrev long : Rule → Rule
long rule = record rule { parser = Some long_number }

-- an argument that stands there once or more
abbrev many : Rule → Rule
many rule = record rule { range = Some (record { start_inclusive = 1; end_inclusive = usize_max }) }

-- a number in its place
abbrev pub number : Text → Rule
number name = long (place name)

-- one number or more in their places
abbrev pub numbers : Text → Rule
numbers name = many (number name)

-- a name alone
abbrev pub flag : Text → Rule
flag name = record (new_rule name) { long = Some name; action = Some SetTrue }

-- a name and a word
abbrev pub word : Text → Rule
word name = record (new_rule name) { long = Some name; value_names = 1 }

-- a name and one word or more
abbrev pub words : Text → Rule
words name = many (word name)

-- a name and a number
abbrev pub figure : Text → Rule
figure name = record (word name) { parser = Some short_number }

-- a name and a number that fits 64 bits
abbrev pub long_figure : Text → Rule
long_figure name = long (word name)

-- a name and one number or more
abbrev pub figures : Text → Rule
figures name = many (figure name)

-- an argument that is this if it isn't given
abbrev pub by_default : Text → Rule → Rule
by_default value rule = record rule { defaults = value ∷ [] }

-- a subcommand with its configuration, whether its progress is reported and its fault explained, and its other
-- arguments
abbrev pub on_config : Text → List Rule → Shape
on_config name more = record (new_shape name) {
  rules = place (codes "CONFIG") ∷ flag (codes "progress") ∷ flag (codes "explain") ∷ more;
}

-- one that has a file too
abbrev pub on_file : Text → Rule → List Rule → Shape
on_file name file more = on_config name (file ∷ more)

-- one that works on a trace
abbrev pub on_trace : Text → List Rule → Shape
on_trace name more = on_file name (place (codes "TRACE")) more

-- plays a trace
abbrev pub play : Shape
play = on_trace (codes "play") (flag (codes "history") ∷ [])

-- checks a history
abbrev pub check : Shape
check = on_file (codes "check") (place (codes "HISTORY")) []

-- runs scripts on threads
abbrev pub threads : Shape
threads = on_file (codes "threads") (place (codes "SCRIPTS"))
    (by_default (codes "100") (figure (codes "turns")) ∷ by_default (codes "256") (figure (codes "budget")) ∷ [])

-- reports a heap
abbrev pub inspect : Shape
inspect = on_trace (codes "inspect") (by_default (codes "page") (word (codes "by")) ∷ figure (codes "after") ∷ [])

-- reports each cycle
abbrev pub cycles : Shape
cycles = on_trace (codes "cycles") (flag (codes "csv") ∷ [])

-- reports why an object is alive
abbrev pub path : Shape
path = on_trace (codes "path") (number (codes "ID") ∷ figure (codes "after") ∷ [])

-- prints the least ticks that mutators have of windows
abbrev pub mmu : Shape
mmu = on_trace (codes "mmu") (numbers (codes "WINDOW") ∷ [])

-- draws a picture
abbrev pub draw : Shape
draw = on_trace (codes "draw")
    (by_default (codes "page") (word (codes "as")) ∷ figure (codes "after") ∷ figure (codes "most")
    ∷ long_figure (codes "live") ∷ word (codes "compare") ∷ [])

-- prints how many pages suffice
abbrev pub pages : Shape
pages = on_trace (codes "pages") (flag (codes "pace") ∷ flag (codes "plan") ∷ [])

-- prints how a heap would pace itself
abbrev pub plan : Shape
plan = on_config (codes "plan")
    (long_figure (codes "live") ∷ words (codes "objects") ∷ long_figure (codes "largest") ∷ figures (codes "classes")
    ∷ words (codes "asks") ∷ [])

-- the program: it has a version, and wants a subcommand
abbrev pub metronome : App
metronome = record {
  top = record (new_shape (codes "metronome")) { is_leaf = false; has_version = true; subcommand_required = true };
  subs = play ∷ check ∷ threads ∷ inspect ∷ cycles ∷ path ∷ mmu ∷ draw ∷ pages ∷ plan ∷ [];
}

-- an argument as this rule says, of its own command
abbrev pub IsArgument : Rule → Arg → Type 0
IsArgument rule arg = (rule_of arg ≡ rule) × (arg.global ≡ false)

-- a command of this shape, without subcommands
abbrev pub IsSubcommand : Shape → Command → Type 0
IsSubcommand shape command = app_of command ≡ record { top = shape; subs = [] }
