-- How the program is put together of its subcommands, and what clap finds of them.
use Rattle.std.proofs.Common.{◌≡◌, ◌⊎◌, inl, inr, Bool, true, false, List, [], ◌∷◌, ◌++◌, Option, Some, None, option_map, refl, ap, ap₂, ◌∙◌, sym, subst}
use Rattle.std.proofs.lemmas.Option.{same_Some}
use Rattle.std.specs.Prelude.{◌&&◌, not}
use Rattle.clap.specs.Words.{App, Shape, Rule, Text, Row, app_of, rule_of, is_simple, is_simple_and_free, subcommand_of, fault_of, IsAmong, HasMatchesOf, subcommand_rows_of, AddsArg, AddsSubcommand, with_rule, with_subcommand}
use Rattle.clap.specs.declared.builder.arg.Arg.{Arg}
use Rattle.clap.specs.declared.error.kind.ErrorKind.{ErrorKind}
use Rattle.clap.specs.declared.error.kind.ErrorKind.TheVariants.{DisplayHelp, DisplayVersion, OutOfMemory}
use Rattle.clap.specs.declared.builder.command.Command.{Command}
use Rattle.clap.specs.declared.parser.matches.ArgMatches.{ArgMatches}
use Rattle.clap.proofs.OnLiterals.{clap_on_literals}
use Rattle.command_line.specs.Program.{by_default, metronome, on_file, IsArgument, IsSubcommand}
use Rattle.command_line.specs.Words.{AsksForHelp}

-- the third of these is false if all hold except those that are negated
pub third_off : (a b c rest : Bool) → (a && (not b && (not c && rest))) ≡ true → c ≡ false
third_off true false false rest e = refl
third_off true false true rest e = absurd (let z : false ≡ true = e in cc)
third_off true true c rest e = absurd (let z : false ≡ true = e in cc)
third_off false b c rest e = absurd (let z : false ≡ true = e in cc)

-- a subcommand with one more argument
pub with_argument : (old new : Command) (arg : Arg) (before : Shape) (rule : Rule) → AddsArg old arg new → IsSubcommand before old → IsArgument rule arg → IsSubcommand (record before { rules = before.rules ++ rule ∷ [] }) new
with_argument old new arg before rule adds told is = adds.shape is.1 ∙ ap₂ with_rule told is.0

-- a subcommand on a file that is this argument
pub on_this_file : (command : Command) (file : Arg) (name : Text) (rule : Rule) → IsSubcommand (on_file name (rule_of file) []) command → IsArgument rule file → IsSubcommand (on_file name rule []) command
on_this_file command file name rule told is = told ∙ ap (λ (r : Rule). record { top = on_file name r []; subs = [] }) is.0

-- an argument that has a default, of one that is this
pub defaulted : (arg other : Arg) (value : Text) (rule : Rule) → IsArgument (by_default value (rule_of arg)) other → IsArgument rule arg → IsArgument (by_default value rule) other
defaulted arg other value rule told is = (told.0 ∙ ap (by_default value) is.0, told.1)

-- a subcommand is plain as its shape is
pub plain_as : (shape : Shape) (command : Command) → IsSubcommand shape command → shape.is_plain ≡ true → (app_of command).top.is_plain ≡ true
plain_as shape command is plain = ap (λ (a : App). a.top.is_plain) is ∙ plain

-- a program with one more subcommand, which is plain
pub with_one : (old sub new : Command) (before : App) (shape : Shape) → AddsSubcommand old sub new → app_of old ≡ before → IsSubcommand shape sub → shape.is_plain ≡ true → app_of new ≡ with_subcommand before shape
with_one old sub new before shape adds told is plain = adds.shape (third_off _ _ _ _ (plain_as shape sub is plain)) ∙ ap₂ with_subcommand told (ap (λ (a : App). a.top) is)

pub is_simple_program : is_simple metronome ≡ true
unfolding clap_on_literals
is_simple_program = refl

pub is_free_program : is_simple_and_free metronome ≡ true
unfolding clap_on_literals
is_free_program = refl

-- a subcommand was found that has this name and these rows
pub found_so : {A : Type 0} (found : Option A) (told : A → Text × List Row) (n : Text) (r : List Row) → Some n ≡ option_map (λ a. (told a).0) found
    → Some r ≡ option_map (λ (p : Text × List Row). p.1) (option_map told found) → option_map told found ≡ Some (n, r)
found_so None told n r e f = absurd (let z : Some n ≡ None = e in cc)
found_so (Some a) told n r e f = ap₂ (λ (x : Text) (y : List Row). Some (x, y)) (sym (same_Some n (told a).0 e)) (sym (same_Some r (told a).1 f))

-- what clap finds in the words is a subcommand of the program, with its rows
pub subcommand_is : (command : Command) (words : List Text) (m : ArgMatches) → app_of command ≡ metronome → HasMatchesOf (app_of command) words m → subcommand_of metronome words ≡ subcommand_rows_of m
subcommand_is command words m is h = ap (λ (a : App). subcommand_of a words) (sym is) ∙ sym (h (ap is_simple is ∙ is_simple_program)).1

-- a parse that ends so is of words that ask for help
pub help_is_asked : (command : Command) (words : List Text) (kind : ErrorKind) → app_of command ≡ metronome
    → (is_simple_and_free (app_of command) ≡ true → (kind ≡ OutOfMemory) ⊎ IsAmong kind (fault_of (app_of command) words)) → (kind ≡ DisplayHelp) ⊎ (kind ≡ DisplayVersion) → AsksForHelp words
help_is_asked command words kind is has asked = among_so (has (ap is_simple_and_free is ∙ is_free_program)) asked
  where
    here : (k : ErrorKind) → kind ≡ k → IsAmong kind (fault_of (app_of command) words) → IsAmong k (fault_of metronome words)
    here k e among = subst (λ (a : App). IsAmong k (fault_of a words)) is (subst (λ (x : ErrorKind). IsAmong x (fault_of (app_of command) words)) e among)

    among_so : (kind ≡ OutOfMemory) ⊎ IsAmong kind (fault_of (app_of command) words) → (kind ≡ DisplayHelp) ⊎ (kind ≡ DisplayVersion) → AsksForHelp words
    among_so (inl none) (inl help) = absurd (let z : DisplayHelp ≡ OutOfMemory = sym help ∙ none in cc)
    among_so (inl none) (inr version) = absurd (let z : DisplayVersion ≡ OutOfMemory = sym version ∙ none in cc)
    among_so (inr among) (inl help) = inl (here DisplayHelp help among)
    among_so (inr among) (inr version) = inr (here DisplayVersion version among)
