use Rattle.std.proofs.Common.{◌≡◌, ◌∙◌, map, Some}
use Rattle.clap.specs.Words.{found_of, rows_of, kind_of, subcommand_of, subcommand_rows_of}
use Rattle.command_line.specs.Program.{metronome}
use Rattle.command_line.proofs.Subcommands.{subcommand_is, found_so, help_is_asked}
use Rattle.command_line.proofs.words.read_words.Goals as goal

pub returns-in-Err-clause-help : goal.returns-in-Err-clause-help
returns-in-Err-clause-help g c help =
    help_is_asked c.in-Ok.command (map g.S.AsStr.text c.args.words.now) (kind_of c.in-Err.error) c.in-Ok.ensures c.in-Err.ensures.kinds (c.fault_of.ensures help)

pub returns-clause-by : goal.returns-clause-by
returns-clause-by g c =
    let words = map g.S.AsStr.text c.args.words.now in
    let matches = c.in-Ok-try_get_matches_from.matches in
    let name = c.in-Some.name.now in
    let rows = rows_of (found_of c.in-Some.found.now) in
    let entered : subcommand_rows_of matches ≡ Some (name, rows) = found_so _ _ name rows c.in-Some.ensures.name c.in-Some.ensures.rows in
    let found : subcommand_of metronome words ≡ Some (name, rows) = subcommand_is c.in-Ok.command words matches c.in-Ok.ensures c.in-Ok-try_get_matches_from.ensures.matches ∙ entered in
    (name, rows, found, c.in_ok-job_of.ensures.asked)

pub returns-clause-asked : goal.returns-clause-asked
returns-clause-asked g c = (map g.S.AsStr.text c.args.words.now, returns-clause-by g c)
