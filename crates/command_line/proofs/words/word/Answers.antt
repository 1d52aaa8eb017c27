use Rattle.std.proofs.Common.{◌∙◌, sym}
use Rattle.clap.specs.Words.{found_of}
use Rattle.command_line.proofs.Found.{first_found}
use Rattle.command_line.proofs.words.word.Goals as goal

pub returns : goal.returns
returns c = c.get_str.ensures ∙ sym (first_found (found_of c.args.found.now) c.args.name.now)
