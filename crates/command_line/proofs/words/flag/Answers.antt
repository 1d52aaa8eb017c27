use Rattle.clap.specs.Words.{found_of}
use Rattle.command_line.proofs.Found.{one_found, is_flag}
use Rattle.command_line.proofs.words.flag.Goals as goal

pub returns : goal.returns
returns c = is_flag _ _ c.get_flag.result (one_found (found_of c.args.found.now) c.args.name.now) c.get_flag.ensures.none c.get_flag.ensures.value c.get_flag.ensures.other
