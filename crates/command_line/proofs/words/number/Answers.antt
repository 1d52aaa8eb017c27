use Rattle.std.specs.contracts.prelude.U32FromStr.TheImpl.{from_str_gives-value}
use Rattle.clap.specs.Words.{found_of}
use Rattle.command_line.proofs.Found.{one_found, is_number}
use Rattle.command_line.proofs.words.number.Goals as goal

pub returns : goal.returns
returns c = is_number 32 from_str_gives-value.it _ _ c.get_one.result (one_found (found_of c.args.found.now) c.args.name.now) c.get_one.ensures.none c.get_one.ensures.value (λ u x h. h.0)
