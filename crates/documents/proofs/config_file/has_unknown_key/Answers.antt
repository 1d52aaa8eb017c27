use Rattle.std.proofs.Common.{rules, not, tests}
use Rattle.documents.specs.ConfigFile.{is_known}
use Rattle.documents.proofs.config_file.has_unknown_key.Goals as goal

pub returns : goal.returns
returns c = c.any_member.ensures (λ name value. not (is_known name)) (λ name value answer told. search (rules, tests))
