use Rattle.std.proofs.Common.{◌∙◌, sym}
use Rattle.size_classes.proofs.InRange.{any_within}
use Rattle.size_classes.proofs.config.Config.check_by.Goals as goal

pub from_checked-requires : goal.from_checked-requires
from_checked-requires c = any_within c.args.ranges c.args.settings.now (sym c.first_outside.ensures ∙ c.in-None.is)
