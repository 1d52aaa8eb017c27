use Rattle.paced.specs.Rooms.{among}
use Rattle.plans.proofs.Rows.{least_within}
use Rattle.plans.proofs.report.classes_line.Goals as goal

pub fewest_line-requires : goal.fewest_line-requires
fewest_line-requires c = least_within (among c.args.used.now) c.args.config.now c.args.live_words 0 c.least_pages.result c.least_pages.ensures
