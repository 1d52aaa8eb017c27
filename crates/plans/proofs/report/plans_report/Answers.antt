use Rattle.std.specs.Prelude.{option_map}
use Rattle.paced.specs.Rooms.{made_of}
use Rattle.plans.proofs.Rows.{least_within}
use Rattle.plans.proofs.report.plans_report.Goals as goal

pub fewest_line-requires : goal.fewest_line-requires
fewest_line-requires c = least_within (made_of (option_map (λ used. used.now) c.args.classes)) c.args.config.now c.args.needs.live c.args.needs.largest c.least_pages_for-least.result c.least_pages_for-least.ensures

pub plans-requires : goal.plans-requires
plans-requires c = least_within (made_of (option_map (λ used. used.now) c.args.classes)) c.args.config.now c.args.needs.live c.args.needs.largest c.least_pages_for-least.result c.least_pages_for-least.ensures
