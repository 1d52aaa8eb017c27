use Rattle.heap_model.proofs.Settings.{does_settings}
use Rattle.heap_model.proofs.events.settings_stay.Goals as goal

pub returns : goal.returns
returns c = does_settings
