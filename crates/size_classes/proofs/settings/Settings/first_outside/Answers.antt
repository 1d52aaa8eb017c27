use Rattle.std.proofs.Common.{◌∙◌, rules, tests, not}
use Rattle.std.proofs.lemmas.Iterator.{YieldsList-from_slice}
use Rattle.std.proofs.lemmas.Iterator.Search.{find_from_yields_List}
use Rattle.size_classes.specs.declared.key.TheConstants.Key.{ALL}
use Rattle.size_classes.specs.Keys.{is_allowed}
use Rattle.size_classes.specs.Config.{setting}
use Rattle.size_classes.proofs.settings.Settings.first_outside.Goals as goal

pub returns : goal.returns
returns c =
    let found = find_from_yields_List (λ key. not (is_allowed c.args.ranges c.args.self.now.mutators key (setting c.args.self.now key))) _ _ _ c.find.ensures.ran (YieldsList-from_slice ALL cc) (λ x b q k. search (rules, tests)) in
    c.copied.ensures ∙ found
