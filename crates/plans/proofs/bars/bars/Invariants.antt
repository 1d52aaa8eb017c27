use Rattle.std.proofs.Common.{◌-◌}
use Rattle.std.specs.Prelude.{option_map}
use Rattle.size_classes.specs.declared.config.TheConstants.{MOST_HEAP_PAGES}
use Rattle.plans.specs.Bars.{IsBar}
use Rattle.paced.specs.Rooms.{made_of}
use Rattle.plans.proofs.Rows.{HasItems}
use Rattle.plans.proofs.bars.bars.Given as goal

-- the numbers so far have their bars
abbrev pub invariant-loop-pages : goal.invariant-loop-pages
invariant-loop-pages l = HasItems (IsBar (made_of (option_map (λ used. used.now) l.classes)) l.config l.live_words) l.numbers l.above l.bars.items

abbrev pub decreases-loop-pages : goal.decreases-loop-pages
decreases-loop-pages l = MOST_HEAP_PAGES - l.above
