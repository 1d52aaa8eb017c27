use Rattle.std.proofs.Common.{◌-◌}
use Rattle.std.specs.Prelude.{option_map, string_bytes}
use Rattle.size_classes.specs.declared.config.TheConstants.{MOST_HEAP_PAGES}
use Rattle.paced.specs.Rooms.{made_of}
use Rattle.plans.specs.Report.{IsRow}
use Rattle.plans.proofs.Rows.{HasRows}
use Rattle.plans.proofs.table.table.Given as goal

-- the numbers so far have their lines
abbrev pub invariant-loop-pages : goal.invariant-loop-pages
invariant-loop-pages l = HasRows (IsRow (made_of (option_map (λ used. used.now) l.classes)) l.config l.needs l.asks) l.numbers l.above (string_bytes l.text)

abbrev pub decreases-loop-pages : goal.decreases-loop-pages
decreases-loop-pages l = MOST_HEAP_PAGES - l.above
