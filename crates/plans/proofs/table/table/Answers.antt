use Rattle.std.proofs.Common.{◌++◌, ap, ◌∙◌}
use Rattle.std.specs.Prelude.{option_map, string_bytes}
use Rattle.paced.specs.Rooms.{made_of}
use Rattle.plans.specs.Report.{IsRow}
use Rattle.plans.proofs.Rows.{no_rows, one_row, all_rows}
use Rattle.plans.proofs.table.table.Goals as goal

pub loop-pages-init : goal.loop-pages-init
loop-pages-init c = no_rows (IsRow (made_of (option_map (λ used. used.now) c.args.classes)) c.args.config.now c.args.needs c.args.asks.now) c.args.numbers.now _ c.new-text.ensures.bytes

pub loop-pages-preserved : goal.loop-pages-preserved
loop-pages-preserved c =
    let told = c.in_ok-push_str.ensures.bytes ∙ ap (λ z. string_bytes c.loop-pages.text ++ z) c.as_str.ensures.value in
    one_row (IsRow (made_of (option_map (λ used. used.now) c.args.classes)) c.args.config.now c.args.needs c.args.asks.now) c.args.numbers.now c.loop-pages.above _ c.in-Some.pages _ _ c.loop-pages.invariant c.in-Some.ensures c.in_ok-lines.ensures told

pub returns : goal.returns
returns c = all_rows (IsRow (made_of (option_map (λ used. used.now) c.args.classes)) c.args.config.now c.args.needs c.args.asks.now) c.args.numbers.now c.loop-pages.above _ c.loop-pages.invariant c.in_default.ensures
