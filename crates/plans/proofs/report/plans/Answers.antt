use Rattle.std.proofs.Common.{ℕ, List, subst}
use Rattle.std.specs.Prelude.{IfOk, option_map, string_bytes}
use Rattle.paced.specs.Rooms.{made_of}
use Rattle.plans.specs.Report.{IsRow, IsTable}
use Rattle.plans.proofs.report.plans.Goals as goal

pub returns : goal.returns
returns c =
    let IsOf = IsRow (made_of (option_map (λ used. used.now) c.args.classes)) c.args.config.now c.args.needs c.args.asks.now in
    subst (λ (numbers : List ℕ). IfOk c.table.result (λ text. IsTable IsOf numbers (string_bytes text))) c.numbers_told-count.ensures.told c.table.ensures
