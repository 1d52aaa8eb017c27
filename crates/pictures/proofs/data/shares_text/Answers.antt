use Rattle.std.proofs.Common.{ap, ◌∙◌}
use Rattle.std.proofs.lemmas.Result.{IfOk-weaker}
use Rattle.pictures.specs.Data.{shares_table}
use Rattle.pictures.proofs.data.shares_text.Goals as goal

pub returns : goal.returns
returns c =
    let shares = c.in_ok-shares.shares in
    IfOk-weaker c.table.result _ _ (λ text told. (shares.items, c.in_ok-shares.ensures, told ∙ ap shares_table c.as_slice.ensures.value)) c.table.ensures
