use Rattle.std.proofs.Common.{List, ℕ, ◌∙◌, ◌++◌, ap, append-nil}
use Rattle.std.proofs.lemmas.Result.{IfOk-weaker}
use Rattle.viewer.specs.declared.page.TheConstants.{HEAD, BETWEEN, FOOT}
use Rattle.program.specs.Answered.{data_before}
use Rattle.program.proofs.two_runs.runs_in.Goals as goal

pub returns-in-Page : goal.returns-in-Page
returns-in-Page c =
    let before : List ℕ → List ℕ = λ foot. HEAD.now ++ data_before (BETWEEN.now ++ data_before foot c.args.other.now c.args.second.now) c.args.head.now c.args.first.now in
    rw c.in-Page.is (IfOk-weaker c.concat.result _ _ (λ text told. told ∙ ap before (append-nil FOOT.now)) c.concat.ensures.ok)
