use Rattle.std.proofs.Common.{◌∙◌, ◌++◌, ap, append-nil}
use Rattle.std.proofs.lemmas.Result.{IfOk-weaker}
use Rattle.viewer.specs.declared.page.TheConstants.{HEAD, FOOT}
use Rattle.program.specs.Answered.{data_before}
use Rattle.program.proofs.answer_job.in_form.Goals as goal

pub returns-in-Page : goal.returns-in-Page
returns-in-Page c = rw c.in-Page.is (IfOk-weaker c.concat.result _ _ (λ text told. told ∙ ap (λ x. HEAD.now ++ data_before x c.args.plans.now c.args.run.now) (append-nil FOOT.now)) c.concat.ensures.ok)
