use Rattle.std.proofs.Common.{◌∙◌, ap}
use Rattle.std.proofs.lemmas.Result.{IfOk-weaker}
use Rattle.std.specs.Prelude.{string_bytes}
use Rattle.program.specs.Answered.{in_form}
use Rattle.program.proofs.answer_job.run_text.Goals as goal

pub returns : goal.returns
returns c =
    let plans = c.in_ok-plans.plans in
    IfOk-weaker c.in_form.result _ _ (λ text told. (string_bytes plans, c.in_ok-plans.ensures, told ∙ ap (λ t. in_form c.args.form t c.args.run.now) c.as_str.ensures.value)) c.in_form.ensures
