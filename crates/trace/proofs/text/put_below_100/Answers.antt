use Rattle.std.proofs.Common.{◌/◌, ap, ◌∙◌, sym, arith, take, ◌++◌}
use Rattle.std.proofs.lemmas.Fmt.{decimal_digit}
use Rattle.trace.proofs.Numbers.{one_digit_more}
use Rattle.trace.proofs.text.put_below_100.Goals as goal

pub returns-clause-text : goal.returns-clause-text
returns-clause-text c =
    let front = take c.args.at c.args.out.now in
    one_digit_more front _ _ c.args.n (omega arith) (omega arith)
    (c.put_digit-next.ensures.text ∙ ap (λ l. front ++ l) (sym (decimal_digit (c.args.n / 10) (omega arith)))) c.put_digit.ensures.text
