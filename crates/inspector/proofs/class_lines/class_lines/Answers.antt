use Rattle.std.proofs.Common.{◌≡◌, ◌∙◌, ◌++◌, IfOk, string_bytes, ap, sym, subst, arith}
use Rattle.inspector.proofs.TextLines.{no_lines, next_line}
use Rattle.inspector.proofs.class_lines.class_lines.Goals as goal

pub loop-number-init : goal.loop-number-init
loop-number-init g c = λ lines told. c.new-text.ensures.bytes ∙ sym (no_lines lines)

pub loop-number-preserved : goal.loop-number-preserved
loop-number-preserved g c = λ lines told.
    let number = c.loop-number.number in
    let here : c.new.result ≡ number = omega arith in
    let line : string_bytes c.in_ok-line.line ≡ lines c.new.result = subst (λ r. IfOk r (λ text. string_bytes text ≡ lines c.new.result)) c.in_ok-line.was (told c.new.result c.line.result (omega arith) c.line.ensures) in
    c.in_ok-push_str.ensures.bytes
    ∙ ap (λ z. string_bytes c.loop-number.text ++ z) (c.as_str.ensures.value ∙ line ∙ ap lines here)
    ∙ ap (λ z. z ++ lines number) (c.loop-number.invariant lines told)
    ∙ sym (next_line lines number)
