use Rattle.std.proofs.Common.{◌≡◌, ◌∙◌, true, false, ap, sym, arith}
use Rattle.paced.specs.Rooms.{among}
use Rattle.paced.proofs.Classes.{one_more}
use Rattle.paced.proofs.plan.classes_in.Goals.{then-contains, else-contains}
use Rattle.paced.proofs.plan.classes_in.Goals as goal

pub loop-number-preserved : goal.loop-number-preserved
loop-number-preserved c =
    let makes = among c.args.used.now in
    let number = c.loop-number.number in
    let told : c.contains.result ≡ makes number = c.contains.ensures.value ∙ ap makes c.new.ensures in
    elim c.if-contains.branch [
      | then-contains w ↦ one_more makes c.loop-number.count number c.if-contains.count true c.loop-number.invariant (sym w.if-contains.true ∙ told) w.count-is
      | else-contains w ↦ one_more makes c.loop-number.count number c.if-contains.count false c.loop-number.invariant (sym w.if-contains.false ∙ told) (omega (arith, w.count-is))
    ]
