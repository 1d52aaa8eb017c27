use Rattle.std.proofs.Common.{[], ◌∷◌, ◌++◌, refl}
use Rattle.inspector.specs.Filling.{filling_in, sum_line, fragmentation_line}
use Rattle.inspector.proofs.Parts.{at_err, first_of_three, second_of_three, third_of_three, three}
use Rattle.inspector.proofs.ClassByClass.{text_told}
use Rattle.inspector.proofs.by_size.report_sizes.Goals as goal

pub returns-in_err-all-clause-err : goal.returns-in_err-all-clause-err
returns-in_err-all-clause-err g c =
    let f = filling_in c.args.heap.now.store in
    at_err c.from_residual.result _
    (first_of_three _ (sum_line f ++ 10 ∷ []) (fragmentation_line f ++ 10 ∷ []) _ (text_told c.args.heap.now f refl) _ _ c.in_err-all.ensures.err)

pub returns-in_err-write_sum-clause-err : goal.returns-in_err-write_sum-clause-err
returns-in_err-write_sum-clause-err g c =
    let told = text_told c.args.heap.now c.in_ok-all.all c.in_ok-all.ensures.sum in
    at_err c.from_residual-in_err-write_sum.result _ (second_of_three _ _ _ _ told _ _ _ c.in_ok-all.ensures.ok c.in_err-write_sum.ensures.err)

pub returns-in_err-write_fragmentation-clause-err : goal.returns-in_err-write_fragmentation-clause-err
returns-in_err-write_fragmentation-clause-err g c =
    let told = text_told c.args.heap.now c.in_ok-all.all c.in_ok-all.ensures.sum in
    at_err c.from_residual-in_err-write_fragmentation.result _
    (third_of_three _ _ _ _ told _ _ _ c.in_ok-all.ensures.ok _ c.in_ok-write_sum.ensures.ok c.in_err-write_fragmentation.ensures.err)

pub returns-clause-ok : goal.returns-clause-ok
returns-clause-ok g c =
    let told = text_told c.args.heap.now c.in_ok-all.all c.in_ok-all.ensures.sum in
    three _ _ _ _ told _ _ _ c.in_ok-all.ensures.ok _ c.in_ok-write_sum.ensures.ok c.in_ok-write_fragmentation.ensures.ok
