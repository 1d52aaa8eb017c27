use Rattle.std.proofs.Common.{rules, ◌≡◌, true, false}
use Rattle.inspector.proofs.ShapeSums.{none_held, old_held}
use Rattle.inspector.proofs.ShapeCounts.{all_ok, counted_none, counted_part}
use Rattle.inspector.proofs.shapes.counting.Counted.look_at.Goals as goal

pub returns-in-Some : goal.returns-in-Some
returns-in-Some c =
    let s = c.args.heap.now.store in
    let main : c.in-Some.block.is_old ≡ false = search rules in
    all_ok c.add.result _ _ _ _
    (λ ordered each all. counted_part s c.args.page c.args.index c.args.self.now c.requires.before c.args.size c.requires.size c.requires.small c.in-Some.block c.in-Some.ensures main c.add.new.self ordered each all)
    c.add.ensures.ordered c.add.ensures.each c.add.ensures.all

pub returns-in_default : goal.returns-in_default
returns-in_default c =
    let s = c.args.heap.now.store in
    let old : c.in-Some.block.is_old ≡ true = search rules in
    counted_none s c.args.page c.args.index c.args.self.now c.requires.before c.args.size c.requires.size c.requires.small
    (λ these. old_held these s c.args.page c.args.index c.args.size c.requires.size c.in-Some.block c.in-Some.ensures old)

pub returns-in_default-2 : goal.returns-in_default-2
returns-in_default-2 c =
    let s = c.args.heap.now.store in
    counted_none s c.args.page c.args.index c.args.self.now c.requires.before c.args.size c.requires.size c.requires.small
    (λ these. none_held these s c.args.page c.args.index c.args.size c.requires.size (search rules))
