use Rattle.std.proofs.Common.{rules}
use Rattle.command_line.proofs.Found.{one_class}
use Rattle.command_line.proofs.classes.classes_of.Goals as goal

pub loop-size-preserved : goal.loop-size-preserved
loop-size-preserved c =
    one_class c.args.sizes.now c.loop-size.size-index _ c.loop-size.classes.items c.push.new.self.items c.in-Ok.words c.in_ok-class.class (search rules) c.loop-size.invariant (search rules) c.in-Ok.ensures.value.0
    c.in_ok-class.ensures
