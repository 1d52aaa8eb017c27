use Rattle.std.proofs.Common.{map, take}
use Rattle.std.specs.List.{AllZip}
use Rattle.command_line.specs.Words.{IsClassOf}
use Rattle.command_line.proofs.classes.classes_of.Given as goal

-- each size so far has its class
abbrev pub invariant-loop-size : goal.invariant-loop-size
invariant-loop-size l = AllZip IsClassOf (take l.size-index (map (λ size. size.now) l.sizes)) l.classes.items
