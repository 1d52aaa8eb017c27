use Rattle.std.proofs.Common.{map, take}
use Rattle.std.specs.List.{All, AllZip}
use Rattle.command_line.specs.Job.{AreObjects}
use Rattle.command_line.specs.Words.{AreObjectsOf}
use Rattle.command_line.proofs.pairs.objects_of.Given as goal

-- each word so far has its objects
abbrev pub invariant-loop-word : goal.invariant-loop-word
invariant-loop-word l = record {
  range : All AreObjects l.groups.items;
  said : AllZip AreObjectsOf (take l.word-index (map (λ word. word.now) l.words)) l.groups.items;
}
