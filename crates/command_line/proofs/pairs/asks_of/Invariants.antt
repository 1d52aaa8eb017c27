use Rattle.std.proofs.Common.{map, take}
use Rattle.std.specs.List.{All, AllZip}
use Rattle.command_line.specs.Job.{MayBeAsked}
use Rattle.command_line.specs.Words.{AreAsked}
use Rattle.command_line.proofs.pairs.asks_of.Given as goal

-- each word so far has its number of words
abbrev pub invariant-loop-word : goal.invariant-loop-word
invariant-loop-word l = record {
  range : All MayBeAsked l.asks.items;
  said : AllZip AreAsked (take l.word-index (map (λ word. word.now) l.words)) l.asks.items;
}
