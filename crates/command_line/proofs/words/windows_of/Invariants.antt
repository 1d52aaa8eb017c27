use Rattle.std.proofs.Common.{map, take, Some}
use Rattle.std.specs.List.{All, AllZip}
use Rattle.command_line.specs.Job.{IsWindow}
use Rattle.command_line.specs.Words.{IsNumber}
use Rattle.command_line.proofs.words.windows_of.Given as goal

-- each word so far has its window
abbrev pub invariant-loop-word : goal.invariant-loop-word
invariant-loop-word l = record {
  range : All IsWindow l.windows.items;
  each : AllZip (λ word ticks. IsNumber 64 (Some word) (Some ticks)) (take l.word-index (map (λ word. word.now) l.words)) l.windows.items;
}
