use Rattle.std.proofs.Common.{rules}
use Rattle.metronome_c.specs.Figures.{block_of}
use Rattle.metronome_c.proofs.Telling.{tells}
use Rattle.metronome_c.proofs.block.metronome_block.Goals as goal

pub returns : goal.returns
returns c = tells (block_of c.args.page c.args.number) _ _ _ _ _ _ (λ h a met. search rules) c.inspect.ensures.same c.inspect.ensures.looks c.tell.ensures
