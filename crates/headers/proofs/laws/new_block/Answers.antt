use Rattle.headers.proofs.Written.{new_block_here, new_block_others}
use Rattle.headers.proofs.laws.new_block.Goals as goal

pub returns-clause-here : goal.returns-clause-here
returns-clause-here c = new_block_here

pub returns-clause-others : goal.returns-clause-others
returns-clause-others c = new_block_others
