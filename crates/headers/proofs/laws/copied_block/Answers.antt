use Rattle.headers.proofs.Copied.{copied_here, copied_others}
use Rattle.headers.proofs.laws.copied_block.Goals as goal

pub returns-clause-here : goal.returns-clause-here
returns-clause-here c = λ words from to size source target. copied_here words from to size source target

pub returns-clause-others : goal.returns-clause-others
returns-clause-others c = λ words from to size b t source target apart. copied_others words from to size source target b t apart
