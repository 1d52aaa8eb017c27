use Rattle.arraylets.proofs.Objects.{there, refs_length, refs_read, words_are}
use Rattle.arraylets.proofs.laws.lists_are_the_objects.Goals as goal

pub returns-clause-there : goal.returns-clause-there
returns-clause-there c h g id block a r whole m = there h g id block a r m whole

pub returns-clause-length : goal.returns-clause-length
returns-clause-length c = refs_length

pub returns-clause-refs : goal.returns-clause-refs
returns-clause-refs c h g id block i a r m low = refs_read h g id block a r m i low

pub returns-clause-words : goal.returns-clause-words
returns-clause-words c = words_are
