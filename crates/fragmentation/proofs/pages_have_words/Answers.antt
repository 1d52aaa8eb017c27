use Rattle.fragmentation.proofs.Flows.Words.{page_words_least, page_words_attained}
use Rattle.fragmentation.proofs.pages_have_words.Goals as goal

pub returns-clause-least : goal.returns-clause-least
returns-clause-least c = page_words_least

pub returns-clause-attained : goal.returns-clause-attained
returns-clause-attained c = page_words_attained
