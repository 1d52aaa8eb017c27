use Rattle.std.proofs.Common.{◌∙◌, append_assoc}
use Rattle.pictures.proofs.events.put_length.Goals as goal

pub returns-clause-text : goal.returns-clause-text
returns-clause-text c = c.put.ensures.text ∙ rw (c.put_named-end-2.ensures.text, c.number.ensures, c.put_named-end.ensures.text) (simp append_assoc)
