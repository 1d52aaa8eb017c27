use Rattle.heap_model.proofs.Spent.Mutators.{more_within, root_more, word_more, ref_more, shade_more, new_more}
use Rattle.heap_model.proofs.mutator.mutators_stay_within.Goals as goal

pub returns : goal.returns
returns c = record { more = more_within; root = root_more; word = word_more; reference = ref_more; shade = shade_more; object = new_more }
