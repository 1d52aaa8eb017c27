use Rattle.metronome_c.proofs.bulk_calls.metronome_get_words_into.Goals as goal

pub returns-clause-few : goal.returns-clause-few
returns-clause-few c = λ few. (c.read_words.result, c.read_words.ensures, c.from_outcome.ensures)
