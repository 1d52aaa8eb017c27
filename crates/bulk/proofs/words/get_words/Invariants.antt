use Rattle.std.specs.Prelude.{◌≡◌, ◌-◌, ◌≤◌, None, take, drop}
use Rattle.bulk.specs.InOrder.{DoesWithBy, words_told}
use Rattle.bulk.specs.Lists.{gets}
use Rattle.bulk.proofs.words.get_words.Given as goal

abbrev pub invariant-loop-done : goal.invariant-loop-done
invariant-loop-done g l = (l.done ≤ l.room)
    × DoesWithBy (g.H.Commands.does l.mutator) l.fn.heap (gets l.obj l.first l.done) (words_told (take l.done l.words)) (record { done = l.done; refused = None }) l.heap
    × (drop l.done l.words ≡ drop l.done l.fn.words)

abbrev pub decreases-loop-done : goal.decreases-loop-done
decreases-loop-done g l = l.room - l.done
