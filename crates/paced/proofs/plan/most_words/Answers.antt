use Rattle.std.proofs.Common.{◌≡◌, ◌+◌, ◌-◌, ◌*◌, ◌/◌, ◌≤◌, subst, sym, arith, refl}
use Rattle.paced.proofs.Planning.{room_of, words_most}
use Rattle.paced.proofs.plan.most_words.Goals as goal

pub returns : goal.returns
returns c = λ makes made plan lasts.
    let config = c.args.config.now in
    let room : c.saturating_sub-room.result ≡ room_of c.args.classes c.args.live_words config.pages - c.args.largest - c.args.largest = omega arith in
    subst (λ z. plan.quantum_words ≤ z / (2 * c.cycle_quanta-whole.result + c.sweep_quanta-swept.result)) (sym room)
    (words_most makes c.args.classes made config c.args.live_words config.pages c.args.largest plan c.cycle_quanta-whole.result c.sweep_quanta-swept.result (c.cycle_quanta-whole.ensures.quanta makes) (c.sweep_quanta-swept.ensures.quanta makes (record { quantum_words = 0; cycle_words = 0 }) refl) lasts)
