use Rattle.std.proofs.Common.{◌≡◌, ◌+◌, ◌∙◌, ap, sym, arith}
use Rattle.bulk.specs.declared.progress.Progress.{Progress}
use Rattle.bulk.specs.Lists.{fills}
use Rattle.bulk.proofs.Filling.{stores_within, puts_within, follows_none, follows_more, filled_by_part, filled}
use Rattle.bulk.proofs.making.fill_made.Goals as goal

pub returns-in-Some : goal.returns-in-Some
returns-in-Some g c =
    follows_none (g.H.Commands.does c.args.mutator) c.args.heap.now c.args.made (fills c.args.dst c.args.refs.now c.args.words.now) c.stopped.result c.in-Some.refusal (sym c.refusal_in.ensures ∙ c.in-Some.is) c.stopped.ensures

pub behind-requires : goal.behind-requires
behind-requires g c =
    let few = stores_within (g.H.Commands.does c.args.mutator) c.args.heap.now c.store_slots-stored.new.heap c.args.dst c.args.refs.now c.store_slots-stored.result c.store_slots-stored.ensures in
    omega (arith, few)

pub returns-then-is_some : goal.returns-then-is_some
returns-then-is_some g c =
    let step = g.H.Commands.does c.args.mutator in
    follows_more step c.args.heap.now c.store_slots-stored.new.heap c.args.made (fills c.args.dst c.args.refs.now c.args.words.now) c.store_slots-stored.result c.behind.result (sym c.refusal_in.ensures ∙ c.in_default.is)
    (filled_by_part step c.args.heap.now c.store_slots-stored.new.heap c.args.dst c.args.refs.now c.args.words.now c.store_slots-stored.result c.store_slots-stored.ensures (sym c.is_some.ensures ∙ c.if-is_some.true)) c.behind.ensures

pub overflow_add-stored : goal.overflow_add-stored
overflow_add-stored g c =
    let few = stores_within (g.H.Commands.does c.args.mutator) c.args.heap.now c.store_slots-stored.new.heap c.args.dst c.args.refs.now c.store_slots-stored.result c.store_slots-stored.ensures in
    omega (arith, few)

pub behind-requires-2 : goal.behind-requires-2
behind-requires-2 g c =
    let step = g.H.Commands.does c.args.mutator in
    let few = stores_within step c.args.heap.now c.store_slots-stored.new.heap c.args.dst c.args.refs.now c.store_slots-stored.result c.store_slots-stored.ensures in
    let more = puts_within step c.store_slots-stored.new.heap c.fill_words.new.heap c.args.dst 0 c.args.words.now c.fill_words.result c.fill_words.ensures in
    omega (arith, few, more)

pub returns : goal.returns
returns g c =
    let step = g.H.Commands.does c.args.mutator in
    let stored = c.store_slots-stored.result in
    let put = c.fill_words.result in
    let q : Progress = record { done = stored.done + put.done; refused = put.refused } in
    let sum : 1 + stored.done + put.done ≡ 1 + q.done = omega arith in
    follows_more step c.args.heap.now c.fill_words.new.heap c.args.made (fills c.args.dst c.args.refs.now c.args.words.now) q c.behind-2.result (sym c.refusal_in.ensures ∙ c.in_default.is)
    (filled step c.args.heap.now c.store_slots-stored.new.heap c.args.dst c.args.refs.now c.args.words.now stored c.store_slots-stored.ensures c.fill_words.new.heap put (sym c.is_some.ensures ∙ c.if-is_some.false) c.fill_words.ensures)
    (c.behind-2.ensures ∙ ap (λ n. record { done = n; refused = put.refused }) sum)
