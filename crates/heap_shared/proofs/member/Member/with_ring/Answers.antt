use Rattle.std.proofs.Common.{◌≡◌, ◌∙◌, ◌++◌, List, [], ◌∷◌, refl, sym, ap, subst, arith}
use Rattle.atomic_table.specs.Table.{opening}
use Rattle.heap_shared.specs.Ring.{Ringed}
use Rattle.heap_shared.specs.Turns.{Keeps, newcomer}
use Rattle.heap_shared.proofs.Turns.{opens}
use Rattle.heap_shared.proofs.member.Member.with_ring.Goals as goal

pub new-requires-2 : goal.new-requires-2
new-requires-2 c =
    let config = c.args.asked.now in
    let r = c.in_ok-heap.heap in
    let items : c.push_reserved.new.self.items ≡ r ∷ [] = c.push_reserved.ensures.items ∙ ap (λ (xs : List Ringed). xs ++ r ∷ []) c.in_ok-slots.ensures.items in
    subst (λ (xs : List Ringed). Keeps config (opening _ xs (newcomer config))) (sym items) (opens config _ r (omega arith) refl c.in_ok-heap.ensures.events c.in_ok-heap.ensures.asked)
