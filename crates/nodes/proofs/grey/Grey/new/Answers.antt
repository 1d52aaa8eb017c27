use Rattle.std.proofs.Common.{◌≡◌, ℕ, List, [], ◌∷◌, ◌++◌, replicate, ap, ◌∙◌, arith}
use Rattle.std.proofs.lemmas.List.{replicate-append-replicate}
use Rattle.nodes.specs.Grey.{MutatorRecords}
use Rattle.nodes.proofs.grey.Grey.new.Goals as goal

pub loop-preserved : goal.loop-preserved
loop-preserved c =
    let empty : c.new.result ≡ record { items = [] } = ap (λ (xs : List ℕ). let b : MutatorRecords = record { items = xs } in b) c.new.ensures in
    c.in_ok-push.ensures.items ∙ ap (λ bs. bs ++ c.new.result ∷ []) c.loop.invariant ∙ ap (λ (b : MutatorRecords). replicate c.loop.counter (record { items = [] }) ++ b ∷ []) empty
    ∙ replicate-append-replicate c.loop.counter 1 (record { items = [] })

pub returns : goal.returns
returns c = ap (λ bs. record { first = 0; buffers = bs }) (c.loop.invariant ∙ ap (λ n. replicate n (record { items = [] })) (omega (arith, c.loop.auto.counter-end, c.loop-test.false)))
