use Rattle.heap_model.proofs.Agreements.Implied.{consistent_agrees}
use Rattle.heap_model.proofs.Alike.Sameness.{told, agrees_alike}
use Rattle.heap_model.proofs.Represents.{represents_chain, represents_begun}
use Rattle.heap_model.specs.Action.{begun}
use Rattle.heap_model.proofs.representing.collecting_shows_nothing.Goals as goal

pub returns-clause-chain : goal.returns-clause-chain
returns-clause-chain c = λ h after spent p s g w chain a.
    let v = represents_chain h after spent p s w chain in
    agrees_alike after p g (consistent_agrees after p s v.consistent) (told h p g (consistent_agrees h p s w.consistent) a)

pub returns-clause-begun : goal.returns-clause-begun
returns-clause-begun c = λ h p s g w e a.
    let v = represents_begun h p s w e in
    agrees_alike (begun h) p g (consistent_agrees (begun h) p p v.consistent) (told h p g (consistent_agrees h p s w.consistent) a)
