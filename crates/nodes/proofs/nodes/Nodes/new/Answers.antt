use Rattle.std.proofs.Common.{ap, ◌∙◌, sym}
use Rattle.headers.specs.Memory.{Memory}
use Rattle.nodes.proofs.Fresh.{fresh_is, fresh_nodes, fresh_count}
use Rattle.nodes.proofs.nodes.Nodes.new.Goals as goal

pub invariant_of-result : goal.invariant_of-result
invariant_of-result c =
    let words = ap (λ (m : Memory). m.words) c.in_ok-arena.ensures in
    (fresh_nodes c.args.pages c.requires _ _ c.in_ok-table.ensures words, ap (λ (m : Memory). m.pages) c.in_ok-arena.ensures ∙ sym (fresh_count c.args.pages c.requires _ _ c.in_ok-table.ensures words))

pub returns : goal.returns
returns c = fresh_is c.args.pages c.requires _ _ c.in_ok-table.ensures (ap (λ (m : Memory). m.words) c.in_ok-arena.ensures)
