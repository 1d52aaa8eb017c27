use Rattle.std.proofs.Common.{◌≡◌, ◌+◌, ◌-◌, set, List, ℕ, ap, ◌∙◌, sym}
use Rattle.heap_model.specs.Store.{Store}
use Rattle.nodes.specs.Grey.{grey_in}
use Rattle.nodes.proofs.Threading.{threaded}
use Rattle.satb_barrier.proofs.list.push_grey.Goals as goal

pub returns-clause-grey : goal.returns-clause-grey
returns-clause-grey c =
    let a = c.args.heap.now in
    let words : List ℕ = c.set_link.new.self.words in
    let is : words ≡ set a.nodes.words (c.args.part - 1 + 3) a.grey.first = ap (λ (s : Store). s.words) c.set_link.ensures.linked ∙ ap (set a.nodes.words (c.args.part - 1 + 3)) c.first.ensures in
    ap (λ (s : Store). grey_in s c.set_first.new.self) (c.set_link.ensures.linked ∙ ap (λ ws. record a.nodes { words = ws }) (sym (ap (λ (s : Store). s.words) c.set_link.ensures.linked))) ∙ ap (grey_in (record a.nodes { words = words })) c.set_first.ensures
    ∙ threaded a.nodes a.grey words c.args.part c.requires.some is (c.set_link.ensures.there ∙ c.first.ensures) c.requires.fresh c.requires.few
