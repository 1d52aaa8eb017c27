use Rattle.std.proofs.Common.{◌≡◌, ◌≢◌, ◌+◌, ◌-◌, ◌∷◌, ◌++◌, set, get_or, ◌∙◌, ap, sym, subst, refl, true}
use Rattle.heap_model.specs.Store.{Store, is_allocated}
use Rattle.nodes.specs.Grey.{GreySet, grey_in, in_buffers, inserted}
use Rattle.nodes.proofs.Linking.{linked_taken}
use Rattle.nodes.proofs.Threading.{grey_none}
use Rattle.satb_barrier.proofs.Listing.{first_allocated, first_taken, first_out}
use Rattle.satb_barrier.proofs.list.pop_grey.Goals.{After-link-next, After-set_first}
use Rattle.satb_barrier.proofs.list.pop_grey.Goals as goal

pub returns-then-part-eq0-clause-none : goal.returns-then-part-eq0-clause-none
returns-then-part-eq0-clause-none c = λ e. (grey_none c.args.heap.now.nodes c.args.heap.now.grey (sym c.first-part.ensures ∙ c.if-part-eq0.true) c.requires.buffers, refl)

-- the list has a first part
some_first : (c : After-link-next) → c.args.heap.now.grey.first ≢ 0
some_first c e = c.if-part-eq0.false (c.first-part.ensures ∙ e)

pub link-next-requires : goal.link-next-requires
link-next-requires c = subst (λ x. is_allocated c.args.heap.now.nodes (x - 1) ≡ true) (sym c.first-part.ensures) (first_allocated c.args.heap.now c.requires.grey (λ e. c.if-part-eq0.false (c.first-part.ensures ∙ e)))

pub set_link-requires : goal.set_link-requires
set_link-requires c = subst (λ x. is_allocated c.args.heap.now.nodes (x - 1) ≡ true) (sym c.first-part.ensures) (first_allocated c.args.heap.now c.requires.grey (λ e. c.if-part-eq0.false (c.first-part.ensures ∙ e)))

pub returns-clause-allocated : goal.returns-clause-allocated
returns-clause-allocated c = subst (λ x. is_allocated c.args.heap.now.nodes (x - 1) ≡ true) (sym c.first-part.ensures) (first_allocated c.args.heap.now c.requires.grey (λ e. c.if-part-eq0.false (c.first-part.ensures ∙ e)))

-- the next part, and the store after the write
next_is : (c : After-link-next) → c.link-next.result ≡ get_or c.args.heap.now.nodes.words (c.args.heap.now.grey.first - 1 + 3) 0
next_is c = c.link-next.ensures ∙ ap (λ x. get_or c.args.heap.now.nodes.words (x - 1 + 3) 0) c.first-part.ensures

written : (c : After-set_first) → c.set_link.new.self ≡ record c.args.heap.now.nodes { words = set c.args.heap.now.nodes.words (c.args.heap.now.grey.first - 1 + 3) 0 }
written c = c.set_link.ensures.linked ∙ ap (λ x. let s : Store = record c.args.heap.now.nodes { words = set c.args.heap.now.nodes.words (x - 1 + 3) 0 } in s) c.first-part.ensures

pub returns-clause-taken : goal.returns-clause-taken
returns-clause-taken c =
    let a = c.args.heap.now in let s = (goal.at.returns-clause-taken c).After-set_first in
    let q = first_taken a c.requires.grey (some_first (goal.at.returns-clause-taken c).After-link-next) c.link-next.result (next_is (goal.at.returns-clause-taken c).After-link-next) c.set_link.new.self (written s) in
    (q.0, q.1, q.2 ∙ ap (λ x. q.0 ++ x ∷ q.1) (sym c.first-part.ensures), ap (grey_in c.set_link.new.self) c.set_first.ensures ∙ q.3)

pub returns-clause-linked : goal.returns-clause-linked
returns-clause-linked c =
    let a = c.args.heap.now in let s = (goal.at.returns-clause-linked c).After-set_first in
    let out = first_out a c.requires.grey (some_first (goal.at.returns-clause-linked c).After-link-next) c.link-next.result (next_is (goal.at.returns-clause-linked c).After-link-next) c.set_link.new.self (written s) in
    linked_taken a.nodes c.set_link.new.self a.grey c.set_first.new.self a.grey.first c.requires.linked (ap (λ (g : GreySet). in_buffers g.buffers) c.set_first.ensures ∙ c.requires.buffers) (some_first (goal.at.returns-clause-linked c).After-link-next)
    (written s) (ap (λ x. get_or c.set_link.new.self.words (x - 1 + 3) 0) (sym c.first-part.ensures) ∙ c.set_link.ensures.there)
    (out ∙ ap (λ (g : GreySet). inserted a.grey.first (grey_in c.set_link.new.self g)) (sym c.set_first.ensures))
