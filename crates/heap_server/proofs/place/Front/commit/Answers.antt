use Rattle.std.proofs.Common.{List, sym, subst}
use mathlib.Core.List.{IsPrefix}
use Rattle.graph_heap.specs.declared.command.Entry.{Entry}
use Rattle.heap_server.specs.HistoryLength.{Commits}
use Rattle.heap_server.proofs.Fronts.{prefix_trans}
use Rattle.heap_server.proofs.Adding.{commits_whole, commits_longer}
use Rattle.heap_server.proofs.place.Front.commit.Goals as goal

pub returns-then-found-at-clause-done : goal.returns-then-found-at-clause-done
returns-then-found-at-clause-done g c =
    let whole = c.args.self.now in
    let begins : IsPrefix whole c.learn.new.self = subst (λ (h : List Entry). IsPrefix h c.learn.new.self) c.again-both.ensures c.learn.ensures.this in
    subst (λ (h : List Entry). Commits whole c.args.mine.now c.args.next.now c.add-found.result c.add-found.new.self h) (sym c.again.ensures)
    (commits_whole whole c.args.mine.now c.learn.new.self c.add-found.new.self c.args.next.now c.add-found.result c.args.at c.requires.whole begins c.learn.ensures.that c.add-found.ensures.added c.if-found-at.true)

pub returns-else-found-at-clause-done : goal.returns-else-found-at-clause-done
returns-else-found-at-clause-done g c =
    let whole = c.args.self.now in
    let begins : IsPrefix whole c.learn.new.self = subst (λ (h : List Entry). IsPrefix h c.learn.new.self) c.again-both.ensures c.learn.ensures.this in
    subst (λ (h : List Entry). Commits whole c.args.mine.now c.args.next.now c.add-found.result whole h) (sym c.again.ensures)
    (commits_longer whole c.args.mine.now c.learn.new.self c.add-found.new.self c.args.next.now c.add-found.result c.args.at c.requires.whole begins c.add-found.ensures.grows c.add-found.ensures.added c.if-found-at.false)

pub returns-else-found-at-clause-grows : goal.returns-else-found-at-clause-grows
returns-else-found-at-clause-grows g c =
    let known : IsPrefix c.args.mine.now c.add-found.new.self = prefix_trans c.args.mine.now c.learn.new.self c.add-found.new.self c.learn.ensures.that c.add-found.ensures.grows in
    subst (λ (h : List Entry). IsPrefix c.args.mine.now h) (sym c.again.ensures) known
