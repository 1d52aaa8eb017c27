use Rattle.std.proofs.Common.{◌∙◌, sym, ap, get_or, Ok}
use Rattle.std.proofs.lemmas.Result.{err_from_is_err_and}
use Rattle.machine.specs.Reading.{FindsWord}
use Rattle.machine.specs.Runs.{words_from}
use Rattle.machine.proofs.Doing.{present_agrees, at_present}
use Rattle.machine.proofs.Finding.{word_allocated}
use Rattle.machine.proofs.RunFinding.{run_found, run_counted, run_refused}
use Rattle.machine.proofs.heap.Heap.run_of_words.Goals as goal

pub shape-shape-requires : goal.shape-shape-requires
shape-shape-requires c =
    let w = c.self.invariant.heap in
    let there = at_present (λ x g. FindsWord x g (get_or g.roots c.in_ok-root.root 0) c.args.first (Ok c.in_ok-at.at)) _ _ c.self.view_is w c.in_ok-at.ensures in
    word_allocated _ w.present (present_agrees _ w) _ c.args.first c.in_ok-at.at there.1

pub returns-clause-found : goal.returns-clause-found
returns-clause-found c =
    run_found _ _ c.self.view_is c.self.invariant.heap c.args.mutator c.args.obj c.args.first c.in_ok-root.root c.in_ok-admit.field-0 (sym c.in_ok-admit.ensures.admitted) c.in_ok-root.ensures.place
    c.in_ok-at.at c.words_from.result c.in_ok-at.ensures (c.words_from.ensures ∙ ap (λ s. words_from s c.args.first) c.shape-shape.ensures)

pub returns-clause-length : goal.returns-clause-length
returns-clause-length c g a = sym
    (run_counted _ _ c.self.view_is c.self.invariant.heap c.args.mutator c.args.obj c.args.first c.in_ok-root.root c.in_ok-admit.field-0 (sym c.in_ok-admit.ensures.admitted) c.in_ok-root.ensures.place
    c.in_ok-at.at c.words_from.result c.in_ok-at.ensures (c.words_from.ensures ∙ ap (λ s. words_from s c.args.first) c.shape-shape.ensures) g a)

pub returns-in_err-at-clause-length : goal.returns-in_err-at-clause-length
returns-in_err-at-clause-length c g a =
    let p = err_from_is_err_and c.from_residual-in_err-at.result c.from_residual-in_err-at.ensures.1 in
    rw (p.1, p.2)
    (sym (run_refused _ _ c.self.view_is c.self.invariant.heap c.args.mutator c.args.obj c.args.first c.in_ok-root.root c.in_ok-admit.field-0 (sym c.in_ok-admit.ensures.admitted) c.in_ok-root.ensures.place
    g a _ (c.in_err-at.ensures g a)))
