use Rattle.std.proofs.Common.{◌∙◌, ℕ, ◌+◌, ◌-◌, ◌≤◌, List, length, take, drop, sym, ap, refl, subst, arith}
use Rattle.std.specs.Prelude.{Some, None}
use Rattle.std.proofs.lemmas.List.{drop-drop, take_rest}
use Rattle.graph_heap.specs.declared.command.Command.TheVariants as commands
use Rattle.graph_heap.specs.declared.command.Reply.TheVariants as replies
use borrow.Rule.Slice.PartMut.{put_mid}
use Rattle.bulk.specs.declared.progress.Progress.{Progress}
use Rattle.bulk.specs.InOrder.{DoesWithBy, words_told}
use Rattle.bulk.specs.Lists.{gets}
use Rattle.bulk.proofs.Lists.{get_at}
use Rattle.bulk.proofs.Rows.{ends_with}
use Rattle.bulk.proofs.Runs.{number_in, number_first, reads_on, front_same, front_more, rest_stays}
use Rattle.bulk.proofs.words.get_words.Goals as goal

pub returns-in-Err-clause-reads : goal.returns-in-Err-clause-reads
returns-in-Err-clause-reads g c =
    let i = c.loop-done.done in let l : i ≤ length c.loop-done.words = omega arith in
    let read = put_mid i (length c.loop-done.words - i) c.loop-done.words c.get_run.new.words in
    subst (λ (p : Progress). DoesWithBy (g.H.Commands.does c.args.mutator) c.args.heap.now (gets c.args.obj c.args.first (length c.args.words.now)) (words_told (take p.done read)) p c.get_run.new.self) (sym c.stopped.ensures)
    (subst (λ (xs : List ℕ). DoesWithBy (g.H.Commands.does c.args.mutator) c.args.heap.now (gets c.args.obj c.args.first (length c.args.words.now)) (words_told xs) (record { done = i; refused = Some c.in-Err.refusal }) c.get_run.new.self)
    (sym (front_same c.loop-done.words c.get_run.new.words i l))
    (ends_with (g.H.Commands.does c.args.mutator) (get_at c.args.obj c.args.first) c.args.heap.now c.loop-done.heap c.get_run.new.self i (commands.Get c.args.obj (c.saturating_add.result + 0)) (replies.Refused c.in-Err.refusal)
    (ap (λ n. commands.Get c.args.obj n) (number_first c.args.first i c.saturating_add.result c.saturating_add.ensures)) c.in-Err.ensures.reads (length c.args.words.now) c.in-Err.refusal (words_told (take i c.loop-done.words)) (omega arith) c.loop-done.invariant.1 refl))

pub loop-done-preserved : goal.loop-done-preserved
loop-done-preserved g c =
    let i = c.loop-done.done in let n = c.in-Ok.count in let l : i ≤ length c.loop-done.words = omega arith in
    let fits = c.in-Ok.ensures.numbers in (
      omega (arith, fits),
      subst (λ (xs : List ℕ). DoesWithBy (g.H.Commands.does c.args.mutator) c.args.heap.now (gets c.args.obj c.args.first (i + n)) (words_told xs) (record { done = i + n; refused = None }) c.get_run.new.self)
          (sym (front_more c.loop-done.words c.get_run.new.words i l n))
          (reads_on (g.H.Commands.does c.args.mutator) (get_at c.args.obj c.args.first) c.args.heap.now c.loop-done.heap i (λ k. commands.Get c.args.obj (c.saturating_add.result + k)) n c.get_run.new.self (take i c.loop-done.words) c.get_run.new.words (omega (arith, fits))
          (λ k b. ap (λ z. commands.Get c.args.obj z) (number_in c.args.first i n k c.saturating_add.result c.saturating_add.ensures fits.2 b)) c.loop-done.invariant.1 c.in-Ok.ensures.reads),
      rest_stays c.loop-done.words c.get_run.new.words i l n (c.in-Ok.ensures.rest ∙ ap (drop n) (take_rest c.loop-done.words i)) ∙ sym (drop-drop n i c.loop-done.words) ∙ ap (drop n) c.loop-done.invariant.2 ∙ drop-drop n i c.args.words.now,
    )
