use Rattle.std.proofs.Common.{rules, ◌≡◌, ◌∙◌, ◌+◌, ◌<◌, length, refl, sym, ap, arith}
use Rattle.std.proofs.lemmas.List.{get_or-set_same}
use Rattle.std.specs.Option.{option_map}
use Rattle.graph_heap.specs.declared.command.Command.TheVariants as commands
use Rattle.graph_heap.specs.declared.command.Reply.TheVariants as replies
use Rattle.paced.specs.Pacing.{PacerView}
use Rattle.heap_shared.proofs.Replies.{IsWord, got, passes, as_told}
use Rattle.heap_shared.proofs.lists.SharedHeapCommands.get_run.Goals as goal

pub unreachable-requires : goal.unreachable-requires
unreachable-requires c =
    let word = passes IsWord c.call_by.result (got c.args.mutator c.args.self.now c.call_by.new.self c.call_by.result c.args.obj c.args.first c.call_by.ensures.goes) c.in_default.not-Refused in
    absurd (c.in_default.not-Word word.0 word.1)

pub returns-in-Word-clause-reads : goal.returns-in-Word-clause-reads
returns-in-Word-clause-reads c =
    let some : 0 < length c.args.words.now = search rules in
    let at : c.args.first ≡ c.args.first + 0 = omega arith in
    let figures = ap (option_map (λ (p : PacerView). p.figures)) c.call_by.ensures.pacer in
    (c.args.self.now, refl, as_told c.args.mutator c.args.self.now c.call_by.new.self (commands.Get c.args.obj c.args.first) (commands.Get c.args.obj (c.args.first + 0)) c.call_by.result _ (ap (λ n. commands.Get c.args.obj n) at) (c.in-Word.is ∙ ap (λ w. replies.Word w) (sym (get_or-set_same c.args.words.now 0 c.in-Word.word 0 some))) (c.call_by.ensures.goes, figures))

pub returns-in-Refused-clause-reads : goal.returns-in-Refused-clause-reads
returns-in-Refused-clause-reads c =
    let at : c.args.first ≡ c.args.first + 0 = omega arith in
    let figures = ap (option_map (λ (p : PacerView). p.figures)) c.call_by.ensures.pacer in
    as_told c.args.mutator c.args.self.now c.call_by.new.self (commands.Get c.args.obj c.args.first) (commands.Get c.args.obj (c.args.first + 0)) c.call_by.result (replies.Refused c.in-Refused.why) (ap (λ n. commands.Get c.args.obj n) at) c.in-Refused.is (c.call_by.ensures.goes, figures)
