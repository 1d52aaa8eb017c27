use Rattle.std.proofs.Common.{◌≡◌, ℕ, [], ◌∷◌, ◌++◌, take, refl, sym, ap, ◌∙◌, arith, subst}
use Rattle.graph_heap.specs.declared.command.Command.TheVariants as commands
use Rattle.graph_heap.specs.declared.command.Shape.TheVariants as shapes
use Rattle.graph_heap.specs.Merge.{mine, commands_of}
use Rattle.std.proofs.lemmas.List.{take_more}
use Rattle.heap_server.specs.Played.{IsPart}
use Rattle.heap_server.specs.Views.{SeatView}
use Rattle.heap_server.proofs.Parts.{told_grows, told_more}
use Rattle.heap_server.proofs.workers.work.Goals as goal

pub loop-command-preserved : goal.loop-command-preserved
loop-command-preserved g c =
    let i = c.loop-command.invariant in
    let e = c.in-Ok.ensures in
    let old = c.loop-command.seat in
    let new = c.call.new.seat in
    let who : new.mutator ≡ old.mutator = ap (λ (s : SeatView). s.mutator) e.counted in
    let before = take c.loop-command.command-index c.args.script.now in
    let told = told_more before c.in-Ok.field-0.entry.command old.seen e.ends.0 new.seen c.in-Ok.field-0.entry new.mutator e.ends.1 e.ends.2 (e.entry.0 ∙ sym who) refl (subst (λ (m : ℕ). IsPart before (commands_of (mine old.seen m))) (sym who) i.told) in
    let grown = take_more c.args.script.now c.loop-command.command-index (commands.New 0 (shapes.Plain 0 0)) c.loop-command-test.true ∙ ap (λ x. before ++ x ∷ []) (sym e.entry.1) in
    record {
      mutator = who ∙ i.mutator;
      calls = omega (arith, ap (λ (s : SeatView). s.calls) e.counted, i.calls);
      told = subst (λ w. IsPart w (commands_of (mine new.seen new.mutator))) (sym grown) told;
    }

pub returns-in_default : goal.returns-in_default
returns-in_default g c =
    let i = c.loop-command.invariant in
    let err = c.in_default.ensures in
    let old = c.loop-command.seat in
    let new = c.call.new.seat in
    let who : new.mutator ≡ old.mutator = ap (λ (s : SeatView). s.mutator) err.err in
    let calls : new.calls ≡ c.loop-command.command-index = ap (λ (s : SeatView). s.calls) err.err ∙ i.calls in
    let before = take c.loop-command.command-index c.args.script.now in
    let told : IsPart before (commands_of (mine new.seen new.mutator)) = told_grows before old.seen new.seen new.mutator err.seen (subst (λ (m : ℕ). IsPart before (commands_of (mine old.seen m))) (sym who) i.told) in
    record {
      mutator = who ∙ i.mutator;
      within = omega (arith, calls, c.loop-command-test.true);
      told = subst (λ (n : ℕ). IsPart (take n c.args.script.now) (commands_of (mine new.seen new.mutator))) (sym calls) told;
    }
