use Rattle.std.proofs.Common.{[], ◌∷◌, ◌++◌, Ok, Option, append-nil, inl, inr, sym, subst, ap, ◌∙◌}
use Rattle.std.proofs.lemmas.Result.{err_from_is_err_and}
use Rattle.graph_heap.specs.declared.command.Entry.{Entry}
use Rattle.heap_model.specs.Event.{Command_done}
use Rattle.trace.specs.Streams.{GrowsByPart}
use Rattle.trace.specs.declared.fault.PlayFault.TheVariants.{Write}
use Rattle.trace.specs.declared.line.Line.{Line}
use Rattle.trace.specs.Numbered.{LineRead}
use Rattle.trace.specs.TextLine.{text_in}
use Rattle.trace.specs.Player.{DoesLine}
use Rattle.trace.specs.Playing.{session, says_event, Stops, written_line, written_of}
use Rattle.trace.proofs.First.{went, went_on}
use Rattle.trace.proofs.Lines.{entered, entry_of}
use Rattle.trace.proofs.Seeing.{in_silence}
use Rattle.trace.proofs.player.line.play_line.Goals as goal

pub returns-in-Command-clause-played : goal.returns-in-Command-clause-played
returns-in-Command-clause-played g c =
    let read = subst (λ (o : Option Line). LineRead (text_in c.args.text) (Ok o)) c.in-Some.is c.in_ok-line.ensures in
    let r = c.in_ok-receipt.receipt in
    let call = c.in_ok-receipt.ensures in
    let es = Command_done c.in-Command.mutator c.in-Command.command r.entry.reply ∷ [] in
    let does = subst (λ (line : Line). DoesLine c.args.player.now line es c.call.new.self) (sym c.in-Command.is) call.does in
    let taken = g.K.Sink.taken c.args.sink.now in
    let line = written_line c.args.style r.entry in
    let told = c.in_ok-tell_entry.ensures.ok ∙ ap (λ (e : Entry). taken ++ written_line c.args.style e) c.entry.ensures in
    let written = ap (λ l. taken ++ written_of c.args.style l) (sym (entered r.entry c.in-Command.mutator c.in-Command.command call.entry.0 call.entry.1)) in
    went c.args.style (text_in c.args.text) taken (g.K.Sink.taken c.tell_entry.new.sink) c.in-Some.line c.args.player.now c.call.new.self es _ read does
    (told ∙ ap (λ t. taken ++ t) (sym (append-nil line)) ∙ written) (ap says_event (sym c.in-Command.is))

pub returns-in_err-tell_entry-clause-played : goal.returns-in_err-tell_entry-clause-played
returns-in_err-tell_entry-clause-played g c =
    let p = err_from_is_err_and c.from_residual-in_err-tell_entry.result c.from_residual-in_err-tell_entry.ensures.1 in
    let read = subst (λ (o : Option Line). LineRead (text_in c.args.text) (Ok o)) c.in-Some.is c.in_ok-line.ensures in
    let r = c.in_ok-receipt.receipt in
    let call = c.in_ok-receipt.ensures in
    let old = session c.args.player.now (g.K.Sink.taken c.args.sink.now) in
    let new = session c.call.new.self (g.K.Sink.taken c.tell_entry.new.sink) in
    let is = c.entry.ensures ∙ entry_of r.entry c.in-Command.mutator c.in-Command.command call.entry.0 call.entry.1 in
    let part = subst (λ (e : Entry). GrowsByPart old.taken new.taken (written_line c.args.style e)) is c.in_err-tell_entry.ensures.err in
    rw (p.1, p.2) (inr (inl (c.in-Some.line, read.1, subst (λ (line : Line). Stops c.args.style Write line c.args.text.number old new) (sym c.in-Command.is) (r.entry.reply, call.does, part))))

pub returns-in_err-do_line-clause-played : goal.returns-in_err-do_line-clause-played
returns-in_err-do_line-clause-played g c =
    let p = err_from_is_err_and c.from_residual-in_err-do_line.result c.from_residual-in_err-do_line.ensures.1 in
    let read = subst (λ (o : Option Line). LineRead (text_in c.args.text) (Ok o)) c.in-Some.is c.in_ok-line.ensures in
    rw (p.1, p.2) (inr (inl (c.in-Some.line, read.1, in_silence c.in_err-do_line.ensures.done c.args.style (g.K.Sink.taken c.args.sink.now))))

pub returns-clause-played : goal.returns-clause-played
returns-clause-played g c =
    let read = subst (λ (o : Option Line). LineRead (text_in c.args.text) (Ok o)) c.in-Some.is c.in_ok-line.ensures in
    let done = c.in_ok-do_line.ensures.done in
    went_on c.args.style (text_in c.args.text) (g.K.Sink.taken c.args.sink.now) c.in-Some.line c.args.player.now c.do_line.new.player done.0 c.is_event.result read done.1
    (λ m command. c.in_default-line.not-Command m command) c.is_event.ensures
