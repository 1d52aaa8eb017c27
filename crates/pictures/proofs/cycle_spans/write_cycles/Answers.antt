use Rattle.std.proofs.Common.{◌≡◌, [], refl, ap, ◌∙◌, arith}
use Rattle.std.specs.Iterator.Adapters.{zip_first, zip_second}
use Rattle.std.specs.Slice.Iter.{iter_rest}
use Rattle.std.proofs.lemmas.Result.{on_err_weaker, on_ok_weaker}
use Rattle.std.proofs.lemmas.Slice.Zip.{Zip-more, either_empty_from_Zip}
use Rattle.pictures.specs.CycleSpans.{Turn}
use Rattle.pictures.proofs.CycleSpans.{first_on, goes_on, opens_next, opening_cut, last_written, last_cut, next_turn, no_turn}
use Rattle.pictures.proofs.Parts.{at_err}
use Rattle.pictures.proofs.cycle_spans.write_cycles.Goals.{then-start+in_ok-write_present, else-start}
use Rattle.pictures.proofs.cycle_spans.write_cycles.Goals as goal

pub loop-quantum-init : goal.loop-quantum-init
loop-quantum-init g c =
    let gives = c.into_iter-quantum-iterator.ensures.into_iter_gives in
    let first = ap (λ z. iter_rest (zip_first z)) gives ∙ ap iter_rest c.zip-quantum-items.ensures.first ∙ c.iter.ensures.rest in
    let other : iter_rest (zip_second c.zip-quantum-items.result) ≡ c.args.starts.now = c.zip-quantum-items.ensures.second.0 in
    let second = ap (λ z. iter_rest (zip_second z)) gives ∙ other in
    record { here = first_on (g.K.Sink.taken c.args.sink.now) c.new-cycle.result first second c.new-cycle.ensures; failures = refl }

pub returns-in_err-write_present-clause-err : goal.returns-in_err-write_present-clause-err
returns-in_err-write_present-clause-err g c =
    let q : Turn = (c.in-Some.quantum.now, c.in-Some.start.now) in
    let more = Zip-more c.loop-quantum.quantum-iterator c.next.new.self c.next.result (c.in-Some.quantum, c.in-Some.start) c.in-Some.is c.next.ensures.steps in
    at_err c.from_residual.result _
    (opening_cut c.loop-quantum.invariant.here (next_turn q more) (g.K.Sink.taken c.write_present.new.sink) c.if-start.true c.events.result c.events.ensures c.in_err-write_present.ensures.err)

pub loop-quantum-preserved : goal.loop-quantum-preserved
loop-quantum-preserved g c =
    let q : Turn = (c.in-Some.quantum.now, c.in-Some.start.now) in
    let more = Zip-more c.loop-quantum.quantum-iterator c.next.new.self c.next.result (c.in-Some.quantum, c.in-Some.start) c.in-Some.is c.next.ensures.steps in
    let on = c.loop-quantum.invariant.here in
    let taken = g.K.Sink.taken c.if-start.sink in
    elim c.if-start.branch [
      | then-start+in_ok-write_present w ↦ (
          let written = ap g.K.Sink.taken w.sink-is ∙ w.in_ok-write_present.ensures.ok in
          record {
            here = opens_next on (next_turn q more) taken w.if-start.true w.events.result w.events.ensures c.with-cycle.result (c.with-cycle.ensures [] (w.cycle-is ∙ w.new-cycle-then-start.ensures)) written;
            failures = omega (arith, ap g.K.Sink.failures w.sink-is, w.in_ok-write_present.ensures.cause, c.loop-quantum.invariant.failures);
          }
          )
      | else-start w ↦ (
          record {
            here = goes_on on (next_turn q more) taken c.with-cycle.result w.if-start.false (λ these e. c.with-cycle.ensures these (w.cycle-is ∙ e)) (ap g.K.Sink.taken w.sink-is);
            failures = ap g.K.Sink.failures w.sink-is ∙ c.loop-quantum.invariant.failures;
          }
          )
    ]

pub returns : goal.returns
returns g c =
    let it = c.loop-quantum.quantum-iterator in
    let none = no_turn _ _ (either_empty_from_Zip it c.next.new.self c.next.result c.in-None.is c.next.ensures.steps) in
    let events = c.events-2.result in
    let taken = g.K.Sink.taken c.write_present-2.new.sink in
    record {
      ok = on_ok_weaker c.write_present-2.result (last_written c.loop-quantum.invariant.here none taken events c.events-2.ensures) c.write_present-2.ensures.ok;
      err = on_err_weaker c.write_present-2.result (last_cut c.loop-quantum.invariant.here none taken events c.events-2.ensures) c.write_present-2.ensures.err;
      cause = omega (arith, c.write_present-2.ensures.cause, c.loop-quantum.invariant.failures);
    }
