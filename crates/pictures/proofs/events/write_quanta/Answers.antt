use Rattle.std.proofs.Common.{refl, ap, arith}
use Rattle.std.proofs.lemmas.List.{drop_all}
use Rattle.pictures.specs.Events.{quanta_events}
use Rattle.pictures.proofs.Parts.{at_err, none_yet, further, cut_short, all_of}
use Rattle.pictures.proofs.EventLines.{json_is, events_on, rising_here, rising_behind}
use Rattle.pictures.proofs.events.write_quanta.Goals as goal

pub loop-quantum-init : goal.loop-quantum-init
loop-quantum-init g c = record { rising = c.requires; written = none_yet json_is _ _; failures = refl }

pub events_of-requires : goal.events_of-requires
events_of-requires g c =
    rising_here c.loop-quantum.from c.args.quanta.now _ c.loop-quantum.quantum-index c.loop-quantum-test.true c.loop-quantum.invariant.rising

pub returns-in_err-write_lines-clause-err : goal.returns-in_err-write_lines-clause-err
returns-in_err-write_lines-clause-err g c =
    let on = events_on c.loop-quantum.from c.args.quanta.now _ c.loop-quantum.quantum-index c.loop-quantum-test.true c.events_of.result c.events_of.ensures in
    at_err c.from_residual.result _ (cut_short json_is _ _ _ _ c.loop-quantum.invariant.written _ _ on _ c.in_err-write_lines.ensures.err)

pub loop-quantum-preserved : goal.loop-quantum-preserved
loop-quantum-preserved g c =
    let on = events_on c.loop-quantum.from c.args.quanta.now _ c.loop-quantum.quantum-index c.loop-quantum-test.true c.events_of.result c.events_of.ensures in
    record {
      rising = rising_behind c.loop-quantum.from c.args.quanta.now _ c.loop-quantum.quantum-index c.loop-quantum-test.true c.loop-quantum.invariant.rising;
      written = further json_is _ _ _ _ c.loop-quantum.invariant.written _ _ on _ c.in_ok-write_lines.ensures.ok;
      failures = omega (arith, c.in_ok-write_lines.ensures.cause, c.loop-quantum.invariant.failures);
    }

pub returns-clause-ok : goal.returns-clause-ok
returns-clause-ok g c =
    all_of _ _ _ _ c.loop-quantum.invariant.written (ap (quanta_events c.loop-quantum.from) (drop_all c.loop-quantum.quantum-index c.args.quanta.now c.loop-quantum-test.false))
