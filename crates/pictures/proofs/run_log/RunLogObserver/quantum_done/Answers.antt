use Rattle.pictures.proofs.run_log.RunLogObserver.quantum_done.Goals as goal

pub returns : goal.returns
returns c = record {
  seen = λ s is mark after run seen now. (
    seen.0,
    c.quantum_done.ensures.seen s is mark after run seen.1 now,
    c.quantum.ensures run.steps s seen.2 is mark after,
  );
}
