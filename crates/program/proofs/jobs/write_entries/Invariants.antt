use Rattle.std.proofs.Common.{◌≡◌, ◌++◌, take}
use Rattle.trace.specs.declared.player.style.Style.TheVariants.{Entries}
use Rattle.trace.specs.Playing.{written_of}
use Rattle.program.proofs.jobs.write_entries.Given as goal

-- The lines of the entries so far are written, and no write has failed.
abbrev pub invariant-loop-entry : goal.invariant-loop-entry
invariant-loop-entry g l = record {
  text : g.K.Sink.taken l.sink ≡ g.K.Sink.taken l.fn.sink ++ written_of Entries (take l.entry-index l.history);
  failures : g.K.Sink.failures l.sink ≡ g.K.Sink.failures l.fn.sink;
}
