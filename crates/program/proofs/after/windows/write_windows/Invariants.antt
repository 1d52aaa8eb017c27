use Rattle.std.proofs.Common.{◌≡◌, take}
use Rattle.program.specs.Windows.{AllTold}
use Rattle.program.proofs.after.windows.write_windows.Given as goal

-- The lines of the windows so far are written, and no write has failed.
abbrev pub invariant-loop-window : goal.invariant-loop-window
invariant-loop-window g l = record {
  told : AllTold l.config l.schedule (take l.window-index l.windows) (g.K.Sink.taken l.fn.sink) (g.K.Sink.taken l.sink);
  failures : g.K.Sink.failures l.sink ≡ g.K.Sink.failures l.fn.sink;
}
