use Rattle.std.proofs.Common.{◌≡◌, take, length}
use Rattle.std.specs.List.{AllZip}
use Rattle.pictures.specs.declared.share.TheConstants.{WINDOWS}
use Rattle.pictures.specs.Utilisation.{IsShare}
use Rattle.pictures.proofs.measuring.shares.Given as goal

-- the shares of the windows so far
abbrev pub invariant-loop-window : goal.invariant-loop-window
invariant-loop-window l = record {
  each : AllZip (IsShare l.config l.schedule) (take l.window-index WINDOWS) l.shares.items;
  count : length l.shares.items ≡ l.window-index;
}
