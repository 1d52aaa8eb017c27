-- A reader of lines, as it lies in its buffer.
use Rattle.std.specs.Prelude.{◌≡◌, ◌+◌, ◌-◌, ◌^◌, ◌<◌, ◌≤◌, nat_le, if◌then◌else◌, slice_range}
use Rattle.trace.specs.declared.line_reader.LineReader.TheInside.{Inside}
use Rattle.trace.specs.declared.version.Version.{Version}
use Rattle.trace.specs.declared.version.Version.TheVariants.{First}
use Rattle.trace.specs.LineReader.{Lines}

-- the version of the line handed out last: that of the first line is the first version, and that of each later line
-- is the one that the first line told
abbrev pub version_in : Inside → Version
version_in a = if nat_le a.number 1 then First else a.next

-- the view of a reader's fields
abbrev pub lines_in : Inside → Lines
lines_in a = record {
  text = record {
    bytes = slice_range a.buffer a.line_start a.line_end;
    number = a.number;
    version = version_in a;
  };
  kept = slice_range a.buffer a.start a.end;
  next = a.next;
}

-- The ranges lie in the buffer, the lines can be counted, and no version is told before the first line.
pub record IsBuffered (a : Inside) : Type 0 where
  pub line : a.line_start ≤ a.line_end
  pub line_within : a.line_end ≤ 65536
  pub range : a.start ≤ a.end
  pub within : a.end ≤ 65536
  pub few : a.number + (a.end - a.start) < 2 ^ 64
  pub untold : a.number ≡ 0 → a.next ≡ First
