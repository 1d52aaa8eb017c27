use Rattle.std.proofs.Common.{arith, ◌≤◌, length}
use Rattle.trace.proofs.Streaming.{reads_behind, reads_so_many}
use Rattle.trace.proofs.line_reader.read_after.Goals as goal

pub returns-clause-bytes : goal.returns-clause-bytes
returns-clause-bytes g c =
    let h : c.args.at ≤ length c.args.buffer.now = omega arith in
    reads_behind c.read.result c.args.at _ c.args.buffer.now c.read.new.buffer _ _ h c.read.ensures.within c.read.ensures.bytes

pub returns-clause-counted : goal.returns-clause-counted
returns-clause-counted g c = reads_so_many c.read.result c.read.new.buffer _ _ c.read.ensures.within c.read.ensures.bytes
