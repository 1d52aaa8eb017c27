use Rattle.std.proofs.Common.{subst}
use Rattle.memchr.specs.Find.{IsFirstByte, is_byte}
use Rattle.trace.proofs.Feeds.{front_is}
use Rattle.trace.proofs.line_reader.far_line_feed.Goals as goal

-- the bytes that are searched are the first 257
pub returns : goal.returns
returns c = subst (λ l. IsFirstByte (is_byte 10) l c.memchr.result) (front_is c.args.bytes.now c.min.result c.min.ensures) c.memchr.ensures
