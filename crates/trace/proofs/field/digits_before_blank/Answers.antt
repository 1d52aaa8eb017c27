use Rattle.std.proofs.Common.{◌+◌, drop}
use Rattle.trace.proofs.Cuts.{rest_of}
use Rattle.trace.proofs.Fronts.{field_is, narrow_is}
use Rattle.trace.proofs.field.digits_before_blank.Goals as goal

pub returns : goal.returns
returns c =
    let bytes = c.args.bytes.now in
    let wide = field_is bytes c.in_ok-n.n c.args.count c.in_ok-n.ensures.fronts c.requires.inside c.requires.blank in
    rw (rest_of c.args.bytes.now (c.args.count + 1)) (narrow_is bytes (drop (c.args.count + 1) bytes) c.in_ok-n.n wide c.in_ok-n.ensures.narrow)
