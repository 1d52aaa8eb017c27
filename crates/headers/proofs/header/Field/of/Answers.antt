use Rattle.std.proofs.Common.{◌-◌, ◌/◌, ◌^◌, bit_and, ap, ◌∙◌}
use Rattle.std.proofs.lemmas.Nat.{one_shl, and_mask}
use Rattle.headers.proofs.header.Field.of.Goals as goal

pub returns : goal.returns
returns c =
    let shifted = c.args.word / 2 ^ c.args.self.low in
    ap (λ n. bit_and shifted (n - 1)) (one_shl c.args.self.bits 64 c.requires.bits) ∙ and_mask shifted c.args.self.bits
