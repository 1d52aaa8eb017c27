use Rattle.std.proofs.Common.{◌<◌, ◌≤◌, length, arith, refl, subst}
use Rattle.std.proofs.lemmas.Result.{err_from_is_err_and}
use Rattle.trace.specs.LineReader.{Lines}
use Rattle.trace.proofs.Feeds.{short_line, none_came}
use Rattle.trace.proofs.line_reader.LineReader.next_line_once_flushed.Goals as goal

pub returns-then-kept-gt-LONGEST-clause-hands : goal.returns-then-kept-gt-LONGEST-clause-hands
returns-then-kept-gt-LONGEST-clause-hands g c =
    let cut = c.if-cut_line.ensures in
    let same = cut.same refl in
    let long : 256 < length c.args.self.now.kept = subst (λ (s : Lines). 256 < length s.kept) same (omega arith) in
    rw (c.fault.ensures, same) (none_came (g.S.Source.given c.args.source.now) (g.S.Source.ended c.args.source.now) c.args.self.now _ (refl, long, cut.none refl) cut.small)

pub returns-in_err-flush-clause-hands : goal.returns-in_err-flush-clause-hands
returns-in_err-flush-clause-hands g c =
    let p = err_from_is_err_and c.from_residual.result c.from_residual.ensures.1 in
    let cut = c.if-cut_line.ensures in
    let same = cut.same refl in
    let few : length c.args.self.now.kept ≤ 256 = subst (λ (s : Lines). length s.kept ≤ 256) same (omega arith) in
    rw (p.1, p.2, same) (none_came (g.S.Source.given c.args.source.now) (g.S.Source.ended c.args.source.now) c.args.self.now _ (short_line c.args.self.now.kept few (cut.none refl)) cut.small)
