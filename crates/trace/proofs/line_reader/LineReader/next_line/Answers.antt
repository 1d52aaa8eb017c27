use Rattle.std.proofs.Common.{◌≤◌, ◌∙◌, length, take, arith, refl, sym, subst, ap, Ok}
use Rattle.trace.specs.Lines.{NoLf, IsLine, Comes}
use Rattle.trace.specs.LineReader.{Lines}
use Rattle.trace.proofs.Feeds.{short_line, comes_on}
use Rattle.trace.proofs.line_reader.LineReader.next_line.Goals as goal

pub returns-then-kept-gt-LONGEST-clause-hands : goal.returns-then-kept-gt-LONGEST-clause-hands
returns-then-kept-gt-LONGEST-clause-hands g c =
    let i = c.loop-self.invariant in
    let same = c.loop-self-test.ensures.same refl in
    let none : NoLf (take 257 c.cut_line.new.self.kept) = subst (λ (s : Lines). NoLf (take 257 s.kept)) (sym same) (c.loop-self-test.ensures.none refl) in
    rw c.fault.ensures (record {
      text = subst (λ (s : Lines). Comes (g.S.Source.given c.args.source.now) (g.S.Source.given c.loop-self.source) c.args.self.now.kept s.kept) (sym same) i.text;
      says = (refl, omega arith, none);
      number = omega (arith, ap (λ (s : Lines). s.text.number) same, i.number);
      versions = ap (λ (s : Lines). s.next) same ∙ i.next;
      small = omega (arith, c.loop-self-test.ensures.small, ap (λ (s : Lines). length s.kept) same);
    })

pub returns-in-Ok-eq0-2-clause-hands : goal.returns-in-Ok-eq0-2-clause-hands
returns-in-Ok-eq0-2-clause-hands g c =
    let i = c.loop-self.invariant in
    let same = c.loop-self-test.ensures.same refl in
    let fill = c.in-Ok-eq0.ensures in
    let none : NoLf (take 257 c.cut_line.new.self.kept) = subst (λ (s : Lines). NoLf (take 257 s.kept)) (sym same) (c.loop-self-test.ensures.none refl) in
    let few : length c.cut_line.new.self.kept ≤ 256 = omega arith in
    let line = subst IsLine (sym (fill.nothing (ap Ok c.in-Ok-eq0.field-0-test))) (short_line c.cut_line.new.self.kept few none) in
    rw c.fault-in-Ok-eq0-2.ensures (record {
      text = comes_on i.text (subst (λ (s : Lines). Comes (g.S.Source.given c.loop-self.source) (g.S.Source.given c.fill.new.source) s.kept c.fill.new.self.kept) same fill.bytes);
      says = (refl, omega arith, line, fill.end c.in-Ok-eq0.field-0-test);
      number = omega (arith, ap (λ (s : Lines). s.text.number) same, fill.number, i.number);
      versions = fill.next ∙ ap (λ (s : Lines). s.next) same ∙ i.next;
      small = fill.small;
    })

pub returns-in-Err-clause-hands : goal.returns-in-Err-clause-hands
returns-in-Err-clause-hands g c =
    let i = c.loop-self.invariant in
    let same = c.loop-self-test.ensures.same refl in
    let fill = c.in-Err.ensures in
    let none : NoLf (take 257 c.cut_line.new.self.kept) = subst (λ (s : Lines). NoLf (take 257 s.kept)) (sym same) (c.loop-self-test.ensures.none refl) in
    let few : length c.cut_line.new.self.kept ≤ 256 = omega arith in
    record {
      text = comes_on i.text (subst (λ (s : Lines). Comes (g.S.Source.given c.loop-self.source) (g.S.Source.given c.fill.new.source) s.kept c.fill.new.self.kept) same fill.bytes);
      says = subst IsLine (sym fill.none) (short_line c.cut_line.new.self.kept few none);
      number = omega (arith, ap (λ (s : Lines). s.text.number) same, fill.number, i.number);
      versions = fill.next ∙ ap (λ (s : Lines). s.next) same ∙ i.next;
      small = fill.small;
    }
