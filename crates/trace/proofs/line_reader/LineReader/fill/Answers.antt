use Rattle.std.proofs.Common.{◌-◌, drop, arith, length-take, length-drop}
use Rattle.trace.proofs.line_reader.LineReader.fill.Goals as goal

pub invariant_of-self-2 : goal.invariant_of-self-2
invariant_of-self-2 g c =
    let few = g.met.S.Source.few c.read_after.new.source in
    let behind = rw (← c.self.view_is) at c.requires.behind in
    let a = c.self.inside in
    record {
      line = omega arith;
      line_within = omega arith;
      range = omega arith;
      within = omega (arith, c.in_ok-n.ensures.within);
      few = omega (arith, few, behind, c.in_ok-n.ensures.counted, length-take (a.end - a.start) (drop a.start a.buffer), length-drop a.start a.buffer);
      untold = c.self.invariant.untold;
    }
