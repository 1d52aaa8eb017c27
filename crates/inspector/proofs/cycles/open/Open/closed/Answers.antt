use Rattle.std.proofs.Common.{◌∙◌, ap}
use Rattle.std.specs.Prelude.{option_map}
use Rattle.inspector.specs.declared.cycles.open.End.{End}
use Rattle.inspector.proofs.cycles.open.Open.closed.Goals as goal

pub returns : goal.returns
returns c = λ earlier later first is now.
    let end = c.end-end.ensures later first is.end now in
    record {
      line = is.start.line;
      quanta = is.quanta;
      units = ap (λ (e : End). e.units) end;
      longest = is.longest;
      sweep = is.sweep;
      moved = c.once_swept.ensures ∙ ap (λ (e : End). option_map (λ s. e.moved) c.args.self.now.sweep) end;
    }
