use Rattle.std.proofs.Common.{◌≡◌, ◌+◌, sym, refl, subst, arith}
use Rattle.std.specs.Prelude.{Result}
use Rattle.trace.specs.declared.fault.PlayFault.{PlayFault}
use Rattle.trace.specs.declared.fault.PlayFault.TheVariants.{NoMemory}
use Rattle.trace.specs.LinesProcessed.{writes_failed}
use Rattle.pictures.specs.GraphDrawn.{GraphDrawn}
use Rattle.pictures.proofs.graph.Drawn.{failed_so}
use Rattle.pictures.proofs.graph.drawing.draw_graph.Goals as goal

pub returns-in_err-search-clause-drawn : goal.returns-in_err-search-clause-drawn
returns-in_err-search-clause-drawn g c =
    let old = g.K.Sink.taken c.args.sink.now in
    let Drawn : Result (Unit {0}) PlayFault → Type 0 = λ r. GraphDrawn c.args.graph.now c.args.most (record { before = old; after = old; sent = g.K.Sink.sent c.args.sink.now }) r in
    subst Drawn (sym (failed_so c.from_residual.result NoMemory c.from_residual.ensures.1)) refl

pub returns-in_err-search-clause-cause : goal.returns-in_err-search-clause-cause
returns-in_err-search-clause-cause g c =
    let n = g.K.Sink.failures c.args.sink.now in
    let Failed : Result (Unit {0}) PlayFault → Type 0 = λ r. n ≡ n + writes_failed r in
    let none : n ≡ n + 0 = omega arith in
    subst Failed (sym (failed_so c.from_residual.result NoMemory c.from_residual.ensures.1)) none

pub returns-in_err-roots-clause-drawn : goal.returns-in_err-roots-clause-drawn
returns-in_err-roots-clause-drawn g c =
    let old = g.K.Sink.taken c.args.sink.now in
    let Drawn : Result (Unit {0}) PlayFault → Type 0 = λ r. GraphDrawn c.args.graph.now c.args.most (record { before = old; after = old; sent = g.K.Sink.sent c.args.sink.now }) r in
    subst Drawn (sym (failed_so c.from_residual-in_err-roots.result NoMemory c.from_residual-in_err-roots.ensures.1)) refl

pub returns-in_err-roots-clause-cause : goal.returns-in_err-roots-clause-cause
returns-in_err-roots-clause-cause g c =
    let n = g.K.Sink.failures c.args.sink.now in
    let Failed : Result (Unit {0}) PlayFault → Type 0 = λ r. n ≡ n + writes_failed r in
    let none : n ≡ n + 0 = omega arith in
    subst Failed (sym (failed_so c.from_residual-in_err-roots.result NoMemory c.from_residual-in_err-roots.ensures.1)) none

pub returns-in-Ok-clause-drawn : goal.returns-in-Ok-clause-drawn
returns-in-Ok-clause-drawn g c = (c.in_ok-search.search.found, c.in_ok-search.ensures, c.in-Ok.ensures.ok)

pub returns-clause-drawn : goal.returns-clause-drawn
returns-clause-drawn g c = (c.in_ok-search.search.found, c.in_ok-search.ensures, c.in-Err.ensures.err)
