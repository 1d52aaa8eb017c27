use Rattle.std.specs.Prelude.{string_bytes}
use Rattle.std.proofs.Common.{◌<◌, arith}
use Rattle.std.proofs.lemmas.Result.{IfOk-weaker}
use Rattle.graph_heap.specs.Graph.{root_cells}
use Rattle.pictures.specs.PathText.{IsRootLine}
use Rattle.pictures.proofs.PathLines.{static_told}
use Rattle.pictures.proofs.paths.root_line.Goals as goal

pub returns : goal.returns
returns c =
    IfOk-weaker c.format-2.result _ (λ line. c.args.place < root_cells c.args.limits.now → IsRootLine c.args.limits.now c.args.place (string_bytes line))
    (λ line e below. static_told c.args.limits.now c.args.place (string_bytes line) (omega arith) below e) c.format-2.ensures.ok
