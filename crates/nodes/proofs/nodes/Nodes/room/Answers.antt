use Rattle.size_classes.specs.Need.{blocks_needed}
use Rattle.size_classes.specs.Parts.{parts_in}
use Rattle.heap_model.specs.Pages.{has_room}
use Rattle.nodes.proofs.Joining.{told}
use Rattle.nodes.proofs.nodes.Nodes.room.Goals as goal

pub returns : goal.returns
returns c = told _ _ _ c.self.view_is c.self.invariant.0 (λ pages. has_room pages (blocks_needed c.args.parts.now (parts_in c.args.parts.now))) c.room.result c.room.ensures
