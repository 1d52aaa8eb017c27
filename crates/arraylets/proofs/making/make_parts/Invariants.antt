use Rattle.std.proofs.Common.{◌≡◌, ◌≤◌, true, get_or}
use Rattle.size_classes.specs.Parts.{cells_of, parts_in}
use Rattle.heap_model.specs.Pages.{has_room}
use Rattle.heap_model.specs.Room.{needed_from}
use Rattle.nodes.specs.Links.{KeepsLinks}
use Rattle.arraylets.proofs.Linking.{Made}
use Rattle.arraylets.proofs.making.make_parts.Given as goal

-- this many parts are made, there is room for the others, and the links in headers stay
abbrev pub invariant-loop-part : goal.invariant-loop-part
invariant-loop-part l = record {
  made : Made l.fn.nodes l.shape l.colour l.identity l.spines l.part l.nodes;
  room : has_room l.nodes.pages (needed_from (cells_of l.shape) l.part (parts_in (cells_of l.shape))) ≡ true;
  links : KeepsLinks l.fn.nodes l.nodes;
  within : get_or l.spines 0 0 ≤ 2147483648;
}
