use Rattle.std.proofs.Common.{◌≡◌, ◌∙◌, ap, sym, arith}
use Rattle.size_classes.specs.Parts.{cells_of, parts_in}
use Rattle.heap_model.proofs.Rooms.{first_same}
use Rattle.arraylets.proofs.Linking.{at_some, one_made}
use Rattle.arraylets.proofs.making.new_object.Goals as goal

pub make_part-requires-clause-room : goal.make_part-requires-clause-room
make_part-requires-clause-room c = sym (first_same c.args.nodes.now.pages c.args.shape) ∙ c.requires.room

pub returns-then-count-eq1-clause-made : goal.returns-then-count-eq1-clause-made
returns-then-count-eq1-clause-made c =
    let parts : c.unwrap-parts.result ≡ cells_of c.args.shape = at_some c.parts_of.result (λ p. p ≡ cells_of c.args.shape) c.unwrap-parts.result c.unwrap-parts.ensures c.parts_of.ensures.some in
    let count : c.count.result ≡ parts_in (cells_of c.args.shape) = c.count.ensures.count ∙ ap parts_in parts in
    one_made _ _ _ c.args.shape c.args.colour c.args.identity (omega (arith, count, c.if-count-eq1.true)) c.make_part.ensures.made c.make_part.ensures.taken

pub make_parts-requires-clause-room : goal.make_parts-requires-clause-room
make_parts-requires-clause-room c = sym (first_same c.args.nodes.now.pages c.args.shape) ∙ c.requires.room
