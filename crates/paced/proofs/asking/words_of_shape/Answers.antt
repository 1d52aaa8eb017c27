use Rattle.std.proofs.Common.{◌∙◌, ◌≡◌, ap, sym, arith}
use Rattle.std.specs.Prelude.{Some}
use Rattle.graph_heap.specs.Shape.{fits}
use Rattle.size_classes.specs.Parts.{parts_in, part_words}
use Rattle.size_classes.specs.Sizes.{class_for}
use Rattle.machine.proofs.Planning.{fits_by}
use Rattle.paced.proofs.OneBlock.{words_of_whole}
use Rattle.paced.proofs.asking.words_of_shape.Goals as goal

pub returns : goal.returns
returns c =
    let cells = c.in-Some.parts in
    let class = c.unwrap.result in
    let fit = fits_by c.parts_of.result (fits c.args.shape.now) cells c.in-Some.is c.parts_of.ensures.none in
    let one : parts_in cells ≡ 1 = omega (arith, c.if-count-gt1.false, c.count.ensures.count, c.count.ensures.within) in
    let is : class_for (part_words cells 0) ≡ Some class = ap class_for (sym c.words.ensures.words) ∙ sym c.class_of.ensures.class ∙ c.unwrap.ensures in
    c.from.ensures ∙ c.size.ensures.size ∙ words_of_whole c.args.shape.now cells class fit c.in-Some.ensures.some one is c.size.ensures.class
