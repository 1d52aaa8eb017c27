use Rattle.std.proofs.Common.{◌≡◌, ◌<◌, ◌∙◌, ap, subst, sym, Some}
use Rattle.size_classes.specs.declared.class.TheConstants.{CLASSES}
use Rattle.size_classes.specs.Sizes.{class_for}
use Rattle.size_classes.specs.Parts.{cells_of, parts_in, part_words}
use Rattle.heap_model.proofs.Rooms.{next_given, next_left}
use Rattle.arraylets.proofs.Linking.{gives_by, at_some, shape_fits, parts_few}
use Rattle.arraylets.proofs.making.make_part.Goals as goal

pub make-requires-clause-shape : goal.make-requires-clause-shape
make-requires-clause-shape c = shape_fits c.args.shape c.requires.fits

pub make-requires-clause-part : goal.make-requires-clause-part
make-requires-clause-part c = parts_few c.args.shape c.args.part c.requires.fits c.requires.part

pub unwrap-requires : goal.unwrap-requires
unwrap-requires c =
    let class = c.unwrap-class.result in
    let is : class_for (part_words (cells_of c.args.shape) c.args.part) ≡ Some class = ap (λ n. class_for (part_words n c.args.part)) (sym c.requires.parts) ∙ ap class_for (sym c.words-words.ensures.words) ∙ sym c.class_of.ensures.class ∙ c.unwrap-class.ensures in
    let small : class < CLASSES = at_some c.class_of.result (λ k. k < CLASSES) class c.unwrap-class.ensures c.class_of.ensures.within in
    gives_by c.make.result _ c.make.ensures.none (next_given c.args.nodes.now.pages (cells_of c.args.shape) c.args.part (parts_in (cells_of c.args.shape)) class c.requires.part small is c.requires.room)

pub returns-clause-room : goal.returns-clause-room
returns-clause-room c =
    let class = c.unwrap-class.result in
    let is : class_for (part_words (cells_of c.args.shape) c.args.part) ≡ Some class = ap (λ n. class_for (part_words n c.args.part)) (sym c.requires.parts) ∙ ap class_for (sym c.words-words.ensures.words) ∙ sym c.class_of.ensures.class ∙ c.unwrap-class.ensures in
    let small : class < CLASSES = at_some c.class_of.result (λ k. k < CLASSES) class c.unwrap-class.ensures c.class_of.ensures.within in
    let taken = at_some c.make.result _ c.unwrap.result c.unwrap.ensures c.make.ensures.taken in
    next_left c.args.nodes.now.pages _ (cells_of c.args.shape) c.args.part (parts_in (cells_of c.args.shape)) class _ taken.0 c.requires.part small is c.requires.room taken.1

pub words-words-requires : goal.words-words-requires
words-words-requires c = subst (λ n. c.args.part < parts_in n) (sym c.requires.parts) c.requires.part

pub returns-clause-made : goal.returns-clause-made
returns-clause-made c = at_some c.make.result _ c.unwrap.result c.unwrap.ensures c.make.ensures.made

pub returns-clause-taken : goal.returns-clause-taken
returns-clause-taken c =
    let class = c.unwrap-class.result in
    let is : class_for (part_words (cells_of c.args.shape) c.args.part) ≡ Some class = ap (λ n. class_for (part_words n c.args.part)) (sym c.requires.parts) ∙ ap class_for (sym c.words-words.ensures.words) ∙ sym c.class_of.ensures.class ∙ c.unwrap-class.ensures in
    let taken = at_some c.make.result _ c.unwrap.result c.unwrap.ensures c.make.ensures.taken in
    (class, taken.0, is, taken.1)

pub returns-clause-within : goal.returns-clause-within
returns-clause-within c = at_some c.make.result _ c.unwrap.result c.unwrap.ensures c.make.ensures.within

pub returns-clause-links : goal.returns-clause-links
returns-clause-links c = c.make.ensures.links
