use Rattle.std.proofs.Common.{◌≡◌, ℕ, ◌<◌, ◌||◌, ltb, slice_index, Option, Some, ap, ◌∙◌, sym, refl, subst, arith}
use Rattle.std.specs.Prelude.{IfSome}
use Rattle.std.proofs.lemmas.Bool.{lt-ltb, le-ltb}
use Rattle.size_classes.specs.declared.class.TheConstants.{CLASSES}
use Rattle.size_classes.specs.Sizes.{class_for}
use Rattle.size_classes.specs.Parts.{parts_in, part_words}
use Rattle.size_classes.specs.Need.{blocks_needed}
use Rattle.heap_model.specs.Pages.{free_pages}
use Rattle.heap_model.proofs.Rooms.{room_same}
use Rattle.pages.specs.Together.{pages_in}
use Rattle.pages.proofs.Single.{one_room}
use Rattle.pages.proofs.table.PageTable.room.Goals as goal

pub returns-then-count-gt1 : goal.returns-then-count-gt1
returns-then-count-gt1 c = λ words t.
    c.room_for.ensures words t ∙ room_same (pages_in c.args.self.now words) (λ class. slice_index c.from_parts.result class) (blocks_needed c.args.parts.now (parts_in c.args.parts.now)) c.from_parts.ensures

class_is : (cells words class : ℕ) (o : Option ℕ) → words ≡ part_words cells 0 → o ≡ class_for words → o ≡ Some class → class_for (part_words cells 0) ≡ Some class
class_is cells words class o e f g = ap class_for (sym e) ∙ sym f ∙ g

pub returns-then-free_blocks-gt0 : goal.returns-then-free_blocks-gt0
returns-then-free_blocks-gt0 c = λ words t.
    let pages = pages_in c.args.self.now words in
    let class = c.unwrap-class.result in
    let some = lt-ltb 0 c.free_blocks.result c.if-free_blocks-gt0.true in
    some ∙ sym (ap (λ b. b || ltb 0 (free_pages pages)) some)
    ∙ one_room pages c.args.parts.now class c.free_blocks.result (free_pages pages) (omega (arith, c.count.ensures.count, c.count.ensures.within, c.if-count-gt1.false))
    (class_is c.args.parts.now c.words.result class c.class_of.result c.words.ensures.words c.class_of.ensures.class c.unwrap-class.ensures)
    (subst (λ o. IfSome o (λ k. k < CLASSES)) c.unwrap-class.ensures c.class_of.ensures.within) (c.free_blocks.ensures.free words t) refl

pub returns-else-free_blocks-gt0 : goal.returns-else-free_blocks-gt0
returns-else-free_blocks-gt0 c = λ words t.
    let pages = pages_in c.args.self.now words in
    let class = c.unwrap-class.result in
    sym (ap (λ b. b || ltb 0 c.free_pages.result) (le-ltb 0 c.free_blocks.result c.if-free_blocks-gt0.false))
    ∙ one_room pages c.args.parts.now class c.free_blocks.result c.free_pages.result (omega (arith, c.count.ensures.count, c.count.ensures.within, c.if-count-gt1.false))
    (class_is c.args.parts.now c.words.result class c.class_of.result c.words.ensures.words c.class_of.ensures.class c.unwrap-class.ensures)
    (subst (λ o. IfSome o (λ k. k < CLASSES)) c.unwrap-class.ensures c.class_of.ensures.within) (c.free_blocks.ensures.free words t) (c.free_pages.ensures.free words t)
