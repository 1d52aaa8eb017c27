use Rattle.std.proofs.Common.{◌≡◌, ℕ, ◌+◌, ◌≤◌, inl, inr, ◌++◌, ◌∷◌, [], List, length, replicate, Option, None, rules, arith, sym, subst, ap, ◌∙◌}
use Rattle.std.proofs.lemmas.Bool.{cases_eq}
use Rattle.std.proofs.lemmas.List.{length_push}
use Rattle.pages.specs.declared.bits.BitRow.{BitRow}
use Rattle.pages.specs.declared.page.PageRow.{PageRow}
use Rattle.size_classes.specs.declared.class.TheConstants.{CLASSES}
use Rattle.pages.specs.BitRow.{has_bit, room_of}
use Rattle.pages.specs.Index.{class_bit, room_of_class, IsIndex}
use Rattle.pages.proofs.Indexing.{fresh_book, each_more}
use Rattle.pages.proofs.table.PageTable.new.Goals as goal

pub classes-preserved : goal.classes-preserved
classes-preserved c =
    let e : c.push-in-classes.new.self.items ≡ c.classes.usable.items ++ c.in_ok-one.one ∷ [] = search rules in
    record {
      long = ap (λ (l : List BitRow). length l) e ∙ length_push c.classes.usable.items c.in_ok-one.one ∙ ap (λ n. n + 1) c.classes.invariant.long;
      wide = λ x h. subst (λ (l : List BitRow). c.args.pages ≤ room_of_class l x) (sym e) (each_more c.classes.usable.items c.classes.counter c.in_ok-one.one room_of (λ n. c.args.pages ≤ n) c.classes.invariant.long c.classes.invariant.wide c.in_ok-one.ensures.room x h);
      none = λ x k h. subst (λ (l : List BitRow). class_bit l x k ≡ 0) (sym e) (each_more c.classes.usable.items c.classes.counter c.in_ok-one.one (λ r. has_bit r k) (λ n. n ≡ 0) c.classes.invariant.long (λ y. c.classes.invariant.none y k) (c.in_ok-one.ensures.none k) x h);
    }

pub loop-page-preserved : goal.loop-page-preserved
loop-page-preserved c = record {
  some = λ k h. elim (cases_eq k c.loop-page.page) [
    | inl e ↦ ap (has_bit c.set.new.self) e ∙ c.set.ensures.here
    | inr ne ↦ c.set.ensures.others k ne ∙ c.loop-page.invariant.some k (omega (arith, h, ne))
  ];
  past = λ k h. c.set.ensures.others k (omega (arith, h)) ∙ c.loop-page.invariant.past k (omega (arith, h));
  room = omega (arith, c.loop-page.invariant.room, c.set.ensures.room);
}

pub invariant_of-result : goal.invariant_of-result
invariant_of-result c =
    let e : c.rows.rows.items ≡ replicate {A = Option PageRow} c.args.pages None = c.rows.invariant ∙ ap (λ n. replicate {A = Option PageRow} n None) (omega arith) in
    let f : c.in_ok-free_blocks.free_blocks.items ≡ replicate CLASSES 0 = search rules in
    let all : c.classes.counter ≡ CLASSES = omega arith in
    let pages : c.loop-page.page ≡ c.args.pages = omega arith in
    subst (λ (l : List (Option PageRow)). IsIndex l c.classes.usable.items c.loop-page.free c.in_ok-free_blocks.free_blocks.items c.args.pages) (sym e)
    (subst (λ (l : List ℕ). IsIndex (replicate c.args.pages None) c.classes.usable.items c.loop-page.free l c.args.pages) (sym f)
    (fresh_book c.args.pages c.classes.usable.items c.loop-page.free c.requires (c.classes.invariant.long ∙ all)
    (λ x h. c.classes.invariant.wide x (omega (arith, all, h))) c.loop-page.invariant.room
    (λ x k h. c.classes.invariant.none x k (omega (arith, all, h)))
    (λ k h. c.loop-page.invariant.some k (omega (arith, pages, h)))
    (λ k h. c.loop-page.invariant.past k (omega (arith, pages, h)))))

pub returns : goal.returns
returns c = c.rows.invariant ∙ ap (λ n. replicate {A = Option PageRow} n None) (omega arith)
