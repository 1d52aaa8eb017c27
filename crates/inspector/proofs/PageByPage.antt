-- The lines of pages, page after page.
use Rattle.std.proofs.Common.{◌≡◌, ℕ, ◌+◌, ◌<◌, List, [], ◌∷◌, ◌++◌, length, drop, Option, None, ap, ◌∙◌, sym, subst, add-one, append_assoc}
use Rattle.std.proofs.lemmas.Grind.{flat_map-append}
use Rattle.std.proofs.Math.Seq.{drop-cons}
use Rattle.heap_model.specs.Pages.{Page, page_at}
use Rattle.pages.specs.View.{view_of}
use Rattle.trace.specs.Streams.{GrowsByPart}
use Rattle.trace.specs.Lines.{text_of}
use Rattle.inspector.specs.Report.{lines_on, page_lines}
use Rattle.inspector.proofs.Parts.{part_first, part_after}

pub text_both : (a b : List (List ℕ)) → text_of (a ++ b) ≡ text_of a ++ text_of b
text_both a b = flat_map-append (λ line. line ++ 10 ∷ []) a b

pub text_three : (a b c : List (List ℕ)) → text_of (a ++ (b ++ c)) ≡ text_of a ++ (text_of b ++ text_of c)
text_three a b c = text_both a (b ++ c) ∙ ap (λ t. text_of a ++ t) (text_both b c)

-- the lines of the pages below one are written
pub record SoFar (old new : List ℕ) (pages : List (Option Page)) (k : ℕ) : Type 0 where
  pub lines : List (List ℕ)
  pub written : new ≡ old ++ text_of lines
  pub rest : page_lines 0 pages ≡ lines ++ page_lines k (drop k pages)

next_lines : (pages : List (Option Page)) (k : ℕ) → k < length pages → page_lines k (drop k pages) ≡ lines_on k (view_of (page_at pages k)) ++ page_lines (k + 1) (drop (k + 1) pages)
next_lines pages k l = ap (page_lines k) (drop-cons pages k None l) ∙ ap (λ n. lines_on k (view_of (page_at pages k)) ++ page_lines (k + 1) (drop n pages)) (sym (add-one k))

module _ (old mid new : List ℕ) (pages : List (Option Page)) (k : ℕ) (l : k < length pages) (so : SoFar old mid pages k) where
  -- with the lines of the next page
  pub one_more : new ≡ mid ++ text_of (lines_on k (view_of (page_at pages k))) → SoFar old new pages (k + 1)
  one_more e = record {
    lines = so.lines ++ lines_on k (view_of (page_at pages k));
    written = e ∙ ap (λ t. t ++ text_of (lines_on k (view_of (page_at pages k)))) so.written
        ∙ append_assoc old (text_of so.lines) (text_of (lines_on k (view_of (page_at pages k)))) ∙ ap (λ t. old ++ t) (sym (text_both so.lines (lines_on k (view_of (page_at pages k)))));
    rest = so.rest ∙ ap (λ t. so.lines ++ t) (next_lines pages k l) ∙ sym (append_assoc so.lines (lines_on k (view_of (page_at pages k))) (page_lines (k + 1) (drop (k + 1) pages)));
  }

  -- A part of the page's lines is written.
  pub part_more : GrowsByPart mid new (text_of (lines_on k (view_of (page_at pages k)))) → GrowsByPart old new (text_of (page_lines 0 pages))
  part_more g =
      let here = lines_on k (view_of (page_at pages k)) in
      let behind = page_lines (k + 1) (drop (k + 1) pages) in
      let all : text_of (page_lines 0 pages) ≡ text_of so.lines ++ (text_of here ++ text_of behind) =
      ap text_of (so.rest ∙ ap (λ t. so.lines ++ t) (next_lines pages k l)) ∙ text_both so.lines (here ++ behind) ∙ ap (λ t. text_of so.lines ++ t) (text_both here behind) in
      subst (GrowsByPart old new) (sym all) (part_after old mid new (text_of so.lines) (text_of here ++ text_of behind) so.written (part_first mid new (text_of here) (text_of behind) g))
