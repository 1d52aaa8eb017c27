-- All lines of what was needed.
use Rattle.std.proofs.Common.{◌≡◌, ℕ, List, [], ◌++◌, ap, ◌∙◌}
use Rattle.std.proofs.lemmas.List.{append-nil}
use Rattle.size_classes.specs.declared.class.TheConstants.{CLASSES}
use Rattle.size_classes.specs.declared.config.Config.{Config}
use Rattle.fragmentation.specs.Suffice.{demand_pages}
use Rattle.sizing.specs.declared.needed.Needed.{Needed}
use Rattle.sizing.specs.Measured.{page_demand_in}
use Rattle.sizing.specs.Reckoned.{still_pages, moved_pages, fewest_pages, needed_pages}
use Rattle.inspector.specs.declared.pages_needed.lines.Scope.TheVariants.{Demand as By_demand}
use Rattle.inspector.specs.ClassLines.{class_lines}
use Rattle.inspector.specs.NeededReport.{blocks_line, form_lines, fewest_line, pages_line, needed_report}
use Rattle.inspector.proofs.TextLines.{four_lines}

-- the numbers of what was needed, and the four parts that report them
pub whole_report : (n : Needed) (k : Config) (still moved budgeted pages own : ℕ) → still ≡ still_pages n → moved ≡ moved_pages k n → budgeted ≡ demand_pages (page_demand_in n) → pages ≡ fewest_pages n → own ≡ needed_pages k n
    → (start forms fewest last : List ℕ) → start ≡ class_lines (blocks_line n) CLASSES → forms ≡ form_lines still moved budgeted n → fewest ≡ fewest_line still pages → last ≡ pages_line By_demand own k.pages
    → start ++ (forms ++ (fewest ++ (last ++ []))) ≡ needed_report k n
whole_report n k still moved budgeted pages own e_still e_moved e_budget e_pages e_own start forms fewest last e_start e_forms e_fewest e_last =
    four_lines start forms fewest last (class_lines (blocks_line n) CLASSES) (form_lines (still_pages n) (moved_pages k n) (demand_pages (page_demand_in n)) n) (fewest_line (still_pages n) (fewest_pages n)) (pages_line By_demand (needed_pages k n) k.pages)
    e_start
    (e_forms ∙ ap (λ x. form_lines x moved budgeted n) e_still ∙ ap (λ x. form_lines (still_pages n) x budgeted n) e_moved ∙ ap (λ x. form_lines (still_pages n) (moved_pages k n) x n) e_budget)
    (e_fewest ∙ ap (λ x. fewest_line x pages) e_still ∙ ap (fewest_line (still_pages n)) e_pages)
    (e_last ∙ ap (λ x. pages_line By_demand x k.pages) e_own)

-- two texts, each the same as another
pub two_lines : (a b a1 b1 : List ℕ) → a ≡ a1 → b ≡ b1 → a ++ (b ++ []) ≡ a1 ++ b1
two_lines a b a1 b1 p q = ap (λ z. z ++ (b ++ [])) p ∙ ap (λ z. a1 ++ z) (append-nil b ∙ q)
