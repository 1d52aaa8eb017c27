use Rattle.std.proofs.Common.{◌≡◌, ◌*◌, ◌-◌, ◌≤◌, List, Option, Some, length}
use Rattle.pages.specs.declared.page.PageRow.{PageRow}
use Rattle.pages.specs.FreeList.{IsFreeList}
use Rattle.pages.specs.Index.{row_at}
use Rattle.pages.specs.Together.{Together}
use Rattle.pages.proofs.Sweeping.{SoFar}
use Rattle.pages.proofs.free_list.sweep_in.Given as goal

-- it has looked at this many blocks
abbrev pub invariant-loop-looked : goal.invariant-loop-looked
invariant-loop-looked l =
    (l.looked ≤ l.count) × (length l.words ≡ length l.fn.words) × IsFreeList l.words (2048 * l.page) l.fn.row.class l.swept.first l.swept.allocated × (l.swept ≡ record l.fn.row { first = l.swept.first; allocated = l.swept.allocated })
    × ((rows : List (Option PageRow)) → Together rows l.fn.words → (there : row_at rows l.page ≡ Some l.fn.row) → SoFar rows l.fn.words l.page l.fn.row there l.colour l.from l.looked l.swept l.words)

abbrev pub decreases-loop-looked : goal.decreases-loop-looked
decreases-loop-looked l = l.count - l.looked
