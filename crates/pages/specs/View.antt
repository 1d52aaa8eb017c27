-- The view of a page.
use Rattle.std.specs.Prelude.{Option, option_map, count_by}
use Rattle.heap_model.specs.Pages.{Page}
use Rattle.pages.specs.declared.view.PageView.{PageView}

-- a page in use shows its class, how many of its blocks are allocated, and its marks; a free page shows nothing
abbrev pub view_of : Option Page → Option PageView
view_of = option_map (λ p. record {
  class = p.class;
  allocated = count_by (λ b. b) p.allocated;
  evacuating = p.evacuating;
  is_target = p.is_target;
})
