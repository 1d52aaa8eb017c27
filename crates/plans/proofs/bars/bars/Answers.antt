use Rattle.std.proofs.Common.{sym, subst}
use Rattle.std.specs.Prelude.{option_map}
use Rattle.plans.specs.Bars.{IsBar}
use Rattle.paced.specs.Rooms.{made_of}
use Rattle.plans.proofs.Rows.{HasItems, no_items, one_item, all_items}
use Rattle.plans.proofs.bars.bars.Goals as goal

pub loop-pages-init : goal.loop-pages-init
loop-pages-init c =
    let Has = IsBar (made_of (option_map (λ used. used.now) c.args.classes)) c.args.config.now c.args.live_words in
    subst (HasItems Has c.args.numbers.now 0) (sym c.new-bars.ensures.items) (no_items Has c.args.numbers.now)

pub loop-pages-preserved : goal.loop-pages-preserved
loop-pages-preserved c =
    let Has = IsBar (made_of (option_map (λ used. used.now) c.args.classes)) c.args.config.now c.args.live_words in
    let one = one_item Has c.args.numbers.now c.loop-pages.above c.loop-pages.bars.items c.in-Some.pages c.bar.result c.loop-pages.invariant c.in-Some.ensures c.bar.ensures in
    subst (HasItems Has c.args.numbers.now c.in-Some.pages) (sym c.in_ok-push.ensures.items) one

pub returns : goal.returns
returns c = all_items (IsBar (made_of (option_map (λ used. used.now) c.args.classes)) c.args.config.now c.args.live_words) c.args.numbers.now c.loop-pages.above _ c.loop-pages.invariant c.in_default.ensures
