use Rattle.std.proofs.Common.{ℕ, List, subst}
use Rattle.std.specs.Prelude.{option_map}
use Rattle.std.proofs.lemmas.Result.{IfOk-weaker}
use Rattle.plans.specs.Bars.{AreBars, ArePlanBars}
use Rattle.paced.specs.Rooms.{made_of}
use Rattle.plans.proofs.Rows.{least_within}
use Rattle.plans.proofs.bars.plan_bars.Goals as goal

pub numbers_told-count-requires : goal.numbers_told-count-requires
numbers_told-count-requires c = least_within (made_of (option_map (λ used. used.now) c.args.classes)) c.args.config.now c.args.live_words 0 c.least_pages-least.result c.least_pages-least.ensures

pub returns : goal.returns
returns c =
    let classes = option_map (λ used. used.now) c.args.classes in
    IfOk-weaker c.bars.result _ (λ bars. ArePlanBars classes c.args.config.now c.args.live_words bars.items) (λ bars each. record {
      least = c.least_pages-least.result;
      is_least = c.least_pages-least.ensures;
      each = subst (λ (numbers : List ℕ). AreBars (made_of classes) c.args.config.now c.args.live_words numbers bars.items) c.numbers_told-count.ensures.told each;
    }) c.bars.ensures
