-- The numbers of the lines that say for how many quanta a program waits.
use Rattle.std.proofs.Common.{◌≡◌, ℕ, ◌+◌, ◌*◌, ◌<◌, ◌≤◌, Bool, Some, subst, arith}
use Rattle.std.specs.Prelude.{◌/◌, ◌^◌, max}
use Rattle.std.proofs.Math.Nat.{div-mul-le_self, lt-div-mul-add}
use Rattle.size_classes.specs.declared.config.Config.{Config}
use Rattle.size_classes.specs.declared.config.TheConstants.{MOST_HEAP_PAGES}
use Rattle.fragmentation.specs.declared.flow.TheConstants.{LEAST_PAGE_FILL}
use Rattle.paced.specs.declared.plan.Plan.{Plan}
use Rattle.paced.specs.Bounds.{LastsWith}
use Rattle.paced.specs.Planning.{MayChoose, IsFastestFor}
use Rattle.plans.specs.declared.needs.Needs.{Needs}
use Rattle.plans.specs.Report.{FastestOn}
use Rattle.plans.specs.Utilisation.{Share, IsAtMost}
use Rattle.plans.specs.Waits.{room_of, permille_of}

-- the words of a cycle that fit on so few pages are few
few_words : (live cycle traced partly pages : ℕ) → (live + (2 * cycle + traced)) / LEAST_PAGE_FILL + partly ≤ pages → pages ≤ MOST_HEAP_PAGES → cycle < 2 ^ 64
few_words live cycle traced partly pages enough few = let l = over (live + (2 * cycle + traced)) LEAST_PAGE_FILL (omega arith) in omega (arith, l, enough, few)
  where
    over : (a b : ℕ) → 0 < b → a < a / b * b + b
    over a b some = lt-div-mul-add some

chosen_room : (makes : ℕ → Bool) (on : Config) (live largest : ℕ) (plan : Plan) → on.pages ≤ MOST_HEAP_PAGES → MayChoose makes on live largest plan → LastsWith on plan live (room_of on live plan)
chosen_room makes on live largest plan few may = record {
  some = may.some;
  lasts = (let l = may.lasts.lasts in omega (arith, l));
  small = few_words _ plan.cycle_words _ _ on.pages may.lasts.fits.enough few;
}

pub told_room : (makes : ℕ → Bool) (config : Config) (needs : Needs) (pages : ℕ) (of : FastestOn makes config needs pages) (plan : Plan) → pages ≤ MOST_HEAP_PAGES → of.plan ≡ Some plan
    → LastsWith of.on plan needs.live (room_of of.on needs.live plan) × (needs.largest ≤ room_of of.on needs.live plan)
told_room makes config needs pages of plan few is =
    let chosen = subst (IsFastestFor makes of.on needs.live needs.largest) is of.fastest in
    let lasts = chosen.0.lasts.lasts in
    (chosen_room makes of.on needs.live needs.largest plan (let p = of.is_on.pages in omega (arith, p, few)) chosen.0, omega (arith, lasts))

pub told_permille : (share : Share) → IsAtMost (record { own = permille_of share; all = 1000 }) share
told_permille share =
    let l = div-mul-le_self (1000 * share.own) (max share.all 1) in
    let m = times (permille_of share) share.all (max share.all 1) (omega arith) in
    omega (arith, l, m)
  where
    times : (a b c : ℕ) → b ≤ c → a * b ≤ a * c
    times a b c l = grind (arith, l)
