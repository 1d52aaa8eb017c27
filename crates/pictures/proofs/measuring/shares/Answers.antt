use Rattle.std.proofs.Common.{◌≡◌, ℕ, ◌<◌, true, false, nat_lt, length, length-append, get_or, refl, ap, arith, inl, inr, ◌∷◌, []}
use Rattle.std.specs.List.{list_all}
use Rattle.std.proofs.lemmas.List.Folds.{list_all_at}
use Rattle.pictures.specs.declared.share.TheConstants.{WINDOWS}
use Rattle.pictures.specs.Utilisation.{IsShare}
use Rattle.pictures.proofs.Shares.{zip_push, are_shares}
use Rattle.pictures.proofs.measuring.shares.Goals as goal

-- each window has a tick
no_zero : (place : ℕ) → place < length WINDOWS → get_or WINDOWS place 0 ≡ 0 → ⊥
no_zero place l e =
    let no : list_all (λ w. nat_lt 0 w) WINDOWS ≡ false = list_all_at (λ w. nat_lt 0 w) WINDOWS place 0 l (ap (λ w. nat_lt 0 w) e) in
    let wrong : true ≡ false = no in
    cc

pub returns-in_default : goal.returns-in_default
returns-in_default c =
    are_shares c.args.config.now c.args.schedule.now c.loop-window.window-index c.loop-window.shares.items c.loop-window.invariant.count c.loop-window.invariant.each
    (λ l. elim (c.in_default.ensures.none.0 refl) [ inl e ↦ absurd (no_zero c.loop-window.window-index l e) | inr h ↦ h ])

pub loop-window-preserved : goal.loop-window-preserved
loop-window-preserved c = record {
  each = zip_push (IsShare c.args.config.now c.args.schedule.now) WINDOWS c.loop-window.shares.items c.push.new.self.items c.loop-window.window-index c.in-Some.share c.loop-window-test.true c.in_ok-push.ensures.items c.loop-window.invariant.each c.in-Some.ensures.share;
  count = omega (arith, ap length c.in_ok-push.ensures.items, length-append c.loop-window.shares.items (c.in-Some.share ∷ []), c.loop-window.invariant.count);
}
