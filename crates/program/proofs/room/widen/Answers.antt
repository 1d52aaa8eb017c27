use Rattle.std.proofs.Common.{ℕ, inl, inr, subst, arith}
use Rattle.std.specs.Prelude.{None}
use Rattle.program.specs.Demand.{IsEnoughOn}
use Rattle.program.specs.Bounds.{BoundsOrNone}
use Rattle.program.proofs.Trials.{handed_on, enough_here}
use Rattle.program.proofs.room.widen.Goals as goal

pub returns-in_err-found-clause-found : goal.returns-in_err-found-clause-found
returns-in_err-found-clause-found c =
    handed_on c.args.config.now c.args.text.now (BoundsOrNone c.args.config.now c.args.text.now) c.from_residual.result c.in_err-found.field-0.0 c.from_residual.ensures.1 c.in_err-found.ensures.trial

pub returns-then-found-clause-found : goal.returns-then-found-clause-found
returns-then-found-clause-found c =
    let here = enough_here c.args.config.now c.args.text.now c.loop-below.pages c.in_ok-found.found c.if-found.true c.in_ok-found.ensures.trial in
    record {
      fewer = elim c.loop-below.invariant.2 [
        | inl less ↦ omega (arith, less, here.0)
        | inr all ↦ absurd (omega (arith, all, c.loop-below-test.true))
      ];
      most = omega (arith, c.loop-below.invariant.1, here.0);
      enough = here.1;
      too_few = c.loop-below.invariant.3;
    }

pub returns-clause-found : goal.returns-clause-found
returns-clause-found c = elim c.loop-below.invariant.2 [
  | inl less ↦ absurd (omega (arith, less, c.loop-below.invariant.1, c.loop-below-test.false))
  | inr all ↦ subst (λ (n : ℕ). IsEnoughOn c.args.config.now c.args.text.now n None) all (c.loop-below.invariant.3 (omega (arith, all)))
]
