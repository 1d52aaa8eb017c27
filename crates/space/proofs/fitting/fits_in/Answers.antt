use Rattle.std.proofs.Common.{◌≤◌, sym, subst}
use Rattle.std.proofs.lemmas.Bool.{leb-true, le-leb}
use Rattle.space.proofs.fitting.fits_in.Goals as goal

pub returns : goal.returns
returns c =
    let needed = c.pace_needs.ensures.pages in (
      λ is. subst (λ n. n ≤ c.args.pages) needed (subst (λ n. c.pace_needs.result.pages ≤ n) c.from.ensures (leb-true _ _ is)),
      λ fits. le-leb _ _ (subst (λ n. c.pace_needs.result.pages ≤ n) (sym c.from.ensures) (subst (λ n. n ≤ c.args.pages) (sym needed) fits)),
    )
