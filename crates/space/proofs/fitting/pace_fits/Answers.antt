use Rattle.space.proofs.fitting.pace_fits.Goals as goal

pub returns : goal.returns
returns c = c.fits_in.ensures
