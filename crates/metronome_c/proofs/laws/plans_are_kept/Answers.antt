use Rattle.metronome_c.proofs.Calling.{made_by}
use Rattle.metronome_c.proofs.Fitting.{plan_kept, plan_lasts}
use Rattle.metronome_c.proofs.TouchedPages.{touched_made}
use Rattle.metronome_c.specs.Touching.{touched_held}
use Rattle.metronome_c.proofs.laws.plans_are_kept.Goals as goal

pub returns-clause-kept : goal.returns-clause-kept
returns-clause-kept c = λ s h made told live largest before flow tells done created. plan_kept s h (made_by s h made created) told live largest before flow tells done

pub returns-clause-lasts : goal.returns-clause-lasts
returns-clause-lasts c = λ s h made told live largest before flow tells done created. plan_lasts s h (made_by s h made created) told live largest before flow tells done

pub returns-clause-touched : goal.returns-clause-touched
returns-clause-touched c = λ s h made told pages live largest before flow tells done created. plan_kept s (touched_held h pages) (touched_made s h pages (made_by s h made created)) told live largest before flow tells done
