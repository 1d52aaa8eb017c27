use Rattle.std.proofs.Common.{◌+◌, refl}
use Rattle.fragmentation.specs.Suffice.{pages_of}
use Rattle.sizing.specs.Season.{pages_gathered}
use Rattle.sizing.proofs.Counts.Counting.{are_sum, are_max}
use Rattle.sizing.proofs.Counts.Paging.{are_pages_max, max_so}
use Rattle.sizing.proofs.most.Most.ask.Goals as goal

pub returns : goal.returns
returns c = record {
  together = λ most live made more allocated lives base asks.
      are_max _ _ _ most (λ class. live class + (made class + more class)) allocated
      (are_sum _ _ _ live (λ class. made class + more class) lives (are_sum _ _ _ made more base asks c.add.ensures) c.add-3.ensures) c.raise.ensures;
  gathered = λ most before made more allocated sooner base asks.
      max_so _ _ _ c.max-self.ensures (are_pages_max _ _ most (pages_gathered before (λ class. made class + more class)) allocated (c.season_pages.ensures before (λ class. made class + more class) sooner (are_sum _ _ _ made more base asks c.add-2.ensures)));
  made = λ most made more allocated base asks.
      max_so _ _ _ c.max-self-2.ensures (are_pages_max _ _ most (pages_of (λ class. made class + more class)) allocated (c.pages_of.ensures (λ class. made class + more class) (are_sum _ _ _ made more base asks c.add.ensures)));
  live = refl;
}
