use Rattle.std.proofs.Common.{refl}
use Rattle.fragmentation.specs.Suffice.{pages_of}
use Rattle.sizing.proofs.Counts.Paging.{are_pages_max, max_so}
use Rattle.sizing.proofs.most.Most.begin.Goals as goal

pub returns : goal.returns
returns c = record {
  same = refl;
  most = λ most n allocated are. max_so _ _ _ c.max-self.ensures (are_pages_max _ _ most (pages_of n) allocated (c.pages_of.ensures n are));
}
