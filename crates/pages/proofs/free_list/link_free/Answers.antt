use Rattle.std.proofs.Common.{◌+◌, ap, ◌∙◌, set, length, arith}
use Rattle.std.proofs.lemmas.List.{length-set}
use Rattle.pages.specs.FreeList.{free_mark}
use Rattle.pages.proofs.free_list.link_free.Goals as goal

pub set_link-requires : goal.set_link-requires
set_link-requires c = omega (arith, c.requires, ap (λ w. length w) c.set_forward.ensures, length-set c.args.words.now c.args.block 18446744073709551615)

pub returns : goal.returns
unfolding free_mark
returns c = c.set_link.ensures ∙ ap (λ words. set words (c.args.block + 3) c.args.next) c.set_forward.ensures
