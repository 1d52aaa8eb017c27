use Rattle.std.proofs.Common.{ap, ◌∙◌, sym, subst, refl, ◌*◌, length, length-set}
use Rattle.pages.specs.declared.page.PageRow.{PageRow}
use Rattle.pages.specs.FreeList.{IsFreeList}
use Rattle.pages.specs.Together.{Together}
use Rattle.pages.proofs.Sweeping.{row_same, row_loose, stays_there, goes_together, goes_there}
use Rattle.pages.proofs.free_list.look.Goals as goal

pub returns-then-stays-clause-row : goal.returns-then-stays-clause-row
returns-then-stays-clause-row c = refl

pub returns-then-stays-clause-together : goal.returns-then-stays-clause-together
returns-then-stays-clause-together c = λ rows t there. subst (λ l. Together l c.args.words.now) (sym (row_same rows c.args.page c.args.row.now there)) t

pub returns-then-stays-clause-looks : goal.returns-then-stays-clause-looks
returns-then-stays-clause-looks c = λ rows t there. stays_there rows c.args.words.now c.args.page c.args.row.now c.args.index c.args.colour there c.requires.block (c.if-stays.ensures.stays refl)

pub push-requires-clause-allocated : goal.push-requires-clause-allocated
push-requires-clause-allocated c = (c.if-stays.ensures.goes refl).0

pub returns-clause-len : goal.returns-clause-len
returns-clause-len c = ap (λ w. length w) c.push.ensures.words ∙ length-set _ _ _ ∙ length-set _ _ _

pub returns-clause-chain : goal.returns-clause-chain
returns-clause-chain c = subst (IsFreeList c.push.new.words (2048 * c.args.page) c.args.row.now.class c.push.new.row.first) (sym (ap (λ (r : PageRow). r.allocated) c.push.ensures.row)) c.push.ensures.chain

pub returns-clause-row : goal.returns-clause-row
returns-clause-row c = c.push.ensures.row ∙ sym (ap (λ (r : PageRow). record c.args.row.now { first = r.first; allocated = r.allocated }) c.push.ensures.row)

pub returns-clause-together : goal.returns-clause-together
returns-clause-together c = λ rows t there. goes_together rows c.args.words.now c.push.new.words t c.args.page c.args.row.now c.push.new.row there c.args.index (c.if-stays.ensures.goes refl).0 (row_loose c.args.page c.args.index c.args.row.now c.push.new.row c.push.ensures.row) c.push.ensures.flags c.push.ensures.chain c.push.ensures.words

pub returns-clause-looks : goal.returns-clause-looks
returns-clause-looks c = λ rows t there. goes_there rows c.args.words.now c.push.new.words t c.args.page c.args.row.now c.push.new.row there c.args.index (c.if-stays.ensures.goes refl).0 (row_loose c.args.page c.args.index c.args.row.now c.push.new.row c.push.ensures.row) c.push.ensures.flags c.push.ensures.chain c.push.ensures.words c.args.colour (c.if-stays.ensures.goes refl).1
