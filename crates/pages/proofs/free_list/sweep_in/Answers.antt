use Rattle.std.proofs.Common.{◌≡◌, ◌*◌, Some, set, ap, ◌∙◌, sym, subst, refl, arith}
use Rattle.size_classes.specs.Sizes.{blocks_in}
use Rattle.pages.specs.declared.page.PageRow.{PageRow}
use Rattle.pages.specs.FreeList.{IsFreeList}
use Rattle.pages.specs.Sweeping.{Looks}
use Rattle.pages.specs.Together.{joined}
use Rattle.pages.proofs.Sweeping.{none_yet, one_more}
use Rattle.pages.proofs.Threading.{blocks_few}
use Rattle.pages.proofs.free_list.sweep_in.Goals as goal

pub loop-looked-init : goal.loop-looked-init
loop-looked-init c = (omega arith, refl, c.requires.chain, refl, λ rows t there. none_yet rows c.args.words.now c.args.page c.args.row there c.args.colour c.args.from t)

pub overflow_add-from : goal.overflow_add-from
overflow_add-from c = let f = blocks_few c.args.row.class in omega (arith, c.requires.blocks, f, c.loop-looked-test.true)

pub look-requires-clause-within : goal.look-requires-clause-within
look-requires-clause-within c = omega (arith, c.requires.within, c.loop-looked.invariant.1)

pub look-requires-clause-chain : goal.look-requires-clause-chain
look-requires-clause-chain c =
    let i = c.loop-looked.invariant in
    subst (λ n. IsFreeList c.loop-looked.words (2048 * c.args.page) n c.loop-looked.swept.first c.loop-looked.swept.allocated) (sym (ap (λ (r : PageRow). r.class) i.3)) i.2

pub look-requires-clause-block : goal.look-requires-clause-block
look-requires-clause-block c =
    let e = ap (λ (r : PageRow). blocks_in r.class) c.loop-looked.invariant.3 in
    omega (arith, c.requires.blocks, c.loop-looked-test.true, e)

pub loop-looked-preserved : goal.loop-looked-preserved
loop-looked-preserved c =
    let i = c.loop-looked.invariant in let e = c.look.ensures in let next = c.look.new.row in (
      omega (arith, c.loop-looked-test.true),
      e.len ∙ i.1,
      subst (λ n. IsFreeList c.look.new.words (2048 * c.args.page) n next.first next.allocated) (ap (λ (r : PageRow). r.class) i.3) e.chain,
      e.row ∙ ap (λ (r : PageRow). record r { first = next.first; allocated = next.allocated }) i.3,
      λ rows t there. one_more rows c.args.words.now c.args.page c.args.row there c.args.colour c.args.from c.loop-looked.looked c.loop-looked.swept next c.loop-looked.words c.look.new.words (i.4 rows t there) e.together e.looks,
    )

pub returns-clause-together : goal.returns-clause-together
returns-clause-together c = λ rows t there. (c.loop-looked.invariant.4 rows t there).0

pub returns-clause-looks : goal.returns-clause-looks
returns-clause-looks c =
    let i = c.loop-looked.invariant in let all : c.loop-looked.looked ≡ c.args.count = omega (arith, i.0, c.loop-looked-test.false) in λ rows t there.
    subst (λ n. Looks c.args.colour c.args.page c.args.from (joined rows c.args.words.now) n (joined (set rows c.args.page (Some c.loop-looked.swept)) c.loop-looked.words)) all (i.4 rows t there).1
