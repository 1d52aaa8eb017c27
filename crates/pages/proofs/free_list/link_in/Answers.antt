use Rattle.std.proofs.Common.{◌≡◌, ◌+◌, ◌-◌, ◌*◌, ap, ◌∙◌, set, subst, sym, refl, arith}
use Rattle.size_classes.specs.Sizes.{size_of, blocks_in}
use Rattle.pages.specs.FreeList.{free_mark}
use Rattle.pages.proofs.Threading.{Threads, threads_none, thread_within, thread_step, threaded, block_before}
use Rattle.pages.proofs.free_list.link_in.Goals as goal

pub loop-i-init : goal.loop-i-init
loop-i-init c = (
  subst (λ n. Threads c.args.words.now c.args.words.now (2048 * c.args.page) (size_of c.args.class) (blocks_in c.args.class) n 0) (let e : blocks_in c.args.class ≡ c.blocks_per_page-i.result = sym c.blocks_per_page-i.ensures.blocks in e)
      (threads_none c.args.words.now (2048 * c.args.page) (size_of c.args.class) (blocks_in c.args.class)),
  refl,
)

pub overflow_sub-block : goal.overflow_sub-block
overflow_sub-block c =
    let before = block_before (2048 * c.args.page) c.size-size.result c.loop-i.i c.loop-i.block c.loop-i-test.true c.loop-i.invariant.1 in
    omega (arith, before.0)

pub link_free-requires : goal.link_free-requires
link_free-requires c =
    let before = block_before (2048 * c.args.page) c.size-size.result c.loop-i.i c.loop-i.block c.loop-i-test.true c.loop-i.invariant.1 in
    omega (arith, before.1, thread_within c.args.page c.args.class (c.loop-i.i - 1) c.size-size.result c.size-size.ensures.size c.size-size.ensures.within.0 (omega (arith, c.loop-i-test.true, c.loop-i.invariant.0.counted)), c.requires.within, c.loop-i.invariant.0.outside.len)

pub loop-i-preserved : goal.loop-i-preserved
loop-i-preserved c =
    let before = block_before (2048 * c.args.page) c.size-size.result c.loop-i.i c.loop-i.block c.loop-i-test.true c.loop-i.invariant.1 in (
      subst (λ b. Threads c.args.words.now c.link_free.new.words (2048 * c.args.page) (size_of c.args.class) (blocks_in c.args.class) (c.loop-i.i - 1) (b + 1)) (sym before.1)
          (thread_step c.args.words.now c.loop-i.words c.link_free.new.words c.args.page c.args.class c.loop-i.i c.loop-i.first c.size-size.result c.size-size.ensures.size c.size-size.ensures.within.0 c.loop-i-test.true c.loop-i.invariant.0
          (c.link_free.ensures ∙ ap (λ b. set (set c.loop-i.words b free_mark) (b + 3) c.loop-i.first) before.1) c.requires.within),
      before.1,
    )

pub returns-clause-flags : goal.returns-clause-flags
returns-clause-flags c =
    (threaded c.args.words.now c.loop-i.words (2048 * c.args.page) c.args.class c.loop-i.first
    (subst (λ i. Threads c.args.words.now c.loop-i.words (2048 * c.args.page) (size_of c.args.class) (blocks_in c.args.class) i c.loop-i.first) (omega arith) c.loop-i.invariant.0)).0

pub returns-clause-chain : goal.returns-clause-chain
returns-clause-chain c =
    (threaded c.args.words.now c.loop-i.words (2048 * c.args.page) c.args.class c.loop-i.first
    (subst (λ i. Threads c.args.words.now c.loop-i.words (2048 * c.args.page) (size_of c.args.class) (blocks_in c.args.class) i c.loop-i.first) (omega arith) c.loop-i.invariant.0)).1
