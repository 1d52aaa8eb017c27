use Rattle.std.proofs.Common.{◌≡◌, suc, ◌+◌, ◌-◌, ◌∙◌, sym, ap, subst, refl, arith}
use Rattle.heap_model.specs.Action.{candidate_after}
use Rattle.defrag.specs.Candidates.{candidate_after_pages}
use Rattle.defrag.proofs.Untouched.{free_behind}
use Rattle.defrag.proofs.choosing.look_on.Goals as goal

pub loop-page-init : goal.loop-page-init
unfolding candidate_after_pages
loop-page-init c =
    (omega arith, subst (λ n. c.args.best ≡ candidate_after_pages c.args.nodes.now.pages c.args.class c.args.from c.args.best n) (let e : 0 ≡ c.args.from - c.args.from = omega arith in e) refl)

pub loop-page-preserved : goal.loop-page-preserved
unfolding candidate_after_pages
loop-page-preserved c =
    let i = c.loop-page.invariant in let from = c.args.from in let page = c.loop-page.page in let on = candidate_after_pages c.args.nodes.now.pages c.args.class from c.args.best in (
      omega (arith, i.0),
      c.consider-candidate.ensures
          ∙ ap (candidate_after c.args.nodes.now.pages c.args.class page) i.1
          ∙ ap (λ k. candidate_after c.args.nodes.now.pages c.args.class k (on (page - from))) (let e : page ≡ from + (page - from) = omega (arith, i.0) in e)
          ∙ ap on (let e : suc (page - from) ≡ page + 1 - from = omega (arith, i.0) in e),
    )

pub returns : goal.returns
returns c =
    c.loop-page.invariant.1
    ∙ sym (free_behind c.args.nodes.now.pages c.args.class c.args.from c.args.best (c.loop-page.page - c.args.from) (c.args.end - c.args.from)
    (omega (arith, c.requires.from, c.min-touched.ensures, c.max-last.ensures, c.loop-page.auto.page-end))
    (λ k past within. c.pages_touched.ensures.free k (omega (arith, past, within, c.requires.from, c.loop-page.invariant.0, c.min-touched.ensures, c.max-last.ensures, c.loop-page-test.false))))
