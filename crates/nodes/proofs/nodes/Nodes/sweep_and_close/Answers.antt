use Rattle.std.proofs.Common.{◌+◌, ◌≤◌, ◌<◌, length, ap, refl, sym, subst, ◌∙◌}
use Rattle.std.specs.Prelude.{IsSomeAnd}
use Rattle.heap_model.specs.Pages.{page_at}
use Rattle.heap_model.specs.Store.{Store}
use Rattle.nodes.specs.Pages.{blocks_on}
use Rattle.pages.specs.Together.{joined}
use Rattle.nodes.proofs.Freeing.{keeps_by, closed_store_by}
use Rattle.nodes.proofs.Joining.{same_headers}
use Rattle.nodes.proofs.Sweeping.{swept_sound, sweeps_by, looks_stay, left_and_closed}
use Rattle.nodes.proofs.nodes.Nodes.sweep_and_close.Goals as goal

pub sweep_and_close-requires-clause-blocks : goal.sweep_and_close-requires-clause-blocks
sweep_and_close-requires-clause-blocks c = subst (λ (x : Store). IsSomeAnd (page_at x.pages c.args.page) (λ p. c.args.index + c.args.count ≤ length p.allocated)) (sym c.self.view_is) c.requires.blocks

pub invariant_of-self : goal.invariant_of-self
invariant_of-self c = (
  let d = c.sweep_and_close.ensures.does in
      let sound = swept_sound _ _ _ c.self.view_is c.self.invariant.0.whole c.self.invariant.0.headers c.args.colour c.args.page c.args.index c.args.count d.looks in
      let stays = looks_stay c.args.colour c.args.page c.args.index _ c.args.count _ d.looks in
      let low = subst (λ n. c.args.page < n) (sym (stays.0 ∙ ap (λ (x : Store). length x.pages) c.self.view_is)) c.requires.page in
      record {
        whole = closed_store_by (joined d.mid _) _ refl sound.whole c.args.page 0 _ low d.closes;
        together = c.sweep_and_close.ensures.together;
        headers = same_headers d.mid _ _ refl (record { whole = sound.whole; together = d.together; headers = sound.headers }) _ (keeps_by (joined d.mid _) _ refl sound.whole c.args.page 0 _ low d.closes);
      },
  c.sweep_and_close.ensures.pages ∙ c.self.invariant.1 ∙ sym c.sweep_and_close.ensures.len,
)

pub returns-clause-links : goal.returns-clause-links
returns-clause-links c =
    let d = c.sweep_and_close.ensures.does in
    let sound = swept_sound _ _ _ c.self.view_is c.self.invariant.0.whole c.self.invariant.0.headers c.args.colour c.args.page c.args.index c.args.count d.looks in
    let stays = looks_stay c.args.colour c.args.page c.args.index _ c.args.count _ d.looks in
    let low = subst (λ n. c.args.page < n) (sym (stays.0 ∙ ap (λ (x : Store). length x.pages) c.self.view_is)) c.requires.page in
    left_and_closed _ _ _ c.self.view_is c.self.invariant.0.whole c.self.invariant.0.headers c.args.colour c.args.page c.args.index c.args.count d.looks
    _ (keeps_by (joined d.mid _) _ refl sound.whole c.args.page 0 _ low d.closes)

pub returns-clause-sweeps : goal.returns-clause-sweeps
returns-clause-sweeps c =
    let d = c.sweep_and_close.ensures.does in
    let sound = swept_sound _ _ _ c.self.view_is c.self.invariant.0.whole c.self.invariant.0.headers c.args.colour c.args.page c.args.index c.args.count d.looks in
    let stays = looks_stay c.args.colour c.args.page c.args.index _ c.args.count _ d.looks in
    let low = subst (λ n. c.args.page < n) (sym (stays.0 ∙ ap (λ (x : Store). length x.pages) c.self.view_is)) c.requires.page in
    record {
      mid = joined d.mid _;
      sweeps = sweeps_by _ _ _ c.self.view_is c.self.invariant.0.whole c.self.invariant.0.headers c.args.colour c.args.page c.args.index c.args.count d.looks;
      len = stays.0 ∙ ap (λ (x : Store). length x.pages) c.self.view_is;
      blocks = stays.1 ∙ ap (λ (x : Store). blocks_on (page_at x.pages c.args.page)) c.self.view_is;
      kept = keeps_by (joined d.mid _) _ refl sound.whole c.args.page 0 _ low d.closes;
      closes = d.closes;
    }
