use Rattle.std.proofs.Common.{◌≡◌, ◌+◌, ◌*◌, true, subst, sym, refl}
use Rattle.heap_model.specs.Store.{Store, is_allocated}
use Rattle.nodes.proofs.Freeing.{allocated_by}
use Rattle.nodes.proofs.Joining.{below_by}
use Rattle.nodes.proofs.nodes.Nodes.allocated_block.Goals as goal

pub address-requires-clause-block : goal.address-requires-clause-block
address-requires-clause-block c = (allocated_by _ c.self.invariant.0.whole c.args.page c.args.index c.in_ok-class.class c.size.result _ refl (sym (c.in_ok-class.ensures _ c.self.invariant.0.together)) c.size.ensures.size (c.if-is_allocated.ensures.0 refl)).0

pub returns-then-is_allocated-clause-block : goal.returns-then-is_allocated-clause-block
returns-then-is_allocated-clause-block c =
    let b = allocated_by _ c.self.invariant.0.whole c.args.page c.args.index c.in_ok-class.class c.size.result _ refl (sym (c.in_ok-class.ensures _ c.self.invariant.0.together)) c.size.ensures.size (c.if-is_allocated.ensures.0 refl) in
    subst (λ a. is_allocated c.args.self.now a ≡ true) (sym c.address.ensures) (subst (λ (x : Store). is_allocated x (2048 * c.args.page + c.args.index * c.size.result) ≡ true) c.self.view_is b.2)

pub class-requires : goal.class-requires
class-requires c = below_by _ _ _ c.self.view_is c.args.page c.requires

pub is_allocated-requires-clause-page : goal.is_allocated-requires-clause-page
is_allocated-requires-clause-page c = below_by _ _ _ c.self.view_is c.args.page c.requires
