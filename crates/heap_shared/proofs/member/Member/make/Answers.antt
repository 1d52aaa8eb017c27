use Rattle.std.proofs.Common.{rules, ◌≡◌, ◌≤◌, ◌<◌, true, arith}
use Rattle.graph_heap.specs.declared.command.Command.TheVariants as commands
use Rattle.heap_shared.specs.Accounts.{IsWithin}
use Rattle.heap_shared.proofs.Members.{with_last, made_still}
use Rattle.heap_shared.proofs.member.Member.make.Goals as goal

pub invariant_of-self : goal.invariant_of-self
invariant_of-self c =
    let has : c.self.inside.inside ≡ true = search rules in
    let i = c.self.invariant in
    let known = c.self.inside.seat.me.0 in
    let low : c.self.inside.from ≤ c.args.mutator = search rules in
    let high : c.args.mutator < c.self.inside.to = search rules in
    let within : IsWithin known.from known.to c.args.mutator = (omega (arith, i.3, low), omega (arith, i.4, high)) in
    with_last i (made_still _ _ _ _ c.make.new.self has i.5 c.slot_mut.ensures.value c.args.mutator (commands.New c.args.dst c.args.shape) c.make.result within c.make.ensures)
