use Rattle.std.proofs.Common.{rules, ◌≡◌, ◌≤◌, ◌<◌, true, [], ◌∷◌, arith}
use Rattle.heap_model.specs.Event.{Command_done}
use Rattle.heap_shared.specs.Accounts.{IsWithin}
use Rattle.heap_shared.proofs.Accounts.{all_one, command_allowed}
use Rattle.heap_shared.proofs.Members.{with_last, gone_by, called, no_work}
use Rattle.heap_shared.proofs.member.Member.call_by.Goals as goal

pub invariant_of-self : goal.invariant_of-self
invariant_of-self g c =
    let has : c.self.inside.inside ≡ true = search rules in
    let i = c.self.invariant in
    let known = c.self.inside.seat.me.0 in
    let low : c.self.inside.from ≤ c.args.mutator = search rules in
    let high : c.args.mutator < c.self.inside.to = search rules in
    let within : IsWithin known.from known.to c.args.mutator = (omega (arith, i.3, low), omega (arith, i.4, high)) in
    let e = Command_done c.args.mutator c.args.command c.call_by.result in
    with_last i (gone_by _ _ _ _ _ has i.5 c.slot_mut.ensures.value (e ∷ []) (all_one _ _ e (command_allowed _ _ c.args.mutator c.args.command c.call_by.result within)) c.call_by.ensures.goes)

pub returns : goal.returns
returns g c =
    let has : c.self.inside.inside ≡ true = search rules in
    let i = c.self.invariant in
    let known = c.self.inside.seat.me.0 in
    let low : c.self.inside.from ≤ c.args.mutator = search rules in
    let high : c.args.mutator < c.self.inside.to = search rules in
    let within : IsWithin known.from known.to c.args.mutator = (omega (arith, i.3, low), omega (arith, i.4, high)) in
    called _ _ _ _ c.call_by.new.self has i.5 c.slot_mut.ensures.value _ _ c.self.view_is c.args.mutator c.args.command c.call_by.result [] within (no_work c.args.command _ _ c.requires.nothing c.call_by.ensures.pacer) c.call_by.ensures.goes
