use Rattle.std.proofs.Common.{rules, ◌≡◌, ◌∙◌, ap, Ok, Err}
use Rattle.heap_shared.specs.declared.fault.NoMember.TheVariants.{NoMemory}
use Rattle.heap_shared.specs.Members.{Adds, before_giving}
use Rattle.heap_shared.proofs.Rejoining.{as_before}
use Rattle.metronome_c.specs.Opened.{held_in}
use Rattle.metronome_c.proofs.sharing.sit_at.Goals as goal

pub returns-in-Err-hold_shared : goal.returns-in-Err-hold_shared
returns-in-Err-hold_shared c =
    let k = c.another.new.self in
    let adds : Adds c.args.member.now c.args.from (Ok c.in-Ok.given) k = search rules in
    let back : c.in-Err-hold_shared.back ≡ c.in-Ok.given = search rules in
    let was : c.rejoin.new.self ≡ c.args.member.now = c.rejoin.ensures ∙ (ap (before_giving k) back ∙ as_before c.args.member.now c.args.from c.in-Ok.given k adds) in
    let still : c.hold_shared.new.self ≡ c.args.made.now = search rules in (
      Err NoMemory,
      was,
      ap held_in still ∙ c.requires,
      search rules,
    )
