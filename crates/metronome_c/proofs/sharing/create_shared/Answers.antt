use Rattle.std.proofs.Common.{rules, ◌≡◌, ◌∙◌, sym, ap}
use Rattle.std.specs.Prelude.{Some, None}
use Rattle.std.specs.Result.{result_err}
use Rattle.size_classes.specs.declared.ranges.Ranges.TheVariants.{Library}
use Rattle.size_classes.specs.Config.{fault_of}
use Rattle.metronome_c.specs.declared.held.Held.TheVariants as holds
use Rattle.metronome_c.specs.Sharing.{IsFirst}
use Rattle.metronome_c.proofs.Making.{creates_one}
use Rattle.metronome_c.proofs.sharing.create_shared.Goals as goal

pub returns-in-Ok-hold_shared : goal.returns-in-Ok-hold_shared
returns-in-Ok-hold_shared c =
    let s = c.args.settings.now in
    let f : None ≡ fault_of Library s = ap result_err (sym c.in-Ok.is) ∙ c.check_for_library.ensures.fault in
    let new = c.in-Ok-with_ring.ensures in
    let held : c.hold_shared.new.self.handle.value ≡ Some (holds.Shared c.in-Ok-with_ring.made) = search rules in
    creates_one (IsFirst c.args.log c.args.plan) _ _ _ _ (holds.Shared c.in-Ok-with_ring.made) s _ (sym c.is_open.ensures ∙ c.if-is_open.false) (sym c.is_closed.ensures ∙ c.if-not-is_closed.false) f held (search rules)
    (record { config = c.in-Ok.config; of = c.in-Ok.ensures.values; settings = new.settings; budget = new.budget; mutators = new.mutators; numbers = new.numbers; seen = new.seen; turn = new.turn })
