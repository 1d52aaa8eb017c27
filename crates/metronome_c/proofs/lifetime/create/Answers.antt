use Rattle.std.proofs.Common.{rules, ◌≡◌, ◌∙◌, sym, ap, refl}
use Rattle.std.specs.Prelude.{Some, None}
use Rattle.std.specs.Result.{result_err}
use Rattle.size_classes.specs.declared.ranges.Ranges.TheVariants.{Library}
use Rattle.size_classes.specs.Config.{fault_of}
use Rattle.paced.specs.Cycles.{no_cycles}
use Rattle.metronome_c.specs.declared.held.Held.TheVariants as holds
use Rattle.metronome_c.specs.declared.own_heap.OwnHeap.{OwnHeap}
use Rattle.metronome_c.specs.Lifetime.{IsOwnOf}
use Rattle.metronome_c.proofs.Making.{creates_one}
use Rattle.metronome_c.proofs.lifetime.create.Goals as goal

pub returns-in-Ok-hold_own : goal.returns-in-Ok-hold_own
returns-in-Ok-hold_own c =
    let s = c.args.settings.now in
    let f : None ≡ fault_of Library s = ap result_err (sym c.in-Ok.is) ∙ c.check_for_library.ensures.fault in
    let own : OwnHeap = record { heap = c.in-Ok-new.made; config = c.in-Ok.config; pacer = None; cycles = no_cycles } in
    let held : c.hold_own.new.self.handle.value ≡ Some (holds.Own own) = search rules in
    creates_one IsOwnOf _ _ _ _ (holds.Own own) s _ (sym c.is_open.ensures ∙ c.if-is_open.false) (sym c.is_closed.ensures ∙ c.if-not-is_closed.false) f held (search rules)
    (c.in-Ok-new.ensures.opening, c.in-Ok.ensures.values, c.in-Ok-new.ensures.settings, refl, refl)
