use Rattle.std.proofs.Common.{ℕ, ◌∙◌, refl, sym, ap}
use Rattle.circular_buffer.specs.Buffer.{Buffer, keep_last}
use Rattle.heap_model.specs.Event.{Command_done}
use Rattle.paced.specs.declared.logged.Logged.{Logged}
use Rattle.paced.specs.declared.logged.Logged.TheVariants as logged
use Rattle.heap_shared.specs.Past.{PastView, LogView, with_event}
use Rattle.heap_shared.proofs.Pasts.{next_event}
use Rattle.heap_shared.proofs.Rings.{kept_on, more_by_one, never_empty}
use Rattle.heap_shared.proofs.log.HeapLog.enter_command.Goals as goal

pub invariant_of-self : goal.invariant_of-self
invariant_of-self c =
    let p = c.self.inside.past.value in
    let now = c.went_on-self-inside.result.value in
    let e = Command_done c.args.mutator c.args.command c.args.reply in
    let ring = c.enter_command.new.self.entries in
    let es = ap (λ (x : PastView). x.events) c.went_on-self-inside.ensures ∙ next_event p e in (
      kept_on c.self.inside.ring.entries ring p.events (logged.Command c.args.mutator c.args.command c.args.reply) c.enter_command.ensures c.self.invariant.0 ∙ ap (keep_last ring.capacity) (sym es),
      more_by_one p.events now.events e _ _ c.self.invariant.1 refl es,
      never_empty _ _ _ es,
    )

pub returns : goal.returns
returns c =
    let p = c.self.inside.past.value in
    let e = Command_done c.args.mutator c.args.command c.args.reply in
    ap (λ (x : PastView). record { past = x; kept = c.enter_command.new.self.entries.capacity }) c.went_on-self-inside.ensures
    ∙ ap (λ (n : ℕ). record { past = with_event p e; kept = n }) (ap (λ (b : Buffer Logged). b.capacity) c.enter_command.ensures)
    ∙ ap (λ (l : LogView). record l { past = with_event l.past e }) c.self.view_is
