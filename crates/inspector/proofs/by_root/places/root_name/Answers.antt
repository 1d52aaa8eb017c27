use Rattle.std.proofs.Common.{◌++◌, append_assoc, ap, ◌∙◌, sym}
use Rattle.std.specs.Prelude.{codes, decimal, string_bytes, ◌≡◌}
use Rattle.std.proofs.lemmas.Result.{IfOk-weaker}
use Rattle.inspector.specs.Roots.{root_name}
use Rattle.inspector.proofs.by_root.places.root_name.Goals as goal

pub returns-in-Slot : goal.returns-in-Slot
returns-in-Slot c =
    let mutator = decimal c.in-Slot.mutator in
    let slot = decimal c.in-Slot.slot in
    IfOk-weaker c.format.result _ (λ name. string_bytes name ≡ root_name c.args.root)
    (λ name e. e ∙ sym (append_assoc (codes "slot " ++ mutator) (codes " ") slot ∙ append_assoc (codes "slot ") mutator (codes " " ++ slot)) ∙ ap root_name (sym c.in-Slot.is)) c.format.ensures.ok
