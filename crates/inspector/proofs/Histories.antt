-- The heap behind a play, and the graph heap to which its history leads.
use Rattle.std.proofs.Common.{◌≡◌, ℕ, List, Option, Ok, ap, ◌∙◌, sym, subst}
use Rattle.graph_heap.specs.declared.command.Limits.{Limits}
use Rattle.graph_heap.specs.declared.command.Entry.{Entry}
use Rattle.graph_heap.specs.Graph.{Graph, opening}
use Rattle.graph_heap.specs.History.{after, IsLegal}
use Rattle.size_classes.specs.declared.config.Config.{Config}
use Rattle.heap_model.specs.Event.{Course, present_of}
use Rattle.heap_model.specs.Settings.{settings_of, settings_by}
use Rattle.machine.proofs.Space.{runs_settings}
use Rattle.trace.specs.Streams.{Given}
use Rattle.trace.specs.declared.player.style.Style.{Style}
use Rattle.trace.specs.New.{IsNew}
use Rattle.trace.specs.Playing.{Session, PlayedUpTo}
use Rattle.trace.proofs.Promised.{up_to_reaches}

-- the heap behind a play has the configuration's settings
pub played_settings : (config : Config) (n : Option ℕ) (style : Style) (given : Given) (old new : Session) → IsNew config old.player → PlayedUpTo n style given old new (Ok tt) → settings_of new.player.course.heap ≡ settings_by config
played_settings config n style given old new is p =
    let r = up_to_reaches n style given old new (Ok tt) p in
    runs_settings r.0 old.player.course new.player.course r.1 ∙ is.settings

-- the graph heap to which the history of a course leads
pub graph_at : (r s : Course) (l : Limits) (history : List Entry) (g : Graph) → s ≡ r → l ≡ r.heap.limits → history ≡ s.history → IsLegal (opening s.heap.limits) s.history
    → (IsLegal (opening l) history → g ≡ after (opening l) history) → g ≡ present_of r
graph_at r s l history g same limits all legal is =
    let there : history ≡ r.history = all ∙ ap (λ (x : Course). x.history) same in
    let here : IsLegal (opening r.heap.limits) r.history = subst (λ (x : Course). IsLegal (opening x.heap.limits) x.history) same legal in
    let so : IsLegal (opening l) history = subst (IsLegal (opening l)) (sym there) (subst (λ x. IsLegal (opening x) r.history) (sym limits) here) in
    is so ∙ ap (λ x. after (opening x) history) limits ∙ ap (after (opening r.heap.limits)) there
