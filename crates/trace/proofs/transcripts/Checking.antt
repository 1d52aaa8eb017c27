-- A history, entry after entry.
use Rattle.std.proofs.Common.{◌≡◌, ℕ, List, [], ◌∷◌, ◌++◌, ap, ◌∙◌, inl, inr, sym, subst, refl, append-nil}
use Rattle.graph_heap.specs.declared.command.Entry.{Entry}
use Rattle.graph_heap.specs.Graph.{Graph}
use Rattle.graph_heap.specs.History.{IsEntryOf, after_entry, after, IsLegal}
use Rattle.graph_heap.proofs.Histories.{after-push, IsLegal-push}
use Rattle.trace.specs.declared.fault.PlayFault.{PlayFault}
use Rattle.trace.specs.declared.version.Version.{Version}
use Rattle.trace.specs.LinesProcessed.{LineEffect, LinesDone, No_lines, One_line_more, LinesProcessed}
use Rattle.trace.specs.Streams.{Given}
use Rattle.std.specs.Prelude.{Result}
use Rattle.trace.specs.declared.transcripts.histories.Checked.{Checked}
use Rattle.trace.specs.Histories.{DoesNothing, DoesEntry, HistoryEnds, EntriesChecked}

-- one line more
leads_on : (old mid new : Graph) (es fs : List Entry) (version : Version) (text : List ℕ) → IsLegal old es → mid ≡ after old es → DoesEntry version text mid fs new → IsLegal old (es ++ fs) × (new ≡ after old (es ++ fs))
leads_on old mid new es [] version text legal leads does =
    let e = sym (append-nil es) in
    (subst (IsLegal old) e legal, does.1 ∙ leads ∙ ap (after old) e)
leads_on old mid new es (e ∷ []) version text legal leads does = (
  IsLegal-push old es e legal (subst (λ g. IsEntryOf g e) leads does.1),
  does.2 ∙ ap (λ g. after_entry g e) leads ∙ sym (after-push old es e),
)
leads_on old mid new es (e ∷ f ∷ fs) version text legal leads does = absurd does

-- a line without an entry
leads_told : (old mid new : Graph) (es fs : List Entry) → IsLegal old es → mid ≡ after old es → fs ≡ [] → new ≡ mid → IsLegal old (es ++ fs) × (new ≡ after old (es ++ fs))
leads_told old mid new es fs legal leads none same =
    let e : es ≡ es ++ fs = sym (append-nil es) ∙ ap (λ l. es ++ l) (sym none) in
    (subst (IsLegal old) e legal, same ∙ leads ∙ ap (after old) e)

-- the entries of the lines done are legal, and lead to the graph heap after them
leads_so : (old new : Graph) (ls : List (List ℕ)) (version : Version) (es : List Entry) → LinesDone (LineEffect DoesNothing DoesEntry) old ls version es new → IsLegal old es × (new ≡ after old es)
leads_so old new ls version es No_lines = (tt, refl)
leads_so old new ls version es (One_line_more ls' before version' es' fs text mid new' d (inl told) next) =
    let so = leads_so old mid ls' before es' d in
    leads_told old mid new es' fs so.0 so.1 told.1 told.2
leads_so old new ls version es (One_line_more ls' before version' es' fs text mid new' d (inr does) next) =
    let so = leads_so old mid ls' before es' d in
    leads_on old mid new es' fs before text so.0 so.1 does.1

pub checked : (given : Given) (old new : Graph) (result : Result Checked PlayFault) → LinesProcessed (LineEffect DoesNothing DoesEntry) given old (HistoryEnds given.ended new result) → EntriesChecked given old new result
checked given old new result over =
    let so = leads_so old over.mid over.lines over.version over.events over.done in
    record { over = over; legal = so.0; leads = so.1 }
