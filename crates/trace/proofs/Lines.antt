-- The effects of lines, one after the other.
use Rattle.std.proofs.Common.{◌≡◌, ◌≢◌, ℕ, ◌+◌, inl, inr, List, [], ◌∷◌, ◌++◌, length, length-append, arith, append_assoc, append-nil, ap, ◌∙◌, sym, subst, refl}
use Rattle.std.specs.Prelude.{Result}
use Rattle.std.proofs.lemmas.Grind.{flat_map-append}
use Rattle.graph_heap.specs.declared.command.Command.{Command}
use Rattle.graph_heap.specs.declared.command.Entry.{Entry}
use Rattle.heap_model.specs.Event.{Course, Event, Command_done, Cycle_begun, Begin_refused, Quantum_done, Quantum_refused, Runs}
use Rattle.machine.proofs.Courses.{runs_then}
use Rattle.trace.specs.declared.line.Line.{Line}
use Rattle.trace.specs.declared.line.Line.TheVariants as lines
use Rattle.trace.specs.declared.fault.PlayFault.{PlayFault}
use Rattle.trace.specs.declared.fault.PlayFault.TheVariants.{Write}
use Rattle.trace.specs.declared.version.Version.{Version}
use Rattle.trace.specs.declared.version.Version.TheVariants.{First, Second}
use Rattle.trace.specs.LinesProcessed.{LinesDone, No_lines, One_line_more, LinesProcessed, ProcessingEnds}
use Rattle.trace.specs.TextLine.{Text}
use Rattle.trace.proofs.LinesProcessed.{next_told, next_same}
use Rattle.trace.specs.Streams.{Given, GrowsByPart}
use Rattle.trace.specs.Player.{PlayerState, QuantaDue, None_yet, One_more, DoesLine, Skips, Commands, Begins, Goes_on, Spends, Ticks, entries_in}
use Rattle.trace.specs.declared.player.style.Style.{Style}
use Rattle.trace.specs.declared.player.style.Style.TheVariants.{Nothing}
use Rattle.trace.specs.Playing.{Session, PlaysLine, StopsText, Played, written_line, written_of, written_version, text_written}

-- the entries of more events, and the text written for them
pub entries_more : (es fs : List Event) → entries_in (es ++ fs) ≡ entries_in es ++ entries_in fs
entries_more [] fs = refl
entries_more (Command_done m c reply ∷ es) fs = ap (λ l. (record { mutator = m; command = c; reply = reply }) ∷ l) (entries_more es fs)
entries_more (Cycle_begun ∷ es) fs = entries_more es fs
entries_more (Begin_refused ∷ es) fs = entries_more es fs
entries_more (Quantum_done budget units phase ∷ es) fs = entries_more es fs
entries_more (Quantum_refused budget ∷ es) fs = entries_more es fs

pub text_more : (style : Style) (es fs : List Entry) → written_of style (es ++ fs) ≡ written_of style es ++ written_of style fs
text_more style es fs = flat_map-append (written_line style) es fs

-- quanta make no entry
pub due_entries : (until : ℕ) (p : PlayerState) (es : List Event) (q : PlayerState) → QuantaDue until p es q → entries_in es ≡ []
due_entries until p es q None_yet = refl
due_entries until p es q (One_more fs r due units phase course w is below d) = entries_more fs (Quantum_done r.budget units phase ∷ []) ∙ ap (λ l. l ++ []) (due_entries until p fs r w)

-- the events of a line are done, one after the other
pub due_runs : (until : ℕ) (p : PlayerState) (es : List Event) (q : PlayerState) → QuantaDue until p es q → Runs p.course es q.course
due_runs until p es q None_yet = refl
due_runs until p es q (One_more fs r due units phase course w is below d) = runs_then fs (Quantum_done r.budget units phase ∷ []) p.course r.course course (due_runs until p fs r w) (course, d, refl)

pub line_runs : (p : PlayerState) (line : Line) (es : List Event) (q : PlayerState) → DoesLine p line es q → Runs p.course es q.course
line_runs p line es q Skips = refl
line_runs p line es q (Commands m c reply course d) = (course, d, refl)
line_runs p line es q (Begins course d) = (course, d, refl)
line_runs p line es q (Goes_on d) = (p.course, d, refl)
line_runs p line es q (Spends budget units phase course d) = (course, d, refl)
line_runs p line es q (Ticks n fs r small w none) = due_runs (p.timetable.clock + n) p es r w

pub lines_run : (style : Style) (old new : Session) (ls : List (List ℕ)) (version : Version) (es : List Event) → LinesDone (PlaysLine style) old ls version es new → Runs old.player.course es new.player.course
lines_run style old new ls version es No_lines = refl
lines_run style old new ls version es (One_line_more ls' before version' es' more text mid new' d (inl told) next) =
    let e : es' ≡ es' ++ more = sym (append-nil es') ∙ ap (λ l. es' ++ l) (sym told.1) in
    subst (λ l. Runs old.player.course l new'.player.course) e (subst (λ (p : PlayerState). Runs old.player.course es' p.course) (sym told.2.0) (lines_run style old mid ls' before es' d))
lines_run style old new ls version es (One_line_more ls' before version' es' more text mid new' d (inr does) next) =
    runs_then es' more old.player.course mid.player.course new'.player.course (lines_run style old mid ls' before es' d) (line_runs mid.player does.1.0 more new'.player does.1.2.0)

-- the history grows by the entries
pub history_grows : (es : List Event) (r new : Course) → Runs r es new → new.history ≡ r.history ++ entries_in es
history_grows [] r new w = ap (λ (x : Course). x.history) w ∙ sym (append-nil r.history)
history_grows (Command_done m c reply ∷ es) r new w =
    history_grows es w.0 new w.2 ∙ ap (λ h. h ++ entries_in es) w.1.history ∙ append_assoc r.history (record { mutator = m; command = c; reply = reply } ∷ []) (entries_in es)
history_grows (Cycle_begun ∷ es) r new w = history_grows es w.0 new w.2 ∙ ap (λ h. h ++ entries_in es) w.1.history
history_grows (Begin_refused ∷ es) r new w = history_grows es w.0 new w.2 ∙ ap (λ (x : Course). x.history ++ entries_in es) w.1.1
history_grows (Quantum_done budget units phase ∷ es) r new w = history_grows es w.0 new w.2 ∙ ap (λ h. h ++ entries_in es) w.1.history
history_grows (Quantum_refused budget ∷ es) r new w = history_grows es w.0 new w.2 ∙ ap (λ (x : Course). x.history ++ entries_in es) w.1.1

written_more : (style : Style) (version : Version) (taken taken' taken'' : List ℕ) (es fs : List Event) → taken' ≡ taken ++ text_written style version (entries_in es) → taken'' ≡ taken' ++ written_of style (entries_in fs)
    → taken'' ≡ taken ++ text_written style version (entries_in (es ++ fs))
written_more style version taken taken' taken'' es fs old new =
    let told = written_version version style in
    new ∙ ap (λ t. t ++ written_of style (entries_in fs)) old ∙ append_assoc taken (told ++ written_of style (entries_in es)) (written_of style (entries_in fs))
    ∙ ap (λ t. taken ++ t) (append_assoc told (written_of style (entries_in es)) (written_of style (entries_in fs)) ∙ ap (λ t. told ++ t) (sym (text_more style (entries_in es) (entries_in fs)) ∙ ap (written_of style) (sym (entries_more es fs))))

-- before the first line nothing is done
none_done : (style : Style) (old new : Session) (ls : List (List ℕ)) (version : Version) (es : List Event) → LinesDone (PlaysLine style) old ls version es new → length ls ≡ 0 → (es ≡ []) × (new.taken ≡ old.taken)
none_done style old new ls version es No_lines none = (refl, refl)
none_done style old new ls version es (One_line_more ls' before version' es' more text mid new' d goes next) none = absurd (omega (arith, none, length-append ls' (text ∷ [])))

-- the line that tells the version is written first
told_written : (style : Style) (version : Version) (taken taken' taken'' : List ℕ) (es : List Event) → version ≡ Second → es ≡ [] → taken' ≡ taken → taken'' ≡ taken' ++ written_version Second style → taken'' ≡ taken ++ text_written style version (entries_in es)
told_written style version taken taken' taken'' es is none same new =
    let told = written_version Second style in
    new ∙ ap (λ t. t ++ told) same ∙ ap (λ t. taken ++ t) (sym (append-nil told)) ∙ ap (λ l. taken ++ text_written style Second (entries_in l)) (sym none) ∙ ap (λ v. taken ++ text_written style v (entries_in es)) (sym is)

-- the text written for the lines
pub lines_written : (style : Style) (old new : Session) (ls : List (List ℕ)) (version : Version) (es : List Event) → LinesDone (PlaysLine style) old ls version es new → new.taken ≡ old.taken ++ text_written style version (entries_in es)
lines_written style old new ls version es No_lines = sym (append-nil old.taken)
lines_written style old new ls version es (One_line_more ls' before version' es' more text mid new' d (inl told) next) =
    let n = none_done style old mid ls' before es' d (omega (arith, told.0.0)) in
    told_written style version' old.taken mid.taken new'.taken (es' ++ more) (next_told _ version' next told.0) (ap (λ l. l ++ more) n.0 ∙ told.1) n.1 told.2.1
lines_written style old new ls version es (One_line_more ls' before version' es' more text mid new' d (inr does) next) =
    subst (λ v. new'.taken ≡ old.taken ++ text_written style v (entries_in (es' ++ more))) (sym (next_same _ version' next does.0))
    (written_more style before old.taken mid.taken new'.taken es' more (lines_written style old mid ls' before es' d) does.1.2.1)

-- the play of an input, from its lines and its end
abbrev pub ends_so : {style : Style} {given : Given} {old new : Session} {result : Result (Unit {0}) PlayFault} → LinesProcessed (PlaysLine style) given old (λ reached. ProcessingEnds (StopsText style) reached given.ended new result) → Played style given old new result
ends_so {style} {given} {old} {new} {result} over =
    let runs = lines_run style old over.mid over.lines over.version over.events over.done in
    record { over = over; runs = runs; grows = history_grows over.events old.player.course over.mid.player.course runs; written = lines_written style old over.mid over.lines over.version over.events over.done }

-- only commands make entries
pub enters_nothing : (p : PlayerState) (line : Line) (es : List Event) (q : PlayerState) → DoesLine p line es q → ((m : ℕ) (c : Command) → line ≢ lines.Command m c) → entries_in es ≡ []
enters_nothing p line es q Skips other = refl
enters_nothing p line es q (Commands m c reply course d) other = absurd (other m c refl)
enters_nothing p line es q (Begins course d) other = refl
enters_nothing p line es q (Goes_on d) other = refl
enters_nothing p line es q (Spends budget units phase course d) other = refl
enters_nothing p line es q (Ticks k fs r small due none) other = due_entries (p.timetable.clock + k) p es r due

-- the entry of a receipt
pub entered : (e : Entry) (m : ℕ) (c : Command) → e.mutator ≡ m → e.command ≡ c → entries_in (Command_done m c e.reply ∷ []) ≡ e ∷ []
entered e m c p q = subst (λ k. entries_in (Command_done k c e.reply ∷ []) ≡ e ∷ []) p (subst (λ d. entries_in (Command_done e.mutator d e.reply ∷ []) ≡ e ∷ []) q refl)

pub entry_of : (e : Entry) (m : ℕ) (c : Command) → e.mutator ≡ m → e.command ≡ c → e ≡ (record { mutator = m; command = c; reply = e.reply })
entry_of e m c p q = ap (λ k. record { mutator = k; command = e.command; reply = e.reply }) p ∙ ap (λ d. record { mutator = m; command = d; reply = e.reply }) q

-- nothing is written of entries
pub nothing_written : (entries : List Entry) → written_of Nothing entries ≡ []
nothing_written [] = refl
nothing_written (e ∷ entries) = nothing_written entries

-- nothing is written for lines
pub nothing_told : (version : Version) (entries : List Entry) → text_written Nothing version entries ≡ []
nothing_told First entries = nothing_written entries
nothing_told Second entries = nothing_written entries

no_part : (old new bytes : List ℕ) → bytes ≡ [] → GrowsByPart old new bytes → ⊥
no_part old new bytes none part = let few = part.1 in let empty : length bytes ≡ 0 = ap length none in omega (arith, few, empty)

-- so no write fails there
pub nothing_fails : (text : Text) (old new : Session) → StopsText Nothing Write text old new → ⊥
nothing_fails text old new (inl none) = let z = none.0.0 in cc
nothing_fails text old new (inr (inl (lines.Skip, spells, stops))) = elim stops [ ]
nothing_fails text old new (inr (inl (lines.Command m c, spells, stops))) = no_part old.taken new.taken [] refl stops.2
nothing_fails text old new (inr (inl (lines.Begin, spells, stops))) = elim stops [ ]
nothing_fails text old new (inr (inl (lines.Quantum budget, spells, stops))) = elim stops [ ]
nothing_fails text old new (inr (inl (lines.Tick n, spells, stops))) = elim stops [ ]
nothing_fails text old new (inr (inr told)) = no_part old.taken new.taken [] refl told.3
