-- How far the text of lines is sent on: the bytes after these lines waited in the reader's buffer.
use Rattle.std.proofs.Common.{◌≡◌, ℕ, ◌+◌, ◌≤◌, ◌⊎◌, inl, inr, Bool, Ok, List, [], ◌∷◌, ◌++◌, length, arith, length-append, append_assoc, append-nil, ap, ◌∙◌, sym, subst, refl}
use Rattle.std.specs.Prelude.{Result}
use Rattle.std.specs.List.{AllByRecursion}
use Rattle.std.proofs.lemmas.Grind.{flat_map-append}
use Rattle.graph_heap.specs.declared.command.Entry.{Entry}
use Rattle.heap_model.specs.Event.{Event}
use Rattle.trace.specs.declared.fault.PlayFault.{PlayFault}
use Rattle.trace.specs.declared.version.Version.{Version}
use Rattle.trace.specs.declared.version.Version.TheVariants.{First}
use Rattle.trace.specs.LinesProcessed.{LinesRead, LinesDone, No_lines, LinesProcessed, ProcessingEnds}
use Rattle.trace.specs.LineReader.{Lines, ReadsLine}
use Rattle.trace.specs.Lines.{Comes, IsLine, text_of}
use Rattle.trace.proofs.LinesProcessed.{SoFar, reached_by}
use Rattle.trace.specs.Streams.{Given}
use Rattle.trace.specs.declared.player.style.Style.{Style}
use Rattle.trace.specs.declared.player.style.Style.TheVariants.{Nothing}
use Rattle.trace.specs.Player.{entries_in}
use Rattle.trace.specs.Playing.{Session, PlaysLine, StopsText, IsSentUpTo, text_written}
use Rattle.trace.proofs.Lines.{entries_more, lines_run, lines_written, history_grows, nothing_told}
use Rattle.trace.proofs.Promised.{Reaches, end_reached}

text_one : (lines : List (List ℕ)) (line : List ℕ) → length (text_of (lines ++ line ∷ [])) ≡ length (text_of lines) + (length line + 1)
text_one [] line = omega (arith, length-append (line ++ 10 ∷ []) [], length-append line (10 ∷ []))
text_one (l ∷ lines) line = omega (arith, text_one lines line, length-append (l ++ 10 ∷ []) (text_of (lines ++ line ∷ [])), length-append (l ++ 10 ∷ []) (text_of lines))

-- All that the first of these lines wrote is sent on, and the bytes after them waited in a buffer.
pub record SentSoFar (style : Style) (old : Session) (lines : List (List ℕ)) (events : List Event) (rest : List ℕ) (sent : ℕ) : Type 0 where
  pub before : List (List ℕ)
  pub behind : List (List ℕ)
  pub version : Version
  pub first : List Event
  pub more : List Event
  pub mid : Session
  pub lines_are : lines ≡ before ++ behind
  pub events_are : events ≡ first ++ more
  pub done : LinesDone (PlaysLine style) old before version first mid
  pub sent_on : (mid.taken ≡ old.taken) ⊎ (length mid.taken ≤ sent)
  pub few : length (text_of behind) + length rest ≤ 65536

later : (old taken : List ℕ) (sent sent' : ℕ) → sent ≤ sent' → (taken ≡ old) ⊎ (length taken ≤ sent) → (taken ≡ old) ⊎ (length taken ≤ sent')
later old taken sent sent' l (inl e) = inl e
later old taken sent sent' l (inr w) = inr (omega (arith, w, l))

module _ (style : Style) (old : Session) (lines : List (List ℕ)) (events : List Event) where
  -- more was sent on since
  pub still_sent : (rest : List ℕ) (sent sent' : ℕ) → sent ≤ sent' → SentSoFar style old lines events rest sent → SentSoFar style old lines events rest sent'
  still_sent rest sent sent' l w = record {
    before = w.before;
    behind = w.behind;
    version = w.version;
    first = w.first;
    more = w.more;
    mid = w.mid;
    lines_are = w.lines_are;
    events_are = w.events_are;
    done = w.done;
    sent_on = later old.taken w.mid.taken sent sent' l w.sent_on;
    few = w.few;
  }

  -- one more line, which waited in the buffer
  pub sent_on : (more : List Event) (line rest : List ℕ) (sent sent' : ℕ) → sent ≤ sent' → SentSoFar style old lines events (line ++ 10 ∷ rest) sent → SentSoFar style old (lines ++ line ∷ []) (events ++ more) rest sent'
  sent_on more line rest sent sent' l w = record {
    before = w.before;
    behind = w.behind ++ line ∷ [];
    version = w.version;
    first = w.first;
    more = w.more ++ more;
    mid = w.mid;
    lines_are = ap (λ ls. ls ++ line ∷ []) w.lines_are ∙ append_assoc w.before w.behind (line ∷ []);
    events_are = ap (λ es. es ++ more) w.events_are ∙ append_assoc w.first w.more more;
    done = w.done;
    sent_on = later old.taken w.mid.taken sent sent' l w.sent_on;
    few = omega (arith, w.few, text_one w.behind line, length-append line (10 ∷ rest));
  }

  module _ (version : Version) (mid : Session) (done : LinesDone (PlaysLine style) old lines version events mid) where
    nothing_taken : style ≡ Nothing → mid.taken ≡ old.taken
    nothing_taken silent =
        lines_written style old mid lines version events done
        ∙ ap (λ s. old.taken ++ text_written s version (entries_in events)) silent
        ∙ ap (λ t. old.taken ++ t) (nothing_told version (entries_in events))
        ∙ append-nil old.taken

    all_sent : (rest : List ℕ) (sent : ℕ) → length rest ≤ 65536 → (mid.taken ≡ old.taken) ⊎ (length mid.taken ≤ sent) → SentSoFar style old lines events rest sent
    all_sent rest sent small w = record {
      before = lines;
      behind = [];
      version = version;
      first = events;
      more = [];
      mid = mid;
      lines_are = sym (append-nil lines);
      events_are = sym (append-nil events);
      done = done;
      sent_on = w;
      few = omega (arith, small);
    }

    -- a call for the next line: its bytes waited, or nothing is written for lines, or all was sent on before
    pub asked_on : (kept rest : List ℕ) (sent sent' : ℕ) → SentSoFar style old lines events kept sent → sent ≤ sent' → length rest ≤ 65536 → (kept ≡ rest) ⊎ ((style ≡ Nothing) ⊎ (sent' ≡ length mid.taken)) → SentSoFar style old lines events rest sent'
    asked_on kept rest sent sent' w l small (inl same) = subst (λ (bytes : List ℕ). SentSoFar style old lines events bytes sent') same (still_sent kept sent sent' l w)
    asked_on kept rest sent sent' w l small (inr (inl silent)) = all_sent rest sent' small (inl (nothing_taken silent))
    asked_on kept rest sent sent' w l small (inr (inr all)) = all_sent rest sent' small (inr (omega (arith, all)))

-- before the first line
pub sent_first : (style : Style) (old : Session) (sent : ℕ) → SentSoFar style old [] [] [] sent
sent_first style old sent = all_sent style old [] [] First old No_lines [] sent (omega arith) (inl refl)

empty_of : (xs : List ℕ) → length xs ≡ 0 → xs ≡ []
empty_of [] e = refl
empty_of (x ∷ xs) e = absurd (omega arith)

nothing_came : (given given' kept text : List ℕ) → Comes given given' kept text → given' ≡ given → kept ≡ text
nothing_came given given' kept text c same =
    let none : length c.more ≡ 0 = omega (arith, ap length (sym c.given_more ∙ same), length-append given c.more) in
    sym (append-nil kept) ∙ ap (λ m. kept ++ m) (sym (empty_of c.more none)) ∙ c.makes

-- a source that was asked for nothing gave nothing
pub waited_or : {S P : Type 0} (given : S → List ℕ) (old new : S) (kept text : List ℕ) → Comes (given old) (given new) kept text → (new ≡ old) ⊎ P → (kept ≡ text) ⊎ P
waited_or given old new kept text c (inl same) = inl (nothing_came (given old) (given new) kept text c (ap given same))
waited_or given old new kept text c (inr p) = inr p

-- a line was handed out, or none was
pub handed : (given : Given) (reader next : Lines) (a b : Bool) → a ≡ b → ReadsLine given reader next (Ok a) → ReadsLine given reader next (Ok b)
handed given reader next a b e h = subst (λ t. ReadsLine given reader next (Ok t)) e h

all_front : (xs ys : List (List ℕ)) → AllByRecursion IsLine (xs ++ ys) → AllByRecursion IsLine xs
all_front [] ys all = tt
all_front (x ∷ xs) ys all = (all.0, all_front xs ys all.1)

-- the lines of a front, and all lines after them as the rest
front_read : (given : Given) (lines before behind : List (List ℕ)) (rest : List ℕ) → LinesRead given lines rest → lines ≡ before ++ behind → length (text_of behind) + length rest ≤ 65536 → LinesRead given before (text_of behind ++ rest)
front_read given lines before behind rest read are few = record {
  text = read.text;
  came = read.came;
  splits = record {
    whole = read.splits.whole ∙ ap (λ ls. text_of ls ++ rest) are ∙ ap (λ t. t ++ rest) (flat_map-append (λ line. line ++ 10 ∷ []) before behind) ∙ append_assoc (text_of before) (text_of behind) rest;
    each = all_front before behind (subst (AllByRecursion IsLine) are read.splits.each);
  };
  small = omega (arith, few, length-append (text_of behind) rest);
}

-- the entries of more events, and of the last ones
longer : (old mid now new : List Entry) (first more last : List Event) → mid ≡ old ++ entries_in first → now ≡ old ++ entries_in (first ++ more) → new ≡ now ++ entries_in last → new ≡ mid ++ (entries_in more ++ entries_in last)
longer old mid now new first more last m n l =
    l ∙ ap (λ h. h ++ entries_in last) (n ∙ ap (λ es. old ++ es) (entries_more first more) ∙ sym (append_assoc old (entries_in first) (entries_in more)) ∙ ap (λ h. h ++ entries_in more) (sym m))
    ∙ append_assoc mid (entries_in more) (entries_in last)

-- the text of lines is sent on so far, whatever was done after them
pub sent_from : (style : Style) (given : Given) (old now new : Session) (lines : List (List ℕ)) (version : Version) (events : List Event) (rest : List ℕ) (sent : ℕ) → LinesRead given lines rest → LinesDone (PlaysLine style) old lines version events now → Reaches now.player new.player
    → SentSoFar style old lines events rest sent → IsSentUpTo style given old new sent
sent_from style given old now new lines version events rest sent read done last w =
    let history : now.player.course.history ≡ old.player.course.history ++ entries_in (w.first ++ w.more) =
    history_grows events old.player.course now.player.course (lines_run style old now lines version events done) ∙ ap (λ es. old.player.course.history ++ entries_in es) w.events_are in
    let front = history_grows w.first old.player.course w.mid.player.course (lines_run style old w.mid w.before w.version w.first w.done) in
    record {
      lines = w.before;
      version = w.version;
      events = w.first;
      mid = w.mid;
      rest = text_of w.behind ++ rest;
      read = front_read given lines w.before w.behind rest read w.lines_are w.few;
      done = w.done;
      ends = (
        w.sent_on,
        (
          entries_in w.more ++ entries_in last.0,
          longer old.player.course.history w.mid.player.course.history now.player.course.history new.player.course.history w.first w.more last.0 front history (history_grows last.0 now.player.course new.player.course last.1),
        ),
      );
    }

-- the same holds at such an end
abbrev pub sent_at_end : {style : Style} {given : Given} {old : Session} (new : Session) (result : Result (Unit {0}) PlayFault) (sent : ℕ) (over : LinesProcessed (PlaysLine style) given old (λ reached. ProcessingEnds (StopsText style) reached given.ended new result)) → SentSoFar style old over.lines over.events over.rest sent
    → IsSentUpTo style given old new sent
sent_at_end {style} {given} {old} new result sent over w =
    sent_from style given old over.mid new over.lines over.version over.events over.rest sent over.read over.done (end_reached style (reached_by over) given.ended new result over.ends) w

-- the same holds if it goes on
abbrev pub sent_meanwhile : {style : Style} {given : Given} {old now : Session} {reader : Lines} (sent : ℕ) (so : SoFar (PlaysLine style) given old now reader) → SentSoFar style old so.lines so.events reader.kept sent → IsSentUpTo style given old now sent
sent_meanwhile {style} {given} {old} {now} {reader} sent so w =
    sent_from style given old now now so.lines reader.next so.events reader.kept sent so.read so.done ([], refl) w
