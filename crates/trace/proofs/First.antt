-- Playing up to the line of the nth event.
use Rattle.std.proofs.Common.{◌≡◌, ◌≢◌, ℕ, zero, suc, ◌+◌, ◌-◌, ◌<◌, ◌≤◌, Bool, true, false, not, ◌&&◌, cond, List, [], ◌∷◌, ◌++◌, inl, inr, append_assoc, append-nil, ap, ◌∙◌, sym, refl, subst, arith, Ok}
use Rattle.std.specs.Prelude.{Option, None, Some, Result, IsTrue, option_map}
use Rattle.std.specs.List.{count_by}
use Rattle.std.specs.Str.{bytes_eq}
use Rattle.std.proofs.lemmas.Option.{same_Some}
use Rattle.std.proofs.lemmas.Slice.Eq.{bytes_eq-Decides}
use Rattle.std.proofs.lemmas.List.Sums.{sum_by_push}
use Rattle.trace.specs.declared.line.Line.{Line}
use Rattle.trace.specs.declared.line.Line.TheVariants as lines
use Rattle.trace.specs.LineReader.{Lines}
use Rattle.trace.specs.declared.version.Version.{Version}
use Rattle.graph_heap.specs.declared.command.Command.{Command}
use Rattle.trace.specs.Numbered.{LineRead}
use Rattle.trace.specs.Spelling.{version_line, Spells, is_skipped}
use Rattle.trace.specs.TextLine.{Text, IsVersionLine}
use Rattle.trace.specs.Streams.{Given}
use Rattle.trace.specs.Lines.{text_of}
use Rattle.trace.specs.declared.fault.PlayFault.{PlayFault}
use Rattle.trace.proofs.ReadLines.{unread}
use Rattle.trace.proofs.LinesProcessed.{SoFar}
use Rattle.trace.specs.declared.player.style.Style.{Style}
use Rattle.heap_model.specs.Event.{Event}
use Rattle.trace.specs.Player.{PlayerState, DoesLine, entries_in}
use Rattle.trace.specs.Playing.{Session, session, PlaysLine, Played, PlayedFirst, PlayedUpTo, is_event, says_event, EndAtEvent, LinePlayed, written_of}
use Rattle.trace.proofs.Lines.{enters_nothing, ends_so}

-- a line that is read as an event isn't skipped, and doesn't tell the version
not_skipped : (text : List ℕ) (version : Version) (line : Line) (b : Bool) → is_skipped text ≡ b → ((x : Line) → Spells version text x → line ≡ x) → says_event line ≡ true → not b ≡ true
not_skipped text version line true e only some = let no : true ≡ false = sym some ∙ ap says_event (only lines.Skip e) in absurd (cc)
not_skipped text version line false e only some = refl

not_told : (text : List ℕ) (version : Version) (line : Line) (b : Bool) → bytes_eq text version_line ≡ b → Spells version text line → not b ≡ true
not_told text version line true e spells = absurd (unread version line (subst (λ t. Spells version t line) ((bytes_eq-Decides text version_line).0 e) spells))
not_told text version line false e spells = refl

both : (a b : Bool) → a ≡ true → b ≡ true → true ≡ (a && b)
both a b e f = rw (e, f) refl

pub event_read : (text : List ℕ) (version : Version) (line : Line) → Spells version text line → ((x : Line) → Spells version text x → line ≡ x) → says_event line ≡ true → true ≡ is_event text
event_read text version line spells only some =
    both (not (is_skipped text)) (not (bytes_eq text version_line)) (not_skipped text version line (is_skipped text) refl only some) (not_told text version line (bytes_eq text version_line) refl spells)

skip_read : (text : List ℕ) → IsTrue (is_skipped text) → false ≡ is_event text
skip_read text skipped = sym (ap (λ b. not b && not (bytes_eq text version_line)) skipped)

-- whether the line that was read is an event's
pub line_read : (text : List ℕ) (version : Version) (line : Line) → Spells version text line → ((x : Line) → Spells version text x → line ≡ x) → says_event line ≡ is_event text
line_read text version lines.Skip spells only = skip_read text spells
line_read text version (lines.Command m c) spells only = event_read text version (lines.Command m c) spells only refl
line_read text version lines.Begin spells only = event_read text version lines.Begin spells only refl
line_read text version (lines.Quantum budget) spells only = event_read text version (lines.Quantum budget) spells only refl
line_read text version (lines.Tick n) spells only = event_read text version (lines.Tick n) spells only refl

-- the outcome of the text of a line that was read and done
pub went : (style : Style) (text : Text) (taken taken' : List ℕ) (line : Line) (old new : PlayerState) (es : List Event) (event : Bool) → LineRead text (Ok (Some line)) → DoesLine old line es new
    → taken' ≡ taken ++ written_of style (entries_in es) → event ≡ says_event line → LinePlayed style text (session old taken) (session new taken') (Ok event)
went style text taken taken' line old new es event read does written is =
    (es, inr (read.0, (line, read.1, (does, written))), is ∙ line_read text.bytes text.version line read.1 read.2)

-- the outcome of a line that isn't a command, for which nothing is written
pub went_on : (style : Style) (text : Text) (taken : List ℕ) (line : Line) (old new : PlayerState) (es : List Event) (event : Bool) → LineRead text (Ok (Some line)) → DoesLine old line es new
    → ((m : ℕ) (c : Command) → line ≢ lines.Command m c) → event ≡ says_event line → LinePlayed style text (session old taken) (session new taken) (Ok event)
went_on style text taken line old new es event read does other is =
    went style text taken taken line old new es event read does (sym (append-nil taken) ∙ ap (λ t. taken ++ written_of style t) (sym (enters_nothing old line es new does other))) is

pub told_read : (text : Text) → IsVersionLine text → false ≡ is_event text.bytes
told_read text told = sym (ap is_event told.1)

pub count_more : (ls : List (List ℕ)) (line : List ℕ) (event : Bool) → event ≡ is_event line → count_by is_event (ls ++ line ∷ []) ≡ count_by is_event ls + cond event 1 0
count_more ls line event e = sum_by_push (λ (l : List ℕ). cond (is_event l) 1 0) ls line ∙ ap (λ b. count_by is_event ls + cond b 1 0) (sym e)

-- if no event is left, the input is cut after the lines
pub first_done : {style : Style} {given : Given} {old new : Session} {reader : Lines} (so : SoFar (PlaysLine style) given old new reader) (n : ℕ) → count_by is_event so.lines ≡ n → EndAtEvent so.lines → PlayedFirst n style given old new (Ok tt)
first_done {style} {given} {old} {new} {reader} so n count end = inr (
  given.before ++ text_of so.lines,
  reader.kept,
  ends_so (record {
    lines = so.lines;
    version = reader.next;
    events = so.events;
    mid = new;
    rest = [];
    read = record { text = text_of so.lines; came = refl; splits = record { whole = sym (append-nil (text_of so.lines)); each = so.read.splits.each }; small = omega arith };
    done = so.done;
    ends = (refl, refl, refl);
  }),
  so.read.came ∙ ap (λ t. given.before ++ t) so.read.splits.whole ∙ sym (append_assoc given.before (text_of so.lines) reader.kept),
  so.read.small,
  refl,
  count,
  end,
  refl,
)

-- How many events are left after some, if their number is limited.
abbrev pub AreLeft : Option ℕ → ℕ → Option ℕ → Type 0
AreLeft None count left = left ≡ None
AreLeft (Some n) count left = (k : ℕ) × (left ≡ Some k) × (k + count ≡ n)

pub left_at_first : (most : Option ℕ) → AreLeft most 0 most
left_at_first None = refl
left_at_first (Some n) = (n, refl, omega arith)

-- while some are left
positive : (left : Option ℕ) (k : ℕ) → left ≡ Some k → left ≢ Some 0 → 1 ≤ k
positive left zero e some = absurd (some e)
positive left (suc k) e some = omega arith

pub fewer : (most left : Option ℕ) (count : ℕ) → AreLeft most count left → left ≢ Some 0 → (n : ℕ) → most ≡ Some n → count < n
fewer None left count are some n e = absurd (cc)
fewer (Some m) left count are some n e = let sum = are.2 in omega (arith, sum, positive left are.0 are.1 some, same_Some m n e)

-- after a line more
abbrev pub left_after : Option ℕ → Bool → Option ℕ
left_after left event = option_map (λ n. n - cond event 1 0) left

pub left_on : (most left : Option ℕ) (count : ℕ) (event : Bool) → AreLeft most count left → left ≢ Some 0 → AreLeft most (count + cond event 1 0) (left_after left event)
left_on None left count event are some = rw are refl
left_on (Some n) left count true are some = let sum = are.2 in (are.0 - 1, ap (λ l. left_after l true) are.1, omega (arith, sum, positive left are.0 are.1 some))
left_on (Some n) left count false are some = let sum = are.2 in (are.0 - 0, ap (λ l. left_after l false) are.1, omega (arith, sum))

pub last_left : (left : Option ℕ) (event : Bool) (lines : List (List ℕ)) (line : List ℕ) → left ≢ Some 0 → event ≡ is_event line → left_after left event ≡ Some 0 → EndAtEvent (lines ++ line ∷ [])
last_left left true lines line some is e = inr (lines, line, refl, sym is)
last_left None false lines line some is e = absurd (cc)
last_left (Some k) false lines line some is e = let none : k ≡ 0 = (let same = same_Some (k - 0) 0 e in omega (arith, same)) in absurd (some (ap Some none))

-- the play of the input, while some events are left
abbrev pub up_to : {style : Style} {given : Given} {old new : Session} {result : Result (Unit {0}) PlayFault} (most : Option ℕ) (p : Played style given old new result) → ((n : ℕ) → most ≡ Some n → count_by is_event p.over.lines < n) → PlayedUpTo most style given old new result
up_to None p few = p
up_to (Some n) p few = inl (p, few n refl)

-- the play of the input, if none is left
pub none_left : (style : Style) {given : Given} {old new : Session} {reader : Lines} (so : SoFar (PlaysLine style) given old new reader) (most left : Option ℕ) → AreLeft most (count_by is_event so.lines) left → left ≡ Some 0 → EndAtEvent so.lines
    → PlayedUpTo most style given old new (Ok tt)
none_left style so None left are none end = absurd (cc)
none_left style so (Some n) left are none end = first_done so n (let sum = are.2 in omega (arith, sum, same_Some are.0 0 (sym are.1 ∙ none))) end
