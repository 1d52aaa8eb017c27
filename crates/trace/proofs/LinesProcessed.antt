-- Going through lines: the lines so far, the next line, and the end.
use Rattle.std.proofs.Common.{Bool, true, false, ◌≡◌, ℕ, ◌+◌, ◌≤◌, inl, inr, List, [], ◌∷◌, ◌++◌, length, arith, length-append, append_assoc, append-nil, ap, ◌∙◌, sym, subst, refl}
use Rattle.std.specs.Prelude.{IsTrue, Ok, Err, Option, Some, None}
use Rattle.trace.specs.declared.fault.PlayFault.{PlayFault}
use Rattle.trace.specs.declared.version.Version.{Version}
use Rattle.trace.specs.LinesProcessed.{LinesRead, Reached, NextThere, LinesDone, No_lines, One_line_more, LinesProcessed, NoLine, ProcessingEnds}
use Rattle.trace.specs.LineReader.{Lines, no_lines, lines_by, ReadsLine}
use Rattle.trace.specs.Streams.{Given, Stays}
use Rattle.trace.specs.Lines.{IsLine, Comes, text_of}
use Rattle.trace.specs.TextLine.{Text, text_after, IsVersionLine, IsNextVersion}
use Rattle.trace.specs.declared.version.Version.TheVariants.{Second}
use Rattle.trace.proofs.Cutting.{one_more}

-- the known input stays
pub stays_same : (o : Option (List ℕ)) → Stays o o
stays_same None = tt
stays_same (Some all) = refl

pub stays_on : (a b c : Option (List ℕ)) → Stays a b → Stays b c → Stays a c
stays_on None b c p q = tt
stays_on (Some all) b c p q = (subst (λ (o : Option (List ℕ)). Stays o c) p q)

-- the source gave more
abbrev pub later : Given → List ℕ → Bool → Given
later given after ended = record { before = given.before; after = after; ended = ended }

-- the rest after the same lines
pub rest_more : (given : Given) (after kept rest : List ℕ) (ended : Bool) (lines : List (List ℕ)) → LinesRead given lines kept → Comes given.after after kept rest → length rest ≤ 65536 → LinesRead (later given after ended) lines rest
rest_more given after kept rest ended lines r comes small = record {
  text = r.text ++ comes.more;
  came = comes.given_more ∙ ap (λ t. t ++ comes.more) r.came ∙ append_assoc given.before r.text comes.more;
  splits = record {
    whole = ap (λ t. t ++ comes.more) r.splits.whole ∙ append_assoc (text_of lines) kept comes.more ∙ ap (λ t. text_of lines ++ t) comes.makes;
    each = r.splits.each;
  };
  small = small;
}

-- one more line
pub line_more : (given : Given) (after kept kept' line : List ℕ) (ended : Bool) (lines : List (List ℕ)) → LinesRead given lines kept → Comes given.after after kept (line ++ 10 ∷ kept') → IsLine line → length (line ++ 10 ∷ kept') ≤ 65536
    → LinesRead (later given after ended) (lines ++ line ∷ []) kept'
line_more given after kept kept' line ended lines r comes is small = record {
  text = r.text ++ comes.more;
  came = comes.given_more ∙ ap (λ t. t ++ comes.more) r.came ∙ append_assoc given.before r.text comes.more;
  splits = one_more r.text comes.more kept kept' line lines r.splits comes.makes is;
  small = omega (arith, small, length-append line (10 ∷ kept'));
}

-- the place reached in going through lines
abbrev pub reached_by : {S E : Type 0} {Moves : Text → S → List E → S → Type 0} {given : Given} {old : S} {End : Reached S E → Type 0} → LinesProcessed Moves given old End → Reached S E
reached_by over = record { lines = over.lines; version = over.version; events = over.events; state = over.mid; rest = over.rest }

module _ {S E : Type 0} (Moves : Text → S → List E → S → Type 0) where
  -- the lines so far, with what the reader keeps of the bytes after them
  pub record SoFar (given : Given) (old new : S) (reader : Lines) : Type 0 where
    pub lines : List (List ℕ)
    pub events : List E
    pub read : LinesRead given lines reader.kept
    pub done : LinesDone Moves old lines reader.next events new
    pub counted : reader.text.number ≡ length lines

  -- before the first line
  abbrev pub at_first : (given : List ℕ) (ended : Bool) (old : S) → SoFar (record { before = given; after = given; ended = ended }) old old no_lines
  at_first given ended old = record {
    lines = [];
    events = [];
    read = record { text = []; came = sym (append-nil given); splits = record { whole = refl; each = tt }; small = omega arith };
    done = No_lines;
    counted = refl;
  }

-- a line has the next number
pub one_line : (number : ℕ) (next : Lines) (b : Bool) → b ≡ true → next.text.number ≡ number + lines_by (Ok b) → next.text.number ≡ number + 1
one_line number next b is e = subst (λ t. next.text.number ≡ number + lines_by (Ok t)) is e

-- at the end of the input no line is read
pub no_line : (number : ℕ) (next : Lines) (b : Bool) → b ≡ false → next.text.number ≡ number + lines_by (Ok b) → next.text.number ≡ number
no_line number next b is e =
    let none : next.text.number ≡ number + 0 = subst (λ t. next.text.number ≡ number + lines_by (Ok t)) is e in
    omega (arith, none)

-- a line by its number and its version
pub text_is : (text : Text) (lines : List (List ℕ)) (version : Version) → text.number ≡ length lines + 1 → text.version ≡ version → text ≡ text_after lines version text.bytes
text_is text lines version number is =
    ap (λ n. record { bytes = text.bytes; number = n; version = text.version }) number
    ∙ ap (λ v. record { bytes = text.bytes; number = length lines + 1; version = v }) is

-- the version of the next line
pub next_told : (text : Text) (next : Version) → IsNextVersion text next → IsVersionLine text → next ≡ Second
next_told text next (inl n) is = n.1
next_told text next (inr n) is = absurd (n.0 is)

pub next_same : (text : Text) (next : Version) → IsNextVersion text next → (¬ IsVersionLine text) → next ≡ text.version
next_same text next (inl n) other = absurd (other n.0)
next_same text next (inr n) other = n.1

module _ {S E : Type 0} {Moves : Text → S → List E → S → Type 0} {given : Given} {old mid : S} {reader : Lines} (so : SoFar Moves given old mid reader) (next : Lines) where
  -- the next call of the reader, after which its source has given these bytes
  abbrev call : List ℕ → Bool → Given
  call after ended = record { before = given.after; after = after; ended = ended }

  -- the place reached by the lines so far, with a rest
  abbrev reached : List ℕ → Reached S E
  reached rest = record { lines = so.lines; version = reader.next; events = so.events; state = mid; rest = rest }

  -- it ends after the lines so far
  abbrev ends_after : (after rest : List ℕ) (ended : Bool) (End : Reached S E → Type 0) → Comes given.after after reader.kept rest → length rest ≤ 65536 → End (reached rest)
      → LinesProcessed Moves (later given after ended) old End
  ends_after after rest ended End comes small end = record {
    lines = so.lines;
    version = reader.next;
    events = so.events;
    mid = mid;
    rest = rest;
    read = rest_more given after reader.kept rest ended so.lines so.read comes small;
    done = so.done;
    ends = end;
  }

  module _ (after : List ℕ) (ended : Bool) where
    -- there is no next line
    abbrev pub ends_without : (A : Type 0) (Stops : PlayFault → Text → S → S → Type 0) (fault : PlayFault) → ReadsLine (call after ended) reader next (Err fault)
        → LinesProcessed Moves (later given after ended) old (λ r. ProcessingEnds Stops {A = A} r ended mid (Err fault))
    ends_without A Stops fault h =
        let same : next.text.number ≡ length so.lines = omega (arith, h.number, so.counted) in
        ends_after after next.kept ended _ h.text h.small (inl (subst (λ n. NoLine fault n next.kept ended) same h.says, refl))

    module _ (b : Bool) (h : ReadsLine (call after ended) reader next (Ok b)) where
      -- the input has ended
      abbrev pub ends_over : b ≡ false → (End : Reached S E → Type 0) → ((rest : List ℕ) → (rest ≡ []) × IsTrue ended → End (reached rest))
          → LinesProcessed Moves (later given after ended) old End
      ends_over is End so_it_ends =
          let e = subst (λ t. ReadsLine (call after ended) reader next (Ok t)) is h in
          ends_after after next.kept ended End e.text e.small (so_it_ends next.kept e.says)

      module _ (is : b ≡ true) (text : Text) (same : text ≡ next.text) where
        abbrev e : ReadsLine (call after ended) reader next (Ok true)
        e = subst (λ t. ReadsLine (call after ended) reader next (Ok t)) is h

        -- the line that was handed out is the next one
        abbrev is_next : next.text ≡ text_after so.lines reader.next next.text.bytes
        is_next = text_is next.text so.lines reader.next (omega (arith, e.number, so.counted)) e.versions.0

        -- it ends at the next line
        abbrev pub ends_in : (P : Text → Type 0) → P text → (End : Reached S E → Type 0)
            → (text.number ≡ length so.lines + 1 → (rest : List ℕ) → NextThere (reached rest) P → End (reached rest)) → LinesProcessed Moves (later given after ended) old End
        ends_in P this End so_it_ends =
            let count : text.number ≡ length so.lines + 1 = ap (λ (t : Text). t.number) same ∙ omega (arith, e.number, so.counted) in
            let rest = next.text.bytes ++ 10 ∷ next.kept in
            ends_after after rest ended End e.text e.small (so_it_ends count rest (next.text.bytes, next.kept, refl, e.says, subst P (same ∙ is_next) this))

        -- the next line leads to a fault
        abbrev pub ends_at : (A : Type 0) (Stops : PlayFault → Text → S → S → Type 0) (fault : PlayFault) (new : S) → Stops fault text mid new
            → LinesProcessed Moves (later given after ended) old (λ r. ProcessingEnds Stops {A = A} r ended new (Err fault))
        ends_at A Stops fault new stops =
            ends_in (λ t. Stops fault t mid new) stops _ (λ count rest there. inr there)

        -- one more line is done
        abbrev pub goes_on : (new : S) (events : List E) → Moves text mid events new → SoFar Moves (later given after ended) old new next
        goes_on new events goes = record {
          lines = so.lines ++ next.text.bytes ∷ [];
          events = so.events ++ events;
          read = line_more given after reader.kept next.kept next.text.bytes ended so.lines so.read e.text e.says e.small;
          done = One_line_more so.lines reader.next next.next so.events events next.text.bytes mid new so.done
              (subst (λ t. Moves t mid events new) (same ∙ is_next) goes)
              (subst (λ t. IsNextVersion t next.next) is_next e.versions.1);
          counted = omega (arith, e.number, so.counted, length-append so.lines (next.text.bytes ∷ []));
        }
