-- The work of a handler of lines, as effects of lines on a state.
use Rattle.std.proofs.Common.{◌≡◌, ℕ, List, [], ◌∷◌, ◌++◌, length, inl, inr, refl, sym, subst, ap}
use Rattle.std.specs.Prelude.{IsTrue, Result, Ok, Err}
use Rattle.trace.specs.declared.fault.PlayFault.{PlayFault}
use Rattle.trace.specs.declared.line_handler.InputEnd.{InputEnd}
use Rattle.trace.specs.declared.version.Version.{Version}
use Rattle.trace.specs.declared.version.Version.TheVariants.{First}
use Rattle.trace.specs.LinesProcessed.{LinesRead, LinesDone, No_lines, One_line_more, LinesProcessed, ProcessingEnds}
use Rattle.trace.specs.Handling.{HandlesLine, HandlerStops, LinesHandled}
use Rattle.trace.specs.Streams.{Given}
use Rattle.trace.specs.TextLine.{Text, text_after, IsNextVersion}

-- state: the state of a handler. Knows lines version events now: the facts known after these lines.
module _ {H S E : Type 0} (Handles : Text → H → H → Result (Unit {0}) PlayFault → Type 0) (Moves : Text → S → List E → S → Type 0) (state : H → S) (first : H)
    (Knows : (lines : List (List ℕ)) (version : Version) (events : List E) (now : H) → LinesDone Moves (state first) lines version events (state now) → Type 0) where
  -- one more line that the handler did moves the state, and the same is known
  pub record Follows : Type 0 where
    pub at_first : Knows [] First [] first No_lines
    pub then : (lines : List (List ℕ)) (version : Version) (events : List E) (mid : H) (done : LinesDone Moves (state first) lines version events (state mid)) → Knows lines version events mid done
        → (line : List ℕ) (new : H) → Handles (text_after lines version line) mid new (Ok tt)
        → (more : List E) × (moves : Moves (text_after lines version line) (state mid) more (state new))
        × ((next : Version) (after : IsNextVersion (text_after lines version line) next) → Knows (lines ++ line ∷ []) next (events ++ more) new (One_line_more lines version next events more line (state mid) (state new) done moves after))

  -- the lines that a handler did, as those that moved its state
  pub followed : Follows → (lines : List (List ℕ)) (version : Version) (told : List (Unit {0})) (new : H) → LinesDone (HandlesLine Handles) first lines version told new
      → (events : List E) × (done : LinesDone Moves (state first) lines version events (state new)) × Knows lines version events new done
  followed f lines version told new No_lines = ([], No_lines, f.at_first)
  followed f lines version told new (One_line_more before v next told' more line mid new' done handles after) =
      let so = followed f before v told' mid done in
      let moved = f.then before v so.0 mid so.1 so.2 line new' handles.1 in
      (so.0 ++ moved.0, One_line_more before v next so.0 moved.0 line (state mid) (state new') so.1 moved.1 after, moved.2 next after)

  -- all lines of an input moved the state of the handler
  pub record AllMoved (given : Given) (new : H) (end : InputEnd) : Type 0 where
    pub lines : List (List ℕ)
    pub events : List E
    pub rest : List ℕ
    pub read : LinesRead given lines rest
    pub done : LinesDone Moves (state first) lines end.version events (state new)
    pub knows : Knows lines end.version events new done
    pub none : rest ≡ []
    pub ended : IsTrue given.ended
    pub count : end.lines ≡ length lines

  done_all : Follows → (given : Given) (new mid : H) (end : InputEnd) (lines : List (List ℕ)) (version : Version) (told : List (Unit {0})) (rest : List ℕ) → LinesRead given lines rest → LinesDone (HandlesLine Handles) first lines version told mid
      → rest ≡ [] → IsTrue given.ended → new ≡ mid → end.lines ≡ length lines → end.version ≡ version → AllMoved given new end
  done_all f given new mid end lines version told rest read done none ended same count is =
      let d = subst (λ m. LinesDone (HandlesLine Handles) first lines end.version told m) (sym same) (subst (λ v. LinesDone (HandlesLine Handles) first lines v told mid) (sym is) done) in
      let so = followed f lines end.version told new d in
      record { lines = lines; events = so.0; rest = rest; read = read; done = so.1; knows = so.2; none = none; ended = ended; count = count }

  pub all_moved : Follows → (given : Given) (new : H) (end : InputEnd) → LinesHandled Handles given first new (Ok end) → AllMoved given new end
  all_moved f given new end h =
      let o = h.over in
      done_all f given new o.mid end o.lines o.version o.events o.rest o.read o.done o.ends.0 o.ends.1 o.ends.2 h.tells.0 h.tells.1

  module _ (Stops : PlayFault → Text → S → S → Type 0) (A : Type 0) (given : Given) (new : H) where
    -- all of the input is done
    abbrev pub over_all : {end : InputEnd} (all : A) → AllMoved given new end → LinesProcessed Moves given (state first) (λ reached. ProcessingEnds Stops reached given.ended (state new) (Ok all))
    over_all {end = end} all a = record { lines = a.lines; version = end.version; events = a.events; mid = state new; rest = a.rest; read = a.read; done = a.done; ends = (a.none, a.ended, refl) }

    module _ (fault : PlayFault)
        (stops : (lines : List (List ℕ)) (version : Version) (events : List E) (mid : H) (done : LinesDone Moves (state first) lines version events (state mid)) → Knows lines version events mid done
        → (line : List ℕ) → Handles (text_after lines version line) mid new (Err fault) → Stops fault (text_after lines version line) (state mid) (state new)) where
      -- the fault ends the lines
      stopped : (lines : List (List ℕ)) (version : Version) (told : List (Unit {0})) (events : List E) (mid : H) (rest : List ℕ) (done : LinesDone Moves (state first) lines version events (state mid)) → Knows lines version events mid done
          → ProcessingEnds (HandlerStops Handles) {A = InputEnd} (record { lines = lines; version = version; events = told; state = mid; rest = rest }) given.ended new (Err fault)
          → ProcessingEnds Stops {A = A} (record { lines = lines; version = version; events = events; state = state mid; rest = rest }) given.ended (state new) (Err fault)
      stopped lines version told events mid rest done knows (inl none) = inl (none.0, ap state none.1)
      stopped lines version told events mid rest done knows (inr there) = inr (there.0, there.1, there.2, there.3, stops lines version events mid done knows there.0 there.4)

      -- the input is done up to the fault
      pub over_stopped : Follows → LinesHandled Handles given first new (Err fault) → LinesProcessed Moves given (state first) (λ reached. ProcessingEnds Stops {A = A} reached given.ended (state new) (Err fault))
      over_stopped f h =
          let o = h.over in
          let so = followed f o.lines o.version o.events o.mid o.done in
          record {
            lines = o.lines;
            version = o.version;
            events = so.0;
            mid = state o.mid;
            rest = o.rest;
            read = o.read;
            done = so.1;
            ends = stopped o.lines o.version o.events so.0 o.mid o.rest so.1 so.2 o.ends;
          }
