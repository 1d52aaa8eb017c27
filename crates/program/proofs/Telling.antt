-- Lines of windows that are written one after the other.
use Rattle.std.proofs.Common.{◌≡◌, ℕ, subst, List, [], ◌∷◌, ◌++◌, ap, ◌∙◌, sym, append_assoc, inl, inr}
use Rattle.std.specs.Prelude.{Result, Ok, Err, IfErr}
use Rattle.std.specs.Result.{IsErrAnd}
use Rattle.std.specs.List.{AllZip, concat}
use Rattle.size_classes.specs.declared.config.Config.{Config}
use Rattle.quanta.specs.Timetable.{Timetable, with_reserved}
use Rattle.trace.specs.declared.fault.PlayFault.TheVariants.{Write, NoMemory}
use Rattle.trace.specs.Streams.{GrowsByPart}
use Rattle.inspector.proofs.Parts.{part_after}
use Rattle.plans.proofs.Rows.{zip_more, concat_more}
use Rattle.program.specs.declared.fault.RunFault.{RunFault}
use Rattle.program.specs.declared.fault.RunFault.TheVariants.{Text}
use Rattle.program.specs.Windows.{IsWindowLine, AllTold, FirstTold}

-- a consequence for an error
pub err_so : {A E : Type 0} (r : Result A E) (P Q : E → Type 0) → ((e : E) → P e → Q e) → IsErrAnd r P → IfErr r Q
err_so (Ok x) P Q f h = tt
err_so (Err e) P Q f h = f e h

module _ (config : Config) (t : Timetable) (first : List ℕ) (old mid : List ℕ) (so : AllTold config t first old mid) where
  -- After these lines memory was refused.
  pub told_until : (windows behind : List ℕ) (fault : RunFault) → windows ≡ first ++ behind → fault ≡ Text NoMemory → FirstTold config t windows fault old mid
  told_until windows behind fault whole e = record { first = first; behind = behind; whole = whole; lines = so.lines; each = so.each; written = inl (e, so.written) }

  module _ (window : ℕ) (line : List ℕ) (is : IsWindowLine config t window line) (new : List ℕ) where
    each_more : AllZip (IsWindowLine config t) (first ++ window ∷ []) (so.lines ++ line ∷ [])
    each_more = zip_more (IsWindowLine config t) first so.lines window line so.each is

    -- The next line is written, too.
    pub told_more : new ≡ mid ++ line → AllTold config t (first ++ window ∷ []) old new
    told_more e = record {
      lines = so.lines ++ line ∷ [];
      each = each_more;
      written = e ∙ ap (λ x. x ++ line) so.written ∙ append_assoc old (concat so.lines) line ∙ ap (λ x. old ++ x) (sym (concat_more so.lines line));
    }

    -- A part of the next line is written.
    pub told_part : (windows behind : List ℕ) (fault : RunFault) → windows ≡ (first ++ window ∷ []) ++ behind → fault ≡ Text Write → GrowsByPart mid new line → FirstTold config t windows fault old new
    told_part windows behind fault whole e g = record {
      first = first ++ window ∷ [];
      behind = behind;
      whole = whole;
      lines = so.lines ++ line ∷ [];
      each = each_more;
      written = inr (e, subst (GrowsByPart old new) (sym (concat_more so.lines line)) (part_after old mid new (concat so.lines) line so.written g));
    }

-- The report of a timetable doesn't depend on the memory that is reserved.
module _ (config : Config) (t : Timetable) (n : ℕ) (windows taken taken' : List ℕ) where
  pub told_reserved : AllTold config t windows taken taken' → AllTold config (with_reserved t n) windows taken taken'
  told_reserved a = record { lines = a.lines; each = a.each; written = a.written }

  pub first_reserved : (fault : RunFault) → FirstTold config t windows fault taken taken' → FirstTold config (with_reserved t n) windows fault taken taken'
  first_reserved fault a = record { first = a.first; behind = a.behind; whole = a.whole; lines = a.lines; each = a.each; written = a.written }
