-- `new` makes a value of no bytes, at which nothing went through.
use mathlib.Core.Path.{refl}
use mathlib.Core.List.{[], ◌∷◌}
use mir.Val.{Val, vstruct, vcons, vnil}
use contract.Running.{tables}
use types.Kit.{raw, ◌$◌, ◌∵◌, !, qed, keep, join, suffices, done}
use types.Run.{no_more, and_then, returns, enter}
use types.Part.{agg}
use types.ByLocal.{alloc_all, pass_all, free_all, look_at, get, sets}
use denote.Shadow.{pure_i}
use denote.Steps.{nothing}
use denote.Triple.Entry.{on_entry}
use denote.Triple.Walked.{says, ends_at}
use Rattle.std.proofs.raw_atomic.Walks.{proved}
use Rattle.trace.specs.declared.streams.transcript.Transcript.{Transcript}
use Rattle.trace.specs.contracts.streams.transcript.Transcript as T
use Rattle.trace.specs.contracts.streams.transcript.Transcript.new.Key.{name as #it}
use Rattle.trace.specs.contracts.streams.transcript.Transcript.new as it
use Rattle.trace.proofs.streams.transcript.Transcript.new.Statement as stated
use Rattle.trace.proofs.streams.transcript.Transcript.new.Code as code

abbrev v : Val
v = vstruct (vcons (vstruct vnil) vnil)

abbrev r : Transcript
r = record { marker = record {}; bytes = []; failures = 0 }

pub new_spec : {M : Type 1} → stated.statement M
new_spec 𝓤 𝓛 𝓜 𝓡 wired =
    let 𝓣 = tables 𝓤 𝓛.H 𝓜 𝓡 𝓡.env in let c = it.clauses 𝓛 𝓜.mem 𝓡.returns in let fn = code.function in
    proved 𝓛 it.ended tt c 𝓜 𝓡 tt #it fn (code.unfolded 𝓤 𝓛.H 𝓜 𝓡 wired) (λ κs. tt) (λ κs. tt) (λ κs qs bounds a g _.
    qed 𝓛 (raw (on_entry 𝓛 it.signature κs qs a tt) ∷ raw ((c κs a).requires g) ∷ []) ∵ keep ! [] $
    enter ! 𝓣.C 𝓣.Λ fn [] _ $ alloc_all ! (λ l. pass_all ! refl tt $
    sets ! (agg ! (no_more !)) refl (tt, tt) $ sets ! (agg ! (and_then ! (get ! refl) (no_more !))) refl (tt, (tt, tt)) $
    returns ! (look_at ! 0 refl) $ free_all ! refl $
    pure_i ! ((T.the_row).own_val r (v ∷ [])) ((λ vss. (tt, ((λ uss. (tt, tt)), tt))), tt) (((vstruct vnil ∷ [], tt), (refl, ((tt, (refl, tt)), tt))), tt) $
    suffices ! _ (ends_at 𝓛 it.ended tt c ((κs, qs, bounds, a, tt), g) v r tt tt) $ says ! (refl, refl) $
    nothing ! $ join ! $ nothing ! $ done !))
