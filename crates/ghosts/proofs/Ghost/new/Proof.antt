-- `new` makes a value of no bytes, with this value for proofs.
use mathlib.Core.Path.{refl}
use mathlib.Core.List.{[], ◌∷◌}
use seplogic.Ra.Ura.{Ura}
use mir.Val.{Val, vstruct, vcons, vnil}
use mir.Syntax.{a_type, dnil, Fn}
use mir.MapTy.{inst_fn}
use base.Fml.{ftrue, flft}
use base.Logic.{SProp}
use prog.Memory.{Memory}
use prog.Routine.{Routine}
use prog.Wp.{WpFn, Tables}
use types.Logic.{Logic}
use contract.Monad.{Fun}
use contract.Running.{tables, tables_of}
use sound.WpLaws.{WpFn-mono}
use types.Kit.{‵, raw, ◌⊛◌, ◌$◌, ◌∵◌, !, qed, move, keep, split, join, suffices, done}
use types.Run.{no_more, and_then, returns, enter}
use types.Part.{agg}
use types.ByLocal.{alloc_all, pass_all, free_all, look_at, get, sets}
use denote.Shadow.{pure_i}
use denote.Steps.{nothing}
use denote.Param.{bounded}
use denote.RattleType.{RattleType}
use denote.Triple.Spec.{Meets, triple_of}
use denote.Triple.Table.{entered}
use denote.Triple.Walked.{says, ends_at, walked, walk_Meets}
use Rattle.ghosts.specs.contracts.Ghost as ghost
use Rattle.ghosts.specs.contracts.Ghost.new.Key.{name as #it}
use Rattle.ghosts.specs.contracts.Ghost.new as it
use Rattle.ghosts.proofs.Ghost.new.Statement as stated
use Rattle.ghosts.proofs.Ghost.new.Code as code

abbrev v : Val
v = vstruct (vcons (vstruct vnil) vnil)

module _ (T : RattleType) where
  abbrev fn : Fn
  fn = inst_fn (bounded (a_type ∷ []) (T, tt) dnil) code.function

  abbrev made : T.Denot → (ghost.the_row T).Denot
  made x = record { of = record {}; value = x }

  meets : {M : Type 1} {𝓤 : Ura M} (𝓛 : Logic 𝓤) → (at_mem : Memory → SProp 𝓤) (run : Routine → Fun 𝓤) (𝓣 : Tables 𝓤 𝓛.H)
      → Meets 𝓛 (it.signature T) (WpFn 𝓤 𝓛.H 𝓣.C 𝓣.Λ fn) (it.spec T 𝓛 at_mem run)
  meets {𝓤 = 𝓤} 𝓛 at_mem run 𝓣 =
      let c = it.clauses T 𝓛 at_mem run in let E = it.ended T in
      walk_Meets 𝓛 E tt tt c (WpFn 𝓤 𝓛.H 𝓣.C 𝓣.Λ fn) (WpFn-mono 𝓤 𝓛.H 𝓛.laws 𝓣 fn)
      (walked 𝓛 E tt c (WpFn 𝓤 𝓛.H 𝓣.C 𝓣.Λ fn) (λ κs. tt) (λ κs. tt) (λ κs qs bounds a g _.
      qed 𝓛 (((‵ (flft κs.0 qs.0) ⊛ ‵ ftrue) ⊛ ‵ ftrue) ∷ raw ((c κs a).requires g) ∷ []) ∵ keep ! (0 ∷ []) $ split ! $ keep ! (0 ∷ []) $
      enter ! 𝓣.C 𝓣.Λ fn [] _ $ alloc_all ! (λ l. pass_all ! refl tt $
      sets ! (agg ! (no_more !)) refl (tt, tt) $ sets ! (agg ! (and_then ! (get ! refl) (no_more !))) refl (tt, (tt, tt)) $
      returns ! (look_at ! 0 refl) $ free_all ! refl $
      pure_i ! ((ghost.the_row T).own_val (made g) (v ∷ [])) ((λ vss. (tt, ((λ uss. (tt, tt)), tt))), tt) (((vstruct vnil ∷ [], tt), (refl, ((tt, (refl, tt)), tt))), tt) $
      suffices ! _ (ends_at 𝓛 E tt c ((κs, qs, bounds, a, tt), g) v (made g) tt tt) $ says ! refl $
      nothing ! $ join ! $ move ! (1 ∷ []) $ done !)))

pub new_spec : {M : Type 1} → stated.statement M
unfolding tables_of
new_spec 𝓤 𝓛 𝓜 𝓡 wired T L =
    entered 𝓤 𝓛.H (triple_of 𝓛 (it.signature T) (it.spec T 𝓛 𝓜.mem 𝓡.returns))
    (tables 𝓤 𝓛.H 𝓜 𝓡 𝓡.env).C (tables 𝓤 𝓛.H 𝓜 𝓡 𝓡.env).Λ (#it (bounded (a_type ∷ []) (T, tt) dnil)) (fn T) (code.unfolded 𝓤 𝓛.H 𝓜 𝓡 wired (T, tt))
    (meets T 𝓛 𝓜.mem 𝓡.returns (tables_of 𝓤 𝓛.H 𝓜 (tables 𝓤 𝓛.H 𝓜 𝓡 𝓡.env)))
