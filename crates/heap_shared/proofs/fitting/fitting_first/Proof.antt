-- A seat's machine value is the same whatever table it is at, so what the first of two owns may go with the value of the second.
use Rattle.atomic_table.proofs.Names.{◌≡◌, List, [], ◌∷◌, ◌++◌, refl, Val, vstruct, of_list, SProp, emp, ‵, raw, ◌⊛◌, ◌$◌, ◌∵◌, !, qed, by, move, keep, split, fsplit3, fjoin, fjoin3, fpack, use0, feq_i, no_more, and_then, returns, enter, alloc_all, pass_all, free_all, look_at, get, sets, of_opd, agg, tables, yes, RattleType, owns, Valss, types_at, plain, nothing, alive, Stays, stay_dropped, walk_of, Goes-dropped, fact, fact_i, fsep}
use Rattle.std.proofs.Common.{◌≢◌, ◌⊎◌, inl, inr, ⊎_elim}
use Rattle.atomic_table.proofs.Walks.{proved, leaves}
use Rattle.atomic_table.specs.contracts.shared.Seat as seat
use Rattle.atomic_table.proofs.Fields.{token_val, token_told, pair_of}
use Rattle.heap_shared.specs.contracts.rule.Known as known
use Rattle.heap_shared.specs.contracts.shared_heap.SharedHeap as heap
use Rattle.heap_shared.proofs.Tables.{one_table}
use Rattle.heap_shared.specs.contracts.fitting.fitting_first.{ended, clauses}
use Rattle.heap_shared.specs.contracts.fitting.fitting_first.Key.{name as #self}
use Rattle.heap_shared.proofs.fitting.fitting_first.Statement.{statement}
use Rattle.heap_shared.proofs.fitting.fitting_first.Code as code

abbrev R : RattleType
R = heap.the_row

abbrev W : RattleType
W = known.the_row

abbrev Sr : RattleType
Sr = seat.the_row R W

abbrev stayed : Stays ended.signature.params ended.kept
stayed = (stay_dropped (plain (λ _. Sr)) yes, (stay_dropped (plain (λ _. Sr)) yes, tt))

pub fitting_first_spec : {M : Type 1} → statement M
fitting_first_spec 𝓤 𝓛 𝓜 𝓡 wired =
    let H = 𝓛.H in let 𝓣 = tables 𝓤 H 𝓜 𝓡 𝓡.env in let c = clauses 𝓛 𝓜.mem 𝓡.returns in let fn = code.function in
    proved 𝓛 ended stayed c 𝓜 𝓡 (Goes-dropped 𝓛 0 (plain (λ _. Sr)) yes (λ κs x f. refl), (Goes-dropped 𝓛 0 (plain (λ _. Sr)) yes (λ κs x f. refl), tt)) #self fn (code.unfolded 𝓤 H 𝓜 𝓡 wired)
    (λ κs. ((λ _. token_val ∷ []), ((λ _. token_val ∷ []), tt))) (λ κs. ((λ x vs so. token_told R W vs so.0), ((λ x vs so. token_told R W vs so.0), tt))) (λ κs qs bounds a gh are.
    let s : Sr.Denot = a.0 in let p : Sr.Denot = a.1.0 in let v : Val = pair_of token_val token_val in
    let y : (walk_of 𝓛 ended stayed c).Ghost = ((κs, qs, bounds, a, (token_val ∷ [], (token_val ∷ [], tt))), gh) in let Post : Val → SProp 𝓤 = (walk_of 𝓛 ended stayed c).post y in
    let E : Sr.Denot → Type 0 = λ r. ((s.table_id ≡ p.table_id) × (r ≡ s)) ⊎ ((s.table_id ≢ p.table_id) × (r ≡ p)) in
    let pair : Sr.Denot → Sr.Denot → (Valss (Sr ∷ Sr ∷ [])) → base.Fml.Fml = λ r t vss. fsep (base.Fml.feq (List Val) (v ∷ []) (vstruct (of_list (vss.0 ++ (vss.1.0 ++ []))) ∷ [])) (owns (Sr ∷ Sr ∷ []) (r, (t, tt)) vss) in
    ⊎_elim
    (λ (same : s.table_id ≡ p.table_id).
    qed 𝓛 ((raw (alive 𝓛 ended.signature κs qs) ⊛ ‵ (owns (types_at ended.signature.params κs) a y.0.4)) ∷ raw ((c κs a).requires gh) ∷ []) ∵ split ! $ move ! (1 ∷ []) $ fsplit3 ! $
    fjoin3 ! $ feq_i ! (List Val) (v ∷ []) (v ∷ []) refl $ fjoin ! $ fpack ! (Valss (Sr ∷ Sr ∷ [])) (pair s p) (token_val ∷ [], (token_val ∷ [], tt)) $
    enter ! 𝓣.C 𝓣.Λ fn (token_val ∷ token_val ∷ []) Post $ alloc_all ! (λ l. pass_all ! refl ((tt, (tt, tt)), ((tt, (tt, tt)), tt)) $
    sets ! (of_opd ! (get ! refl)) refl (tt, (tt, tt)) $ sets ! (of_opd ! (get ! refl)) refl (tt, (tt, tt)) $ sets ! (agg ! (and_then ! (get ! refl) (and_then ! (get ! refl) (no_more !)))) refl (tt, ((tt, tt), ((tt, tt), tt))) $
    use0 𝓛 (raw (fact 𝓤 (E s))) (fact_i 𝓤 (E s) (emp 𝓤) (inl (same, refl))) $ nothing ! $ nothing ! $ fjoin ! $ nothing ! $ fjoin ! $
    returns ! (look_at ! 0 refl) $ free_all ! refl $ keep ! (3 ∷ 0 ∷ 2 ∷ 1 ∷ []) $ by ! (leaves 𝓛 ended stayed c y v (s, p) (tt, (tt, tt)) (tt, (tt, tt)))))
    (λ (apart : s.table_id ≢ p.table_id).
    qed 𝓛 ((raw (alive 𝓛 ended.signature κs qs) ⊛ ‵ (owns (types_at ended.signature.params κs) a y.0.4)) ∷ raw ((c κs a).requires gh) ∷ []) ∵ split ! $ move ! (1 ∷ []) $ fsplit3 ! $ move ! (1 ∷ 0 ∷ []) $
    fjoin3 ! $ feq_i ! (List Val) (v ∷ []) (v ∷ []) refl $ fjoin ! $ fpack ! (Valss (Sr ∷ Sr ∷ [])) (pair p s) (token_val ∷ [], (token_val ∷ [], tt)) $
    enter ! 𝓣.C 𝓣.Λ fn (token_val ∷ token_val ∷ []) Post $ alloc_all ! (λ l. pass_all ! refl ((tt, (tt, tt)), ((tt, (tt, tt)), tt)) $
    sets ! (of_opd ! (get ! refl)) refl (tt, (tt, tt)) $ sets ! (of_opd ! (get ! refl)) refl (tt, (tt, tt)) $ sets ! (agg ! (and_then ! (get ! refl) (and_then ! (get ! refl) (no_more !)))) refl (tt, ((tt, tt), ((tt, tt), tt))) $
    use0 𝓛 (raw (fact 𝓤 (E p))) (fact_i 𝓤 (E p) (emp 𝓤) (inr (apart, refl))) $ nothing ! $ nothing ! $ fjoin ! $ nothing ! $ fjoin ! $
    returns ! (look_at ! 0 refl) $ free_all ! refl $ keep ! (3 ∷ 0 ∷ 2 ∷ 1 ∷ []) $ by ! (leaves 𝓛 ended stayed c y v (p, s) (tt, (tt, tt)) (tt, (tt, tt)))))
    (one_table s.table_id p.table_id))
