use Rattle.std.proofs.Common.{rules, ◌≡◌, ◌+◌, List, [], ◌∷◌, ◌++◌, length, append-nil, ap, ◌∙◌, sym, subst, arith}
use Rattle.std.proofs.lemmas.List.Sorted.{answers_always}
use Rattle.std.specs.List.Sorted.{IsPermutation}
use Rattle.inspector.specs.declared.by_root.counting.RootRow.{RootRow}
use Rattle.inspector.specs.ByRoot.{rows_below}
use Rattle.inspector.specs.Totals.{holding_at}
use Rattle.inspector.proofs.RootSums.{rows_first, rows_next, row_yes, row_no}
use Rattle.inspector.proofs.by_root.counting.rows_of.Goals as goal
use Rattle.inspector.proofs.by_root.counting.rows_of.Goals.{then-holding-gt0+in_ok-push, else-holding-gt0}

pub loop-root-init : goal.loop-root-init
loop-root-init c = c.new-rows.ensures.items ∙ rows_first (holding_at c.args.each.now)

pub loop-root-preserved : goal.loop-root-preserved
loop-root-preserved c =
    let held = holding_at c.args.each.now in
    let root = c.loop-root.root in
    elim c.if-holding-gt0.branch [
      | then-holding-gt0+in_ok-push w ↦ ap (λ v. v.items) w.rows-is ∙ w.in_ok-push.ensures.items ∙ ap (λ rows. rows ++ record { root = root; holding = held root } ∷ []) c.loop-root.invariant
          ∙ ap (λ (rows : List RootRow). rows_below held root ++ rows) (row_yes held root w.if-holding-gt0.true) ∙ sym (rows_next held root)
      | else-holding-gt0 w ↦ ap (λ v. v.items) w.rows-is ∙ c.loop-root.invariant ∙ sym (append-nil (rows_below held root))
          ∙ ap (λ (rows : List RootRow). rows_below held root ++ rows) (row_no held root w.if-holding-gt0.false) ∙ sym (rows_next held root)
    ]

pub returns : goal.returns
returns c =
    let each = c.args.each.now in
    let last : c.loop-root.root ≡ length each = omega (arith, c.loop-root-test.false, c.loop-root.auto.root-end) in (
      subst (λ rows. IsPermutation rows c.sort_unstable_by_key.new.self.items) (c.loop-root.invariant ∙ ap (rows_below (holding_at each)) last) c.sort_unstable_by_key.ensures.permutation,
      c.sort_unstable_by_key.ensures.sorted (λ (row : RootRow). (record { 0 = row.holding.words }, row.root)) (answers_always _ _ _ (λ f a r g h. search rules)),
    )
