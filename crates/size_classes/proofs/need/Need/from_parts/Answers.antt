use Rattle.std.proofs.Common.{◌+◌, ◌-◌, ◌∙◌, ℕ, get_or, arith, ap}
use Rattle.std.proofs.lemmas.List.{get_or-replicate}
use Rattle.size_classes.specs.declared.class.TheConstants.{CLASSES}
use Rattle.size_classes.proofs.Closed.{times_small, counted}
use Rattle.size_classes.proofs.need.Need.from_parts.Goals as goal

pub add-requires-clause-few : goal.add-requires-clause-few
add-requires-clause-few c class h =
    let z = ap (λ l. get_or l class 0) c.none-need.ensures ∙ get_or-replicate {A = ℕ} CLASSES class 0 0 h in
    omega (arith, z)

pub add-requires-2-clause-few : goal.add-requires-2-clause-few
add-requires-2-clause-few c class h =
    let z = ap (λ l. get_or l class 0) c.none-need.ensures ∙ get_or-replicate {A = ℕ} CLASSES class 0 0 h in
    let a = c.add.ensures class h in
    let t = times_small (c.pieces-pieces.result - 1 + c.saturating_sub.result) 256 class in
    omega (arith, z, a, t)

pub add-requires-3-clause-few : goal.add-requires-3-clause-few
add-requires-3-clause-few c class h =
    let z = ap (λ l. get_or l class 0) c.none-need.ensures ∙ get_or-replicate {A = ℕ} CLASSES class 0 0 h in
    let a = c.add.ensures class h in
    let b = c.add-2.ensures class h in
    let t = times_small (c.pieces-pieces.result - 1 + c.saturating_sub.result) 256 class in
    let u = times_small 1 c.words.result class in
    omega (arith, z, a, b, t, u)

pub add-requires-4-clause-few : goal.add-requires-4-clause-few
add-requires-4-clause-few c class h =
    let z = ap (λ l. get_or l class 0) c.none-need.ensures ∙ get_or-replicate {A = ℕ} CLASSES class 0 0 h in
    let a = c.add.ensures class h in
    let b = c.add-2.ensures class h in
    let d = c.add-3.ensures class h in
    let t = times_small (c.pieces-pieces.result - 1 + c.saturating_sub.result) 256 class in
    let u = times_small 1 c.words.result class in
    let v = times_small c.min.result c.words-2.result class in
    omega (arith, z, a, b, d, t, u, v)

pub returns : goal.returns
returns c class h =
    let z = ap (λ l. get_or l class 0) c.none-need.ensures ∙ get_or-replicate {A = ℕ} CLASSES class 0 0 h in
    counted c.args.parts.now class c.pieces-pieces.result c.spines-spines.result c.saturating_sub.result c.saturating_sub-last_spine.result c.min.result c.min-2.result c.words.result c.words-2.result c.words-3.result _ _ _ _ _
    c.spines-spines.ensures.spines c.pieces-pieces.ensures.pieces (omega arith) (omega arith) (omega arith) (omega arith)
    c.words.ensures.words c.words-2.ensures.words c.words-3.ensures.words
    z (c.add.ensures class h) (c.add-2.ensures class h) (c.add-3.ensures class h) (c.add-4.ensures class h)
