-- A piece of work that is done ahead.
use Rattle.std.proofs.Common.{◌≡◌, ℕ, ◌+◌, ◌^◌, ◌<◌, Bool, true, false, List, [], ◌∷◌, ap, ◌∙◌, sym, arith, refl}
use Rattle.std.specs.Prelude.{max}
use Rattle.heap_model.specs.Event.{Event, quanta_in}
use Rattle.heap_model.specs.ReachedFrom.{cycles_in}
use Rattle.paced.specs.declared.figures.Figures.{Figures}
use Rattle.paced.specs.Cycles.{saturated}
use Rattle.paced.specs.Pacing.{PacerView, PacedView, paced_by, state_by, state_of, KeepsAgreeing, worked, MayAsk}
use Rattle.paced.specs.Working.{DoesPiece}
use Rattle.paced.specs.Bounds.{pieces_left, Prepares}
use Rattle.paced.proofs.Pieces.{works_for, piece_counts, quanta_by, cycles_by}

-- the figures with so many quanta and beginnings more
abbrev figured : Figures → ℕ → ℕ → ℕ → Figures
figured f quanta cycles most = record { quanta = saturated (f.quanta + quanta); cycles = saturated (f.cycles + cycles); most_quanta = max f.most_quanta most }

-- no work leaves the figures as they are
pub figures_none : (f : Figures) → f.quanta < 2 ^ 64 → f.cycles < 2 ^ 64 → f ≡ worked f []
figures_none f some many =
    let q : f.quanta ≡ saturated (f.quanta + 0) = omega (arith, some) in
    let c : f.cycles ≡ saturated (f.cycles + 0) = omega (arith, many) in
    let m : f.most_quanta ≡ max f.most_quanta (saturated 0) = omega arith in
    λ i. record { quanta = q i; cycles = c i; most_quanta = m i }

few_pieces : (began : Bool) → saturated (quanta_by began) ≡ quanta_by began
few_pieces true = refl
few_pieces false = refl

pub prepared : (So : List Event → Type 0) (old mid : PacedView) (q : PacerView) (words : ℕ) (began : Bool) (left quanta cycles : ℕ) (was : Figures) → (MayAsk (state_of old) words → ⊥) → (p : DoesPiece old began mid) × So (p.event ∷ []) → q.counts ≡ mid.pacer.counts
    → quanta ≡ quanta_by began → cycles ≡ cycles_by began → was ≡ old.pacer.figures → q.figures ≡ figured was quanta cycles quanta → KeepsAgreeing old.heap mid.heap
    → (left ≡ 0 → MayAsk (state_by q mid.heap) words) → (0 < left → MayAsk (state_by q mid.heap) words → ⊥) → (0 < left → left ≡ max (pieces_left (state_by q mid.heap) words) 1) → (x : Prepares old words left (paced_by q mid.heap mid.cycles)) × So x.work
prepared So old mid q words began left quanta cycles was none does same quanta_is cycles_is was_is figures agrees ready due told = (
  record {
    work = piece.event ∷ [];
    works = (state_by q mid.heap, works_for words (state_of old) began piece.event piece.is_piece none, piece.does, same ∙ piece.counts, refl);
    least = λ due. omega arith;
    most = omega arith;
    figures = figures
        ∙ ap (λ f. figured f quanta cycles quanta) was_is
        ∙ ap (λ n. figured old.pacer.figures n cycles n) (quanta_is ∙ sym n.0)
        ∙ ap (λ m. figured old.pacer.figures (quanta_in (piece.event ∷ [])) m (quanta_in (piece.event ∷ []))) (cycles_is ∙ sym n.1)
        ∙ ap (λ k. figured old.pacer.figures (quanta_in (piece.event ∷ [])) (cycles_in (piece.event ∷ [])) k) (n.0 ∙ sym (few_pieces began) ∙ ap saturated (sym n.0));
    cycles = (mid.heap, piece.does, (refl, piece.cycles));
    agrees = agrees;
    ready = ready;
    due = due;
    told = told;
  },
  does.1,
)
  where
    piece : DoesPiece old began mid
    piece = does.0

    n : (quanta_in (piece.event ∷ []) ≡ quanta_by began) × (cycles_in (piece.event ∷ []) ≡ cycles_by began)
    n = piece_counts (state_of old) began piece.event piece.is_piece
