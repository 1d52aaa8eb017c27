-- The books after an event.
use Rattle.std.proofs.Common.{◌≡◌, ◌∙◌, ℕ, ◌+◌, ap}
use Rattle.heap_model.specs.Event.{Course}
use Rattle.heap_server.specs.Views.{LockedView, PacerView}

-- the pacer's numbers, one by one
pub pacer_same : (b e q s begun ended quanta spent : ℕ) → b ≡ begun → e ≡ ended → q ≡ quanta → s ≡ spent
    → ◌≡◌ {A = PacerView} (record { begun = b; ended = e; quanta = q; spent = s }) (record { begun = begun; ended = ended; quanta = quanta; spent = spent })
pacer_same b e q s begun ended quanta spent b_is e_is q_is s_is =
    let of : ℕ → ℕ → ℕ → ℕ → PacerView = λ b e q s. record { begun = b; ended = e; quanta = q; spent = s } in
    ap (λ (n : ℕ). of n e q s) b_is ∙ (ap (λ (n : ℕ). of begun n q s) e_is ∙ (ap (λ (n : ℕ). of begun ended n s) q_is ∙ ap (λ (n : ℕ). of begun ended quanta n) s_is))

-- the locked state, with a quantum more
pub turned : (v old : LockedView) (course : Course) (begun ended quanta spent : ℕ) → v ≡ old → begun ≡ v.begun → quanta ≡ v.quanta + 1
    → record v { course = course; begun = begun; ended = ended; quanta = quanta; spent = spent } ≡ record old { course = course; ended = ended; quanta = old.quanta + 1; spent = spent }
turned v old course begun ended quanta spent is same one =
    ap (λ (n : ℕ). record v { course = course; begun = n; ended = ended; quanta = quanta; spent = spent }) same
    ∙ (ap (λ (n : ℕ). record v { course = course; ended = ended; quanta = n; spent = spent }) one ∙ ap (λ (w : LockedView). record w { course = course; ended = ended; quanta = w.quanta + 1; spent = spent }) is)

-- the locked state, with a cycle more
pub cycled : (v old : LockedView) (course : Course) (begun ended quanta spent : ℕ) → v ≡ old → begun ≡ v.begun + 1 → ended ≡ v.ended → quanta ≡ v.quanta → spent ≡ v.spent
    → record v { course = course; begun = begun; ended = ended; quanta = quanta; spent = spent } ≡ record old { course = course; begun = old.begun + 1 }
cycled v old course begun ended quanta spent is one e q s =
    ap (λ (n : ℕ). record v { course = course; begun = n; ended = ended; quanta = quanta; spent = spent }) one
    ∙ (ap (λ (n : ℕ). record v { course = course; begun = v.begun + 1; ended = n; quanta = quanta; spent = spent }) e
    ∙ (ap (λ (n : ℕ). record v { course = course; begun = v.begun + 1; quanta = n; spent = spent }) q
    ∙ (ap (λ (n : ℕ). record v { course = course; begun = v.begun + 1; spent = n }) s ∙ ap (λ (w : LockedView). record w { course = course; begun = w.begun + 1 }) is)))

-- The pacer has begun one cycle more.
pub cycled_pacer : (b e q s begun ended quanta spent : ℕ) (old : PacerView) → record { begun = b; ended = e; quanta = q; spent = s } ≡ old → begun ≡ b + 1 → ended ≡ e → quanta ≡ q → spent ≡ s
    → record { begun = begun; ended = ended; quanta = quanta; spent = spent } ≡ record old { begun = old.begun + 1 }
cycled_pacer b e q s begun ended quanta spent old is one e_is q_is s_is =
    pacer_same begun ended quanta spent (b + 1) e q s one e_is q_is s_is ∙ ap (λ (p : PacerView). record p { begun = p.begun + 1 }) is
