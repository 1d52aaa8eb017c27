-- The plan that is chosen is the one with the most words for each quantum.
use Rattle.std.proofs.Common.{◌≡◌, ℕ, ◌+◌, ◌-◌, ◌*◌, ◌/◌, ◌<◌, ◌≤◌, ◌⊎◌, inl, inr, Bool, true, false, nat_lt, if◌then◌else◌, ap, ◌∙◌, sym, subst, arith, refl}
use Rattle.std.specs.Prelude.{min, Option, Some, None, is_some, IsTrue, IfSome}
use Rattle.std.proofs.lemmas.Nat.{le-div}
use Rattle.std.proofs.Math.Nat.{div-mul-le_self, mul-le-mul_left, mul-le-mul_right, lt-div-mul-add, le-min, min-le_left, min-le_right}
use Rattle.size_classes.specs.declared.class.TheConstants.{PAGE_WORDS}
use Rattle.size_classes.specs.declared.config.Config.{Config}
use Rattle.fragmentation.specs.declared.flow.TheConstants.{LEAST_PAGE_FILL, PARTLY_FILLED_PAGES}
use Rattle.size_classes.specs.Cycle.{sweep_units, unmoved_quanta}
use Rattle.fragmentation.specs.Flow.{Flow, classes_made, live_most, marked_quanta, sweep_quanta, flow_moving, flow_quanta, FlowFitsOn}
use Rattle.fragmentation.specs.Configured.{roots_in}
use Rattle.paced.specs.declared.plan.Plan.{Plan}
use Rattle.paced.specs.Rooms.{flow_for}
use Rattle.paced.specs.Bounds.{LastsWith}
use Rattle.paced.specs.Planning.{quanta_on, LastsOn, IsFullestOn, HasPlan, MayChoose, IsFastestFor, HasPlanOn, IsResized}

-- of more, divided by less, comes no less
div_more : (x y c d : ℕ) → 0 < d → x ≤ y → d ≤ c → x / c ≤ y / d
div_more x y c d some l g = le-div (x / c) y d some (let m = mul-le-mul_left (x / c) g in let v = div-mul-le_self x c in omega (arith, m, v, l))

-- of so much more, divided, comes no more than as much more
div_add : (x m d : ℕ) → 0 < d → (x + m) / d ≤ x / d + m
div_add x m d some = by_order (order ((x + m) / d) (x / d + m))
  where
    order : (a b : ℕ) → (a ≤ b) ⊎ (b + 1 ≤ a)
    order a b = grind arith

    spread : (a b d : ℕ) → (a + b + 1) * d ≡ a * d + b * d + d
    spread a b d = grind arith

    by_order : ((x + m) / d ≤ x / d + m) ⊎ (x / d + m + 1 ≤ (x + m) / d) → (x + m) / d ≤ x / d + m
    by_order (inl l) = l
    by_order (inr g) =
        let a = mul-le-mul_right d g in
        let e = spread (x / d) m d in
        let u = div-mul-le_self (x + m) d in
        let v : x < x / d * d + d = lt-div-mul-add some in
        let o : m * 1 ≤ m * d = mul-le-mul_left m some in
        absurd (omega (arith, a, e, u, v, o))

-- the less of two numbers, where one has so much more
min_more : (a b c : ℕ) → min a (b + c) ≤ min a b + c
min_more a b c = by_order (order a b)
  where
    order : (a b : ℕ) → (a ≤ b) ⊎ (b ≤ a)
    order a b = grind arith

    by_order : (a ≤ b) ⊎ (b ≤ a) → min a (b + c) ≤ min a b + c
    by_order (inl l) = let x = min-le_left a (b + c) in let y : a ≤ min a b = le-min (omega arith) l in omega (arith, x, y)
    by_order (inr l) = let x = min-le_right a (b + c) in let y : b ≤ min a b = le-min l (omega arith) in omega (arith, x, y)

-- a share of so many more words
share_more : (x y more part : ℕ) → x ≤ y + more → part ≤ PAGE_WORDS → x * part / PAGE_WORDS ≤ y * part / PAGE_WORDS + more
share_more x y more part l p =
    let a = mul-le-mul_right part l in
    let b = spread y more part in
    let c = mul-le-mul_left more p in
    let d = div_more (x * part) (y * part + more * PAGE_WORDS) PAGE_WORDS PAGE_WORDS (omega arith) (omega (arith, a, b, c)) (omega arith) in
    let e = div_whole (y * part) more in
    omega (arith, d, e)
  where
    spread : (a b c : ℕ) → (a + b) * c ≡ a * c + b * c
    spread a b c = grind arith

    div_whole : (x m : ℕ) → (x + m * PAGE_WORDS) / PAGE_WORDS ≤ x / PAGE_WORDS + m
    div_whole x m = omega arith

is_less : (a b : ℕ) → nat_lt a b ≡ true → a < b
is_less a b e = grind arith

less_is : (a b : ℕ) → a < b → nat_lt a b ≡ true
less_is a b l = grind arith

-- more words for each quantum take no fewer quanta up to a sweep's end
pub sweep_more : (makes : ℕ → Bool) (live : ℕ) (p q : Plan) (roots pages k : ℕ) → p.quantum_words ≤ q.quantum_words → sweep_quanta (flow_for makes live p) roots pages k ≤ sweep_quanta (flow_for makes live q) roots pages k
sweep_more makes live p q roots pages k l = by_less (nat_lt q.quantum_words k) refl (nat_lt p.quantum_words k) refl
  where
    full : ℕ
    full = sweep_units roots pages (PAGE_WORDS * pages) / k + 1

    marked : ℕ → ℕ
    marked w = sweep_units roots pages (PAGE_WORDS * (live / LEAST_PAGE_FILL + 1) + (w + 0)) / (k - w) + 1

    by_less : (b : Bool) → nat_lt q.quantum_words k ≡ b → (c : Bool) → nat_lt p.quantum_words k ≡ c → (if c then min full (marked p.quantum_words) else full) ≤ (if b then min full (marked q.quantum_words) else full)
    by_less true e true f =
        let a = min-le_left full (marked p.quantum_words) in
        let b = min-le_right full (marked p.quantum_words) in
        let s = is_less q.quantum_words k e in
        let d = div_more (sweep_units roots pages (PAGE_WORDS * (live / LEAST_PAGE_FILL + 1) + (p.quantum_words + 0))) (sweep_units roots pages (PAGE_WORDS * (live / LEAST_PAGE_FILL + 1) + (q.quantum_words + 0))) (k - p.quantum_words) (k - q.quantum_words) (omega (arith, s)) (omega (arith, l)) (omega (arith, l)) in
        le-min a (omega (arith, b, d))
    by_less true e false f = absurd (let s = is_less q.quantum_words k e in let t = less_is p.quantum_words k (omega (arith, s, l)) in let z : true ≡ false = sym t ∙ f in cc)
    by_less false e true f = min-le_left full (marked p.quantum_words)
    by_less false e false f = omega arith

-- and so many more words for a cycle leave it no more than as many more quanta
flow_more : (makes : ℕ → Bool) (live : ℕ) (p q : Plan) (roots pages k more : ℕ) → 0 < k - 255 → p.quantum_words ≤ q.quantum_words → p.cycle_words ≤ q.cycle_words + more
    → flow_quanta (flow_for makes live p) roots pages k ≤ flow_quanta (flow_for makes live q) roots pages k + more
flow_more makes live p q roots pages k more some l m =
    let s = sweep_more makes live p q roots pages k l in
    let a : min (PAGE_WORDS * pages) (live_most (flow_for makes live p) + p.cycle_words) ≤ min (PAGE_WORDS * pages) (live_most (flow_for makes live q) + q.cycle_words + more) = le-min (min-le_left (PAGE_WORDS * pages) (live_most (flow_for makes live p) + p.cycle_words)) (let r = min-le_right (PAGE_WORDS * pages) (live_most (flow_for makes live p) + p.cycle_words) in omega (arith, r, m)) in
    let b = min_more (PAGE_WORDS * pages) (live_most (flow_for makes live q) + q.cycle_words) more in
    let o = share_more (min (PAGE_WORDS * pages) (live_most (flow_for makes live p) + p.cycle_words)) (min (PAGE_WORDS * pages) (live_most (flow_for makes live q) + q.cycle_words)) more (PAGE_WORDS - pages) (omega (arith, a, b)) (omega arith) in
    let d = div_more (flow_moving (flow_for makes live p) pages) (flow_moving (flow_for makes live q) pages + more) (k - 255) (k - 255) some (omega (arith, o)) (omega arith) in
    let e = div_add (flow_moving (flow_for makes live q) pages) more (k - 255) some in
    omega (arith, s, d, e)

-- the words that are made while a cycle marks and sweeps, at most
abbrev pub traced_on : (ℕ → Bool) → Config → ℕ → ℕ → Plan → ℕ
traced_on makes c live pages plan = sweep_quanta (flow_for makes live plan) (roots_in c) pages (c.collector_ticks * c.rate) * plan.quantum_words

pub words_traced : (quanta words : ℕ) (makes : ℕ → Bool) (c : Config) (live pages : ℕ) (plan : Plan) → quanta ≡ sweep_quanta (flow_for makes live plan) (roots_in c) pages (c.collector_ticks * c.rate) → words ≡ plan.quantum_words
    → quanta * words ≡ traced_on makes c live pages plan
words_traced quanta words makes c live pages plan q w = ap (λ n. n * words) q ∙ ap (λ n. sweep_quanta (flow_for makes live plan) (roots_in c) pages (c.collector_ticks * c.rate) * n) w

-- the words for which there is room besides what is live, where blocks are made of so many classes
abbrev pub room_of : ℕ → ℕ → ℕ → ℕ
room_of classes live pages = (pages + 1 - PARTLY_FILLED_PAGES * classes) * LEAST_PAGE_FILL - live - 1

module _ (makes : ℕ → Bool) (classes : ℕ) (made : classes_made makes ≡ classes) (c : Config) (live pages : ℕ) where
  abbrev k : ℕ
  k = c.collector_ticks * c.rate

  great : 256 ≤ k
  great = c.budget_in_range.0

  abbrev Fits : Plan → Type 0
  Fits plan = FlowFitsOn (flow_for makes live plan) (roots_in c) pages (c.collector_ticks * c.rate)

  abbrev quanta : Plan → ℕ
  quanta plan = sweep_quanta (flow_for makes live plan) (roots_in c) pages (c.collector_ticks * c.rate)

  -- what fits has room
  pub fits_room : (plan : Plan) → Fits plan → 2 * plan.cycle_words + quanta plan * plan.quantum_words ≤ room_of classes live pages
  fits_room plan f =
      let d : live + (2 * plan.cycle_words + (quanta plan * plan.quantum_words + 0)) < (live + (2 * plan.cycle_words + (quanta plan * plan.quantum_words + 0))) / LEAST_PAGE_FILL * LEAST_PAGE_FILL + LEAST_PAGE_FILL = lt-div-mul-add (omega arith) in
      let g = f.enough in
      omega (arith, d, made, g)

  -- and what has room fits
  room_fits : (plan : Plan) → 0 < room_of classes live pages → quanta plan * plan.quantum_words ≤ plan.cycle_words → 2 * plan.cycle_words + quanta plan * plan.quantum_words ≤ room_of classes live pages → Fits plan
  room_fits plan some traced l = record {
    traced = omega (arith, traced);
    enough = (let d = div-mul-le_self (live + (2 * plan.cycle_words + (quanta plan * plan.quantum_words + 0))) LEAST_PAGE_FILL in omega (arith, d, made, some, l));
  }

  -- the plan of so many words for each quantum that fills the room
  pub filling : (plan : Plan) → 1 ≤ plan.quantum_words → 3 * (quanta plan * plan.quantum_words) ≤ room_of classes live pages → plan.cycle_words ≡ (room_of classes live pages - quanta plan * plan.quantum_words) / 2
      → Fits plan × IsFullestOn makes c live pages plan
  filling plan one room is = (
    room_fits plan (omega (arith, room, some)) (omega (arith, room, is)) (omega (arith, room, is)),
    λ words f. (let l = fits_room (record plan { cycle_words = words }) f in omega (arith, l, is)),
  )
    where
      some : 1 * 1 ≤ quanta plan * plan.quantum_words
      some = both (quanta plan) plan.quantum_words (least (nat_lt plan.quantum_words k)) one
        where
          both : (a b : ℕ) → 1 ≤ a → 1 ≤ b → 1 * 1 ≤ a * b
          both a b l m = let x = mul-le-mul_right b l in omega (arith, x, m)

          least : (b : Bool) → 1 ≤ (if b then min (unmoved_quanta (roots_in c) pages k) (marked_quanta (flow_for makes live plan) (roots_in c) pages k) else unmoved_quanta (roots_in c) pages k)
          least true = le-min (omega arith) (omega arith)
          least false = omega arith

  -- where less is left than thrice what is made up to a sweep's end, nothing fits
  pub none_fills : (plan : Plan) → room_of classes live pages < 3 * (quanta plan * plan.quantum_words) → Fits plan → ⊥
  none_fills plan l f = let r = fits_room plan f in let t = f.traced in omega (arith, l, r, t)

  abbrev Lasts : ℕ → Plan → Type 0
  Lasts largest plan = LastsOn c (flow_for makes live plan) largest pages

  -- no plan has more words for each quantum than there is room for besides the largest object, twice
  pub words_most : (largest : ℕ) (plan : Plan) (whole swept : ℕ) → whole ≡ quanta_on c (flow_for makes live (record { quantum_words = 0; cycle_words = 0 })) pages → swept ≡ quanta (record { quantum_words = 0; cycle_words = 0 }) → Lasts largest plan
      → plan.quantum_words ≤ (room_of classes live pages - largest - largest) / (2 * whole + swept)
  words_most largest plan whole swept w t l =
      let none : Plan = record { quantum_words = 0; cycle_words = 0 } in
      let q = flow_more makes live none plan (roots_in c) pages k 0 (let g = great in omega (arith, g)) (omega arith) (omega arith) in
      let s = sweep_more makes live none plan (roots_in c) pages k (omega arith) in
      let r = fits_room plan l.fits in
      let a = l.lasts in
      let m = mul-le-mul_left plan.quantum_words (let z : whole ≤ quanta_on c (flow_for makes live plan) pages = omega (arith, q, w) in z) in
      let n = mul-le-mul_left plan.quantum_words (let z : swept ≤ quanta plan = omega (arith, s, t) in z) in
      let e = spread plan.quantum_words whole swept in
      let o = turned plan.quantum_words (quanta plan) in
      le-div plan.quantum_words (room_of classes live pages - largest - largest) (2 * whole + swept) (omega (arith, w)) (omega (arith, r, a, m, n, e, o))
    where
      spread : (b w q : ℕ) → b * (2 * w + q) ≡ 2 * (b * w) + b * q
      spread b w q = grind arith

      turned : (a b : ℕ) → a * b ≡ b * a
      turned a b = grind arith

  -- where a plan lasts, so does that of one word for each quantum which fills the room
  abbrev pub single : Plan
  single = record { quantum_words = 1; cycle_words = (room_of classes live pages - quanta (record { quantum_words = 1; cycle_words = 0 }) * 1) / 2 }

  pub single_lasts : (largest : ℕ) (plan : Plan) → 1 ≤ plan.quantum_words → Lasts largest plan → Lasts largest single × IsFullestOn makes c live pages single
  single_lasts largest plan one l = (record { fits = fills.0; lasts = lasts }, fills.1)
    where
      s : quanta single ≤ quanta plan
      s = sweep_more makes live single plan (roots_in c) pages k one

      traced : quanta plan * 1 ≤ quanta plan * plan.quantum_words
      traced = mul-le-mul_left (quanta plan) one

      room : 2 * plan.cycle_words + quanta plan * plan.quantum_words ≤ room_of classes live pages
      room = fits_room plan l.fits

      fills : Fits single × IsFullestOn makes c live pages single
      fills = filling single (omega arith) (let t = l.fits.traced in let u = traced in let r = room in let v = s in omega (arith, t, u, r, v)) refl

      more : plan.cycle_words ≤ single.cycle_words
      more = let u = traced in let r = room in let v = s in omega (arith, u, r, v)

      lasts : 1 * quanta_on c (flow_for makes live single) pages + largest ≤ single.cycle_words
      lasts =
          let q = flow_more makes live single plan (roots_in c) pages k (single.cycle_words - plan.cycle_words) (let g = great in omega (arith, g)) one (let m = more in omega (arith, m)) in
          let w : 1 * quanta_on c (flow_for makes live plan) pages ≤ plan.quantum_words * quanta_on c (flow_for makes live plan) pages = mul-le-mul_right (quanta_on c (flow_for makes live plan) pages) one in
          let a = l.lasts in
          let m = more in
          omega (arith, q, w, a, m)

-- on a number of pages there is a plan if there is one for a configuration that has that number
module _ (makes : ℕ → Bool) (c resized : Config) (live largest : ℕ) (is : IsResized c resized) where
  lasts_so : (f : Flow) → LastsOn c f largest resized.pages → LastsOn resized f largest resized.pages
  lasts_so f l = record {
    fits = subst (λ r. FlowFitsOn f r resized.pages (resized.collector_ticks * resized.rate)) (sym is.roots) (subst (FlowFitsOn f (roots_in c) resized.pages) (sym is.budget) l.fits);
    lasts = subst (λ r. f.quantum_words * flow_quanta f r resized.pages (resized.collector_ticks * resized.rate) + largest ≤ f.cycle_words) (sym is.roots)
        (subst (λ b. f.quantum_words * flow_quanta f (roots_in c) resized.pages b + largest ≤ f.cycle_words) (sym is.budget) l.lasts);
  }

  so_lasts : (f : Flow) → LastsOn resized f largest resized.pages → LastsOn c f largest resized.pages
  so_lasts f l = record {
    fits = subst (λ r. FlowFitsOn f r resized.pages (c.collector_ticks * c.rate)) is.roots (subst (FlowFitsOn f (roots_in resized) resized.pages) is.budget l.fits);
    lasts = subst (λ r. f.quantum_words * flow_quanta f r resized.pages (c.collector_ticks * c.rate) + largest ≤ f.cycle_words) is.roots
        (subst (λ b. f.quantum_words * flow_quanta f (roots_in resized) resized.pages b + largest ≤ f.cycle_words) is.budget l.lasts);
  }

  pub resized_plan : HasPlanOn makes c live largest resized.pages → HasPlan makes resized live largest
  resized_plan p = (p.0, p.1, lasts_so (flow_for makes live p.0) p.2)

  pub plan_resized : HasPlan makes resized live largest → HasPlanOn makes c live largest resized.pages
  plan_resized p = (p.0, p.1, so_lasts (flow_for makes live p.0) p.2)

-- what is told of a plan of so many words for each quantum that fills the room, and lasts
module _ (makes : ℕ → Bool) (c : Config) (live largest pages : ℕ) where
  abbrev pub Chosen : ℕ → Plan → Type 0
  Chosen words plan = (plan.quantum_words ≡ words) × LastsOn c (flow_for makes live plan) largest pages × IsFullestOn makes c live pages plan

  same_plan : (p q : Plan) → p.quantum_words ≡ q.quantum_words → p.cycle_words ≡ q.cycle_words → p ≡ q
  same_plan p q e f t = record { quantum_words = e t; cycle_words = f t }

  -- two plans that fill the room with the same words for each quantum are the same
  pub one_fills : (p q : Plan) → p.quantum_words ≡ q.quantum_words → FlowFitsOn (flow_for makes live p) (roots_in c) pages (c.collector_ticks * c.rate) → FlowFitsOn (flow_for makes live q) (roots_in c) pages (c.collector_ticks * c.rate)
      → IsFullestOn makes c live pages p → IsFullestOn makes c live pages q → p ≡ q
  one_fills p q same f g full fullest = same_plan p q same (
      let a = fullest p.cycle_words (subst (λ w. FlowFitsOn (flow_for makes live (record { quantum_words = w; cycle_words = p.cycle_words })) (roots_in c) pages (c.collector_ticks * c.rate)) same f) in
      let b = full q.cycle_words (subst (λ w. FlowFitsOn (flow_for makes live (record { quantum_words = w; cycle_words = q.cycle_words })) (roots_in c) pages (c.collector_ticks * c.rate)) (sym same) g) in
      omega (arith, a, b))

  -- there is a plan exactly where that of one word is told
  pub has_plan : (o : Option Plan) → IfSome o (Chosen 1) → (o ≡ None → (plan : Plan) → plan.quantum_words ≡ 1 → LastsOn c (flow_for makes live plan) largest pages → IsFullestOn makes c live pages plan → ⊥)
      → (IsTrue (is_some o) → HasPlanOn makes c live largest pages) × (HasPlanOn makes c live largest pages → IsTrue (is_some o))
  has_plan None some none = (λ is. absurd (cc), λ p. absurd (let s = single_lasts makes (classes_made makes) refl c live pages largest p.0 p.1 p.2 in none refl (single makes (classes_made makes) refl c live pages) refl s.0 s.1))
  has_plan (Some plan) some none = (λ is. (plan, (let e = some.0 in omega (arith, e)), some.1), λ p. refl)

-- where there is a plan, one may be chosen
pub single_chosen : (makes : ℕ → Bool) (c : Config) (live largest : ℕ) → HasPlan makes c live largest → (plan : Plan) × MayChoose makes c live largest plan
single_chosen makes c live largest p =
    let s = single_lasts makes (classes_made makes) refl c live c.pages largest p.0 p.1 p.2 in
    (single makes (classes_made makes) refl c live c.pages, record { some = omega arith; lasts = s.0; fullest = s.1 })

-- none is told where nothing is
pub none_told : {A : Type 0} (o : Option A) → is_some o ≡ false → o ≡ None
none_told None e = refl
none_told (Some x) e = absurd (cc)

-- what is told of the most words is the fastest plan
pub chosen_fastest : (makes : ℕ → Bool) (c : Config) (live largest words : ℕ) → 1 ≤ words → (o : Option Plan) → is_some o ≡ true → IfSome o (Chosen makes c live largest c.pages words)
    → ((plan : Plan) → MayChoose makes c live largest plan → plan.quantum_words ≤ words) → IsFastestFor makes c live largest o
chosen_fastest makes c live largest words one None e some most = absurd (cc)
chosen_fastest makes c live largest words one (Some plan) e some most = (
  record { some = (let q = some.0 in omega (arith, q, one)); lasts = some.1; fullest = some.2 },
  λ other may. (let m = most other may in let q = some.0 in omega (arith, m, q)),
)

-- the fastest plan lasts with room for the largest object
pub fastest_lasts : (c : Config) (live largest : ℕ) (plan : Plan) → MayChoose (λ class. true) c live largest plan → LastsWith c plan live largest
fastest_lasts c live largest plan may = record {
  some = may.some;
  lasts = may.lasts.lasts;
  small = (let f = may.lasts.fits.enough in let p = c.pages_in_range.1 in omega (arith, f, p));
}
