-- The least bounds that a meter holds, after a command.
use Rattle.std.proofs.Common.{◌≡◌, ℕ, ◌+◌, ◌<◌, ◌≤◌, List, [], ◌∷◌, ◌++◌, max, arith, ap, sym, subst}
use Rattle.graph_heap.specs.declared.command.Limits.{Limits}
use Rattle.graph_heap.specs.declared.command.Command.{Command}
use Rattle.graph_heap.specs.declared.command.Reply.{Reply}
use Rattle.size_classes.specs.declared.class.TheConstants.{CLASSES}
use Rattle.heap_model.specs.Event.{Event, Command_done}
use Rattle.space.specs.Demand.{asked_for}
use Rattle.fragmentation.specs.Season.{Season, Lives, opening_season, made_since, AllKeep}
use Rattle.fragmentation.specs.Suffice.{WithinBlocks, WithinPages, pages_of, PageDemand, WithinPageDemand}
use Rattle.fragmentation.proofs.Suffice.Paging.{pages_more}
use Rattle.sizing.specs.declared.meter.Meter.{Meter}
use Rattle.sizing.specs.Counts.{AreBlocks, IsPages}
use Rattle.sizing.specs.Season.{AsksMost, pages_gathered}
use Rattle.sizing.specs.Meter.{season_at, none_live, AgreeTo, Anything, Lived, Shifts}
use Rattle.sizing.proofs.Meters.Seasons.{alike, keep_append, made_alike, stated}
use Rattle.sizing.proofs.Meters.Leasts.{season, still, goes, least_more, lived_more}
use Rattle.sizing.proofs.Counts.Paging.{season_more}

module _ (l : Limits) (es : List Event) where
  -- a command
  module _ (m : ℕ) (c : Command) (reply : Reply) (old new : Meter) (w : Shifts l es old) where
    abbrev one : List Event
    one = Command_done m c reply ∷ []

    abbrev u : Season
    u = still l es one

    abbrev more : ℕ → ℕ
    more = asked_for u.graph m c

    asked_so : (live : Lives) (class : ℕ) → asked_for (season l es one live).graph m c class ≡ more class
    asked_so live class = ap (λ g. asked_for g m c class) (alike live (opening_season l) es).graph

    base_so : (live : Lives) (class : ℕ) → made_since (season l es one live).base (season l es one live) class ≡ made_since u.base u class
    base_so live class = (let k = alike live (opening_season l) es in made_alike (season l es one live) u k (season l es one live).base u.base class k.base)

    after_so : (live : Lives) (class : ℕ) → made_since (season l es one live).swept (season l es one live) class ≡ made_since u.swept u class
    after_so live class = (let k = alike live (opening_season l) es in made_alike (season l es one live) u k (season l es one live).swept u.swept class k.swept)

    number_so : (live : Lives) (class : ℕ) → live (season l es one live).number class ≡ live u.number class
    number_so live class = ap (λ n. live n class) (alike live (opening_season l) es).number

    command_cycles : (season_at none_live (opening_season l) (es ++ one)).cycles ≡ u.cycles
    command_cycles = ap (λ (z : Season). z.cycles) (goes l es one none_live)

    command_number : (season_at none_live (opening_season l) (es ++ one)).number ≡ u.number
    command_number = ap (λ (z : Season). z.number) (goes l es one none_live)

    command_agree : (live : Lives) → AgreeTo (season_at none_live (opening_season l) (es ++ one)).cycles w.lives live → AgreeTo u.cycles w.lives live
    command_agree live = subst (λ z. AgreeTo z w.lives live) command_cycles

    command_lived : Lived l (es ++ one) w.lives w.before
    command_lived = lived_more l es one w.lives w.lives command_agree w.before w.before w.lived (λ live k more n class low. w.lived.least live k n class low) (λ live k class low. w.lived.sooner live k class low) (λ live g class low. w.lived.exact live g class low)

    -- together
    abbrev wanted : ℕ → ℕ
    wanted class = w.lives u.number class + (made_since u.base u class + more class)

    abbrev together : ℕ → ℕ
    together class = max (w.together class) (wanted class)

    together_above : (live : Lives) (blocks : ℕ → ℕ) → AllKeep (WithinBlocks blocks live) live (opening_season l) es → AllKeep (WithinBlocks blocks live) live (season l es one live) one
        → ((class : ℕ) → class < CLASSES → w.together class ≤ blocks class) → (class : ℕ) → class < CLASSES → together class ≤ blocks class
    together_above live blocks k n least class low =
        let x = n.0 class low in
        let f = w.lived.least live (stated (WithinBlocks blocks live) live (opening_season l) es k) u.number class low in
        let p = number_so live class in
        let q = base_so live class in
        let r = asked_so live class in
        let z = least class low in
        omega (arith, x, f, p, q, r, z)

    together_below : (few : u.number ≤ u.cycles) (live : Lives) (blocks : ℕ → ℕ) → AgreeTo u.cycles w.lives live → ((class : ℕ) → class < CLASSES → together class ≤ blocks class)
        → ((class : ℕ) → class < CLASSES → w.together class ≤ blocks class) × AllKeep (WithinBlocks blocks live) live (season l es one live) one
    together_below few live blocks g least = (
      λ class low. (let z = least class low in omega (arith, z)),
      (
        λ class low. (
            let e : live u.number class ≡ w.lives u.number class = ap (λ (f : ℕ → ℕ). f class) (g u.number few) in
            let p = number_so live class in
            let q = base_so live class in
            let r = asked_so live class in
            let z = least class low in
            omega (arith, e, p, q, r, z)
            ),
        tt,
      ),
    )

    -- The need counts pages, if each cycle gathers every class.
    abbrev gathered : ℕ
    gathered = max w.gathered (pages_gathered w.before (λ class. made_since u.swept u class + more class))

    gathered_above : (live : Lives) (pages : ℕ) → AllKeep (WithinPages pages) live (opening_season l) es → AllKeep (WithinPages pages) live (season l es one live) one → w.gathered ≤ pages → gathered ≤ pages
    gathered_above live pages k n least =
        let x = season_more w.before (season l es one live).before (λ class. made_since u.swept u class + more class) (λ class. made_since (season l es one live).swept (season l es one live) class + asked_for (season l es one live).graph m c class)
        (w.lived.sooner live (stated (WithinPages pages) live (opening_season l) es k)) (λ class low. (let q = after_so live class in let r = asked_so live class in omega (arith, q, r))) in
        both w.gathered _ _ pages least x n.0
      where
        both : (a b c d : ℕ) → a ≤ d → b ≤ c → c ≤ d → max a b ≤ d
        both a b c d e f g = omega (arith, e, f, g)

    gathered_below : (live : Lives) (pages : ℕ) → AgreeTo u.cycles w.lives live → gathered ≤ pages → (w.gathered ≤ pages) × AllKeep (WithinPages pages) live (season l es one live) one
    gathered_below live pages g least =
        let x = season_more (season l es one live).before w.before (λ class. made_since (season l es one live).swept (season l es one live) class + asked_for (season l es one live).graph m c class) (λ class. made_since u.swept u class + more class)
        (λ class low. (let e = w.lived.exact live g class low in omega (arith, e))) (λ class low. (let q = after_so live class in let r = asked_so live class in omega (arith, q, r))) in
        (left w.gathered _ pages least, (right w.gathered _ _ pages least x, tt))
      where
        left : (a b d : ℕ) → max a b ≤ d → a ≤ d
        left a b d e = omega (arith, e)

        right : (a b c d : ℕ) → max a b ≤ d → c ≤ b → c ≤ d
        right a b c d e f = omega (arith, e, f)

    -- in pages of what is made
    abbrev made : ℕ
    made = max w.made (pages_of (λ class. made_since u.base u class + more class))

    made_above : (live : Lives) (b : PageDemand) → AllKeep (WithinPageDemand b) live (opening_season l) es → AllKeep (WithinPageDemand b) live (season l es one live) one → w.made ≤ b.made → made ≤ b.made
    made_above live b k n least =
        let x = pages_more (λ class. made_since u.base u class + more class) (λ class. made_since (season l es one live).base (season l es one live) class + asked_for (season l es one live).graph m c class)
        (λ class low. (let q = base_so live class in let r = asked_so live class in omega (arith, q, r))) in
        both w.made _ _ b.made least x n.0
      where
        both : (a b c d : ℕ) → a ≤ d → b ≤ c → c ≤ d → max a b ≤ d
        both a b c d e f g = omega (arith, e, f, g)

    made_below : (live : Lives) (b : PageDemand) → made ≤ b.made → (w.made ≤ b.made) × AllKeep (WithinPageDemand b) live (season l es one live) one
    made_below live b least =
        let x = pages_more (λ class. made_since (season l es one live).base (season l es one live) class + asked_for (season l es one live).graph m c class) (λ class. made_since u.base u class + more class)
        (λ class low. (let q = base_so live class in let r = asked_so live class in omega (arith, q, r))) in
        (left w.made _ b.made least, (right w.made _ _ b.made least x, tt))
      where
        left : (a b d : ℕ) → max a b ≤ d → a ≤ d
        left a b d e = omega (arith, e)

        right : (a b c d : ℕ) → max a b ≤ d → c ≤ b → c ≤ d
        right a b c d e f = omega (arith, e, f)

    pub shifts_command : (few : u.number ≤ u.cycles) (asked : List ℕ) → AreBlocks asked more → AreBlocks old.season.since_base (made_since u.base u) → AreBlocks old.season.since_swept (made_since u.swept u)
        → AsksMost old.season asked old.most new.most → new.season.live_last ≡ old.season.live_last → new.season.live_base ≡ old.season.live_base → new.season.before ≡ old.season.before → Shifts l (es ++ one) new
    shifts_command few asked a base swept asks last_same base_same before_same = record {
      lives = w.lives;
      before = w.before;
      lived = command_lived;
      last_counted = subst (λ n. AreBlocks new.season.live_last (w.lives n)) (sym command_cycles) (subst (λ z. AreBlocks z (w.lives u.cycles)) (sym last_same) w.last_counted);
      base_counted = subst (λ n. AreBlocks new.season.live_base (w.lives n)) (sym command_number) (subst (λ z. AreBlocks z (w.lives u.number)) (sym base_same) w.base_counted);
      before_counted = subst (λ z. AreBlocks z w.before) (sym before_same) w.before_counted;
      together = together;
      together_least = least_more l es one w.lives w.lives command_agree (ℕ → ℕ) WithinBlocks (λ most. (class : ℕ) → class < CLASSES → w.together class ≤ most class) (λ most. (class : ℕ) → class < CLASSES → together class ≤ most class) w.together_least
          together_above (λ live q g n. together_below few live q (command_agree live g) n);
      together_counted = asks.together w.together (w.lives u.number) (made_since u.base u) more w.together_counted w.base_counted base a;
      gathered = gathered;
      gathered_least = least_more l es one w.lives w.lives command_agree ℕ (λ pages live. WithinPages pages) (λ pages. w.gathered ≤ pages) (λ pages. gathered ≤ pages) w.gathered_least gathered_above (λ live q g n. gathered_below live q (command_agree live g) n);
      gathered_counted = asks.gathered w.gathered w.before (made_since u.swept u) more w.gathered_counted w.before_counted swept a;
      made = made;
      made_least = least_more l es one w.lives w.lives command_agree PageDemand (λ b live. WithinPageDemand b) (λ (b : PageDemand). w.made ≤ b.made) (λ (b : PageDemand). made ≤ b.made) w.made_least made_above (λ live b g n. made_below live b n);
      made_counted = asks.made w.made (made_since u.base u) more w.made_counted base a;
      live = w.live;
      live_least = λ live_at pages k most. w.live_least live_at pages ((keep_append Anything live_at (opening_season l) es one).0 k).0 most;
      live_most = w.live_most;
      live_counted = subst (λ z. IsPages z w.live) (sym asks.live) w.live_counted;
    }
