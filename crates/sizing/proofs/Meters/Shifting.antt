-- The least bounds that a meter holds, as events go on.
use Rattle.std.proofs.Common.{◌≡◌, ℕ, ◌+◌, ◌<◌, ◌≤◌, ◌↔◌, ◌==◌, Bool, true, false, if◌then◌else◌, List, [], ◌∷◌, ◌++◌, length, max, arith, refl, ap, ◌∙◌, sym, subst}
use Rattle.graph_heap.specs.declared.command.Limits.{Limits}
use Rattle.size_classes.specs.declared.class.TheConstants.{CLASSES}
use Rattle.heap_model.specs.Event.{Event, Cycle_begun}
use Rattle.space.specs.Demand.{LiveWithin}
use Rattle.fragmentation.specs.Season.{Season, Lives, opening_season, made_since, needed_since, season_swept, AllKeep}
use Rattle.fragmentation.specs.Suffice.{WithinBlocks, WithinPages, pages_of, PageDemand, WithinPageDemand}
use Rattle.fragmentation.proofs.Suffice.Paging.{pages_more}
use Rattle.sizing.specs.declared.meter.Meter.{Meter}
use Rattle.sizing.specs.declared.season.Season.{Season as Counted}
use Rattle.sizing.specs.declared.most.Most.{Most}
use Rattle.sizing.specs.Counts.{AreBlocks, IsPages}
use Rattle.sizing.specs.Season.{LivesMost, IsBegun, IsSwept}
use Rattle.sizing.specs.Meter.{season_at, none_live, AgreeTo, Anything, Lived, IsLeastOf, Shifts}
use Rattle.sizing.proofs.Counts.Counting.{are_sum}
use Rattle.sizing.proofs.Meters.Seasons.{alike, keep_append, made_alike}
use Rattle.sizing.proofs.Meters.Leasts.{season, still, goes, least_more, lived_more}

module _ (l : Limits) (es : List Event) where
  -- events that are no command and begin no cycle, and after which nothing else is needed of seasons
  module _ (fs : List Event) (old new : Meter) (w : Shifts l es old) (free : (Bound : Season → (ℕ → ℕ) → Type 0) (live : Lives) → AllKeep Bound live (season l es fs live) fs) where
    -- cycles begin no more
    module _ (cycles : (season_at none_live (opening_season l) (es ++ fs)).cycles ≡ (still l es fs).cycles) where
      agrees : (live : Lives) → AgreeTo (season_at none_live (opening_season l) (es ++ fs)).cycles w.lives live → AgreeTo (still l es fs).cycles w.lives live
      agrees live = subst (λ z. AgreeTo z w.lives live) cycles

      least_on : (Q : Type 0) (Within : Q → Lives → Season → (ℕ → ℕ) → Type 0) (Least : Q → Type 0) → IsLeastOf Q Within Least l es w.lives → IsLeastOf Q Within Least l (es ++ fs) w.lives
      least_on Q Within Least i = least_more l es fs w.lives w.lives agrees Q Within Least Least i (λ live q k more n. n) (λ live q a n. (n, free (Within q live) live))

      on_with : (before : ℕ → ℕ) → Lived l (es ++ fs) w.lives before → AreBlocks new.season.live_last (w.lives (season_at none_live (opening_season l) (es ++ fs)).cycles)
          → AreBlocks new.season.live_base (w.lives (season_at none_live (opening_season l) (es ++ fs)).number) → AreBlocks new.season.before before → new.most ≡ old.most → Shifts l (es ++ fs) new
      on_with before lived last base sooner most = record {
        lives = w.lives;
        before = before;
        lived = lived;
        last_counted = last;
        base_counted = base;
        before_counted = sooner;
        together = w.together;
        together_least = least_on (ℕ → ℕ) WithinBlocks (λ blocks. (class : ℕ) → class < CLASSES → w.together class ≤ blocks class) w.together_least;
        together_counted = subst (λ (z : Most). AreBlocks z.together w.together) (sym most) w.together_counted;
        gathered = w.gathered;
        gathered_least = least_on ℕ (λ pages live. WithinPages pages) (λ pages. w.gathered ≤ pages) w.gathered_least;
        gathered_counted = subst (λ (z : Most). IsPages z.gathered w.gathered) (sym most) w.gathered_counted;
        made = w.made;
        made_least = least_on PageDemand (λ b live. WithinPageDemand b) (λ (b : PageDemand). w.made ≤ b.made) w.made_least;
        made_counted = subst (λ (z : Most). IsPages z.made w.made) (sym most) w.made_counted;
        live = w.live;
        live_least = λ live_at pages k most_at. w.live_least live_at pages (kept live_at k) most_at;
        live_most = w.live_most;
        live_counted = subst (λ (z : Most). IsPages z.live w.live) (sym most) w.live_counted;
      }
        where
          kept : (live : Lives) → AllKeep Anything live (opening_season l) (es ++ fs) → AllKeep Anything live (opening_season l) es
          kept live k = ((keep_append Anything live (opening_season l) es fs).0 k).0

    -- the season stays
    pub shifts_still : ((live : Lives) → season_at live (season l es fs live) fs ≡ season l es fs live) → new.season ≡ old.season → new.most ≡ old.most → Shifts l (es ++ fs) new
    shifts_still stays same most =
        on_with cycles w.before lived
        (subst (λ n. AreBlocks new.season.live_last (w.lives n)) (sym cycles) (subst (λ (z : Counted). AreBlocks z.live_last (w.lives (still l es fs).cycles)) (sym same) w.last_counted))
        (subst (λ n. AreBlocks new.season.live_base (w.lives n)) (sym number) (subst (λ (z : Counted). AreBlocks z.live_base (w.lives (still l es fs).number)) (sym same) w.base_counted))
        (subst (λ (z : Counted). AreBlocks z.before w.before) (sym same) w.before_counted) most
      where
        all : season_at none_live (opening_season l) (es ++ fs) ≡ still l es fs
        all = goes l es fs none_live ∙ stays none_live

        cycles : (season_at none_live (opening_season l) (es ++ fs)).cycles ≡ (still l es fs).cycles
        cycles = ap (λ (z : Season). z.cycles) all

        number : (season_at none_live (opening_season l) (es ++ fs)).number ≡ (still l es fs).number
        number = ap (λ (z : Season). z.number) all

        lived : Lived l (es ++ fs) w.lives w.before
        lived = lived_more l es fs w.lives w.lives (agrees cycles) w.before w.before w.lived
            (λ live k more n class low. w.lived.least live k n class low)
            (λ live k class low. subst (λ (z : Season). w.before class ≤ z.before class) (sym (stays live)) (w.lived.sooner live k class low))
            (λ live a class low. ap (λ (z : Season). z.before class) (stays live) ∙ w.lived.exact live a class low)

    -- a sweep ended
    module _ (swept : (live : Lives) → season_at live (season l es fs live) fs ≡ season_swept live (season l es fs live)) (few : (still l es fs).number ≤ (still l es fs).cycles) where
      swept_all : season_at none_live (opening_season l) (es ++ fs) ≡ season_swept none_live (still l es fs)
      swept_all = goes l es fs none_live ∙ swept none_live

      swept_cycles : (season_at none_live (opening_season l) (es ++ fs)).cycles ≡ (still l es fs).cycles
      swept_cycles = ap (λ (z : Season). z.cycles) swept_all

      swept_number : (season_at none_live (opening_season l) (es ++ fs)).number ≡ (still l es fs).cycles
      swept_number = ap (λ (z : Season). z.number) swept_all

      abbrev sooner : ℕ → ℕ
      sooner class = w.lives (still l es fs).number class + made_since (still l es fs).base (still l es fs) class

      made_so : (live : Lives) (class : ℕ) → made_since (season l es fs live).base (season l es fs live) class ≡ made_since (still l es fs).base (still l es fs) class
      made_so live class = (let k = alike live (opening_season l) es in made_alike (season l es fs live) (still l es fs) k (season l es fs live).base (still l es fs).base class k.base)

      live_so : (live : Lives) (class : ℕ) → live (season l es fs live).number class ≡ live (still l es fs).number class
      live_so live class = ap (λ n. live n class) (alike live (opening_season l) es).number

      pub shifts_swept : AreBlocks old.season.since_base (made_since (still l es fs).base (still l es fs)) → IsSwept old.season new.season → new.most ≡ old.most → Shifts l (es ++ fs) new
      shifts_swept base s most =
          on_with swept_cycles sooner lived
          (subst (λ n. AreBlocks new.season.live_last (w.lives n)) (sym swept_cycles) (subst (λ z. AreBlocks z (w.lives (still l es fs).cycles)) (sym (ap (λ (z : Counted). z.live_last) s.same)) w.last_counted))
          (subst (λ n. AreBlocks new.season.live_base (w.lives n)) (sym swept_number) (subst (λ z. AreBlocks z (w.lives (still l es fs).cycles)) (sym (ap (λ (z : Counted). z.live_base) s.same)) w.last_counted))
          (are_sum old.season.live_base old.season.since_base new.season.before (w.lives (still l es fs).number) (made_since (still l es fs).base (still l es fs)) w.base_counted base s.before) most
        where
          lived : Lived l (es ++ fs) w.lives sooner
          lived = lived_more l es fs w.lives w.lives (agrees swept_cycles) w.before sooner w.lived
              (λ live k more n class low. w.lived.least live k n class low)
              (λ live k class low. (
              let e : (season_at live (season l es fs live) fs).before class ≡ needed_since live (season l es fs live) class = ap (λ (z : Season). z.before class) (swept live) in
              let x = w.lived.least live k (still l es fs).number class low in
              let y = live_so live class in
              let z = made_so live class in
              omega (arith, e, x, y, z)
              ))
              (λ live a class low. (
              let e : (season_at live (season l es fs live) fs).before class ≡ needed_since live (season l es fs live) class = ap (λ (z : Season). z.before class) (swept live) in
              let x : live (still l es fs).number class ≡ w.lives (still l es fs).number class = ap (λ (f : ℕ → ℕ). f class) (a (still l es fs).number few) in
              let y = live_so live class in
              let z = made_so live class in
              omega (arith, e, x, y, z)
              ))

  -- a cycle begins
  module _ (old new : Meter) (w : Shifts l es old) (now : ℕ → ℕ) (blocks : List ℕ) (a : AreBlocks blocks now)
      (within : (live : Lives) (most : ℕ → ℕ) → LiveWithin (season l es (Cycle_begun ∷ []) live).graph most ↔ ((class : ℕ) → class < CLASSES → now class ≤ most class)) where
    abbrev fs : List Event
    fs = Cycle_begun ∷ []

    abbrev t : Season
    t = still l es fs

    abbrev lives : Lives
    lives n = if n == t.cycles + 1 then now else w.lives n

    begun_all : season_at none_live (opening_season l) (es ++ fs) ≡ record t { cycles = t.cycles + 1; awaiting_sweep_end = true; last = length t.graph.objects }
    begun_all = goes l es fs none_live

    begun_cycles : (season_at none_live (opening_season l) (es ++ fs)).cycles ≡ t.cycles + 1
    begun_cycles = ap (λ (z : Season). z.cycles) begun_all

    begun_number : (season_at none_live (opening_season l) (es ++ fs)).number ≡ t.number
    begun_number = ap (λ (z : Season). z.number) begun_all

    earlier : (n : ℕ) → n ≤ t.cycles → lives n ≡ w.lives n
    earlier n low = ap (λ b. if b then now else w.lives n) (other n (t.cycles + 1) (omega (arith, low)))
      where
        other : (a b : ℕ) → a < b → (a == b) ≡ false
        other a b l = grind arith

    latest : lives (t.cycles + 1) ≡ now
    latest = ap (λ b. if b then now else w.lives (t.cycles + 1)) (self (t.cycles + 1))
      where
        self : (n : ℕ) → (n == n) ≡ true
        self n = grind arith

    begun_agree : (live : Lives) → AgreeTo (season_at none_live (opening_season l) (es ++ fs)).cycles lives live → AgreeTo t.cycles w.lives live
    begun_agree live g n low = g n (omega (arith, low, begun_cycles)) ∙ earlier n low

    begun_cycles_so : (live : Lives) → (season l es fs live).cycles ≡ t.cycles
    begun_cycles_so live = (alike live (opening_season l) es).cycles

    -- what is live is said
    begun_keeps : (Bound : Season → (ℕ → ℕ) → Type 0) (live : Lives) → AgreeTo (season_at none_live (opening_season l) (es ++ fs)).cycles lives live → AllKeep Bound live (season l es fs live) fs
    begun_keeps Bound live g =
        let e : live ((season l es fs live).cycles + 1) ≡ now = ap (λ n. live (n + 1)) (begun_cycles_so live) ∙ g (t.cycles + 1) (omega (arith, begun_cycles)) ∙ latest in
        ((within live (live ((season l es fs live).cycles + 1))).1 (λ class low. (let f : live ((season l es fs live).cycles + 1) class ≡ now class = ap (λ (z : ℕ → ℕ). z class) e in omega (arith, f))), tt)

    begun_said : (live : Lives) → AllKeep Anything live (season l es fs live) fs → (class : ℕ) → class < CLASSES → now class ≤ live (t.cycles + 1) class
    begun_said live k class low =
        let x = (within live (live ((season l es fs live).cycles + 1))).0 k.0 class low in
        subst (λ n. now class ≤ live (n + 1) class) (begun_cycles_so live) x

    least_begun : (Q : Type 0) (Within : Q → Lives → Season → (ℕ → ℕ) → Type 0) (Least : Q → Type 0) → IsLeastOf Q Within Least l es w.lives → IsLeastOf Q Within Least l (es ++ fs) lives
    least_begun Q Within Least i = least_more l es fs w.lives lives begun_agree Q Within Least Least i (λ live q k more n. n) (λ live q g n. (n, begun_keeps (Within q live) live g))

    begun_least : (live : Lives) → AllKeep Anything live (opening_season l) es → AllKeep Anything live (season l es fs live) fs → (n class : ℕ) → class < CLASSES → lives n class ≤ live n class
    begun_least live k more n class low = by (n == t.cycles + 1) refl
      where
        is : (a b : ℕ) → (a == b) ≡ true → a ≡ b
        is a b e = grind arith

        by : (b : Bool) → (n == t.cycles + 1) ≡ b → (if b then now else w.lives n) class ≤ live n class
        by true e = subst (λ z. now class ≤ live z class) (sym (is n (t.cycles + 1) e)) (begun_said live more class low)
        by false e = w.lived.least live k n class low

    begun_lived : Lived l (es ++ fs) lives w.before
    begun_lived = lived_more l es fs w.lives lives begun_agree w.before w.before w.lived begun_least (λ live k class low. w.lived.sooner live k class low) (λ live g class low. w.lived.exact live g class low)

    begun_most : (n : ℕ) → pages_of (lives n) ≤ max w.live (pages_of now)
    begun_most n = by (n == t.cycles + 1)
      where
        by : (b : Bool) → pages_of (if b then now else w.lives n) ≤ max w.live (pages_of now)
        by true = let x = pages_of now in more_right w.live x
          where
            more_right : (a b : ℕ) → b ≤ max a b
            more_right a b = omega arith
        by false = more_left (pages_of (w.lives n)) w.live (pages_of now) (w.live_most n)
          where
            more_left : (x a b : ℕ) → x ≤ a → x ≤ max a b
            more_left x a b e = omega (arith, e)

    begun_few : (live_at : Lives) (pages : ℕ) → AllKeep Anything live_at (opening_season l) (es ++ fs) → ((n : ℕ) → pages_of (live_at n) ≤ pages) → max w.live (pages_of now) ≤ pages
    begun_few live_at pages k most =
        let s = (keep_append Anything live_at (opening_season l) es fs).0 k in
        both w.live (pages_of now) (pages_of (live_at (t.cycles + 1))) pages (w.live_least live_at pages s.0 most) (pages_more now (live_at (t.cycles + 1)) (begun_said live_at s.1)) (most (t.cycles + 1))
      where
        both : (a b c d : ℕ) → a ≤ d → b ≤ c → c ≤ d → max a b ≤ d
        both a b c d e f g = omega (arith, e, f, g)

    pub shifts_begun : (few : t.number ≤ t.cycles) → IsBegun blocks old.season new.season → LivesMost blocks old.most new.most → Shifts l (es ++ fs) new
    shifts_begun few s m = record {
      lives = lives;
      before = w.before;
      lived = begun_lived;
      last_counted = subst (λ n. AreBlocks new.season.live_last (lives n)) (sym begun_cycles) (subst (AreBlocks new.season.live_last) (sym latest) (subst (λ z. AreBlocks z now) (sym (ap (λ (z : Counted). z.live_last) s.same)) a));
      base_counted = subst (λ n. AreBlocks new.season.live_base (lives n)) (sym begun_number) (subst (AreBlocks new.season.live_base) (sym (earlier t.number few)) (subst (λ z. AreBlocks z (w.lives t.number)) (sym (ap (λ (z : Counted). z.live_base) s.same)) w.base_counted));
      before_counted = subst (λ z. AreBlocks z w.before) (sym (ap (λ (z : Counted). z.before) s.same)) w.before_counted;
      together = w.together;
      together_least = least_begun (ℕ → ℕ) WithinBlocks (λ most. (class : ℕ) → class < CLASSES → w.together class ≤ most class) w.together_least;
      together_counted = subst (λ z. AreBlocks z w.together) (sym (ap (λ (z : Most). z.together) m.same)) w.together_counted;
      gathered = w.gathered;
      gathered_least = least_begun ℕ (λ pages live. WithinPages pages) (λ pages. w.gathered ≤ pages) w.gathered_least;
      gathered_counted = subst (λ z. IsPages z w.gathered) (sym (ap (λ (z : Most). z.gathered) m.same)) w.gathered_counted;
      made = w.made;
      made_least = least_begun PageDemand (λ b live. WithinPageDemand b) (λ (b : PageDemand). w.made ≤ b.made) w.made_least;
      made_counted = subst (λ z. IsPages z w.made) (sym (ap (λ (z : Most). z.made) m.same)) w.made_counted;
      live = max w.live (pages_of now);
      live_least = begun_few;
      live_most = begun_most;
      live_counted = m.most w.live now w.live_counted a;
    }
