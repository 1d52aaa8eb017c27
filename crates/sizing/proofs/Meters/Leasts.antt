-- The least bounds to which events keep, as events go on.
use Rattle.std.proofs.Common.{◌≡◌, ℕ, ◌<◌, ◌≤◌, List, ◌++◌, ap, ◌∙◌, sym, subst}
use Rattle.graph_heap.specs.declared.command.Limits.{Limits}
use Rattle.size_classes.specs.declared.class.TheConstants.{CLASSES}
use Rattle.heap_model.specs.Event.{Event}
use Rattle.fragmentation.specs.Season.{Season, Lives, opening_season, AllKeep}
use Rattle.sizing.specs.Meter.{season_at, none_live, AgreeTo, Anything, Lived, IsLeastOf}
use Rattle.sizing.proofs.Meters.Seasons.{season_append, keep_append}

module _ (l : Limits) (es fs : List Event) where
  abbrev pub season : Lives → Season
  season live = season_at live (opening_season l) es

  abbrev pub still : Season
  still = season none_live

  abbrev pub later : Season
  later = season_at none_live (opening_season l) (es ++ fs)

  pub goes : (live : Lives) → season_at live (opening_season l) (es ++ fs) ≡ season_at live (season live) fs
  goes live = season_append live (opening_season l) es fs

  module _ (lives more : Lives) (agree : (live : Lives) → AgreeTo later.cycles more live → AgreeTo still.cycles lives live) where
    pub least_more : (Q : Type 0) (Within : Q → Lives → Season → (ℕ → ℕ) → Type 0) (Least New : Q → Type 0) → IsLeastOf Q Within Least l es lives
        → ((live : Lives) (q : Q) → AllKeep (Within q live) live (opening_season l) es → AllKeep (Within q live) live (season live) fs → Least q → New q)
        → ((live : Lives) (q : Q) → AgreeTo later.cycles more live → New q → Least q × AllKeep (Within q live) live (season live) fs) → IsLeastOf Q Within New l (es ++ fs) more
    least_more Q Within Least New i above below = record {
      above = λ live q k. (let s = (keep_append (Within q live) live (opening_season l) es fs).0 k in above live q s.0 s.1 (i.above live q s.0));
      below = λ live q a n. (let b = below live q a n in (keep_append (Within q live) live (opening_season l) es fs).1 (i.below live q (agree live a) b.0, b.1));
    }

    pub lived_more : (before after : ℕ → ℕ) → Lived l es lives before
        → ((live : Lives) → AllKeep Anything live (opening_season l) es → AllKeep Anything live (season live) fs → (n class : ℕ) → class < CLASSES → more n class ≤ live n class)
        → ((live : Lives) → AllKeep Anything live (opening_season l) es → (class : ℕ) → class < CLASSES → after class ≤ (season_at live (season live) fs).before class)
        → ((live : Lives) → AgreeTo still.cycles lives live → (class : ℕ) → class < CLASSES → (season_at live (season live) fs).before class ≡ after class) → Lived l (es ++ fs) more after
    lived_more before after i least sooner exact = record {
      least = λ live k. (let s = (keep_append Anything live (opening_season l) es fs).0 k in least live s.0 s.1);
      sooner = λ live k class low. subst (λ (z : Season). after class ≤ z.before class) (sym (goes live)) (sooner live ((keep_append Anything live (opening_season l) es fs).0 k).0 class low);
      exact = λ live a class low. ap (λ (z : Season). z.before class) (goes live) ∙ exact live (agree live a) class low;
    }
