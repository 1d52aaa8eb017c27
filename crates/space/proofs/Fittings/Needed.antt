-- Which of two ways takes the fewer pages.
use Rattle.std.proofs.Common.{◌≡◌, ℕ, ◌+◌, ◌<◌, ◌≤◌, ◌∙◌, true, false, if◌then◌else◌, ap, sym, arith}
use Rattle.std.specs.Prelude.{nat_le}
use Rattle.size_classes.specs.declared.config.Config.{Config}
use Rattle.space.specs.declared.fitting.Needs.{Needs}
use Rattle.space.specs.Pace.{Pace, demand_of}
use Rattle.space.specs.Space.{space_for}
use Rattle.space.specs.Fitting.{spare_in, below_in, moved_quanta_at, unmoved_quanta_at, moved_pages, unmoved_pages, IsNeeded}

yes : (u m : ℕ) → u ≤ m → nat_le u m ≡ true
yes u m l = grind arith

no : (u m : ℕ) → m < u → nat_le u m ≡ false
no u m l = grind arith

no_more : (u m x y : ℕ) → x ≡ u → y ≡ m → x ≤ y → nat_le u m ≡ true
no_more u m x y e f l = yes u m (omega (arith, e, f, l))

more : (u m x y : ℕ) → x ≡ u → y ≡ m → y < x → nat_le u m ≡ false
more u m x y e f l = no u m (omega (arith, e, f, l))

-- the needs in one of the two ways: this many pages, with this many quanta a cycle
pub record Takes (needs : Needs) (count cycle : ℕ) : Type 0 where
  pub pages : needs.pages ≡ count
  pub quanta : needs.quanta ≡ cycle

module _ (c : Config) (p : Pace) (count : ℕ) where
  -- if blocks never move, no page may be left sparse, and some stay free
  pub unmoved_takes : (needs : Needs) (quanta free : ℕ) → quanta ≡ unmoved_quanta_at c count → free ≡ below_in c → needs.pages ≡ space_for (demand_of p quanta) 0 + free → needs.quanta ≡ quanta
      → Takes needs (unmoved_pages c p count) (unmoved_quanta_at c count)
  unmoved_takes needs quanta free q f e d = record {
    pages = e ∙ ap (λ n. space_for (demand_of p n) 0 + free) q ∙ ap (λ n. space_for (demand_of p (unmoved_quanta_at c count)) 0 + n) f;
    quanta = d ∙ q;
  }

  -- if they move, some may be left sparse, and none has to stay free
  pub moved_takes : (needs : Needs) (quanta sparse : ℕ) → quanta ≡ moved_quanta_at c count c.defrag_pages → sparse ≡ spare_in c → needs.pages ≡ space_for (demand_of p quanta) sparse + 0 → needs.quanta ≡ quanta
      → Takes needs (moved_pages c p count) (moved_quanta_at c count c.defrag_pages)
  moved_takes needs quanta sparse q s e d =
      let none : needs.pages ≡ space_for (demand_of p quanta) sparse = omega (arith, e) in
      record { pages = none ∙ ap (λ n. space_for (demand_of p n) sparse) q ∙ ap (space_for (demand_of p (moved_quanta_at c count c.defrag_pages))) s; quanta = d ∙ q }

  -- if blocks that never move take no more pages, what is needed is what these need
  pub unmoved_needed : (u m : Needs) → Takes u (unmoved_pages c p count) (unmoved_quanta_at c count) → Takes m (moved_pages c p count) (moved_quanta_at c count c.defrag_pages) → u.pages ≤ m.pages → IsNeeded c p count u
  unmoved_needed u m t s l =
      let e = no_more (unmoved_pages c p count) (moved_pages c p count) u.pages m.pages t.pages s.pages l in record {
        pages = t.pages ∙ sym (ap (λ z. if z then unmoved_pages c p count else moved_pages c p count) e);
        quanta = t.quanta ∙ sym (ap (λ z. if z then unmoved_quanta_at c count else moved_quanta_at c count c.defrag_pages) e);
      }

  -- and else what is needed if they move
  pub moved_needed : (u m : Needs) → Takes u (unmoved_pages c p count) (unmoved_quanta_at c count) → Takes m (moved_pages c p count) (moved_quanta_at c count c.defrag_pages) → m.pages < u.pages → IsNeeded c p count m
  moved_needed u m t s l =
      let e = more (unmoved_pages c p count) (moved_pages c p count) u.pages m.pages t.pages s.pages l in record {
        pages = s.pages ∙ sym (ap (λ z. if z then unmoved_pages c p count else moved_pages c p count) e);
        quanta = s.quanta ∙ sym (ap (λ z. if z then unmoved_quanta_at c count else moved_quanta_at c count c.defrag_pages) e);
      }
