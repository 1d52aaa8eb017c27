-- The main copies on evacuating pages, after a page is chosen, and after a block is moved off it.
use Rattle.std.proofs.Common.{◌≡◌, ◌≢◌, ℕ, zero, suc, ◌+◌, ◌*◌, ◌/◌, ◌<◌, ◌≤◌, ◌⊎◌, inl, inr, Bool, true, false, not, ◌&&◌, cond, ◌==◌, if◌then◌else◌, Some, None, length, set, ap, ◌∙◌, sym, subst, arith, refl}
use Rattle.std.specs.Prelude.{count_by, slice_get}
use Rattle.std.proofs.lemmas.Bool.{eq-eqb}
use Rattle.std.proofs.lemmas.List.Sums.{get_or-le-sum_by}
use Rattle.std.proofs.lemmas.Option.{slice_get_within}
use Rattle.std.proofs.Math.Bool.{and-false}
use Rattle.std.proofs.Math.Nat.{mul-le-mul_right}
use Rattle.size_classes.specs.declared.class.TheConstants.{CLASSES}
use Rattle.size_classes.specs.Sizes.{size_of, blocks_in}
use Rattle.heap_model.specs.Block.{BlockRecord}
use Rattle.heap_model.specs.Pages.{Page, ArePages, is_usable, with_allocated, page_at, free_blocks}
use Rattle.heap_model.specs.Store.{Store, is_allocated, record_of, address_of}
use Rattle.heap_model.specs.Action.{KeepsBlocks, MovesBlock, IsNext, is_choosable}
use Rattle.heap_model.proofs.Store.Allocated.{page_within, size_some}
use Rattle.heap_model.proofs.Action.Moving.{same_number, usable_fits}
use Rattle.space.proofs.Placement.Tidying.{not_same, Shrinks, shrinks_keeps, place_page}
use Rattle.space.specs.Counts.{stays, main_on, main_blocks, evacuating_pages}
use Rattle.space.proofs.Counts.{one_if, own, both_true, evacuating_set}
use Rattle.fragmentation.specs.Tight.{IsTight, staying_pages}
use Rattle.fragmentation.specs.Gathering.{AreUsed}
use Rattle.fragmentation.proofs.Tight.IsLeftover.{evacuates, IsStranded, StrandedOn, NoneStranded, one_evacuating, IsEmptied}
use Rattle.fragmentation.proofs.Tight.Free.{Choosable, choosable_is}
use Rattle.fragmentation.proofs.Tight.Leftover.{staying_set, page_set, Strands, strands_shrink, Goes, emptied_own, on_page, behind_index}

-- a page that is chosen
module _ (s t : Store) (class page : ℕ) (p : Page) (at : page_at s.pages page ≡ Some p) (good : is_choosable class (Some p) ≡ true) (keeps : KeepsBlocks s t) (is : t.pages ≡ set s.pages page (Some (record p { evacuating = true }))) where
  abbrev v : Page
  v = record p { evacuating = true }

  within : page < length s.pages
  within = page_within s.pages page p at

  c : Choosable class p
  c = choosable_is class p good

  own_class : (p.class == class) ≡ true
  own_class = ap (λ y. y == class) c.own ∙ eq-eqb class class refl

  staying_now : (k : ℕ) → staying_pages t.pages k + one_if ((p.class == k) && not p.evacuating) ≡ staying_pages s.pages k
  staying_now k = let u = staying_set s.pages t.pages page (Some p) (Some v) within at is k in let z : one_if (stays k (Some v)) ≡ 0 = ap one_if (and-false (p.class == k)) in omega (arith, u, z)

  pub chosen_evacuating : evacuating_pages t.pages ≡ evacuating_pages s.pages + 1
  chosen_evacuating = let u = evacuating_set s.pages t.pages page (Some p) (Some v) within at is in let z : one_if p.evacuating ≡ 0 = ap one_if c.evacuating in omega (arith, u, z)

  stays_p : ((p.class == class) && not p.evacuating) ≡ true
  stays_p = grind (arith, own_class, c.evacuating)

  pub chosen_staying : staying_pages t.pages class + 1 ≡ staying_pages s.pages class
  chosen_staying = let u = staying_now class in let x : one_if ((p.class == class) && not p.evacuating) ≡ 1 = ap one_if stays_p in omega (arith, u, x)

  -- it isn't the only page of its class: as many blocks are free as a page has, and it has an allocated one
  pub chosen_two : ArePages s.pages → AreUsed s.pages (length s.pages) → blocks_in class ≤ free_blocks s.pages class → 2 ≤ staying_pages s.pages class
  chosen_two a used free =
      let h = used page p within at in
      let u = get_or-le-sum_by (main_on class) s.pages page None within in
      let m : main_on class (page_at s.pages page) ≡ count_by (λ b. b) p.allocated = ap (main_on class) at ∙ ap (λ b. cond b (count_by (λ b. b) p.allocated) 0) stays_p in
      at_least (free_blocks s.pages class) (main_blocks s.pages class) (blocks_in class) (staying_pages s.pages class) (own class s.pages a) free (omega (arith, h, u, m))
    where
      at_least : (x y b n : ℕ) → x + y ≡ b * n → b ≤ x → 0 < y → 2 ≤ n
      at_least x y b zero e l m = absurd (let z : b * 0 ≡ 0 = omega arith in omega (arith, e, z, m))
      at_least x y b (suc zero) e l m = absurd (let z : b * 1 ≡ b = omega arith in omega (arith, e, z, l, m))
      at_least x y b (suc (suc n)) e l m = omega arith

  place : (k : ℕ) → page_at t.pages k ≡ (if k == page then Some v else page_at s.pages k)
  place k = page_set s.pages t.pages page (Some p) (Some v) within at is k

  -- no page of another class becomes evacuating
  other_leaves : (k j : ℕ) → (class == k) ≡ false → evacuates k (page_at t.pages j) ≡ true → evacuates k (page_at s.pages j) ≡ true
  other_leaves k j ne on = by_place (j == page) (place j)
    where
      by_place : (y : Bool) → page_at t.pages j ≡ (if y then Some v else page_at s.pages j) → evacuates k (page_at s.pages j) ≡ true
      by_place true g = absurd (let z : (p.class == k) ≡ true = (both_true (p.class == k) true (sym (ap (evacuates k) g) ∙ on)).0 in let x : (p.class == k) ≡ false = ap (λ y. y == k) c.own ∙ ne in let y : true ≡ false = sym z ∙ x in cc)
      by_place false g = sym (ap (evacuates k) g) ∙ on

  other_strands : (k : ℕ) → (class == k) ≡ false → Strands s t k
  other_strands k ne = strands_shrink s t k (shrinks_keeps s t keeps) (λ j on. other_leaves k j ne on)

  other_staying : (k : ℕ) → staying_pages t.pages k ≤ staying_pages s.pages k
  other_staying k = let u = staying_now k in omega (arith, u)

  -- if no main copy of its class was left, it is emptied from its first block on; what is kept of other classes is kept
  pub chosen_emptied : (Other : ℕ → Type 0) → class < CLASSES → NoneStranded s class → ((k : ℕ) → k < CLASSES → Strands s t k → staying_pages t.pages k ≤ staying_pages s.pages k → Other k) → IsEmptied t class page 0 Other
  chosen_emptied Other small pure others = record {
    small = small;
    on = ap (evacuates class) (place page ∙ ap (λ b. if b then Some v else page_at s.pages page) (eq-eqb page page refl)) ∙ ap (λ b. b && true) own_class;
    only = here;
    behind = λ b x. (let d : 2048 * (b / 2048) ≤ b = omega arith in let e : 2048 * page ≡ 2048 * (b / 2048) = ap (λ z. 2048 * z) (sym (here b x)) in let z : 0 * size_of class ≡ 0 = omega arith in omega (arith, d, e, z));
    others = λ k l ne. others k l (other_strands k ne) (other_staying k);
  }
    where
      here : StrandedOn t class page
      here b x = by_place (b / 2048 == page) refl (place (b / 2048))
        where
          f : Shrinks s t
          f = shrinks_keeps s t keeps

          by_place : (y : Bool) → (b / 2048 == page) ≡ y → page_at t.pages (b / 2048) ≡ (if y then Some v else page_at s.pages (b / 2048)) → b / 2048 ≡ page
          by_place true e g = same_number (b / 2048) page e
          by_place false e g = absurd (pure b (record { allocated = f.allocated b x.allocated; main = sym (f.head b x.allocated).forward ∙ x.main; on = sym (ap (evacuates class) g) ∙ x.on }))

-- a block that is moved off the page that is emptied, from its ith place
module _ (s t : Store) (page block i to j : ℕ) (p q : Page) (a : ArePages s.pages) (at : page_at s.pages page ≡ Some p) (evacuating : p.evacuating ≡ true) (next : IsNext p block i) (usable : is_usable p.class (Some q) ≡ true) (there : page_at s.pages to ≡ Some q)
    (empty : slice_get q.allocated j ≡ Some false) (m : MovesBlock s t (address_of p.class page i) (address_of p.class to j)) (is : t.pages ≡ set s.pages to (Some (record (with_allocated q j true) { is_target = true }))) where
  abbrev r : Page
  r = record (with_allocated q j true) { is_target = true }

  abbrev from : ℕ
  from = address_of p.class page i

  abbrev goal : ℕ
  goal = address_of p.class to j

  to_within : to < length s.pages
  to_within = page_within s.pages to q there

  fit : (q.class ≡ p.class) × (q.evacuating ≡ false)
  fit = usable_fits p.class q usable

  leaves_same : (k n : ℕ) → evacuates k (page_at t.pages n) ≡ evacuates k (page_at s.pages n)
  leaves_same k n = by_place (n == to) refl (page_set s.pages t.pages to (Some q) (Some r) to_within there is n)
    where
      by_place : (b : Bool) → (n == to) ≡ b → page_at t.pages n ≡ (if b then Some r else page_at s.pages n) → evacuates k (page_at t.pages n) ≡ evacuates k (page_at s.pages n)
      by_place true e g = ap (evacuates k) g ∙ sym (ap (evacuates k) (ap (page_at s.pages) (same_number n to e) ∙ there))
      by_place false e g = ap (evacuates k) g

  goal_stays : (k : ℕ) → evacuates k (page_at t.pages (goal / 2048)) ≡ true → ⊥
  goal_stays k on =
      let goal_page : goal / 2048 ≡ to = ap (λ c. address_of c to j / 2048) (sym fit.0) ∙ place_page s to j q a there (slice_get_within q.allocated j false empty) in
      let x : evacuates k (page_at s.pages to) ≡ true = ap (λ z. evacuates k (page_at s.pages z)) (sym goal_page) ∙ sym (leaves_same k (goal / 2048)) ∙ on in
      let y = (both_true (q.class == k) q.evacuating (sym (ap (evacuates k) there) ∙ x)).1 in
      let z : false ≡ true = sym fit.1 ∙ y in cc

  -- what is stranded then was so before, and isn't the block that was moved
  was : (k b : ℕ) → IsStranded t k b → IsStranded s k b × (b ≢ from)
  was k b x = by_tests (b == goal) refl (b == from) refl
    where
      by_tests : (y : Bool) → (b == goal) ≡ y → (z : Bool) → (b == from) ≡ z → IsStranded s k b × (b ≢ from)
      by_tests true e z f = let here = same_number b goal e in absurd (goal_stays k (ap (λ z. evacuates k (page_at t.pages (z / 2048))) (sym here) ∙ x.on))
      by_tests false e true f =
          let here = same_number b from f in
          let z : goal ≡ b = sym (ap (λ (n : BlockRecord). n.forward) m.forward) ∙ sym (ap (λ z. (record_of t z).forward) here) ∙ x.main in
          absurd (not_same b goal e (sym z))
      by_tests false e false f =
          let allocated : is_allocated s b ≡ true = sym (m.same b (not_same b goal e)) ∙ x.allocated in
          let nf = not_same b from f in
          (record { allocated = allocated; main = sym (ap (λ (n : BlockRecord). n.forward) (m.nodes b nf allocated)) ∙ x.main; on = sym (leaves_same k (b / 2048)) ∙ x.on }, nf)

  pub moved_store : (need : ℕ → ℕ) → ((k : ℕ) → IsTight s.pages k → IsTight t.pages k) → Goes s t need need
  moved_store need tight = record {
    strands = λ k. record { less = λ b x. (was k b x).0; on = λ n on. sym (leaves_same k n) ∙ on };
    stays = λ k n on. leaves_same k n ∙ on;
    kept = λ k n l few some. (let u = staying k in let y : one_evacuating k (page_at t.pages n) ≡ one_evacuating k (page_at s.pages n) = ap (λ b. if b then 1 else 0) (leaves_same k n) in omega (arith, u, y, few));
    tight = tight;
    staying = λ k. (let u = staying k in omega (arith, u));
    evacuating = (let u = evacuating_set s.pages t.pages to (Some q) (Some r) to_within there is in omega (arith, u));
    less = λ k l. omega arith;
  }
    where
      staying : (k : ℕ) → staying_pages t.pages k ≡ staying_pages s.pages k
      staying k = let u = staying_set s.pages t.pages to (Some q) (Some r) to_within there is k in omega (arith, u)

  -- the page is emptied from the next block on
  pub moved_emptied : (class : ℕ) (Other Then : ℕ → Type 0) → ((k : ℕ) → k < CLASSES → Other k → Then k) → IsEmptied s class page block Other → IsEmptied t class page (i + 1) Then
  moved_emptied class Other Then keep w = record {
    small = w.small;
    on = leaves_same class page ∙ w.on;
    only = λ b x. w.only b (was class b x).0;
    behind = λ b x. subst (λ k. address_of k page (i + 1) ≤ b) own_class (behind b (was class b x).0 (was class b x).1);
    others = λ k l ne. keep k l (w.others k l ne);
  }
    where
      own_class : p.class ≡ class
      own_class = emptied_own s class page block Other p at w

      behind : (b : ℕ) → IsStranded s class b → b ≢ from → address_of p.class page (i + 1) ≤ b
      behind b x ne =
          let o = on_page s page b p at x.allocated (w.only b x) in
          let low : address_of p.class page block ≤ b = subst (λ k. address_of k page block ≤ b) (sym own_class) (w.behind b x) in
          let n = behind_index page block o.index (size_of p.class) b (size_some p (a.each page p at)) low o.address in
          past o.index n o.allocated o.address
        where
          past : (k : ℕ) → block ≤ k → slice_get p.allocated k ≡ Some true → b ≡ address_of p.class page k → address_of p.class page (i + 1) ≤ b
          past k low flag address = elim (order k i) [
            | inl less ↦ absurd (let x = next.first k low less in let y : Some false ≡ Some true = sym x ∙ flag in cc)
            | inr more ↦ elim (same_or k i more) [
              | inl eq ↦ absurd (ne (address ∙ ap (λ z. address_of p.class page z) eq))
              | inr gone ↦ (let r = mul-le-mul_right (size_of p.class) gone in omega (arith, r, address))
            ]
          ]
            where
              order : (a b : ℕ) → (a < b) ⊎ (b ≤ a)
              order a b = grind arith

              same_or : (a b : ℕ) → b ≤ a → (a ≡ b) ⊎ (b + 1 ≤ a)
              same_or a b l = grind arith
