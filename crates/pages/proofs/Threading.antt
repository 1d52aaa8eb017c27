-- Lists of free blocks.
use Rattle.std.proofs.Common.{◌≡◌, ◌≢◌, ℕ, zero, suc, ◌+◌, ◌*◌, ◌-◌, ◌/◌, ◌^◌, ◌<◌, ◌≤◌, Bool, true, false, not, List, ◌∷◌, ◌++◌, length, get_or, set, replicate, eqb, eq-eqb, add-one, Some, ap, ◌∙◌, sym, refl, subst, inl, inr, arith}
use Rattle.std.specs.Prelude.{slice_get, slice_index, count_by}
use Rattle.std.proofs.lemmas.List.{length-set, get_or-set_same, get_or-set_other}
use Rattle.std.proofs.lemmas.List.Sums.{count_by-le-length}
use Rattle.std.proofs.lemmas.Bool.{cases_eq}
use Rattle.std.proofs.lemmas.Option.{slice_get_within, slice_get-get_or, get_or_from_slice_get}
use Rattle.std.proofs.lemmas.List.{same_lists, length-replicate, get_or-replicate}
use Rattle.std.proofs.Math.Nat.{mul-le-mul_right, mul-div_cancel, div-mul-le_self, div-le_self}
use Rattle.size_classes.specs.declared.class.TheConstants.{CLASSES}
use Rattle.size_classes.specs.Sizes.{size_of, blocks_in}
use Rattle.size_classes.proofs.Table.{size_low}
use Rattle.pages.specs.FreeList.{free_mark, RunsFree, flags_of, IsFreeList, SameOutside}
use Rattle.pages.proofs.Flags.{count_less, there_back, open_then, length-flags, get_flag, flags_set, apart, block_fits, link_apart, not_mark}

-- the list tells how many are free
pub runs_count : (words : List ℕ) (at size n : ℕ) (flags : List Bool) (link : ℕ) → RunsFree words at size n flags link → count_by not flags ≡ n
runs_count words at size zero flags link r = r.1
runs_count words at size (suc n) flags link (i, free, is, rest) =
    count_less flags i free ∙ ap suc (runs_count words at size n (set flags i true) (slice_index words (at + i * size + 3)) rest)

-- a flag that is false after another was set was false before
was_false : (flags : List Bool) (i j : ℕ) → slice_get (set flags i true) j ≡ Some false → slice_get flags j ≡ Some false
was_false flags i j h =
    let below : j < length flags = (let w = slice_get_within (set flags i true) j false h in omega (arith, w, length-set flags i true)) in
    let now : get_or (set flags i true) j false ≡ false = get_or_from_slice_get (set flags i true) j false false h in
    elim (cases_eq j i) [
      | inl e ↦ absurd (let t : get_or (set flags i true) j false ≡ true = subst (λ k. get_or (set flags i true) k false ≡ true) (sym e) (get_or-set_same flags i true false (subst (λ k. k < length flags) e below)) in cc)
      | inr ne ↦ slice_get-get_or flags j false below ∙ ap Some (sym (get_or-set_other flags i j true false ne) ∙ now)
    ]

-- it is the same list if the links of the free blocks are the same
pub runs_same : (words new : List ℕ) (at size n : ℕ) (flags : List Bool) (link : ℕ)
    → ((i : ℕ) → slice_get flags i ≡ Some false → slice_index new (at + i * size + 3) ≡ slice_index words (at + i * size + 3))
    → RunsFree words at size n flags link → RunsFree new at size n flags link
runs_same words new at size zero flags link same r = r
runs_same words new at size (suc n) flags link same (i, free, is, rest) = (
  i,
  free,
  is,
  subst (RunsFree new at size n (set flags i true)) (sym (same i free))
      (runs_same words new at size n (set flags i true) (slice_index words (at + i * size + 3)) (λ j h. same j (was_false flags i j h)) rest),
)

-- a block that is allocated goes to the front
pub runs_given : (words new : List ℕ) (at size n : ℕ) (flags : List Bool) (link i : ℕ) → slice_get flags i ≡ Some true
    → ((j : ℕ) → slice_get flags j ≡ Some false → slice_index new (at + j * size + 3) ≡ slice_index words (at + j * size + 3))
    → slice_index new (at + i * size + 3) ≡ link → RunsFree words at size n flags link → RunsFree new at size (suc n) (set flags i false) (at + i * size + 1)
runs_given words new at size n flags link i allocated same linked r = (
  i,
  open_then flags i allocated,
  refl,
  subst (λ f. RunsFree new at size n f (slice_index new (at + i * size + 3))) (sym (there_back flags i allocated))
      (subst (RunsFree new at size n flags) (sym linked) (runs_same words new at size n flags link same r)),
)

-- ---- a block is taken
pub record Head (words : List ℕ) (at class first allocated : ℕ) : Type 0 where
  pub index : ℕ
  pub rest : ℕ
  pub open_there : slice_get (flags_of words at class) index ≡ Some false
  pub link : first ≡ at + index * size_of class + 1
  pub counted : (allocated + 1) + rest ≡ blocks_in class
  pub runs : RunsFree words at (size_of class) rest (set (flags_of words at class) index true) (get_or words (at + index * size_of class + 3) 0)
  pub below : index < blocks_in class

pub head_of : (words : List ℕ) (at class first allocated : ℕ) → IsFreeList words at class first allocated → allocated < blocks_in class → Head words at class first allocated
head_of words at class first allocated c h = by_count c.free c.counted c.runs
  where
    by_count : (n : ℕ) → allocated + n ≡ blocks_in class → RunsFree words at (size_of class) n (flags_of words at class) first → Head words at class first allocated
    by_count zero e r = absurd (omega (arith, e, h))
    by_count (suc n) e (i, free, is, rest) = record {
      index = i;
      rest = n;
      open_there = free;
      link = is;
      counted = omega (arith, e);
      runs = rest;
      below = (let w = slice_get_within (flags_of words at class) i false free in omega (arith, w, length-flags words at (size_of class) (blocks_in class)));
    }

pub popped : (words new : List ℕ) (at class first allocated : ℕ) (h : Head words at class first allocated) → 4 ≤ size_of class
    → new ≡ set words (at + h.index * size_of class) (at + h.index * size_of class) → at + 2048 ≤ length words → at + 2048 ≤ 2147483648
    → (flags_of new at class ≡ set (flags_of words at class) h.index true) × IsFreeList new at class (get_or words (at + h.index * size_of class + 3) 0) (allocated + 1)
popped words new at class first allocated h low is long small =
    let size = size_of class in
    let block = at + h.index * size in
    let fit = block_fits class h.index h.below in
    let read : get_or new block 0 ≡ block = ap (λ w. get_or w block 0) is ∙ get_or-set_same words block block 0 (omega (arith, fit, low, long)) in
    let other : (k : ℕ) → k ≢ block → get_or new k 0 ≡ get_or words k 0 = λ k ne. ap (λ w. get_or w k 0) is ∙ get_or-set_other words block k block 0 ne in
    let flags : flags_of new at class ≡ set (flags_of words at class) h.index true =
    flags_set words new at size (blocks_in class) h.index true h.below
    (λ j l ne. other (at + j * size) (let p = apart at size j h.index 0 0 (omega (arith, low)) (omega (arith, low)) ne in omega (arith, p)))
    (ap (λ w. not (eqb w free_mark)) read ∙ not_mark block (omega (arith, fit, low, small))) in
    let links : (j : ℕ) → get_or new (at + j * size + 3) 0 ≡ get_or words (at + j * size + 3) 0 =
    λ j. other (at + j * size + 3) (link_apart at size j h.index low) in (
      flags,
      record {
        free = h.rest;
        counted = h.counted;
        runs =
            subst (λ f. RunsFree new at size h.rest f (get_or words (block + 3) 0)) (sym flags)
            (runs_same words new at size h.rest (set (flags_of words at class) h.index true) (get_or words (block + 3) 0) (λ j _. links j) h.runs);
      },
    )

-- ---- a block is given back
pub some_allocated : (words : List ℕ) (at class first allocated i : ℕ) → IsFreeList words at class first allocated → slice_get (flags_of words at class) i ≡ Some true → 0 < allocated
some_allocated words at class first allocated i c h =
    let flags = flags_of words at class in
    let free = runs_count words at (size_of class) c.free flags first c.runs in
    let more = count_less (set flags i false) i (open_then flags i h) in
    let back = ap (λ f. count_by not f) (there_back flags i h) in
    let most = count_by-le-length not (set flags i false) in
    omega (arith, c.counted, free, more, back, most, length-set flags i false, length-flags words at (size_of class) (blocks_in class))

pub given : (words new : List ℕ) (at class first allocated i : ℕ) → IsFreeList words at class first allocated → slice_get (flags_of words at class) i ≡ Some true → 4 ≤ size_of class
    → new ≡ set (set words (at + i * size_of class) free_mark) (at + i * size_of class + 3) first → at + 2048 ≤ length words
    → (flags_of new at class ≡ set (flags_of words at class) i false) × IsFreeList new at class (at + i * size_of class + 1) (allocated - 1)
given words new at class first allocated i c h low is long =
    let size = size_of class in
    let flags = flags_of words at class in
    let block = at + i * size in
    let below : i < blocks_in class = (let w = slice_get_within flags i true h in omega (arith, w, length-flags words at size (blocks_in class))) in
    let fit = block_fits class i below in
    let one = set words block free_mark in
    let long' : block + 3 < length one = omega (arith, length-set words block free_mark, long, fit, low) in
    let other : (k : ℕ) → k ≢ block → k ≢ block + 3 → get_or new k 0 ≡ get_or words k 0 =
    λ k n m. ap (λ w. get_or w k 0) is ∙ get_or-set_other one (block + 3) k first 0 m ∙ get_or-set_other words block k free_mark 0 n in
    let mark : get_or new block 0 ≡ free_mark =
    ap (λ w. get_or w block 0) is ∙ get_or-set_other one (block + 3) block first 0 (omega arith) ∙ get_or-set_same words block free_mark 0 (omega (arith, long', length-set words block free_mark)) in
    let link : get_or new (block + 3) 0 ≡ first = ap (λ w. get_or w (block + 3) 0) is ∙ get_or-set_same one (block + 3) first 0 long' in
    let new_flags : flags_of new at class ≡ set flags i false =
    flags_set words new at size (blocks_in class) i false below
    (λ j l ne. other (at + j * size) (let p = apart at size j i 0 0 (omega (arith, low)) (omega (arith, low)) ne in omega (arith, p)) (let p = apart at size j i 0 3 (omega (arith, low)) (omega (arith, low)) ne in omega (arith, p)))
    (ap (λ w. not (eqb w free_mark)) mark ∙ ap not (eq-eqb free_mark free_mark refl)) in
    let links : (j : ℕ) → slice_get flags j ≡ Some false → get_or new (at + j * size + 3) 0 ≡ get_or words (at + j * size + 3) 0 =
    λ j f. other (at + j * size + 3) (link_apart at size j i low)
    (let ne : j ≢ i = λ e. absurd (let t : slice_get flags i ≡ Some false = subst (λ k. slice_get flags k ≡ Some false) e f in cc) in
    let p = apart at size j i 3 3 (omega (arith, low)) (omega (arith, low)) ne in omega (arith, p)) in
    let allocated_some = some_allocated words at class first allocated i c h in (
      new_flags,
      record {
        free = suc c.free;
        counted = omega (arith, c.counted, allocated_some);
        runs =
            subst (λ f. RunsFree new at size (suc c.free) f (block + 1)) (sym new_flags) (runs_given words new at size c.free flags first i h links link c.runs);
      },
    )

-- ---- all blocks of a page are threaded, from the last to the first
ends_step : (i m : ℕ) → set (replicate (suc i) true ++ replicate m false) i false ≡ replicate i true ++ replicate (suc m) false
ends_step zero m = refl
ends_step (suc i) m = ap (λ f. true ∷ f) (ends_step i m)

ends_allocated : (i m : ℕ) → slice_get (replicate (suc i) true ++ replicate m false) i ≡ Some true
ends_allocated zero m = refl
ends_allocated (suc i) m = ends_allocated i m

ends_open : (i m j : ℕ) → slice_get (replicate i true ++ replicate m false) j ≡ Some false → i ≤ j
ends_open zero m j h = omega arith
ends_open (suc i) m zero h = absurd (cc)
ends_open (suc i) m (suc j) h = let w = ends_open i m j h in omega (arith, w)

none_open : (n : ℕ) → count_by not (replicate n true ++ replicate 0 false) ≡ 0
none_open zero = refl
none_open (suc n) = none_open n

pub record Threads (old words : List ℕ) (at size n i first : ℕ) : Type 0 where
  pub rest : ℕ
  pub counted : i + rest ≡ n
  pub runs : RunsFree words at size rest (replicate i true ++ replicate rest false) first
  pub marked : (k : ℕ) → i ≤ k → k < n → get_or words (at + k * size) 0 ≡ free_mark
  pub outside : SameOutside old words at

pub threads_none : (words : List ℕ) (at size n : ℕ) → Threads words words at size n n 0
threads_none words at size n = record {
  rest = 0;
  counted = omega arith;
  runs = (refl, none_open n);
  marked = λ k l h. absurd (omega (arith, l, h));
  outside = record { len = refl; below = λ _ _. refl; above = λ _ _. refl };
}

pub threads_more : (old words new : List ℕ) (at class i first : ℕ) → Threads old words at (size_of class) (blocks_in class) (i + 1) first → 4 ≤ size_of class
    → new ≡ set (set words (at + i * size_of class) free_mark) (at + i * size_of class + 3) first → at + 2048 ≤ length old
    → Threads old new at (size_of class) (blocks_in class) i (at + i * size_of class + 1)
threads_more old words new at class i first t low is long =
    let size = size_of class in
    let block = at + i * size in
    let fit = block_fits class i (omega (arith, t.counted)) in
    let one = set words block free_mark in
    let long' : block + 3 < length one = omega (arith, length-set words block free_mark, t.outside.len, long, fit, low) in
    let other : (k : ℕ) → k ≢ block → k ≢ block + 3 → get_or new k 0 ≡ get_or words k 0 =
    λ k n m. ap (λ w. get_or w k 0) is ∙ get_or-set_other one (block + 3) k first 0 m ∙ get_or-set_other words block k free_mark 0 n in
    let mark : get_or new block 0 ≡ free_mark =
    ap (λ w. get_or w block 0) is ∙ get_or-set_other one (block + 3) block first 0 (omega arith) ∙ get_or-set_same words block free_mark 0 (omega (arith, long', length-set words block free_mark)) in
    let link : get_or new (block + 3) 0 ≡ first = ap (λ w. get_or w (block + 3) 0) is ∙ get_or-set_same one (block + 3) first 0 long' in
    let runs : RunsFree words at size t.rest (replicate (suc i) true ++ replicate t.rest false) first = subst (λ k. RunsFree words at size t.rest (replicate k true ++ replicate t.rest false) first) (add-one i) t.runs in
    let links : (j : ℕ) → slice_get (replicate (suc i) true ++ replicate t.rest false) j ≡ Some false → get_or new (at + j * size + 3) 0 ≡ get_or words (at + j * size + 3) 0 =
    λ j f. other (at + j * size + 3) (link_apart at size j i low)
    (let above = ends_open (suc i) t.rest j f in let p = apart at size j i 3 3 (omega (arith, low)) (omega (arith, low)) (omega (arith, above)) in omega (arith, p)) in
    record {
      rest = suc t.rest;
      counted = omega (arith, t.counted);
      runs = subst (λ f. RunsFree new at size (suc t.rest) f (block + 1)) (ends_step i t.rest)
          (runs_given words new at size t.rest (replicate (suc i) true ++ replicate t.rest false) first i (ends_allocated i t.rest) links link runs);
      marked = λ k l h. elim (cases_eq k i) [
        | inl e ↦ ap (λ n. get_or new (at + n * size) 0) e ∙ mark
        | inr ne ↦ other (at + k * size) (let p = apart at size k i 0 0 (omega (arith, low)) (omega (arith, low)) ne in omega (arith, p)) (let p = apart at size k i 0 3 (omega (arith, low)) (omega (arith, low)) ne in omega (arith, p))
            ∙ t.marked k (omega (arith, l, ne)) h
      ];
      outside = record {
        len = ap (λ w. length w) is ∙ length-set one (block + 3) first ∙ length-set words block free_mark ∙ t.outside.len;
        below = λ k h. other k (omega (arith, h)) (omega (arith, h)) ∙ t.outside.below k h;
        above = λ k h. other k (omega (arith, h, fit, low)) (omega (arith, h, fit, low)) ∙ t.outside.above k h;
      };
    }

pub threaded : (old words : List ℕ) (at class first : ℕ) → Threads old words at (size_of class) (blocks_in class) 0 first
    → (flags_of words at class ≡ replicate (blocks_in class) false) × IsFreeList words at class first 0
threaded old words at class first t =
    let n = blocks_in class in
    let all : t.rest ≡ n = omega (arith, t.counted) in
    let flags : flags_of words at class ≡ replicate n false =
    same_lists (flags_of words at class) (replicate n false) (length-flags words at (size_of class) n ∙ sym (length-replicate n false))
    (λ k d h. let below : k < n = omega (arith, h, length-flags words at (size_of class) n) in
    get_flag words at (size_of class) n k d below ∙ ap (λ w. not (eqb w free_mark)) (t.marked k (omega arith) below) ∙ ap not (eq-eqb free_mark free_mark refl) ∙ sym (get_or-replicate n k false d below)) in
    (flags, record { free = t.rest; counted = omega (arith, t.counted); runs = subst (λ f. RunsFree words at (size_of class) t.rest f first) (ap (λ m. replicate m false) all ∙ sym flags) t.runs })

pub blocks_few : (class : ℕ) → blocks_in class ≤ 2048
unfolding blocks_in
blocks_few class = div-le_self 2048 (size_of class)

-- a block has four words or more
pub blocks_most : (class : ℕ) → class < CLASSES → blocks_in class ≤ 512
unfolding blocks_in
blocks_most class known =
    let all = div-mul-le_self 2048 (size_of class) in
    let four = mul-le-mul_right (2048 / size_of class) (size_low class known) in
    let turned : size_of class * (2048 / size_of class) ≡ 2048 / size_of class * size_of class = grind arith in
    omega (arith, all, four, turned)

-- as the code computes it
module _ (words : List ℕ) (page class first allocated size : ℕ) (low_page : page < 1048576) (within : 2048 * page + 2048 ≤ length words) (chain : IsFreeList words (2048 * page) class first allocated) (size_is : size ≡ size_of class) (low : 4 ≤ size) where
  low_size : 4 ≤ size_of class
  low_size = subst (λ n. 4 ≤ n) size_is low

  module _ (some : allocated < blocks_in class) where
    head : Head words (2048 * page) class first allocated
    head = head_of words (2048 * page) class first allocated chain some

    block_is : first - 1 ≡ 2048 * page + head.index * size_of class
    block_is = omega (arith, head.link)

    index_is : (first - 1 - 2048 * page) / size ≡ head.index
    index_is = let e : first - 1 - 2048 * page ≡ head.index * size_of class = omega (arith, block_is) in
        ap (λ n. (first - 1 - 2048 * page) / n) size_is ∙ ap (λ n. n / size_of class) e ∙ mul-div_cancel head.index (omega (arith, low_size))

    pub pop_place : first - 1 ≡ 2048 * page + (first - 1 - 2048 * page) / size * size_of class
    pop_place = block_is ∙ ap (λ n. 2048 * page + n * size_of class) (sym index_is)

    -- the offset on the page, as the code computes it
    pub pop_offset : (2048 * page ≤ first - 1) × (first - 1 - 2048 * page < 2 ^ 32)
    pop_offset = let f = block_fits class head.index head.below in (omega (arith, block_is), omega (arith, block_is, f))

    pub pop_within : (first - 1) + 3 < length words
    pop_within = let f = block_fits class head.index head.below in omega (arith, block_is, f, within, low_size)

    pub pop_room : allocated + 1 < 2 ^ 32
    pop_room = let f = blocks_few class in omega (arith, some, f)

    pub pop_free : slice_get (flags_of words (2048 * page) class) ((first - 1 - 2048 * page) / size) ≡ Some false
    pop_free = ap (slice_get (flags_of words (2048 * page) class)) index_is ∙ head.open_there

    module _ (new : List ℕ) (is : new ≡ set words (first - 1) (first - 1)) where
      both : (flags_of new (2048 * page) class ≡ set (flags_of words (2048 * page) class) head.index true) × IsFreeList new (2048 * page) class (get_or words (2048 * page + head.index * size_of class + 3) 0) (allocated + 1)
      both = popped words new (2048 * page) class first allocated head low_size (is ∙ ap (λ n. set words n n) block_is) within (omega (arith, low_page))

      pub pop_flags : flags_of new (2048 * page) class ≡ set (flags_of words (2048 * page) class) ((first - 1 - 2048 * page) / size) true
      pop_flags = both.0 ∙ ap (λ n. set (flags_of words (2048 * page) class) n true) (sym index_is)

      pub pop_chain : (link : ℕ) → link ≡ get_or words (first - 1 + 3) 0 → IsFreeList new (2048 * page) class link (allocated + 1)
      pop_chain link e = subst (λ l. IsFreeList new (2048 * page) class l (allocated + 1)) (sym (e ∙ ap (λ n. get_or words (n + 3) 0) block_is)) both.1

  module _ (index : ℕ) (was : slice_get (flags_of words (2048 * page) class) index ≡ Some true) where
    below : index < blocks_in class
    below = let w = slice_get_within (flags_of words (2048 * page) class) index true was in omega (arith, w, length-flags words (2048 * page) (size_of class) (blocks_in class))

    same_block : 2048 * page + index * size ≡ 2048 * page + index * size_of class
    same_block = ap (λ n. 2048 * page + index * n) size_is

    pub push_within : 2048 * page + index * size + 3 < 2048 * page + 2048
    push_within = let f = block_fits class index below in omega (arith, same_block, f, low_size)

    pub push_some : 0 < allocated
    push_some = some_allocated words (2048 * page) class first allocated index chain was

    module _ (new : List ℕ) (is : new ≡ set (set words (2048 * page + index * size) free_mark) (2048 * page + index * size + 3) first) where
      pub push_words : new ≡ set (set words (2048 * page + index * size_of class) free_mark) (2048 * page + index * size_of class + 3) first
      unfolding free_mark
      push_words = is ∙ ap (λ n. set (set words n free_mark) (n + 3) first) same_block

      both_given : (flags_of new (2048 * page) class ≡ set (flags_of words (2048 * page) class) index false) × IsFreeList new (2048 * page) class (2048 * page + index * size_of class + 1) (allocated - 1)
      both_given = given words new (2048 * page) class first allocated index chain was low_size push_words within

      pub push_flags : flags_of new (2048 * page) class ≡ set (flags_of words (2048 * page) class) index false
      push_flags = both_given.0

      pub push_chain : IsFreeList new (2048 * page) class (2048 * page + index * size + 1) (allocated - 1)
      push_chain = subst (λ b. IsFreeList new (2048 * page) class (b + 1) (allocated - 1)) (sym same_block) both_given.1

pub thread_within : (page class i size : ℕ) → size ≡ size_of class → 4 ≤ size → i < blocks_in class → 2048 * page + i * size + 3 < 2048 * page + 2048
thread_within page class i size e low h = let f : i * size + size ≤ 2048 = subst (λ n. i * n + n ≤ 2048) (sym e) (block_fits class i h) in omega (arith, f, low)

pub thread_step : (old words new : List ℕ) (page class i first size : ℕ) → size ≡ size_of class → 4 ≤ size → 0 < i → Threads old words (2048 * page) (size_of class) (blocks_in class) i first
    → new ≡ set (set words (2048 * page + (i - 1) * size) free_mark) (2048 * page + (i - 1) * size + 3) first → 2048 * page + 2048 ≤ length old
    → Threads old new (2048 * page) (size_of class) (blocks_in class) (i - 1) (2048 * page + (i - 1) * size + 1)
unfolding free_mark
thread_step old words new page class i first size e low some t is long =
    let same : 2048 * page + (i - 1) * size ≡ 2048 * page + (i - 1) * size_of class = ap (λ n. 2048 * page + (i - 1) * n) e in
    let back : i ≡ i - 1 + 1 = omega (arith, some) in
    subst (λ b. Threads old new (2048 * page) (size_of class) (blocks_in class) (i - 1) (b + 1)) (sym same)
    (threads_more old words new (2048 * page) class (i - 1) first (subst (λ n. Threads old words (2048 * page) (size_of class) (blocks_in class) n first) back t) (subst (λ n. 4 ≤ n) e low)
    (is ∙ ap (λ n. set (set words n free_mark) (n + 3) first) same) long)

-- the block before one
one_less : (at size m block : ℕ) → block ≡ at + (m + 1) * size → (size ≤ block) × (block - size ≡ at + m * size)
one_less at size m block is = (omega (arith, is), omega (arith, is))

pub block_before : (at size i block : ℕ) → 0 < i → block ≡ at + i * size → (size ≤ block) × (block - size ≡ at + (i - 1) * size)
block_before at size i block some is = one_less at size (i - 1) block (subst (λ n. block ≡ at + n * size) (omega (arith, some)) is)

-- a block is allocated by its first word
pub flag_by : (words : List ℕ) (page class size i word : ℕ) (b : Bool) → size ≡ size_of class → i < blocks_in class → word ≡ get_or words (2048 * page + i * size) 0 → not (eqb word 18446744073709551615) ≡ b
    → slice_get (flags_of words (2048 * page) class) i ≡ Some b
unfolding free_mark
flag_by words page class size i word b e h read is =
    slice_get-get_or (flags_of words (2048 * page) class) i b (omega (arith, h, length-flags words (2048 * page) (size_of class) (blocks_in class)))
    ∙ ap Some (get_flag words (2048 * page) (size_of class) (blocks_in class) i b h ∙ ap (λ n. not (eqb (get_or words (2048 * page + i * n) 0) 18446744073709551615)) (sym e) ∙ ap (λ w. not (eqb w 18446744073709551615)) (sym read) ∙ is)
