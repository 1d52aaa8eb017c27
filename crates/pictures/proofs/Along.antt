-- Samples of moments, as one moment after the other comes.
use Rattle.std.proofs.Common.{◌≡◌, ◌≢◌, ℕ, suc, ◌+◌, ◌*◌, ◌^◌, ◌<◌, ◌≤◌, List, [], ◌∷◌, ◌++◌, length, length-append, get_or, take, drop, min, max, refl, ap, ◌∙◌, sym, subst, arith, append_assoc, add-mul, mul-le-mul_right, pow_mono, pow-add, length-drop}
use Rattle.std.specs.List.{fold}
use Rattle.std.proofs.Math.Bool.{or_assoc}
use Rattle.std.proofs.Math.Seq.{take-add, take_all}
use Rattle.std.proofs.Math.ListN.{drop_of_length-le}
use Rattle.std.proofs.lemmas.List.{take-append-le, drop-append-le, drop-drop}
use Rattle.std.proofs.lemmas.List.Sums.{fold-append}
use Rattle.pictures.specs.declared.sample.TheConstants.{MOST_SAMPLES}
use Rattle.pictures.specs.declared.sample.Phases.{Phases}
use Rattle.pictures.specs.declared.sample.Sample.{Sample}
use Rattle.trace.specs.Observing.{Moment}
use Rattle.pictures.specs.Samples.{all_phases, joined, sampled, IsSampleOf, AreSamples, AreSampled, IsStride}
use Rattle.pictures.specs.Sampler.{ArePairs, AreTaken}

-- the phases of three, whichever are taken together first
phases_of_three : (a b c : Phases) → all_phases (all_phases a b) c ≡ all_phases a (all_phases b c)
phases_of_three a b c = rw (or_assoc a.roots b.roots c.roots, or_assoc a.marking b.marking c.marking, or_assoc a.sweeping b.sweeping c.sweeping, or_assoc a.moving b.moving c.moving) refl

-- three samples are one, whichever are joined first
min_of_three : (a b c : ℕ) → min (min a b) c ≡ min a (min b c)
min_of_three a b c = omega arith

max_of_three : (a b c : ℕ) → max (max a b) c ≡ max a (max b c)
max_of_three a b c = omega arith

joined_three : (a b c : Sample) → joined (joined a b) c ≡ joined a (joined b c)
joined_three a b c = rw (
  phases_of_three a.phases b.phases c.phases,
  min_of_three a.least_pages b.least_pages c.least_pages,
  max_of_three a.most_pages b.most_pages c.most_pages,
) refl

-- moments that are joined to a sample
abbrev onto : Sample → List Moment → Sample
onto s ms = fold (λ so_far next. joined so_far (sampled next)) s ms

joined_onto : (x s : Sample) (ms : List Moment) → joined x (onto s ms) ≡ onto (joined x s) ms
joined_onto x s [] = refl
joined_onto x s (m ∷ ms) = joined_onto x (joined s (sampled m)) ms ∙ ap (λ t. onto t ms) (sym (joined_three x s (sampled m)))

-- the sample of moments behind others
pub sample_both : (a b : List Moment) (x y : Sample) → IsSampleOf a x → IsSampleOf b y → IsSampleOf (a ++ b) (joined x y)
sample_both [] b x y p q = absurd p
sample_both (m ∷ ms) [] x y p q = absurd q
sample_both (m ∷ ms) (n ∷ ns) x y p q =
    let step = λ (so_far : Sample) (next : Moment). joined so_far (sampled next) in
    ap (joined x) q ∙ joined_onto x (sampled n) ns ∙ ap (λ t. onto (joined t (sampled n)) ns) p ∙ sym (fold-append step (sampled m) ms (n ∷ ns))

some_moment : (a : List Moment) (x : Sample) → IsSampleOf a x → 0 < length a
some_moment [] x p = absurd p
some_moment (m ∷ ms) x p = omega arith

-- all moments, of which the last sample may have fewer than the stride says
pub samples_with_last : (stride : ℕ) (before latest : List Moment) (samples : List Sample) (last : Sample) → AreSamples before stride samples → length before ≡ length samples * stride → IsSampleOf latest last → length latest ≤ stride
    → AreSamples (before ++ latest) stride (samples ++ last ∷ [])
samples_with_last stride before latest [] last each long is short =
    let none : before ≡ [] = each in
    subst (λ (xs : List Moment). AreSamples (xs ++ latest) stride (last ∷ [])) (sym none)
    (subst (λ (xs : List Moment). IsSampleOf xs last) (sym (take_all stride latest short)) is, drop_of_length-le latest short)
samples_with_last stride before latest (s ∷ later) last each long is short =
    let enough : stride ≤ length before = omega (arith, long, add-mul 1 (length later) stride) in
    let behind : length (drop stride before) ≡ length later * stride = omega (arith, long, add-mul 1 (length later) stride, length-drop stride before) in (
      subst (λ (xs : List Moment). IsSampleOf xs s) (sym (take-append-le stride before latest enough)) each.0,
      subst (λ (xs : List Moment). AreSamples xs stride (later ++ last ∷ [])) (sym (drop-append-le stride before latest enough)) (samples_with_last stride (drop stride before) latest later last each.1 behind is short),
    )

-- the pairs behind the first one
pairs_behind : (x y z : Sample) (xs zs : List Sample) → ArePairs (x ∷ y ∷ xs) (z ∷ zs) → ArePairs xs zs
pairs_behind x y z xs zs p = record {
  length_is = omega (arith, p.length_is);
  each = λ i d l.
      let even : 2 * (i + 1) ≡ suc (suc (2 * i)) = omega arith in
      let odd : 2 * (i + 1) + 1 ≡ suc (suc (2 * i + 1)) = omega arith in
      let next : i + 1 ≡ suc i = omega arith in
      ap (λ n. get_or (z ∷ zs) n d) (sym next) ∙ p.each (i + 1) d (omega (arith, l)) ∙ ap (λ n. joined (get_or (x ∷ y ∷ xs) n d) (get_or (x ∷ y ∷ xs) (2 * (i + 1) + 1) d)) even ∙ ap (λ n. joined (get_or xs (2 * i) d) (get_or (x ∷ y ∷ xs) n d)) odd;
}

-- samples of twice as many moments
pub samples_of_pairs : (stride : ℕ) (moments : List Moment) (old new : List Sample) → AreSamples moments stride old → ArePairs old new → length moments ≡ length old * stride → length old ≡ 2 * length new → AreSamples moments (stride * 2) new
samples_of_pairs stride moments [] [] each p long even = each
samples_of_pairs stride moments [] (z ∷ zs) each p long even = absurd (omega (arith, even))
samples_of_pairs stride moments (x ∷ []) new each p long even = absurd (omega (arith, even))
samples_of_pairs stride moments (x ∷ y ∷ xs) [] each p long even = absurd (omega (arith, even))
samples_of_pairs stride moments (x ∷ y ∷ xs) (z ∷ zs) each p long even =
    let twice : stride * 2 ≡ stride + stride = omega arith in
    let front : take (stride * 2) moments ≡ take stride moments ++ take stride (drop stride moments) = ap (λ n. take n moments) twice ∙ take-add stride stride moments in
    let back : drop (stride * 2) moments ≡ drop stride (drop stride moments) = ap (λ n. drop n moments) twice ∙ sym (drop-drop stride stride moments) in
    let first : z ≡ joined x y = p.each 0 z (omega arith) in
    let behind : length (drop stride (drop stride moments)) ≡ length xs * stride = omega (arith, long, add-mul 2 (length xs) stride, length-drop stride moments, length-drop stride (drop stride moments)) in (
      subst (λ (ms : List Moment). IsSampleOf ms z) (sym front)
          (subst (IsSampleOf (take stride moments ++ take stride (drop stride moments))) (sym first) (sample_both (take stride moments) (take stride (drop stride moments)) x y each.0 each.1.0)),
      subst (λ (ms : List Moment). AreSamples ms (stride * 2) zs) (sym back)
          (samples_of_pairs stride (drop stride (drop stride moments)) xs zs each.1.1 (pairs_behind x y z xs zs p) behind (omega (arith, even))),
    )

pub first_taken : (h : Moment) → AreTaken (h ∷ []) [] (sampled h) 1 1
first_taken h = record {
  before = [];
  latest = h ∷ [];
  moments_are = refl;
  each = refl;
  long = refl;
  last_is = refl;
  count = refl;
  short = omega arith;
  few = omega arith;
  exponent = 0;
  power = refl;
  least = λ k none. absurd (omega (arith, none));
}

-- The stride doubles.
doubled : (stride exponent : ℕ) → stride ≡ 2 ^ exponent → stride * 2 ≡ 2 ^ (exponent + 1)
doubled stride exponent power = omega (arith, power, pow-add 2 exponent 1)

-- is no more than it must be
doubled_least : (stride exponent moments k : ℕ) → stride ≡ 2 ^ exponent → MOST_SAMPLES * stride < moments → k < exponent + 1 → MOST_SAMPLES * 2 ^ k < moments
doubled_least stride exponent moments k power long below =
    let less : 2 ^ k ≤ 2 ^ exponent = pow_mono (omega (arith, below)) in
    omega (arith, power, long, less)

-- how many moments there are
in_all : (moments : List Moment) (samples : List Sample) (last : Sample) (stride since : ℕ) → AreTaken moments samples last stride since → length moments ≡ length samples * stride + since
in_all moments samples last stride since t = omega (arith, ap length t.moments_are, length-append t.before t.latest, t.long, t.count)

module _ (moments : List Moment) (h : Moment) (samples : List Sample) (last : Sample) (stride since : ℕ) (t : AreTaken moments samples last stride since) where
  longer : length (moments ++ h ∷ []) ≡ length moments + 1
  longer = length-append moments (h ∷ [])

  -- the stride isn't full
  pub one_more : since < stride → AreTaken (moments ++ h ∷ []) samples (joined last (sampled h)) stride (since + 1)
  one_more l = record {
    before = t.before;
    latest = t.latest ++ h ∷ [];
    moments_are = ap (λ xs. xs ++ h ∷ []) t.moments_are ∙ append_assoc t.before t.latest (h ∷ []);
    each = t.each;
    long = t.long;
    last_is = sample_both t.latest (h ∷ []) last (sampled h) t.last_is refl;
    count = omega (arith, t.count, length-append t.latest (h ∷ []));
    short = omega (arith, l);
    few = t.few;
    exponent = t.exponent;
    power = t.power;
    least = λ k below. omega (arith, t.least k below, longer);
  }

  module _ (full : stride ≤ since) where
    is_full : since ≡ stride
    is_full = omega (arith, full, t.short)

    some : 0 < stride
    some = omega (arith, is_full, t.count, some_moment t.latest last t.last_is)

    with_last : AreSamples (t.before ++ t.latest) stride (samples ++ last ∷ [])
    with_last = samples_with_last stride t.before t.latest samples last t.each t.long t.last_is (omega (arith, t.count, is_full))

    number : length (samples ++ last ∷ []) ≡ length samples + 1
    number = length-append samples (last ∷ [])

    long : length (t.before ++ t.latest) ≡ length (samples ++ last ∷ []) * stride
    long = omega (arith, length-append t.before t.latest, t.long, t.count, is_full, ap (λ n. n * stride) number, add-mul (length samples) 1 stride)

    -- it is full, and there is room
    pub one_new : length (samples ++ last ∷ []) ≢ MOST_SAMPLES → AreTaken (moments ++ h ∷ []) (samples ++ last ∷ []) (sampled h) stride 1
    one_new room = record {
      before = t.before ++ t.latest;
      latest = h ∷ [];
      moments_are = ap (λ xs. xs ++ h ∷ []) t.moments_are;
      each = with_last;
      long = long;
      last_is = refl;
      count = refl;
      short = some;
      few = omega (arith, t.few, room, number);
      exponent = t.exponent;
      power = t.power;
      least = λ k below. omega (arith, t.least k below, longer);
    }

    pub new_one : (items : List Sample) → items ≡ samples ++ last ∷ [] → length items ≢ MOST_SAMPLES → AreTaken (moments ++ h ∷ []) items (sampled h) stride 1
    new_one items is room = subst (λ (xs : List Sample). AreTaken (moments ++ h ∷ []) xs (sampled h) stride 1) (sym is) (one_new (λ e. room (ap length is ∙ e)))

    -- there is none, and each two samples become one
    module _ (items : List Sample) (is : items ≡ samples ++ last ∷ []) (most : length items ≡ MOST_SAMPLES) where
      many : length (samples ++ last ∷ []) ≡ MOST_SAMPLES
      many = sym (ap length is) ∙ most

      all : length moments ≡ 4096 * stride
      all = omega (arith, in_all moments samples last stride since t, is_full, ap (λ n. n * stride) many, ap (λ n. n * stride) number, add-mul (length samples) 1 stride)

      -- the doubled stride is a number of 64 bits
      pub thin_fits : length moments < 2 ^ 64 → stride * 2 < 2 ^ 64
      thin_fits l = omega (arith, l, all)

      pub one_thinned : (new : List Sample) → ArePairs items new → AreTaken (moments ++ h ∷ []) new (sampled h) (stride * 2) 1
      one_thinned new paired =
          let pairs : ArePairs (samples ++ last ∷ []) new = subst (λ (xs : List Sample). ArePairs xs new) is paired in
          let few : length new ≡ 2048 = omega (arith, many, pairs.length_is) in record {
            before = t.before ++ t.latest;
            latest = h ∷ [];
            moments_are = ap (λ xs. xs ++ h ∷ []) t.moments_are;
            each = samples_of_pairs stride (t.before ++ t.latest) (samples ++ last ∷ []) new with_last pairs long (omega (arith, few, many));
            long = omega (arith, long, ap (λ n. n * stride) many, ap (λ n. n * (stride * 2)) few);
            last_is = refl;
            count = refl;
            short = omega (arith, some);
            few = omega (arith, few);
            exponent = t.exponent + 1;
            power = doubled stride t.exponent t.power;
            least = λ k below. doubled_least stride t.exponent (length (moments ++ h ∷ [])) k t.power (omega (arith, all, longer)) below;
          }

-- the stride is that of this many moments
is_stride : (moments : List Moment) (samples : List Sample) (last : Sample) (stride since : ℕ) → AreTaken moments samples last stride since → IsStride (length moments) stride
is_stride moments samples last stride since t = record {
  exponent = t.exponent;
  power = t.power;
  enough = omega (arith, in_all moments samples last stride since t, t.short, mul-le-mul_right {m = length samples + 1} {n = MOST_SAMPLES} stride (omega (arith, t.few)), add-mul (length samples) 1 stride);
  least = t.least;
}

-- all samples, and the last one behind them
all_taken : (moments : List Moment) (samples : List Sample) (last : Sample) (stride since : ℕ) → AreTaken moments samples last stride since → AreSamples moments stride (samples ++ last ∷ [])
all_taken moments samples last stride since t =
    subst (λ (ms : List Moment). AreSamples ms stride (samples ++ last ∷ [])) (sym t.moments_are)
    (samples_with_last stride t.before t.latest samples last t.each t.long t.last_is (omega (arith, t.count, t.short)))

-- all samples of a sampler, with their stride
pub are_sampled : (moments : List Moment) (samples : List Sample) (last : Sample) (stride since : ℕ) → AreTaken moments samples last stride since → AreSampled moments stride (samples ++ last ∷ [])
are_sampled moments samples last stride since t = record {
  is_stride = is_stride moments samples last stride since t;
  are_samples = all_taken moments samples last stride since t;
}
