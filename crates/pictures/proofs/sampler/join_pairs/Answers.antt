use Rattle.std.proofs.Common.{◌≡◌, ◌+◌, ◌*◌, ◌/◌, ◌<◌, length, length-set, length-take, get_or, arith, ap, ◌∙◌}
use Rattle.std.proofs.lemmas.List.{get_or_default}
use Rattle.pictures.specs.declared.sample.Sample.{Sample}
use Rattle.pictures.specs.Samples.{joined}
use Rattle.pictures.proofs.Pairs.{pairs_on, pairs_rest}
use Rattle.pictures.proofs.sampler.join_pairs.Goals as goal

pub loop-place-preserved : goal.loop-place-preserved
loop-place-preserved c =
    let inv = c.loop-place.invariant in
    let xs = c.loop-place.items.items in
    let ys = c.args.items.now.items in
    let n = c.loop-place.place in
    let first = λ (d : Sample). c.index.ensures ∙ get_or_default xs (2 * n) c.index.result.now d (omega arith) ∙ inv.rest (2 * n) d (omega arith) in
    let second = λ (d : Sample). c.index-in-loop-place.ensures ∙ get_or_default xs (2 * n + 1) c.index-in-loop-place.result.now d (omega arith) ∙ inv.rest (2 * n + 1) d (omega arith) in
    record {
      length = length-set xs n c.with.result ∙ inv.length;
      done = pairs_on xs ys n c.with.result (omega arith) inv.done (λ d. c.with.ensures ∙ ap (λ s. joined s c.index-in-loop-place.result.now) (first d) ∙ ap (joined (get_or ys (2 * n) d)) (second d));
      rest = pairs_rest xs ys n c.with.result inv.rest;
    }

pub returns : goal.returns
returns c =
    let inv = c.loop-place.invariant in
    let pairs = c.len-pairs.result / 2 in
    let long : length c.truncate.new.self.items ≡ length c.args.items.now.items / 2 =
    omega (arith, inv.length, ap length c.truncate.ensures.items, length-take pairs c.loop-place.items.items, c.len-pairs.ensures, c.args.items.now.ok) in
    record {
      length_is = long;
      each = λ i d l.
          let inside : i < pairs = omega (arith, l, long, c.len-pairs.ensures, c.args.items.now.ok) in
          c.truncate.ensures.by_index i d inside ∙ inv.done i d (omega (arith, inside, c.loop-place-test.false));
    }
