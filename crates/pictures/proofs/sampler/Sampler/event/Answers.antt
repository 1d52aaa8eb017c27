use Rattle.std.proofs.Common.{◌≡◌, ◌+◌, length, [], ◌∷◌, ◌++◌, sym, ◌∙◌, subst, arith}
use Rattle.trace.specs.Observing.{moment}
use Rattle.pictures.specs.declared.sample.TheConstants.{MOST_SAMPLES}
use Rattle.pictures.specs.declared.sample.Sample.{Sample}
use Rattle.pictures.specs.Samples.{sampled}
use Rattle.pictures.specs.Sampler.{AreTaken}
use Rattle.pictures.specs.declared.sampler.Sampler.{Sampler}
use Rattle.pictures.proofs.Along.{one_more, new_one, one_thinned, thin_fits}
use Rattle.pictures.proofs.sampler.Sampler.event.Goals as goal
use Rattle.pictures.proofs.sampler.Sampler.event.Goals.{then-len-eq-MOST_SAMPLES, else-len-eq-MOST_SAMPLES}

pub returns-then-self : goal.returns-then-self
returns-then-self c = λ moments a.
    let h = moment c.args.line c.args.heap.now in
    let s = c.args.self.now in
    subst (λ (last : Sample). AreTaken (moments ++ h ∷ []) s.samples.items.items last s.samples.stride (s.since + 1)) (sym (c.with_now-self.ensures c.args.line))
    (one_more moments h s.samples.items.items s.last s.samples.stride s.since a c.if-self.true)

pub thin-requires : goal.thin-requires
thin-requires c =
    let s = c.args.self.now in
    let most : length c.push.new.self.items ≡ MOST_SAMPLES = omega (arith, c.len.ensures, c.if-len-eq-MOST_SAMPLES.true, c.push.new.self.ok) in
    thin_fits c.requires.0 (moment c.args.line c.args.heap.now) s.samples.items.items s.last s.samples.stride s.since c.requires.1 c.if-self.false c.push.new.self.items c.in_ok-push.ensures.items most c.requires.2

pub returns : goal.returns
returns c = λ moments a.
    let h = moment c.args.line c.args.heap.now in
    let s = c.args.self.now in
    let number : c.len.result ≡ length c.push.new.self.items = omega (arith, c.len.ensures, c.push.new.self.ok) in
    let P : Sampler → Type 0 = λ t. AreTaken (moments ++ h ∷ []) t.samples.items.items (sampled h) t.samples.stride 1 in
    let taken : P c.if-len-eq-MOST_SAMPLES.self = elim c.if-len-eq-MOST_SAMPLES.branch [
      | then-len-eq-MOST_SAMPLES w ↦
          let most = sym number ∙ w.if-len-eq-MOST_SAMPLES.true in
          subst P (sym w.self-is) (rw w.thin.ensures.stride (one_thinned moments h s.samples.items.items s.last s.samples.stride s.since a c.if-self.false c.push.new.self.items c.in_ok-push.ensures.items most w.thin.new.self.items.items w.thin.ensures.pairs))
      | else-len-eq-MOST_SAMPLES w ↦
          subst P (sym w.self-is) (new_one moments h s.samples.items.items s.last s.samples.stride s.since a c.if-self.false c.push.new.self.items c.in_ok-push.ensures.items (λ e. w.if-len-eq-MOST_SAMPLES.false (number ∙ e)))
    ] in
    subst (λ (last : Sample). AreTaken (moments ++ h ∷ []) c.if-len-eq-MOST_SAMPLES.self.samples.items.items last c.if-len-eq-MOST_SAMPLES.self.samples.stride 1) (sym c.from_heap-self.ensures) taken
