use Rattle.std.proofs.Common.{◌≡◌, ◌+◌, ◌*◌, ◌++◌, ap, sym, ◌∙◌, refl, arith, append-nil}
use Rattle.size_classes.specs.declared.class.TheConstants.{CLASSES}
use Rattle.trace.specs.Lines.{text_of}
use Rattle.inspector.specs.Filling.{filling_of, summed, classes_lines}
use Rattle.inspector.proofs.Parts.{at_err}
use Rattle.inspector.proofs.Fillings.{within_more, nothing_within, both_within, summed_none, one_more}
use Rattle.inspector.proofs.ClassByClass.{no_lines, class_more, class_part}
use Rattle.inspector.proofs.by_size.write_classes.Goals as goal

pub loop-number-init : goal.loop-number-init
loop-number-init g c =
    let taken = g.K.Sink.taken c.args.sink.now in
    record {
      sum = c.nothing-all.ensures ∙ summed_none (filling_of c.args.heap.now.store);
      within = nothing_within c.nothing-all.result (137438953472 * 0) c.nothing-all.ensures;
      written = sym (append-nil taken) ∙ ap (λ t. taken ++ t) (no_lines c.args.heap.now.store);
      failures = refl;
    }

pub both-all-requires-clause-some : goal.both-all-requires-clause-some
both-all-requires-clause-some g c = within_more c.loop-number.all (137438953472 * c.loop-number.number) 8796093022208 c.loop-number.invariant.within (omega (arith, c.loop-number-test.true))

pub both-all-requires-clause-others : goal.both-all-requires-clause-others
both-all-requires-clause-others g c = within_more c.filling_of-filling.result 137438953472 8796093022208 c.filling_of-filling.ensures.within (omega arith)

pub returns-in_err-write_class-clause-err : goal.returns-in_err-write_class-clause-err
returns-in_err-write_class-clause-err g c =
    at_err c.from_residual.result _
    (class_part c.args.heap.now.store (g.K.Sink.taken c.args.sink.now) (g.K.Sink.taken c.loop-number.sink) (g.K.Sink.taken c.write_class.new.sink) c.loop-number.number c.loop-number.invariant.written
    c.new-class.result c.filling_of-filling.result c.new-class.ensures c.filling_of-filling.ensures.filling CLASSES c.loop-number-test.true c.in_err-write_class.ensures.err)

pub loop-number-preserved : goal.loop-number-preserved
loop-number-preserved g c =
    let n = c.loop-number.number in
    record {
      sum = one_more (filling_of c.args.heap.now.store) n c.loop-number.all c.filling_of-filling.result c.both-all.result c.loop-number.invariant.sum
          (c.filling_of-filling.ensures.filling ∙ ap (filling_of c.args.heap.now.store) c.new-class.ensures) c.both-all.ensures;
      within = within_more c.both-all.result (137438953472 * n + 137438953472) (137438953472 * (n + 1))
          (both_within c.loop-number.all c.filling_of-filling.result c.both-all.result (137438953472 * n) 137438953472 c.both-all.ensures c.loop-number.invariant.within c.filling_of-filling.ensures.within) (omega arith);
      written = class_more c.args.heap.now.store (g.K.Sink.taken c.args.sink.now) (g.K.Sink.taken c.loop-number.sink) (g.K.Sink.taken c.write_class.new.sink) n c.loop-number.invariant.written
          c.new-class.result c.filling_of-filling.result c.new-class.ensures c.filling_of-filling.ensures.filling c.in_ok-write_class.ensures.ok;
      failures = omega (arith, c.in_ok-write_class.ensures.cause, c.loop-number.invariant.failures);
    }

pub returns-clause-sum : goal.returns-clause-sum
returns-clause-sum g c =
    let e : c.loop-number.number ≡ CLASSES = omega arith in
    c.loop-number.invariant.sum ∙ ap (summed (filling_of c.args.heap.now.store)) e

pub returns-clause-within : goal.returns-clause-within
returns-clause-within g c = within_more c.loop-number.all (137438953472 * c.loop-number.number) 8796093022208 c.loop-number.invariant.within (omega arith)

pub returns-clause-ok : goal.returns-clause-ok
returns-clause-ok g c =
    let e : c.loop-number.number ≡ CLASSES = omega arith in
    c.loop-number.invariant.written ∙ ap (λ n. g.K.Sink.taken c.args.sink.now ++ text_of (classes_lines c.args.heap.now.store n)) e
