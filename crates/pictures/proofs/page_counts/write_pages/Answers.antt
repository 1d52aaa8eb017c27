use Rattle.std.proofs.Common.{◌≡◌, refl, ap, ◌∙◌, arith}
use Rattle.std.specs.Iterator.Adapters.{zip_first, zip_second}
use Rattle.std.specs.Slice.Iter.{iter_rest}
use Rattle.std.proofs.lemmas.Slice.Zip.{Zip-more, either_empty_from_Zip}
use Rattle.pictures.specs.CycleSpans.{Turn}
use Rattle.pictures.proofs.CycleSpans.{no_turn}
use Rattle.pictures.proofs.EventLines.{json_is}
use Rattle.pictures.proofs.PageCounts.{counts_of, first_counts, counts_on}
use Rattle.pictures.proofs.Parts.{at_err, further, cut_short, all_of}
use Rattle.pictures.proofs.page_counts.write_pages.Goals as goal

pub loop-quantum-init : goal.loop-quantum-init
loop-quantum-init g c =
    let gives = c.into_iter-quantum-iterator.ensures.into_iter_gives in
    let first = ap (λ z. iter_rest (zip_first z)) gives ∙ ap iter_rest c.zip-quantum-items.ensures.first ∙ c.iter.ensures.rest in
    let other : iter_rest (zip_second c.zip-quantum-items.result) ≡ c.args.starts.now = c.zip-quantum-items.ensures.second.0 in
    let second = ap (λ z. iter_rest (zip_second z)) gives ∙ other in
    record { written = first_counts c.args.pages (g.K.Sink.taken c.args.sink.now) first second; failures = refl }

pub returns-in_err-write_line-clause-err : goal.returns-in_err-write_line-clause-err
returns-in_err-write_line-clause-err g c =
    let q : Turn = (c.in-Some.quantum.now, c.in-Some.start.now) in
    let more = Zip-more c.loop-quantum.quantum-iterator c.next.new.self c.next.result (c.in-Some.quantum, c.in-Some.start) c.in-Some.is c.next.ensures.steps in
    let on = counts_on c.args.pages q c.pages_event.result more c.pages_event.ensures in
    at_err c.from_residual.result _ (cut_short json_is _ _ _ _ c.loop-quantum.invariant.written _ _ on _ c.in_err-write_line.ensures.err)

pub loop-quantum-preserved : goal.loop-quantum-preserved
loop-quantum-preserved g c =
    let q : Turn = (c.in-Some.quantum.now, c.in-Some.start.now) in
    let more = Zip-more c.loop-quantum.quantum-iterator c.next.new.self c.next.result (c.in-Some.quantum, c.in-Some.start) c.in-Some.is c.next.ensures.steps in
    let on = counts_on c.args.pages q c.pages_event.result more c.pages_event.ensures in
    record {
      written = further json_is _ _ _ _ c.loop-quantum.invariant.written _ _ on _ c.in_ok-write_line.ensures.ok;
      failures = omega (arith, c.in_ok-write_line.ensures.cause, c.loop-quantum.invariant.failures);
    }

pub returns-clause-ok : goal.returns-clause-ok
returns-clause-ok g c =
    let it = c.loop-quantum.quantum-iterator in
    let none = no_turn _ _ (either_empty_from_Zip it c.next.new.self c.next.result c.in-None.is c.next.ensures.steps) in
    all_of _ _ _ _ c.loop-quantum.invariant.written (ap (counts_of c.args.pages) none)
