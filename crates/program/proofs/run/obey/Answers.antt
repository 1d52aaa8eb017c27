use Rattle.std.proofs.Common.{Some, inl, inr, ap, take, refl, subst, sym, rules, arith}
use Rattle.std.specs.Io.KnownBytes.{prepend_known}
use Rattle.trace.specs.ReadSource.{source_reader, source_given, source_failures, source_ended}
use Rattle.trace.specs.Streams.{taken_by}
use Rattle.program.specs.Faults.{IsUnreadable}
use Rattle.program.specs.Files.{KnownFiles, no_file, read_from}
use Rattle.program.proofs.Finishing.{failed_so}
use Rattle.program.proofs.Failing.{unreadable_unwritten, configs_unwritten}
use Rattle.program.proofs.Obeying.{reader_stays, job_from, job_of, job_on, reads_told, other_input, other_named, other_none}
use Rattle.program.proofs.Reading.{none_taken}
use Rattle.program.proofs.run.obey.Goals as goal

pub returns-in_err-configs : goal.returns-in_err-configs
returns-in_err-configs g c =
    let named = g.O.Opener.known c.args.host.now.opener.now in
    let fault = c.in_err-configs.field-0.0 in
    record {
      done = inr (fault, inl c.in_err-configs.ensures.err, (failed_so c.from_residual.result _ c.from_residual.ensures.1, refl));
      writes = omega (arith, configs_unwritten c.from_residual.result named c.args.words fault c.from_residual.ensures.1 c.in_err-configs.ensures.err);
    }

pub returns-in_err-file : goal.returns-in_err-file
returns-in_err-file g c =
    let files : KnownFiles = record { named = g.O.Opener.known c.args.host.now.opener.now; input = read_from (g.R.Read.remaining c.args.input) } in
    let words = c.args.words in
    let fault = c.in_err-file.field-0.0 in
    let name = c.in-Some.name in
    let failed = (files.named name.now).failed in
    let other = subst (λ f. IsUnreadable f.failed fault) (sym (other_named files words.file name c.in-Some.is c.if-eq.ensures)) c.in_err-file.ensures.err in
    record {
      done = inr (fault, inr (c.in_ok-configs.configs, c.in_ok-configs.ensures.ok, other), (failed_so c.from_residual-in_err-file.result _ c.from_residual-in_err-file.ensures.1, refl));
      writes = omega (arith, unreadable_unwritten c.from_residual-in_err-file.result failed fault c.from_residual-in_err-file.ensures.1 c.in_err-file.ensures.err);
    }

pub returns-then-eq-clause-done : goal.returns-then-eq-clause-done
returns-then-eq-clause-done g c =
    let files : KnownFiles = record { named = g.O.Opener.known c.args.host.now.opener.now; input = read_from (g.R.Read.remaining c.args.input) } in
    let words = c.args.words in
    let taken = taken_by g.K.Sink.taken g.K.Sink.sent c.args.sink.now c.serve-then-eq.new.sink in
    let served = c.serve-then-eq.ensures.done in
    let new = c.new-source.ensures in
    let stays = reader_stays g.R.Read.remaining c.args.input (source_reader c.new-source.result) (source_given c.new-source.result) new.given new.reader in
    let done = job_from files.input (λ s. source_given s) (λ s. source_ended s) (λ s. source_failures s) (λ s. prepend_known (source_given s) (g.R.Read.remaining (source_reader s))) c.new-source.result served.0 c.args.job.now c.in_ok-configs.configs taken c.serve-then-eq.result (new.given, new.failures, stays, λ later few. refl) served.1 served.2 served.3 in
    inl (c.in_ok-configs.configs, c.in_ok-configs.ensures.ok, job_of files.input _ c.args.job.now c.in_ok-configs.configs taken c.serve-then-eq.result (other_input files words.file c.in-Some.name c.in-Some.is c.if-eq.ensures) done)

pub returns-clause-done : goal.returns-clause-done
returns-clause-done g c =
    let files : KnownFiles = record { named = g.O.Opener.known c.args.host.now.opener.now; input = read_from (g.R.Read.remaining c.args.input) } in
    let named = files.named c.in-Some.name.now in
    let words = c.args.words in
    let taken = taken_by g.K.Sink.taken g.K.Sink.sent c.args.sink.now c.serve-2.new.sink in
    let served = c.serve-2.ensures.done in
    let done = job_from named g.O.File.Source.given g.O.File.Source.ended g.O.File.Source.failures g.O.File.Source.input c.in_ok-file.file served.0 c.args.job.now c.in_ok-configs.configs taken c.serve-2.result c.in_ok-file.ensures.opened served.1 served.2 served.3 in
    inl (c.in_ok-configs.configs, c.in_ok-configs.ensures.ok, job_of named _ c.args.job.now c.in_ok-configs.configs taken c.serve-2.result (other_named files words.file c.in-Some.name c.in-Some.is c.if-eq.ensures) done)

pub serve-requires : goal.serve-requires
serve-requires g c = search (rules, none_taken c.new-nothing.result c.new-nothing.ensures.place)

pub returns-in_default-clause-done : goal.returns-in_default-clause-done
returns-in_default-clause-done g c =
    let files : KnownFiles = record { named = g.O.Opener.known c.args.host.now.opener.now; input = read_from (g.R.Read.remaining c.args.input) } in
    let job = c.args.job.now in
    let configs = c.in_ok-configs.configs in
    let taken = taken_by g.K.Sink.taken g.K.Sink.sent c.args.sink.now c.serve.new.sink in
    let none = c.new-nothing.result in
    let served = c.serve.ensures.done in
    let first = ap (λ n. take n none.bytes.now) c.new-nothing.ensures.place in
    let reads = reads_told no_file (λ _. 0) none served.0 c.serve.result refl (λ later few. absurd (omega (arith, few))) served.2 in
    let done = job_on _ no_file (Some none.bytes.now) job configs taken c.serve.result first (ap Some c.new-nothing.ensures.bytes) served.1 served.3 reads in
    inl (configs, c.in_ok-configs.ensures.ok, job_of no_file _ job configs taken c.serve.result (other_none files c.args.words.file c.in_default.is) done)
