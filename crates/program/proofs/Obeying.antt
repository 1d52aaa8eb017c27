-- From the bytes of files to a job that is done.
use Rattle.std.proofs.Common.{◌≡◌, ℕ, ◌+◌, ◌<◌, ◌≤◌, ◌⊎◌, inl, inr, Bool, true, false, List, [], ◌++◌, length, length-take, take, take_all, append-nil, Option, Some, None, ap, ◌∙◌, sym, subst, refl, arith}
use Rattle.std.specs.Borrow.{Bor}
use Rattle.std.specs.Io.KnownBytes.{prepend_known}
use Rattle.std.specs.Str.{bytes_eq}
use Rattle.std.proofs.Math.Seq.{take-append_seam}
use Rattle.std.proofs.lemmas.Option.{same_Some}
use Rattle.std.specs.Prelude.{codes, nat_lt, if◌then◌else◌, IsTrue, IfSome, IfOk, Result, Ok, Err}
use Rattle.size_classes.specs.declared.config.Config.{Config}
use Rattle.size_classes.specs.declared.fault.ConfigFault.{ConfigFault}
use Rattle.size_classes.specs.declared.fault.ConfigFault.TheVariants as faults
use Rattle.documents.specs.ConfigFile.{IsRead, file_fault, fault_in}
use Rattle.documents.specs.TomlTable.{document_of}
use Rattle.command_line.specs.declared.job.Job.{Job}
use Rattle.documents.specs.declared.toml_table.ReadFault.{ReadFault}
use Rattle.documents.specs.declared.toml_table.ReadFault.TheVariants.{Refused, NoMemory}
use Rattle.trace.specs.Streams.{Given, Taken, Stays, Begins, given_by}
use Rattle.program.specs.declared.configs.Configs.{Configs}
use Rattle.program.specs.declared.fault.Ending.{Ending}
use Rattle.trace.proofs.LinesProcessed.{stays_on}
use Rattle.program.specs.declared.fault.RunFault.{RunFault}
use Rattle.program.specs.Faults.{failed_reads}
use Rattle.program.specs.Files.{KnownFile, KnownFiles, no_file, IsOpened, IsFront, document_bytes}
use Rattle.program.specs.Texts.{IsRest}
use Rattle.program.specs.Done.{JobDone}
use Rattle.program.specs.Run.{other_file, IsGivenOf, JobDoneOn}

-- If known bytes stay known, a beginning of the new ones is a beginning of the old ones.
pub begins_on : (old new : Option (List ℕ)) (given : List ℕ) (ended : Bool) → Stays old new → IfSome new (λ all. Begins given ended all) → IfSome old (λ all. Begins given ended all)
begins_on None new given ended s b = tt
begins_on (Some all) new given ended s b = subst (λ (o : Option (List ℕ)). IfSome o (λ x. Begins given ended x)) s b

pub stays_from : {S : Type 0} (new : Option (List ℕ)) (input : S → Option (List ℕ)) (first old : S) → old ≡ first → Stays (input old) new → Stays (input first) new
stays_from new input first old e h = subst (λ s. Stays (input s) new) e h

-- A reader that has given nothing still has all its bytes.
none_before : (o : Option (List ℕ)) → Stays o (prepend_known [] o)
none_before None = tt
none_before (Some all) = refl

pub reader_stays : {R : Type 0} (remaining : R → Option (List ℕ)) (reader now : R) (given : List ℕ) → given ≡ [] → now ≡ reader → Stays (remaining reader) (prepend_known given (remaining now))
reader_stays remaining reader now given first same =
    subst (λ r. Stays (remaining reader) (prepend_known given (remaining r))) (sym same)
    (subst (λ (bytes : List ℕ). Stays (remaining reader) (prepend_known bytes (remaining reader))) (sym first) (none_before (remaining reader)))

-- A document is read up to the byte that shows that it is too long.
front_is : (n : ℕ) (xs ys : List ℕ) → n ≡ length xs → take n (xs ++ ys) ≡ xs
front_is n xs ys e = ap (λ k. take k (xs ++ ys)) e ∙ take-append_seam xs ys

pub document_read : (known input : Option (List ℕ)) (given : Given) (got : List ℕ) → Stays known input → given.before ≡ [] → IfSome input (λ all. Begins given.after given.ended all) → IsFront (Some 65537) given got
    → IfSome known (λ all. got ≡ document_bytes all)
document_read None input given got s first b f = tt
document_read (Some all) input given got s first b f =
    let begins : Begins given.after given.ended all = begins_on (Some all) input given.after given.ended s b in
    let came : given.after ≡ got = f.0 ∙ ap (λ x. x ++ got) first in
    let whole : all ≡ got ++ begins.rest = begins.whole ∙ ap (λ x. x ++ begins.rest) came in
    elim f.2 [
      | inl ended ↦ sym (ap (take 65537) (whole ∙ ap (λ r. got ++ r) (begins.over ended) ∙ append-nil got) ∙ take_all 65537 got f.1)
      | inr full ↦ sym (ap (take 65537) whole ∙ front_is 65537 got begins.rest (same_Some 65537 (length got) full))
    ]

-- The bytes of a document that could be read are those of its file.
pub document_ok : {V : Type 0} (items : V → List ℕ) (known old new : Option (List ℕ)) (given : Given) (r : Result V RunFault) → Stays known old → given.before ≡ [] → (failed_reads r ≡ 0 → Stays old new) → IfSome new (λ all. Begins given.after given.ended all)
    → IfOk r (λ v. IsFront (Some 65537) given (items v)) → IfOk r (λ v. IfSome known (λ all. items v ≡ document_bytes all))
document_ok items known old new given (Ok v) s first stays begins front = document_read known new given (items v) (stays_on known old new s (stays refl)) first begins front
document_ok items known old new given (Err fault) s first stays begins front = tt

-- If there is no limit, all of a source is read.
pub rest_read : (given : Given) (text : List ℕ) → IsFront None given text → IsRest given text
rest_read given text f = (
  f.0,
  elim f.2 [
    | inl ended ↦ ended
    | inr full ↦ absurd (let z : None ≡ Some (length text) = full in cc)
  ],
)

-- A configuration that is too long has no other fault.
long_fault : (bytes : List ℕ) → 65536 < length bytes → file_fault bytes ≡ Some faults.TooLong
long_fault bytes long = by_test (nat_lt 65536 (length bytes)) (grind arith)
  where
    by_test : (b : Bool) → b ≡ true → (if b then Some faults.TooLong else fault_in (document_of bytes)) ≡ Some faults.TooLong
    by_test true e = refl
    by_test false e = absurd (cc)

-- So a beginning of it that is too long gives the same fault as all its bytes.
long_read : (all cut : List ℕ) (r : Result Config (ReadFault ConfigFault)) → 65536 < length all → 65536 < length cut → IsRead cut r → IsRead all r
long_read all cut (Ok config) long few h = absurd (let no : Some faults.TooLong ≡ None = sym (long_fault cut few) ∙ h.0 in cc)
long_read all cut (Err (Refused fault)) long few h = long_fault all long ∙ sym (long_fault cut few) ∙ h
long_read all cut (Err NoMemory) long few h = absurd (let short = h.short in omega (arith, short, few))

read_whole : (all : List ℕ) (r : Result Config (ReadFault ConfigFault)) → IsRead (document_bytes all) r → IsRead all r
read_whole all r h = elim (le_or (length all) 65536) [
  | inl short ↦ subst (λ b. IsRead b r) (take_all 65537 all (omega (arith, short))) h
  | inr large ↦ long_read all (document_bytes all) r large (omega (arith, large, length-take 65537 all)) h
]
  where
    le_or : (a b : ℕ) → (a ≤ b) ⊎ (b < a)
    le_or a b = grind arith

known_read : (known : Option (List ℕ)) (bytes : List ℕ) (r : Result Config (ReadFault ConfigFault)) → IfSome known (λ all. bytes ≡ document_bytes all) → IsRead bytes r → IfSome known (λ all. IsRead all r)
known_read None bytes r e h = tt
known_read (Some all) bytes r e h = read_whole all r (subst (λ b. IsRead b r) e h)

pub config_seen : (known : Option (List ℕ)) (bytes seen : List ℕ) (r : Result Config (ReadFault ConfigFault)) → IfSome known (λ all. bytes ≡ document_bytes all) → seen ≡ bytes → IsRead seen r → IfSome known (λ all. IsRead all r)
config_seen known bytes seen r e same h = known_read known bytes r e (subst (λ b. IsRead b r) same h)

-- A job that ends in a failed read has a file of which a read failed.
pub reads_told : {S : Type 0} (file : KnownFile) (failures : S → ℕ) (old new : S) (how : Result Ending RunFault) → failures old ≡ 0 → ((later : S) → 0 < failures later → IsTrue file.failed) → failures new ≡ failures old + failed_reads how → 0 < failed_reads how
    → IsTrue file.failed
reads_told file failures old new how none fails counts few = fails new (omega (arith, none, counts, few))

-- A job from a source is a job from the file that the source reads.
pub job_on : (given : Given) (file : KnownFile) (input : Option (List ℕ)) (job : Job) (configs : Configs) (taken : Taken) (how : Result Ending RunFault) → given.before ≡ [] → Stays file.bytes input → JobDone job configs given taken how → IsGivenOf input given how
    → (0 < failed_reads how → IsTrue file.failed) → JobDoneOn file job configs taken how
job_on given file input job configs taken how first stays done is reads = (given, first, (λ none. begins_on file.bytes input given.after given.ended stays (is none)), done, reads)

-- So it is a job from the file that was opened as its source.
pub job_from : {S : Type 0} (file : KnownFile) (given : S → List ℕ) (ended : S → Bool) (failures : S → ℕ) (input : S → Option (List ℕ)) (old new : S) (job : Job) (configs : Configs) (taken : Taken) (how : Result Ending RunFault) → IsOpened given failures input file old
    → JobDone job configs (given_by given ended old new) taken how → failures new ≡ failures old + failed_reads how → IsGivenOf (input old) (given_by given ended old new) how → JobDoneOn file job configs taken how
job_from file given ended failures input old new job configs taken how opened done counts is =
    job_on (given_by given ended old new) file (input old) job configs taken how opened.0 opened.2 done is (reads_told file failures old new how opened.1 opened.3 counts)

pub job_of : (file other : KnownFile) (job : Job) (configs : Configs) (taken : Taken) (how : Result Ending RunFault) → other ≡ file → JobDoneOn file job configs taken how → JobDoneOn other job configs taken how
job_of file other job configs taken how e done = subst (λ f. JobDoneOn f job configs taken how) (sym e) done

module _ (files : KnownFiles) where
  -- A job's other file is standard input, or the file of its name; or it has none.
  pub other_input : (file : Option (Bor (List ℕ))) (name : Bor (List ℕ)) → file ≡ Some name → true ≡ bytes_eq name.now (codes "-") → other_file files file ≡ files.input
  other_input file name so e = ap (other_file files) so ∙ ap (λ b. if b then files.input else files.named name.now) (sym e)

  pub other_named : (file : Option (Bor (List ℕ))) (name : Bor (List ℕ)) → file ≡ Some name → false ≡ bytes_eq name.now (codes "-") → other_file files file ≡ files.named name.now
  other_named file name so e = ap (other_file files) so ∙ ap (λ b. if b then files.input else files.named name.now) (sym e)

  pub other_none : (file : Option (Bor (List ℕ))) → file ≡ None → other_file files file ≡ no_file
  other_none file so = ap (other_file files) so
