-- A run of the program: the job for which its words ask, done on the bytes of its files.
use Rattle.std.specs.Prelude.{◌≡◌, ℕ, ◌<◌, ◌≤◌, ◌⊎◌, IsTrue, if◌then◌else◌, List, [], ◌++◌, length, codes, Option, Some, None, IfSome, Result, Err}
use Rattle.std.specs.Borrow.{Bor}
use Rattle.std.specs.Str.{bytes_eq}
use Rattle.command_line.specs.Job.{words_of}
use Rattle.command_line.specs.Words.{IsAskedForBy, AsksForHelp}
use Rattle.command_line.specs.declared.job.Job.{Job}
use Rattle.command_line.specs.declared.job.Words.{Words}
use Rattle.trace.specs.Streams.{Given, Taken, Begins}
use Rattle.program.specs.declared.configs.Configs.{Configs}
use Rattle.program.specs.declared.fault.Ending.{Ending}
use Rattle.program.specs.declared.fault.Ending.TheVariants.{Done}
use Rattle.program.specs.declared.fault.RunFault.{RunFault}
use Rattle.program.specs.declared.fault.RunFault.TheVariants.{Text}
use Rattle.trace.specs.declared.fault.PlayFault.TheVariants.{Write}
use Rattle.program.specs.Files.{KnownFile, KnownFiles, no_file}
use Rattle.program.specs.Configs.{AreConfigs, AreNotRead}
use Rattle.program.specs.Done.{JobDone}
use Rattle.program.specs.Faults.{failed_reads, failed_writes, IsUnreadable, IsOfWords}
use Rattle.program.specs.Told.{TextWritten}

-- the line that says why words are refused
abbrev pub words_line : List ℕ → List ℕ
words_line text = codes "metronome: " ++ (text ++ codes "\n")

-- A run ended in a fault, and nothing was written.
abbrev pub NothingDone : RunFault → Taken → Result Ending RunFault → Type 0
NothingDone fault taken how = (how ≡ Err fault) × (taken.after ≡ taken.before)

-- A run was done, while its sink had sent on `sent` bytes, and then ends so. If a write had failed, no other was tried.
-- Else the sink was flushed: all that it took is sent on, or a write failed before that.
abbrev pub Flushes : ℕ → Taken → Result Ending RunFault → Result Ending RunFault → Type 0
Flushes sent taken done how =
    ((0 < failed_writes done) × (how ≡ done) × (taken.sent ≡ sent))
    ⊎ ((failed_writes done ≡ 0) × (sent ≤ taken.sent)
    × (((how ≡ done) × (taken.sent ≡ length taken.after))
    ⊎ ((how ≡ Err (Text Write)) × (taken.sent < length taken.after))))

-- If the bytes are known and no read failed, a run was given a beginning of them, or all, if it found their end.
abbrev pub IsGivenOf : Option (List ℕ) → Given → Result Ending RunFault → Type 0
IsGivenOf bytes given how = failed_reads how ≡ 0 → IfSome bytes (λ all. Begins given.after given.ended all)

-- A job was done from the beginning of this file. If it ended in a failed read, a read of the file failed.
abbrev pub JobDoneOn : KnownFile → Job → Configs → Taken → Result Ending RunFault → Type 0
JobDoneOn file job configs taken how = (given : Given) × (given.before ≡ []) × IsGivenOf file.bytes given how
    × JobDone job configs given taken how × (0 < failed_reads how → IsTrue file.failed)

module _ (files : KnownFiles) where
  -- the job's other file: standard input, or the file of its name; a file without bytes, if it has no other
  abbrev pub other_file : Option (Bor (List ℕ)) → KnownFile
  other_file None = no_file
  other_file (Some name) = if bytes_eq name.now (codes "-") then files.input else files.named name.now

  -- The configurations were read, and the job was done on the other file, if it has one. Or a configuration wasn't read;
  -- or they were, and the other file couldn't be read.
  abbrev pub Obeyed : Words → Job → Taken → Result Ending RunFault → Type 0
  Obeyed words job taken how =
      ((configs : Configs) × AreConfigs files.named words configs
      × JobDoneOn (other_file words.file) job configs taken how)
      ⊎ ((fault : RunFault)
      × (AreNotRead files.named words fault
      ⊎ ((configs : Configs) × AreConfigs files.named words configs × IsUnreadable (other_file words.file).failed fault))
      × NothingDone fault taken how)

  -- The words ask for a job, which was done; or for help, which was written. Or they were refused; or memory was.
  abbrev pub RunDone : List (List ℕ) → Taken → Result Ending RunFault → Type 0
  RunDone words taken how =
      ((job : Job) × IsAskedForBy words job × Obeyed (words_of job) job taken how)
      ⊎ ((AsksForHelp words × (help : List ℕ) × TextWritten Done help taken how)
      ⊎ ((fault : RunFault) × IsOfWords fault × NothingDone fault taken how))

  -- A run was done, and then its sink was flushed.
  abbrev pub RunFlushed : List (List ℕ) → Taken → Result Ending RunFault → Type 0
  RunFlushed words taken how = (sent : ℕ) × (done : Result Ending RunFault)
      × RunDone words (record taken { sent = sent }) done × Flushes sent taken done how
