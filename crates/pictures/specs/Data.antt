-- The data of a run, in JSON.
use Rattle.std.specs.Prelude.{◌≡◌, ℕ, List, [], ◌∷◌, ◌++◌, length, count_by, codes, decimal, Result, String, string_bytes}
use Rattle.std.specs.List.{concat}
use Rattle.std.specs.declared.alloc.Global.{Global}
use Rattle.size_classes.specs.Config.{cycle_limit_of}
use Rattle.size_classes.specs.declared.config.Config.{Config}
use Rattle.graph_heap.specs.declared.command.Entry.{Entry}
use Rattle.heap_model.specs.Event.{present_of}
use Rattle.heap_model.specs.State.{HeapState}
use Rattle.quanta.specs.Timetable.{Timetable}
use Rattle.trace.specs.Streams.{Given}
use Rattle.trace.specs.Player.{PlayerState}
use Rattle.trace.specs.Observing.{Moment, moment, Run, run_by}
use Rattle.trace.specs.Surveying.{NewRun, Surveyed}
use Rattle.trace.specs.declared.fault.PlayFault.{PlayFault}
use Rattle.inspector.specs.declared.cycles.cycle.Cycle.{Cycle}
use Rattle.inspector.specs.declared.cycles.log.Log.{Log}
use Rattle.inspector.specs.Cycles.{AreCycles}
use Rattle.inspector.specs.Log.{HasLogged}
use Rattle.inspector.specs.Made.{makes}
use Rattle.pictures.specs.declared.quantum_log.Quantum.{Quantum}
use Rattle.pictures.specs.declared.run_log.RunLog.{RunLog}
use Rattle.pictures.specs.declared.sample.Sample.{Sample}
use Rattle.pictures.specs.declared.sampler.Sampler.{Sampler}
use Rattle.pictures.specs.declared.share.Share.{Share}
use Rattle.pictures.specs.Json.{table_text}
use Rattle.pictures.specs.Quanta.{quanta_of, HasQuanta}
use Rattle.pictures.specs.Refused.{refusals_of}
use Rattle.pictures.specs.Sampler.{IsAlong}
use Rattle.pictures.specs.Samples.{AreSampled}
use Rattle.pictures.specs.Tables.{sample_row, quantum_row, cycle_row, share_row, refused_row, pages_table, ShapesTable, RootsTable}
use Rattle.pictures.specs.Utilisation.{AreShares, span_of}

-- the pages of a configuration, and its roots
abbrev pub room_text : Config → List ℕ
room_text c = codes "\"settings\":{\"pages\":" ++ (decimal c.pages ++ (codes ",\"mutators\":" ++ (decimal c.mutators
    ++ (codes ",\"slots\":" ++ (decimal c.slots ++ (codes ",\"statics\":" ++ decimal c.statics))))))

-- the identities of a configuration, and when it moves
abbrev pub moving_text : Config → List ℕ
moving_text c = codes ",\"identities\":\"" ++ (decimal c.identities ++ (codes "\",\"defrag_below\":"
    ++ (decimal c.defrag_below ++ (codes ",\"defrag_pages\":" ++ decimal c.defrag_pages))))

-- the schedule of a configuration, and its mutators that are live at first
abbrev pub schedule_text : Config → List ℕ
schedule_text c = codes ",\"collector_ticks\":" ++ (decimal c.collector_ticks ++ (codes ",\"mutator_ticks\":"
    ++ (decimal c.mutator_ticks ++ (codes ",\"rate\":" ++ (decimal c.rate ++ (codes ",\"live\":" ++ (decimal c.live
    ++ codes "},\n")))))))

-- the settings of a configuration
abbrev pub settings_text : Config → List ℕ
settings_text c = concat (room_text c ∷ moving_text c ∷ schedule_text c ∷ [])

-- how long a run was: its lines, its commands, the objects that these made, its ticks; and the units that a cycle spends at
-- most
abbrev pub lengths_text : ℕ → ℕ → ℕ → ℕ → ℕ → List ℕ
lengths_text lines commands made ticks most = codes "\"run\":{\"lines\":" ++ (decimal lines
    ++ (codes ",\"commands\":" ++ (decimal commands ++ (codes ",\"made\":" ++ (decimal made
    ++ (codes ",\"ticks\":" ++ (decimal ticks ++ (codes ",\"cycle_limit\":" ++ (decimal most ++ codes "},\n")))))))))

-- the length of a run that led to a player, from this many lines
abbrev pub counts_text : Config → PlayerState → ℕ → List ℕ
counts_text c p lines = lengths_text lines (length p.course.history) (count_by makes p.course.history)
    (span_of p.timetable) (cycle_limit_of c)

-- the table of the refusals of a history
abbrev pub refused_table : List Entry → List ℕ
refused_table history = table_text (codes "\"refused\":[[\"number\",\"count\"]") refused_row (refusals_of history)

-- the table of samples, each of as many moments as the stride says
abbrev pub samples_table : ℕ → List Sample → List ℕ
samples_table stride = table_text
    (codes "\"stride\":" ++ (decimal stride
    ++ codes ",\n\"samples\":[[\"line\",\"least\",\"most\",\"phases\",\"blocks\",\"words\"]"))
    sample_row

-- the table of quanta
abbrev pub quanta_table : List Quantum → List ℕ
quanta_table = table_text (codes "\"quanta\":[[\"commands\",\"units\",\"budget\",\"phase\"]") quantum_row

-- the table of cycles, with the figures of their report
abbrev pub cycles_table : List Cycle → List ℕ
cycles_table = table_text
    (codes "\"cycles\":[[\"line\",\"quanta\",\"units\",\"longest\",\"freed\",\"blocks\",\"kept\",\"moved\",\"before\",\"after\",\"made\"]")
    cycle_row

-- the table of windows
abbrev pub shares_table : List Share → List ℕ
shares_table = table_text (codes "\"windows\":[[\"ticks\",\"least\",\"promised\"]") share_row

-- The data of a run that led to a player, from this many lines.
pub record IsRunData (config : Config) (run : Run) (p : PlayerState) (lines : ℕ) (text : List ℕ) : Type 0 where
  pub stride : ℕ
  pub samples : List Sample
  pub are_samples : AreSampled (moment 0 run.first.heap ∷ run.moments) stride samples
  pub cycles : List Cycle
  pub are_cycles : AreCycles run.steps cycles
  pub shares : List Share
  pub are_shares : AreShares config p.timetable shares
  pub shapes : List ℕ
  pub are_shapes : ShapesTable p.course.heap shapes
  pub roots : List ℕ
  pub are_roots : RootsTable (present_of p.course) roots
  pub told : text ≡ concat (settings_text config ∷ counts_text config p lines ∷ refused_table p.course.history
      ∷ samples_table stride samples ∷ quanta_table (quanta_of run.steps) ∷ cycles_table cycles ∷ shares_table shares
      ∷ pages_table p.course.heap.store.pages ∷ shapes ∷ roots ∷ [])

-- the data of a run that played an input on a new player
abbrev pub TellsData : (config : Config) (given : Given) → NewRun config given → String Global → Type 0
TellsData config given run text =
    IsRunData config (run_by run.played) run.new.player (length run.played.over.lines) (string_bytes text)

-- an input is played on a new player, and these are the data of the run; or the fault is that with which playing it ends
abbrev pub DataTold : Config → Given → Result (String Global) PlayFault → Type 0
DataTold = Surveyed TellsData

-- the log of a run
abbrev pub HasRun : Run → RunLog → Type 0
HasRun run log = IsAlong (moment 0 run.first.heap ∷ run.moments) log.sampler × HasLogged run log.cycles
    × HasQuanta run.steps log.quanta

-- the table of the samples that a sampler took
abbrev pub SamplesText : Sampler → String Global → Type 0
SamplesText sampler text = (stride : ℕ) × (samples : List Sample)
    × ((moments : List Moment) → IsAlong moments sampler → AreSampled moments stride samples)
    × (string_bytes text ≡ samples_table stride samples)

-- the table of the cycles of a log, if the run ends at this heap
abbrev pub CyclesText : Log → HeapState → String Global → Type 0
CyclesText log h text = (cycles : List Cycle)
    × ((run : Run) → HasLogged run log → run.now.heap ≡ h → AreCycles run.steps cycles)
    × (string_bytes text ≡ cycles_table cycles)

-- the table of the windows of a timetable
abbrev pub SharesText : Config → Timetable → List ℕ → Type 0
SharesText config t text = (shares : List Share) × AreShares config t shares × (text ≡ shares_table shares)

-- the data of each run of which a log has this
abbrev pub IsNoted : Config → PlayerState → ℕ → RunLog → String Global → Type 0
IsNoted config p lines log text =
    (run : Run) → HasRun run log → run.now ≡ p.course → IsRunData config run p lines (string_bytes text)
