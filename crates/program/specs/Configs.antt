-- The configurations of a run, read from their files.
use Rattle.std.specs.Prelude.{◌≡◌, ◌⊎◌, ℕ, List, Option, Some, None, IfSome, Ok, Err}
use Rattle.std.specs.Borrow.{Bor}
use Rattle.size_classes.specs.declared.config.Config.{Config}
use Rattle.size_classes.specs.declared.fault.ConfigFault.{ConfigFault}
use Rattle.documents.specs.ConfigFile.{IsRead}
use Rattle.documents.specs.declared.toml_table.ReadFault.{ReadFault}
use Rattle.command_line.specs.declared.job.Words.{Words}
use Rattle.program.specs.declared.configs.Configs.{Configs}
use Rattle.program.specs.declared.configs.NamedConfig.{NamedConfig}
use Rattle.program.specs.declared.fault.RunFault.{RunFault}
use Rattle.program.specs.Faults.{of_settings, IsUnreadable}
use Rattle.program.specs.Files.{KnownFile}

-- A configuration wasn't read from this file: it was refused, or the file can't be read.
abbrev pub IsNotRead : KnownFile → RunFault → Type 0
IsNotRead file fault =
    ((why : ReadFault ConfigFault) × IfSome file.bytes (λ all. IsRead all (Err why)) × (fault ≡ of_settings why))
    ⊎ IsUnreadable file.failed fault

-- Files by their names, as far as they are known.
module _ (named : List ℕ → KnownFile) where
  -- The configuration was read from the bytes of this file, if they are known.
  abbrev pub ConfigRead : List ℕ → Config → Type 0
  ConfigRead name config = IfSome (named name).bytes (λ all. IsRead all (Ok config))

  -- The configuration on which a run is compared was read, if words name its file.
  abbrev pub ComparedRead : Option (Bor (List ℕ)) → Option NamedConfig → Type 0
  ComparedRead None None = Unit {0}
  ComparedRead (Some name) (Some other) = (other.name ≡ name) × ConfigRead name.now other.config
  ComparedRead None (Some other) = ⊥
  ComparedRead (Some name) None = ⊥

  -- The configurations that words name were read.
  pub record AreConfigs (words : Words) (configs : Configs) : Type 0 where
    pub config : ConfigRead words.config.now configs.config
    pub compare : ComparedRead words.compare configs.compare

  -- The first configuration wasn't read; or it was, and the one on which the run is compared wasn't.
  abbrev pub AreNotRead : Words → RunFault → Type 0
  AreNotRead words fault =
      IsNotRead (named words.config.now) fault
      ⊎ ((config : Config) × ConfigRead words.config.now config × (name : Bor (List ℕ)) × (words.compare ≡ Some name)
      × IsNotRead (named name.now) fault)
