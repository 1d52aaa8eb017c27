pub mod ConfigFile
pub mod TomlTable
