mod Found
mod Subcommands
