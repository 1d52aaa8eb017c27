pub mod Finishing
pub mod Writing
pub mod Reading
pub mod Telling
mod MadeText
pub mod Failing
pub mod Below
pub mod Alive
mod Trials
mod Obeying
pub mod Flushing
