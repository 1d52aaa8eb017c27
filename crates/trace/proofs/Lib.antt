pub mod Numbers
pub mod Exact
pub mod Fronts
mod Keywords
mod Lanes
pub mod ReadCommands
pub mod ReadLines
pub mod Streaming
pub mod Feeds
pub mod Cutting
pub mod ReadReplies
pub mod ReadEntries
pub mod LinesProcessed
pub mod Handling
pub mod Reading
pub mod Cuts
pub mod Doing
pub mod First
pub mod Lines
pub mod Ticking
pub mod Promised
pub mod Sent
pub mod Held
pub mod Seeing
pub mod LinesSeen
