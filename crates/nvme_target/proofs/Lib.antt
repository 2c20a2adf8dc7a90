pub mod Owners
pub mod Wire
pub mod Openings
pub mod ExampleSessions
pub mod Journals
pub mod Replays
mod Destinations
pub mod OwnData
