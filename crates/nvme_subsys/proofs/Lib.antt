pub mod Numbers
pub mod Sound
pub mod Openings
pub mod Runs
pub mod Unmarked
pub mod Counts
pub mod OverMedium
pub mod Cycled
