pub mod Transcript
pub mod Writing
pub mod Putting
