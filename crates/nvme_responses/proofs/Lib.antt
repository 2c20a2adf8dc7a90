mod Taking
pub mod Tallies
pub mod Steps
pub mod EachOnce
mod Stages
pub mod Waiting
mod Heads
pub mod Ending
mod Fields
