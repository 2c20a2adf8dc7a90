pub mod Views
pub mod Lanes
pub mod Sound
pub mod Steps
pub mod Links
