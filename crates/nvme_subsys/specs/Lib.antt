pub mod Sound
pub mod Marked
pub mod OverMedium
pub mod Looking
