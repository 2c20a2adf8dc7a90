pub use Rattle.live_text.specs.Faults
pub use Rattle.live_text.specs.Looking
pub mod Showing
pub mod Shown
pub mod Looks
