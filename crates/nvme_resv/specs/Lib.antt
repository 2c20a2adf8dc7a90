pub use Rattle.nvme_spec.specs.Reservation
pub use Rattle.nvme_spec.specs.Report
pub mod Answers
pub mod Leaving
pub mod Places
