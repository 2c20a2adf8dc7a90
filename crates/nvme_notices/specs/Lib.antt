pub use Rattle.nvme_spec.specs.Reservation
pub use Rattle.nvme_spec.specs.Report
pub mod Hearing
pub mod Keeping
pub mod Runs
pub mod Examples
