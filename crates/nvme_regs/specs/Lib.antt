pub use Rattle.nvme_spec.specs.Registers
pub use Rattle.nvme_spec.specs.RegisterLaws
pub mod Shown
pub mod Configuring
