pub use Rattle.nvme_spec.specs.Bytes
pub use Rattle.nvme_spec.specs.Memory
pub mod Lends
