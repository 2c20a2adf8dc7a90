pub use Rattle.nvme_spec.specs.World
pub use Rattle.nvme_spec.specs.ExistingQueues
pub use Rattle.nvme_spec.specs.AdminCommands
pub use Rattle.nvme_spec.specs.AdminRules
pub use Rattle.nvme_spec.specs.AdminEffects
pub mod Executed
pub mod Admitted
pub mod Fields
