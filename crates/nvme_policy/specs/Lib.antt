pub mod Examples
pub use Rattle.nvme_spec.specs.World
pub use Rattle.nvme_spec.specs.Commands
pub use Rattle.nvme_spec.specs.Rules
pub use Rattle.nvme_spec.specs.IoRules
