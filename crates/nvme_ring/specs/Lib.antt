pub use Rattle.nvme_spec.specs.Queues
