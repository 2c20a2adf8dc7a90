pub use Rattle.nvme_grammar.specs.Line
pub use Rattle.nvme_grammar.specs.Keywords
pub use Rattle.nvme_spec.specs.Limits
pub mod LineTexts
pub mod LineLaws
