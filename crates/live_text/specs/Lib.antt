pub use Rattle.script_text.specs.Words
pub use Rattle.nvme_grammar.specs.LineFaults
pub mod LookingWords
pub mod Forms
pub mod Looking
pub mod Faults
pub mod Asking
