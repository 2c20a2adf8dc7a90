pub mod Spelling
pub mod Named
