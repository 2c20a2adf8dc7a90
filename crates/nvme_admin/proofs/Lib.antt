pub mod Structures
pub mod Executing
