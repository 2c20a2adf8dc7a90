pub mod ByValue
pub mod Marks
