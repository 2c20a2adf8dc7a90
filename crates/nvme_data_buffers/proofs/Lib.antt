mod Listed
mod Pointers
mod Areas
mod Placed
pub mod OwnData
mod Returned
pub mod Stores
pub mod Executions
mod Fields
