pub mod States
pub mod Entries
pub mod Responses
pub mod Runs
pub mod Laws
pub mod Examples
