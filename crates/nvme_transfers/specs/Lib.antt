pub mod Parts
pub mod States
pub mod Transfers
pub mod Storing
pub mod Runs
pub mod Laws
pub mod Examples
