pub mod Buffers
pub mod Queues
pub mod Entries
pub mod Areas
pub mod Laws
pub mod Stores
pub mod Executions
pub mod Examples
