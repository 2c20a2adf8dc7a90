pub mod Connections
pub mod Streams
pub mod Holding
pub mod Laws
pub mod Examples
pub mod Raws
