pub mod Causes
pub mod Laws
pub mod Examples
pub mod Journals
pub mod Destinations
pub mod OwnData
