pub mod Admissions
pub mod Capabilities
pub mod Controllers
pub mod Examples
pub mod Namespaces
pub mod Status
