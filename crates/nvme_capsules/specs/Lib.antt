pub mod Statuses
pub mod DataPlaces
pub mod Capsules
pub mod Outcomes
pub mod Destinations
pub mod Runs
pub mod Laws
pub mod Examples
