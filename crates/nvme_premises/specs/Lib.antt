pub mod Events
pub mod FleetEvents
