mod Places
mod Plans
mod Projections
mod Outcomes
mod OwnData
mod Admission
mod Ending
pub mod Queues
