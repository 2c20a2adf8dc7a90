mod BestOf
mod Tables
mod Changes
pub mod RunLaws
pub mod OwnHosts
mod Refusals
