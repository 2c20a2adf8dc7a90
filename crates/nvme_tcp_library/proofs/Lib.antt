mod Outcomes
mod ReadBack
pub mod TransferValues
pub mod Values
pub mod Verdicts
mod CapsulesRead
pub mod Determined
