pub mod Placing
pub mod Changing
pub mod Numbered
pub mod Attaching
pub mod Opened
pub mod Telling
pub mod Refusals
