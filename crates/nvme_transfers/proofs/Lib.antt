mod Fitting
mod Slots
mod Steps
mod Lists
pub mod Ordered
pub mod Flights
pub mod OwnParts
mod PartsOnce
pub mod Ending
mod Completing
mod Rooms
