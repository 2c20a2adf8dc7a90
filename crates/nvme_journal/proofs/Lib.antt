pub mod Worlds
pub mod Again
pub mod AdminAgain
pub mod Alike
pub mod Enough
