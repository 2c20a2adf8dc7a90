pub mod Overlay
pub mod InRoom
pub mod Puts
pub mod CallLaws
