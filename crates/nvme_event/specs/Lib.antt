pub mod Bare
pub mod Events
pub mod Replies
