pub mod Inside
pub mod CallLaws
pub mod Lodging
pub mod Same
pub mod Values
pub mod Whole
pub mod Writing
