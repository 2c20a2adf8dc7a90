pub mod Bringing
pub mod Bytes
pub mod CallLaws
pub mod Lent
pub mod OwnOrLent
