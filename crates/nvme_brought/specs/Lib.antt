pub mod Brought
pub mod Places
pub mod Whole
pub mod CallLaws
