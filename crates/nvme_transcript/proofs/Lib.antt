pub mod OnLiterals
mod ShortLemmas
pub mod Unmarked
