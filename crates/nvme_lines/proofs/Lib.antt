mod Wording
mod Numerals
mod Parts
mod Digits
mod Fitting
mod Keywords
mod ReadBack
mod Readings
pub mod ByValue
pub mod OnLiterals
