pub mod Turns
pub mod Judged
pub mod PageBlocks
pub mod AllPieces
pub mod Placing
pub mod BlockPlaces
