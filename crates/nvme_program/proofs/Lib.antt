mod Zeros
pub mod ProgramEnds
pub mod Guarded
mod CommandLine
pub mod Left
