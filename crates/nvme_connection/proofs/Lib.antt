mod Data
mod Facts
mod Gathering
mod Kept
mod Raws
mod Reading
mod Streams
mod Verdicts
