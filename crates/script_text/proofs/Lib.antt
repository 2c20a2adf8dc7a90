mod DecodeLemmas
mod EncodingLemmas
mod FillLemmas
pub mod FrontLemmas
pub mod HexNumberLemmas
mod HexTextLemmas
mod LaneLemmas
mod LineLemmas
pub mod LineLengths
pub mod OnLiterals
pub mod NumberLemmas
pub mod PageLemmas
mod ReadingLemmas
mod StreamLaws
mod TrimLemmas
pub mod WordLemmas
pub mod WritingLemmas
