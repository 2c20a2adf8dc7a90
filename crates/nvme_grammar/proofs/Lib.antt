mod ArityLemmas
mod IdentifierLemmas
mod JudgedLemmas
mod KeptLemmas
pub mod LawLemmas
pub mod OnLiterals
pub mod ReadingLemmas
mod ScriptLemmas
mod EventLemmas
mod FaultLemmas
mod TieLemmas
mod TieKeywords
mod NumericLemmas
mod SentenceLemmas
pub mod FirstFaults
