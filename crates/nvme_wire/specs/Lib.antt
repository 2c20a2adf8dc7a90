pub mod Entry
pub mod Submission
pub mod Completion
pub mod EntryLaws
pub mod StatusNames
