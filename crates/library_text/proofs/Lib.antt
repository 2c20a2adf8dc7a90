mod AnswerLemmas
mod PuttingLemmas
mod ReadingLemmas
