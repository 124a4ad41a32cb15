pub mod CutLemmas
pub mod PutLemmas
pub mod CookieLemmas
pub mod EntryLemmas
