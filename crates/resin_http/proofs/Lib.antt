pub mod FieldLemmas
pub mod LineLemmas
pub mod HeadLemmas
pub mod StreamLemmas
pub mod ShortestLemmas
pub mod MarkLemmas
pub mod WaitLemmas
