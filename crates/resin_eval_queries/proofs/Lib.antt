pub mod CellLemmas
pub mod Refusals
pub mod RowLemmas
pub mod TotalLemmas
pub mod Values
-- Passed on to the crates above, which list this one alone.
pub use Rattle.resin_eval_writes.proofs.eval_nested_lemmas
pub use Rattle.resin_eval_writes.proofs.meaning_lemmas
pub use Rattle.resin_eval_writes.proofs.step_parts_lemmas
pub use Rattle.resin_eval_writes.proofs.target_lemmas
