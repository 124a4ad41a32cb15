pub mod Guarded
pub mod Marks
pub mod Numbers
pub mod Spent
pub mod step_parts_lemmas
-- Passed on to the crates above, which list this one alone.
pub use Rattle.resin_step_parts.proofs.bytes_lemmas
pub use Rattle.resin_step_parts.proofs.label_lemmas
pub use Rattle.resin_step_parts.proofs.meaning_lemmas
pub use Rattle.resin_step_parts.proofs.target_lemmas
