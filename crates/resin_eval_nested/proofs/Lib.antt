pub mod Arguments
pub mod Arms
pub mod Exits
pub mod Leaf_means
-- Passed on to the crates above, which list this one alone.
pub use Rattle.resin_step_objects.proofs.bytes_lemmas
pub use Rattle.resin_step_objects.proofs.label_lemmas
pub use Rattle.resin_step_objects.proofs.meaning_lemmas
pub use Rattle.resin_step_objects.proofs.step_parts_lemmas
pub use Rattle.resin_step_objects.proofs.target_lemmas
