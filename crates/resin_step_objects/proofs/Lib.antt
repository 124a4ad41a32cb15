pub mod ConstantValues
pub mod Found
-- Passed on to the crates above, which list this one alone.
pub use Rattle.resin_step_functions.proofs.bytes_lemmas
pub use Rattle.resin_step_functions.proofs.label_lemmas
pub use Rattle.resin_step_functions.proofs.meaning_lemmas
pub use Rattle.resin_step_functions.proofs.step_parts_lemmas
pub use Rattle.resin_step_functions.proofs.target_lemmas
