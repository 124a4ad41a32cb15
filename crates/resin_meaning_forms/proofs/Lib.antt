-- Passed on to the crates above, which list this one alone.
pub use Rattle.resin_builtin.proofs as builtin_lemmas
pub use Rattle.resin_builtin.proofs.bytes_lemmas
pub use Rattle.resin_builtin.proofs.label_lemmas
pub use Rattle.resin_meaning_tables.proofs.meaning_lemmas
pub use Rattle.resin_target.proofs as target_lemmas
