pub mod Pairs
pub mod Keeps
pub mod Numbered
pub mod Compared
pub mod LawLemmas
-- Passed on to the crates above, which list this one alone.
pub use Rattle.resin_bytes.proofs as bytes_lemmas
pub use Rattle.resin_label.proofs as label_lemmas
