pub mod Carried
-- Passed on to the crates above, which list this one alone.
pub use Rattle.resin_meaning.proofs as meaning_lemmas
