-- Passed on to the crates above, which list this one alone.
pub use Rattle.resin_value.proofs as value_lemmas
