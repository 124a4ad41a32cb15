pub mod Laws
pub mod Tied
pub mod Innermost
pub mod Plain
pub mod Orders
pub mod Fronts
-- Passed on to the crates above, which list this one alone.
pub use Rattle.resin_scope.proofs as scope_lemmas
