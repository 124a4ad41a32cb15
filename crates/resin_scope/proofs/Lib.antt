pub mod NameLemmas
pub mod StackLemmas
pub mod ChainLemmas
pub mod StandingLemmas
pub mod PageLemmas
-- Passed on to the crates above, which list this one alone.
pub use Rattle.resin_value.proofs.label_lemmas
