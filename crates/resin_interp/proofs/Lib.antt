pub mod Arms
pub mod Buffered
pub mod Cases
pub mod Counts
pub mod Exits
pub mod InputLemmas
pub mod Places
pub mod Rooms
pub mod Shapes
-- Passed on to the crates above, which list this one alone.
pub use Rattle.resin_eval_calls.proofs.eval_nested_lemmas
pub use Rattle.resin_eval_calls.proofs.meaning_lemmas
pub use Rattle.resin_eval_calls.proofs.holding_lemmas
