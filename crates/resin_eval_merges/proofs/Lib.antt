pub mod Arguments
pub mod Exits
pub mod Many_sets
pub mod Others
pub mod Own_merges
pub mod Steady
pub mod Unasked
pub mod eval_nested_lemmas
-- Passed on to the crates above, which list this one alone.
pub use Rattle.resin_eval_nested.proofs.meaning_lemmas
pub use Rattle.resin_eval_nested.proofs.step_parts_lemmas
