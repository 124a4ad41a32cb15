pub mod Holding
pub mod Unfit
pub mod Values
-- Passed on to the crates above, which list this one alone.
pub use Rattle.resin_eval_queries.proofs.eval_nested_lemmas
pub use Rattle.resin_eval_queries.proofs.meaning_lemmas
pub use Rattle.resin_eval_queries.proofs.step_parts_lemmas
pub use Rattle.resin_eval_queries.proofs.target_lemmas
