pub mod Exits
pub mod Orders
pub mod Others
pub mod Prepared
pub mod HeaderLines
pub mod WriteLemmas
pub mod eval_nested_lemmas
-- Passed on to the crates above, which list this one alone.
pub use Rattle.resin_eval_nested.proofs.meaning_lemmas
pub use Rattle.resin_eval_nested.proofs.step_parts_lemmas
pub use Rattle.resin_eval_nested.proofs.target_lemmas
