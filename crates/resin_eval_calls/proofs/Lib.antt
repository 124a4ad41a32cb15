pub mod Calling
pub mod Others
pub mod Seen
-- Passed on to the crates above, which list this one alone.
pub use Rattle.resin_eval_channels.proofs.eval_nested_lemmas
pub use Rattle.resin_eval_channels.proofs.meaning_lemmas
pub use Rattle.resin_eval_channels.proofs.step_parts_lemmas
pub use Rattle.resin_eval_channels.proofs.target_lemmas
pub use Rattle.resin_eval_channels.proofs.Holding as holding_lemmas
