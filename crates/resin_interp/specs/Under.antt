-- What this crate stands on, passed on to the crates above, which list this one alone.
pub use Rattle.resin_eval_calls.specs.Under.base
pub use Rattle.resin_eval_calls.specs.Under.eval_nested
pub use Rattle.resin_eval_calls.specs.Under.journal
pub use Rattle.resin_eval_calls.specs.Under.machine
pub use Rattle.resin_eval_calls.specs.Under.meaning
pub use Rattle.resin_eval_calls.specs.Under.meaning_forms
pub use Rattle.resin_eval_calls.specs.Under.scope
pub use Rattle.resin_eval_calls.specs.Under.stage
pub use Rattle.resin_eval_calls.specs.Under.store
pub use Rattle.resin_eval_calls.specs.Under.target
pub use Rattle.resin_eval_calls.specs.Under.tree
