-- What this crate stands on, passed on to the crates above, which list this one alone.
pub use Rattle.resin_eval_nested.specs.Under.builtin
pub use Rattle.resin_eval_nested.specs as eval_nested
pub use Rattle.resin_eval_nested.specs.Under.label
pub use Rattle.resin_eval_nested.specs.Under.lstr
pub use Rattle.resin_eval_nested.specs.Under.machine
pub use Rattle.resin_eval_nested.specs.Under.meaning
pub use Rattle.resin_eval_nested.specs.Under.meaning_forms
pub use Rattle.resin_eval_nested.specs.Under.target
pub use Rattle.resin_eval_nested.specs.Under.tree
pub use Rattle.resin_eval_nested.specs.Under.value
