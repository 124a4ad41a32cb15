-- What this crate stands on, passed on to the crates above, which list this one alone.
pub use Rattle.resin_eval_nested.specs.Under.base
pub use Rattle.resin_eval_nested.specs.Under.builtin
pub use Rattle.resin_eval_nested.specs as eval_nested
pub use Rattle.resin_eval_nested.specs.Under.heap
pub use Rattle.resin_eval_nested.specs.Under.journal
pub use Rattle.resin_eval_nested.specs.Under.label
pub use Rattle.resin_eval_nested.specs.Under.lstr
pub use Rattle.resin_eval_nested.specs.Under.machine
pub use Rattle.resin_eval_nested.specs.Under.meaning
pub use Rattle.resin_eval_nested.specs.Under.meaning_forms
pub use Rattle.resin_eval_nested.specs.Under.meaning_tables
pub use Rattle.resin_eval_nested.specs.Under.ops
pub use Rattle.resin_eval_nested.specs.Under.scalar
pub use Rattle.resin_eval_nested.specs.Under.scope
pub use Rattle.resin_eval_nested.specs.Under.stage
pub use Rattle.resin_eval_nested.specs.Under.step_objects
pub use Rattle.resin_eval_nested.specs.Under.step_parts
pub use Rattle.resin_eval_nested.specs.Under.store
pub use Rattle.resin_eval_nested.specs.Under.target
pub use Rattle.resin_eval_nested.specs.Under.tree
pub use Rattle.resin_eval_nested.specs.Under.value
