-- What this crate stands on, passed on to the crates above, which list this one alone.
pub use Rattle.resin_eval_writes.specs.Under.base
pub use Rattle.resin_eval_writes.specs.Under.builtin
pub use Rattle.resin_eval_writes.specs.Under.eval_nested
pub use Rattle.resin_eval_writes.specs.Under.heap
pub use Rattle.resin_eval_writes.specs.Under.journal
pub use Rattle.resin_eval_writes.specs.Under.label
pub use Rattle.resin_eval_writes.specs.Under.lstr
pub use Rattle.resin_eval_writes.specs.Under.machine
pub use Rattle.resin_eval_writes.specs.Under.meaning
pub use Rattle.resin_eval_writes.specs.Under.meaning_forms
pub use Rattle.resin_eval_writes.specs.Under.ops
pub use Rattle.resin_eval_writes.specs.Under.scalar
pub use Rattle.resin_eval_writes.specs.Under.scope
pub use Rattle.resin_eval_writes.specs.Under.stage
pub use Rattle.resin_eval_writes.specs.Under.step_objects
pub use Rattle.resin_eval_writes.specs.Under.step_parts
pub use Rattle.resin_eval_writes.specs.Under.store
pub use Rattle.resin_eval_writes.specs.Under.target
pub use Rattle.resin_eval_writes.specs.Under.tree
pub use Rattle.resin_eval_writes.specs.Under.value
pub use Rattle.resin_shadow.specs as shadow
