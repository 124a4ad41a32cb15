-- What this crate stands on, passed on to the crates above, which list this one alone.
pub use Rattle.resin_step_objects.specs.Under.base
pub use Rattle.resin_step_objects.specs.Under.builtin
pub use Rattle.resin_step_objects.specs.Under.bytes
pub use Rattle.resin_step_objects.specs.Under.heap
pub use Rattle.resin_step_objects.specs.Under.journal
pub use Rattle.resin_step_objects.specs.Under.label
pub use Rattle.resin_step_objects.specs.Under.lstr
pub use Rattle.resin_step_objects.specs.Under.machine
pub use Rattle.resin_step_objects.specs.Under.meaning
pub use Rattle.resin_step_objects.specs.Under.meaning_forms
pub use Rattle.resin_step_objects.specs.Under.meaning_tables
pub use Rattle.resin_step_objects.specs.Under.ops
pub use Rattle.resin_step_objects.specs.Under.scalar
pub use Rattle.resin_step_objects.specs.Under.scope
pub use Rattle.resin_step_objects.specs.Under.stage
pub use Rattle.resin_step_objects.specs as step_objects
pub use Rattle.resin_step_objects.specs.Under.step_parts
pub use Rattle.resin_step_objects.specs.Under.store
pub use Rattle.resin_step_objects.specs.Under.target
pub use Rattle.resin_step_objects.specs.Under.tree
pub use Rattle.resin_step_objects.specs.Under.value
