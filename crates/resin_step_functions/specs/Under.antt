-- What this crate stands on, passed on to the crates above, which list this one alone.
pub use Rattle.resin_step_parts.specs.Under.base
pub use Rattle.resin_step_parts.specs.Under.builtin
pub use Rattle.resin_step_parts.specs.Under.bytes
pub use Rattle.resin_step_parts.specs.Under.heap
pub use Rattle.resin_step_parts.specs.Under.journal
pub use Rattle.resin_step_parts.specs.Under.label
pub use Rattle.resin_step_parts.specs.Under.lstr
pub use Rattle.resin_step_parts.specs.Under.machine
pub use Rattle.resin_step_parts.specs.Under.meaning
pub use Rattle.resin_step_parts.specs.Under.meaning_forms
pub use Rattle.resin_step_parts.specs.Under.meaning_tables
pub use Rattle.resin_step_parts.specs.Under.ops
pub use Rattle.resin_step_parts.specs.Under.scalar
pub use Rattle.resin_step_parts.specs.Under.scope
pub use Rattle.resin_step_parts.specs.Under.stage
pub use Rattle.resin_step_parts.specs as step_parts
pub use Rattle.resin_step_parts.specs.Under.store
pub use Rattle.resin_step_parts.specs.Under.target
pub use Rattle.resin_step_parts.specs.Under.tree
pub use Rattle.resin_step_parts.specs.Under.value
