-- What this crate stands on, passed on to the crates above, which list this one alone.
pub use Rattle.resin_step_functions.specs.Under.base
pub use Rattle.resin_step_functions.specs.Under.builtin
pub use Rattle.resin_step_functions.specs.Under.bytes
pub use Rattle.resin_step_functions.specs.Under.heap
pub use Rattle.resin_step_functions.specs.Under.journal
pub use Rattle.resin_step_functions.specs.Under.label
pub use Rattle.resin_step_functions.specs.Under.lstr
pub use Rattle.resin_step_functions.specs.Under.machine
pub use Rattle.resin_step_functions.specs.Under.meaning
pub use Rattle.resin_step_functions.specs.Under.meaning_forms
pub use Rattle.resin_step_functions.specs.Under.meaning_tables
pub use Rattle.resin_step_functions.specs.Under.ops
pub use Rattle.resin_step_functions.specs.Under.scalar
pub use Rattle.resin_step_functions.specs.Under.scope
pub use Rattle.resin_step_functions.specs.Under.stage
pub use Rattle.resin_step_functions.specs.Under.step_parts
pub use Rattle.resin_step_functions.specs.Under.store
pub use Rattle.resin_step_functions.specs.Under.target
pub use Rattle.resin_tree.specs as tree
pub use Rattle.resin_step_functions.specs.Under.value
