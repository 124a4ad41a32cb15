-- What this crate stands on, passed on to the crates above, which list this one alone.
pub use Rattle.resin_builtin.specs.Under.array_fn
pub use Rattle.resin_meaning_tables.specs.Under.base
pub use Rattle.resin_builtin.specs as builtin
pub use Rattle.resin_builtin.specs.Under.bytes
pub use Rattle.resin_guard.specs as guard
pub use Rattle.resin_target.specs.Under.heap
pub use Rattle.resin_target.specs.Under.journal
pub use Rattle.resin_builtin.specs.Under.label
pub use Rattle.resin_builtin.specs.Under.lstr
pub use Rattle.resin_target.specs.Under.machine
pub use Rattle.resin_meaning_tables.specs.Under.meaning
pub use Rattle.resin_target.specs.Under.ops
pub use Rattle.resin_builtin.specs.Under.scalar
pub use Rattle.resin_target.specs.Under.scope
pub use Rattle.resin_target.specs.Under.stage
pub use Rattle.resin_meaning_tables.specs.Under.store
pub use Rattle.resin_target.specs as target
pub use Rattle.resin_builtin.specs.Under.text_fn
pub use Rattle.resin_target.specs.Under.tree
pub use Rattle.resin_builtin.specs.Under.value
pub use Rattle.resin_meaning_tables.specs as meaning_tables
