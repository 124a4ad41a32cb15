-- What this crate stands on, passed on to the crates above, which list this one alone.
pub use Rattle.resin_ops.specs as ops
pub use Rattle.resin_machine.specs.Under.tree
pub use Rattle.resin_machine.specs.Under.heap
pub use Rattle.resin_machine.specs.Under.journal
pub use Rattle.resin_machine.specs.Under.scope
pub use Rattle.resin_machine.specs.Under.stage
pub use Rattle.resin_machine.specs as machine
