-- What this crate stands on, passed on to the crates above, which list this one alone.
pub use Rattle.resin_heap.specs.Under.lstr
pub use Rattle.resin_heap.specs.Under.scalar
pub use Rattle.resin_heap.specs.Under.tree
pub use Rattle.resin_heap.specs as heap
pub use Rattle.resin_stage.specs.Under.journal
pub use Rattle.resin_stage.specs.Under.scope
pub use Rattle.resin_stage.specs as stage
