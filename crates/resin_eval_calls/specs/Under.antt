-- What this crate stands on, passed on to the crates above, which list this one alone.
pub use Rattle.resin_eval_channels.specs.Under.base
pub use Rattle.resin_eval_channels.specs.Under.builtin
pub use Rattle.resin_eval_channels.specs.Under.eval_nested
pub use Rattle.resin_eval_channels.specs.Under.journal
pub use Rattle.resin_eval_channels.specs.Under.label
pub use Rattle.resin_eval_channels.specs.Under.lstr
pub use Rattle.resin_eval_channels.specs.Under.machine
pub use Rattle.resin_eval_channels.specs.Under.meaning
pub use Rattle.resin_eval_channels.specs.Under.meaning_forms
pub use Rattle.resin_eval_channels.specs.Under.scalar
pub use Rattle.resin_eval_channels.specs.Under.scope
pub use Rattle.resin_eval_channels.specs.Under.stage
pub use Rattle.resin_eval_channels.specs.Under.store
pub use Rattle.resin_eval_channels.specs.Under.target
pub use Rattle.resin_eval_channels.specs.Under.tree
pub use Rattle.resin_eval_channels.specs.Under.value
