-- What this crate stands on, passed on to the crates above, which list this one alone.
pub use Rattle.resin_ops.specs.Under.value
pub use Rattle.resin_ops.specs as ops
pub use Rattle.resin_text_fn.specs as text_fn
