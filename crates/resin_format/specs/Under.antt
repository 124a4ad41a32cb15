-- What this crate stands on, passed on to the crates above, which list this one alone.
pub use Rattle.resin_bytes.specs as bytes
pub use Rattle.resin_label.specs as label
pub use Rattle.resin_lstr.specs as lstr
pub use Rattle.resin_scalar.specs as scalar
pub use Rattle.resin_escape_fn.specs as escape_fn
