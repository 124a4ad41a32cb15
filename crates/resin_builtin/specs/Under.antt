-- What this crate stands on, passed on to the crates above, which list this one alone.
pub use Rattle.resin_format.specs.Under.bytes
pub use Rattle.resin_format.specs.Under.label
pub use Rattle.resin_format.specs.Under.lstr
pub use Rattle.resin_format.specs.Under.scalar
pub use Rattle.resin_array_fn.specs.Under.value
pub use Rattle.resin_array_fn.specs.Under.text_fn
pub use Rattle.resin_format.specs as format
pub use Rattle.resin_array_fn.specs as array_fn
pub use Rattle.resin_scan.specs as scan
