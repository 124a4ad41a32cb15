-- What this crate stands on, passed on to the crates above, which list this one alone.
pub use Rattle.resin_value.specs.Under.label
pub use Rattle.resin_value.specs.Under.lstr
pub use Rattle.resin_value.specs.Under.scalar
pub use Rattle.resin_value.specs as value
