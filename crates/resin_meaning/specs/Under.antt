-- What this crate stands on, passed on to the crates above, which list this one alone.
pub use Rattle.resin_base.specs as base
pub use Rattle.resin_store.specs as store
