-- What this crate stands on, passed on to the crates above, which list this one alone.
pub use Rattle.resin_request.specs.Under.base
pub use Rattle.resin_request.specs.Under.frame
pub use Rattle.resin_request.specs.Under.http
pub use Rattle.resin_request.specs.Under.journal
pub use Rattle.resin_request.specs.Under.label
pub use Rattle.resin_request.specs.Under.lstr
pub use Rattle.resin_request.specs.Under.meaning
pub use Rattle.resin_request.specs.Under.stage
pub use Rattle.resin_request.specs.Under.store
