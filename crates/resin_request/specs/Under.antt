-- What this crate stands on, passed on to the crates above, which list this one alone.
pub use Rattle.resin_interp.specs.Under.base
pub use Rattle.resin_inputs.specs.Under.bytes
pub use Rattle.resin_frame.specs as frame
pub use Rattle.resin_http.specs as http
pub use Rattle.resin_inputs.specs as inputs
pub use Rattle.resin_interp.specs.Under.journal
pub use Rattle.resin_inputs.specs.Under.label
pub use Rattle.resin_inputs.specs.Under.lstr
pub use Rattle.resin_interp.specs.Under.machine
pub use Rattle.resin_interp.specs.Under.meaning
pub use Rattle.resin_interp.specs.Under.meaning_forms
pub use Rattle.resin_inputs.specs.Under.scalar
pub use Rattle.resin_interp.specs.Under.stage
pub use Rattle.resin_interp.specs.Under.store
