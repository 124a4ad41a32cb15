pub mod Kept_scripts
pub mod Lent
pub mod Stored
pub mod Framed
pub mod http_lemmas
-- Passed on to the crates above, which list this one alone.
pub use Rattle.resin_interp.proofs.meaning_lemmas
pub use Rattle.resin_frame.proofs.Apart as apart_lemmas
pub use Rattle.resin_frame.proofs.Composition as frame_lemmas
