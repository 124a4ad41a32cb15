pub mod Keepers
pub mod Ended
pub mod Lawful
pub mod Made
pub mod Told
pub mod Framed
pub mod Exchanged
pub mod Isolated
-- Passed on to the crates above, which list this one alone.
pub use Rattle.resin_request.proofs.http_lemmas
