pub mod Twice
pub mod Indexed
pub mod Places
pub mod Ends
-- Passed on to the crates above, which list this one alone.
pub use Rattle.resin_machine.proofs.stage_lemmas.Laws as stage_laws
pub use Rattle.resin_machine.proofs.Kept as machine_kept
pub use Rattle.resin_machine.proofs.Taken as machine_taken
