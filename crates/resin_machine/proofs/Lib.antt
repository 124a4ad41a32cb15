pub mod Kept
pub mod Calls
pub mod Made
pub mod Noted
pub mod Declared
pub mod Taken
pub mod Buffer_steps
pub mod Variable_steps
pub mod Object_steps
pub mod Throw_steps
pub mod Write_steps
pub mod Declared_steps
-- Passed on to the crates above, which list this one alone.
pub use Rattle.resin_stage.proofs.scope_lemmas
pub use Rattle.resin_stage.proofs as stage_lemmas
