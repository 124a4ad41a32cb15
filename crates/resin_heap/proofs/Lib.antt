pub mod Seats
pub mod Trees
pub mod Method_trees
pub mod Kept_tables
pub mod Lines
pub mod Prelude_fits
pub mod Field_places
pub mod LawLemmas
-- Passed on to the crates above, which list this one alone.
pub use Rattle.resin_scan.proofs as scan_lemmas
