-- what the contracts of the public calls cite
pub mod Texts
pub use Rattle.resin_lstr.specs.Texts.{Text, LONGEST, text_code, bytes_of, sets_of, carrying, marked, unmarked}
pub use Rattle.resin_lstr.specs.Texts.{mapped, with_parts, ArePartsFrom, distinct_sets, policies_in_order, first_run}
pub mod Runs
pub use Rattle.resin_lstr.specs.Runs.{spell, AreRunsOf, text_of, IsLeastCount}
pub mod Faults
pub use Rattle.resin_lstr.specs.Faults.{GivesText}
pub mod Tables
pub use Rattle.resin_lstr.specs.Tables.{identity, replaced, rows_from}
pub mod Keeping
