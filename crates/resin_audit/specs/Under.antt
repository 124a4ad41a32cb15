-- What this crate stands on, passed on to the crates above, which list this one alone.
pub use Rattle.resin_journal_file.specs as journal_file
pub use Rattle.resin_scan.specs as scan
