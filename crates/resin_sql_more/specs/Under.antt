-- What this crate stands on, passed on to the crates above, which list this one alone.
pub use Rattle.resin_joint.specs as joint
pub use Rattle.resin_plan.specs as plan
pub use Rattle.resin_rows.specs as rows
pub use Rattle.resin_sql.specs as sql
pub use Rattle.resin_sql_words.specs as sql_words
