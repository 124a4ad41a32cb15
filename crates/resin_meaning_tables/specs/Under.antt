-- What this crate stands on, passed on to the crates above, which list this one alone.
pub use Rattle.resin_meaning.specs.Under.base
pub use Rattle.resin_sql_more.specs.Under.joint
pub use Rattle.resin_meaning.specs as meaning
pub use Rattle.resin_sql_more.specs.Under.plan
pub use Rattle.resin_sql_more.specs.Under.rows
pub use Rattle.resin_sql_more.specs.Under.sql
pub use Rattle.resin_sql_more.specs as sql_more
pub use Rattle.resin_sql_more.specs.Under.sql_words
pub use Rattle.resin_meaning.specs.Under.store
