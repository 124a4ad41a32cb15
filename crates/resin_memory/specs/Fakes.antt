-- What the objects in memory are seen as: what they hold, and which calls of the fake ones fail (this project).
use Rattle.std.specs.Prelude.{ℕ, List}
use Rattle.resin_base.specs.FileStore.{FileStore}
use Rattle.resin_base.specs.TableStore.{TableStore, EachWhole}
use Rattle.resin_memory.specs.declared.tally.Tally.{Tally}

-- a source: the bytes left, and the most bytes that a call moves
pub record FakedSource : Type 0 where
  pub left : List ℕ
  pub chunk : ℕ
  pub tally : Tally

-- a sink: the bytes written, the most bytes that a call takes, and how often one took none
pub record FakedSink : Type 0 where
  pub written : List ℕ
  pub chunk : ℕ
  pub stalls : ℕ
  pub tally : Tally

-- a keeper of files
pub record FakedFiles : Type 0 where
  pub files : FileStore
  pub tally : Tally

-- tables that are whole
pub record KeptTables : Type 0 where
  pub tables : TableStore
  pub whole : EachWhole tables

-- a keeper of tables
pub record FakedTables : Type 0 where
  pub kept : KeptTables
  pub tally : Tally
