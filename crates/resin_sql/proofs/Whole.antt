-- The grammar of this crate: where nothing stands, a statement is wanted, and what a text is read as says what it is.
use Rattle.std.proofs.Common.{◌≡◌, ℕ, List, [], ◌⊎◌, Result, Ok, Err, refl}
use Rattle.resin_form.specs.Reading.{Stop}
use Rattle.resin_sql_words.specs.Forms.{under}
use Rattle.resin_sql_words.specs.Words.{gap, gap_from}
use Rattle.resin_sql.specs.Answers.{Answers, IsStatement, last_start}
use Rattle.resin_sql.specs.Readings.{read_as, HasOneReading}
use Rattle.resin_sql.specs.Statements.{statement, opening}
use Rattle.resin_sql.specs.declared.fault.SqlFault.{SqlFault}
use Rattle.resin_sql.specs.declared.fault.SqlFault.TheVariants.{Memory}
use Rattle.resin_sql.specs.declared.tree.Stmt.{Stmt}
use Rattle.resin_sql.proofs.Endings.{IsRead, answers_of, found_of, one_reading}

pub nothing_read : under statement [] ≡ Stop []
unfolding statement opening gap gap_from
nothing_read = refl

module _ (bytes : List ℕ) (r : Result Stmt SqlFault) (h : IsRead statement (last_start 0 0) nothing_read bytes r) where
  pub answers : Answers bytes r
  answers = answers_of statement (last_start 0 0) nothing_read bytes r h

  pub found : (q : Stmt) → IsStatement bytes q → (r ≡ Ok q) ⊎ (r ≡ Err Memory)
  found = found_of statement (last_start 0 0) nothing_read bytes r h

  pub is_read : (r ≡ read_as bytes) ⊎ (r ≡ Err Memory)
  unfolding read_as
  is_read = h

pub one_answer : (bytes : List ℕ) → HasOneReading Answers read_as bytes
unfolding read_as
one_answer bytes = one_reading statement (last_start 0 0) nothing_read bytes
