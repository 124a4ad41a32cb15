-- What a text is read as by a grammar of statements, as a function: the statement that it is, or the place of its fault.
use Rattle.std.specs.Prelude.{◌≡◌, ◌≢◌, ℕ, List, [], ◌∷◌, length, Result, Ok, Err}
use Rattle.resin_form.specs.Reading.{Outcome, Got, Stop, Deep}
use Rattle.resin_form.specs.declared.fault.Fault.TheVariants.{Syntax, TooDeep}
use Rattle.resin_sql_words.specs.declared.cursor.Placed.{Placed}
use Rattle.resin_sql_words.specs.Forms.{Rule, under}
use Rattle.resin_sql_words.specs.Places.{placed}
use Rattle.resin_sql.specs.Answers.{last_start}
use Rattle.resin_sql.specs.Places.{refusal}
use Rattle.resin_sql.specs.Statements.{statement}
use Rattle.resin_sql.specs.declared.fault.SqlFault.{SqlFault}
use Rattle.resin_sql.specs.declared.fault.SqlFault.TheVariants.{Memory}
use Rattle.resin_sql.specs.declared.tree.Stmt.{Stmt}

-- ---- by any grammar; `start`: where the name or the number begins that some bytes end with

module _ {A : Type 0} (F : Rule A) (start : List ℕ → ℕ) where
  -- what reading the bytes from their front comes to: a statement where no byte is left
  abbrev pub told : List ℕ → Outcome Placed A → Result A SqlFault
  told bytes (Got q []) = Ok q
  told bytes (Got q (t ∷ ts)) = Err (refusal start bytes (length (t ∷ ts)) Syntax)
  told bytes (Stop rest) = Err (refusal start bytes (length rest) Syntax)
  told bytes (Deep rest) = Err (refusal start bytes (length rest) TooDeep)

  -- what the bytes are read as
  abbrev pub read_by : List ℕ → Result A SqlFault
  read_by bytes = told bytes (under F (placed 0 bytes))

-- There is one answer to a text, but for want of memory: what it is read as.
pub record HasOneReading {A : Type 0} (Answers : List ℕ → Result A SqlFault → Type 0) (read_as : List ℕ → Result A SqlFault)
    (bytes : List ℕ) : Type 0 where
  pub answers : Answers bytes (read_as bytes)
  pub is_told : read_as bytes ≢ Err Memory
  pub only : (r : Result A SqlFault) → r ≢ Err Memory → Answers bytes r → r ≡ read_as bytes

-- ---- by the grammar of this crate

unfoldable pub read_as : List ℕ → Result Stmt SqlFault
read_as bytes = read_by statement (last_start 0 0) bytes
