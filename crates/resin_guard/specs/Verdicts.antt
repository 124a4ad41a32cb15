-- What the guards answer, as functions of a labelled text.
use Rattle.std.specs.Prelude.{ℕ, ◌-◌, List, [], ◌∷◌, length, Result, Ok, Err}
use Rattle.resin_form.specs.Reading.{Outcome, Got, Stop, Deep}
use Rattle.resin_label.specs.Sets.{NumberSet}
use Rattle.resin_lstr.specs.Texts.{Text, bytes_of}
use Rattle.resin_sql_words.specs.declared.cursor.Placed.{Placed}
use Rattle.resin_sql_words.specs.Forms.{under}
use Rattle.resin_sql_words.specs.Places.{placed}
use Rattle.resin_sql.specs.Readings.{read_as}
use Rattle.resin_sql.specs.declared.fault.SqlFault.{SqlFault}
use Rattle.resin_sql.specs.declared.fault.SqlFault.TheVariants as fault
use Rattle.resin_sql.specs.declared.tree.Stmt.{Stmt}
use Rattle.resin_guard.specs.Pages.{Places, page}
use Rattle.resin_guard.specs.Judged.{judged}
use Rattle.resin_guard.specs.Literals.{literal_places}
use Rattle.resin_guard.specs.declared.judge.Guard.{Guard}
use Rattle.resin_guard.specs.declared.judge.Guard.TheVariants.{Bad}

-- ---- queries

-- by what a text is read as; no text is read as want of memory
abbrev pub query_verdict : NumberSet → Text → Result Stmt SqlFault → Guard
query_verdict bad d (Ok q) = judged bad (literal_places q) d
query_verdict bad d (Err (fault.Bad at)) = Bad at
query_verdict bad d (Err fault.Memory) = Bad 0

unfoldable pub sql_verdict : NumberSet → Text → Guard
sql_verdict bad d = query_verdict bad d (read_as (bytes_of d))

-- ---- pages

-- what reading the bytes from their front comes to: the safe places of a page where no byte is left, or else the offset at which it ended
abbrev pub page_told : List ℕ → Outcome Placed Places → Result Places ℕ
page_told bytes (Got places []) = Ok places
page_told bytes (Got places (t ∷ ts)) = Err (length bytes - length (t ∷ ts))
page_told bytes (Stop rest) = Err (length bytes - length rest)
page_told bytes (Deep rest) = Err (length bytes - length rest)

abbrev pub page_verdict : NumberSet → Text → Result Places ℕ → Guard
page_verdict bad d (Ok places) = judged bad places d
page_verdict bad d (Err at) = Bad at

unfoldable pub html_verdict : NumberSet → Text → Guard
html_verdict bad d = page_verdict bad d (page_told (bytes_of d) (under (page []) (placed 0 (bytes_of d))))
