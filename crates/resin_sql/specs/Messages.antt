-- What is told of a statement that has no answer, as the message of an SqlException (this project).
use Rattle.std.specs.Prelude.{ℕ, List, ◌++◌, codes, decimal}
use Rattle.resin_sql.specs.declared.fault.SqlRefusal.{SqlRefusal}
use Rattle.resin_sql.specs.declared.fault.SqlRefusal.TheVariants.{TableExists, SameTable, NoTable, NoColumn}
use Rattle.resin_sql.specs.declared.fault.SqlRefusal.TheVariants.{DuplicateColumn, WrongCount, WrongKind, Full}

abbrev pub message : SqlRefusal → List ℕ
message TableExists = codes "table exists"
message SameTable = codes "same table"
message NoTable = codes "no table"
message NoColumn = codes "no column"
message DuplicateColumn = codes "duplicate column"
message WrongCount = codes "wrong count"
message WrongKind = codes "wrong kind"
message Full = codes "full"

-- of a text that is no statement, by the place of its fault
abbrev pub syntax_message : ℕ → List ℕ
syntax_message at = codes "syntax at " ++ decimal at
