-- What a text is by the joint grammar: a statement, or none, and then where the fault is.
use Rattle.std.specs.Prelude.{ℕ, ◌-◌, nat_eq, List, length, take, codes, Result, if◌then◌else◌}
use Rattle.std.specs.List.{ends_with}
use Rattle.resin_sql.specs.Answers.{IsText, AnswersBy, last_start}
use Rattle.resin_sql.specs.declared.fault.SqlFault.{SqlFault}
use Rattle.resin_joint.specs.Joint.{joint}
use Rattle.resin_joint.specs.declared.tree.MoreStmt.{MoreStmt}

-- the bytes are this statement
abbrev pub IsMore : List ℕ → MoreStmt → Type 0
IsMore bytes q = IsText joint bytes q

-- these bytes without a `.` that ends them
abbrev pub before_dot : List ℕ → List ℕ
before_dot bytes = if ends_with nat_eq bytes (codes ".") then take (length bytes - 1) bytes else bytes

-- Where the name or number begins that some bytes end with: one beyond its limit. Behind a `.` it is the table before that, by which the
-- second column of ON is on the first's side.
abbrev pub start : List ℕ → ℕ
start bytes = last_start 0 0 (before_dot bytes)

-- the statement that the text is, or the place of the fault where it is none
abbrev pub AnswersMore : List ℕ → Result MoreStmt SqlFault → Type 0
AnswersMore bytes r = AnswersBy joint start bytes r
