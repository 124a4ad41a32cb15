-- What a text is read as by the joint grammar, as a function, and the literals of what it is.
use Rattle.std.specs.Prelude.{ℕ, List, Result}
use Rattle.resin_sql_words.specs.declared.literals.Literal.{Literal}
use Rattle.resin_sql.specs.Literals.{literals, of_where}
use Rattle.resin_sql.specs.Readings.{read_by}
use Rattle.resin_sql.specs.declared.fault.SqlFault.{SqlFault}
use Rattle.resin_joint.specs.Answers.{start}
use Rattle.resin_joint.specs.Joint.{joint}
use Rattle.resin_joint.specs.declared.tree.MoreStmt.{MoreStmt}
use Rattle.resin_joint.specs.declared.tree.MoreStmt.TheVariants as m

-- the statement that the bytes are, or the place of the fault
unfoldable pub read_more_as : List ℕ → Result MoreStmt SqlFault
read_more_as bytes = read_by joint start bytes

-- in the order in which they stand, NULL among them
abbrev pub more_literals : MoreStmt → List Literal
more_literals (m.Plain q) = literals q
more_literals (m.Join j) = of_where j.condition
more_literals (m.Total t) = of_where t.condition
