-- The plan of a join by its first answers.
use Rattle.std.proofs.Common.{◌≡◌, ℕ, List, Option, true, false, cond, ap}
use Rattle.std.specs.Str.{bytes_eq}
use Rattle.resin_base.specs.declared.cell.Column.{Column}
use Rattle.resin_base.specs.declared.stored.StoredCell.{StoredCell}
use Rattle.resin_sql.specs.declared.fault.SqlRefusal.TheVariants.{SameTable}
use Rattle.resin_joint.specs.declared.tree.JoinStmt.{JoinStmt}
use Rattle.resin_plan.specs.Plans.{Done, Ask}
use Rattle.resin_plan.specs.TableCalls.{AskColumns}
use Rattle.resin_sql_more.specs.Plans.{Plan, Refuses}
use Rattle.resin_sql_more.specs.Joins.{join_plan, join_on, shape_of}

module _ (s : JoinStmt) (vs : List StoredCell) (left : ℕ) where
  -- what follows the columns of the first table
  abbrev pub behind_first : Option (List Column) → Plan
  behind_first ts = Ask (AskColumns s.joined) (λ us. join_on s vs left (shape_of ts) (shape_of us))

  pub joined_same : bytes_eq s.table s.joined ≡ true → join_plan s vs left ≡ Done (Refuses SameTable)
  unfolding join_plan
  joined_same e = ap (λ b. cond b (Done (Refuses SameTable)) (Ask (AskColumns s.table) behind_first)) e

  pub joined_apart : bytes_eq s.table s.joined ≡ false → join_plan s vs left ≡ Ask (AskColumns s.table) behind_first
  unfolding join_plan
  joined_apart e = ap (λ b. cond b (Done (Refuses SameTable)) (Ask (AskColumns s.table) behind_first)) e
