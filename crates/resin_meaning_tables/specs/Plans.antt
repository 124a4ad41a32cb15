-- Plans of keeper calls on tables as programs (resin_plan and resin_sql_more have the plans of statements, resin_meaning what each call
-- asks of the tables).
use Rattle.std.specs.Prelude.{ℕ, Result, Ok, Err}
use Rattle.resin_machine.specs.State.{State}
use Rattle.resin_machine.specs.Steps.{Act, faults}
use Rattle.resin_machine.specs.Under.scalar.declared.faults.ScriptFault.TheVariants.{FuelSpent}
use Rattle.resin_meaning.specs.KeeperCalls.{create_table, table_columns, table_rows, insert_row, update_row, delete_row}
use Rattle.resin_meaning.specs.Programs.{Prog, give, act, ◌>>=◌}
use Rattle.resin_sql_more.specs.Plans.{End, Answers, Refuses, Costs}
use Rattle.resin_sql_more.specs.Plans.{Plan as MorePlan}
use Rattle.resin_sql_more.specs.declared.answer.MoreAnswer.{MoreAnswer}
use Rattle.resin_sql_more.specs.Under.plan.Plans.{Steps, Done, Ask}
use Rattle.resin_sql_more.specs.Under.plan.TableCalls.{TableCall, Answer, MakeTable, AskColumns, AskRows, AddRow, SetRow, TakeRow}
use Rattle.resin_sql_more.specs.Under.sql.declared.fault.SqlRefusal.{SqlRefusal}

-- a call of a plan is the next keeper call
abbrev pub asked : (call : TableCall) → Prog (Answer call)
asked (MakeTable name columns) = create_table name columns
asked (AskColumns name) = table_columns name
asked (AskRows name) = table_rows name
asked (AddRow name cells) = insert_row name cells
asked (SetRow name number cells) = update_row name number cells
asked (TakeRow name number) = delete_row name number

-- the calls of a plan, each by what was answered to those before it, and what they come to
abbrev pub carried_out : {A : Type 0} → Steps A → Prog A
carried_out (Done end) = give end
carried_out (Ask call next) = asked call >>= λ answer. carried_out (next answer)

-- ---- joins and totals

-- what one comes to; where its rows cost more than is left, they aren't looked at
abbrev pub paid_for : End → Prog (Result MoreAnswer SqlRefusal)
paid_for (Answers answer) = give (Ok answer)
paid_for (Refuses x) = give (Err x)
paid_for Costs = act (faults FuelSpent)

-- how many ticks are left
abbrev pub ticks_left : Act ℕ
ticks_left m = (Ok m.ticks, m)

-- its calls, and what they come to with the ticks that are left
abbrev pub carried_with_ticks : (ℕ → MorePlan) → Prog (Result MoreAnswer SqlRefusal)
carried_with_ticks plan = act ticks_left >>= λ left. carried_out (plan left) >>= paid_for
