-- `sql_query` (this project's, after RESIN's SQL filter): a statement over tables, whose literals are kept with their policies, and whose
-- cells bring theirs back.
use Rattle.std.specs.Prelude.{ℕ, pos, List, [], ◌∷◌, Option, None, Some, Result, Ok, Err}
use Rattle.resin_builtin.specs.Under.array_fn.Filled.{added_at}
use Rattle.resin_builtin.specs.Under.label.Sets.{empty as no_labels}
use Rattle.resin_builtin.specs.Under.lstr.Texts.{Text as LabelledText, bytes_of}
use Rattle.resin_builtin.specs.Under.value.Arrays.{Array}
use Rattle.resin_builtin.specs.Under.value.Changes.{empty}
use Rattle.resin_builtin.specs.Under.value.Keys.{text_key}
use Rattle.resin_builtin.specs.Under.value.Trees.{Tree, integer}
use Rattle.resin_target.specs.Under.heap.declared.prelude.PreludeClass.TheVariants.{SqlException}
use Rattle.resin_target.specs.Under.journal.declared.channel.Channel.TheVariants.{Sql}
use Rattle.resin_target.specs.Under.machine.Objects.{throw_new}
use Rattle.resin_target.specs.Under.machine.Steps.{charge}
use Rattle.resin_target.specs.Under.machine.declared.stop.Stop.TheVariants.{Memory as NoMemory}
use Rattle.resin_meaning_tables.specs.Under.base.declared.stored.StoredCell.{StoredCell}
use Rattle.resin_meaning_tables.specs.Under.meaning.Programs.{Prog, give, stop, act, ◌>>=◌}
use Rattle.resin_meaning_tables.specs.Under.sql_more.Joins.{join_plan}
use Rattle.resin_meaning_tables.specs.Under.sql_more.Totals.{first_items, total_plan}
use Rattle.resin_meaning_tables.specs.Under.sql_more.declared.answer.MoreAnswer.{MoreAnswer}
use Rattle.resin_meaning_tables.specs.Under.joint.Readings.{read_more_as, more_literals}
use Rattle.resin_meaning_tables.specs.Under.joint.declared.tree.MoreStmt.{MoreStmt}
use Rattle.resin_meaning_tables.specs.Under.joint.declared.tree.MoreStmt.TheVariants.{Plain, Join, Total}
use Rattle.resin_meaning_tables.specs.Under.joint.declared.tree.JoinStmt.{JoinStmt}
use Rattle.resin_meaning_tables.specs.Under.joint.declared.tree.TotalItem.{TotalItem}
use Rattle.resin_meaning_tables.specs.Under.joint.declared.tree.TotalStmt.{TotalStmt}
use Rattle.resin_meaning_tables.specs.Under.plan.Statements.{plan}
use Rattle.resin_meaning_tables.specs.Under.plan.declared.answer.SqlAnswer.{SqlAnswer}
use Rattle.resin_meaning_tables.specs.Under.plan.declared.answer.SqlResult.{SqlResult}
use Rattle.resin_meaning_tables.specs.Under.plan.declared.answer.SqlResult.TheVariants.{Count, Rows}
use Rattle.resin_meaning_tables.specs.Under.sql.Messages.{message, syntax_message}
use Rattle.resin_meaning_tables.specs.Under.sql.declared.fault.SqlFault.{SqlFault}
use Rattle.resin_meaning_tables.specs.Under.sql.declared.fault.SqlFault.TheVariants.{Bad, Memory}
use Rattle.resin_meaning_tables.specs.Under.sql.declared.fault.SqlRefusal.{SqlRefusal}
use Rattle.resin_meaning_tables.specs.Under.sql.declared.tree.Stmt.{Stmt}
use Rattle.resin_meaning_forms.specs.Cells.{kept_literals, cell_value}
use Rattle.resin_meaning_forms.specs.Inputs.{as_tree}
use Rattle.resin_meaning_forms.specs.Parts.{Evals, computed, ◌>>◌}
use Rattle.resin_meaning_tables.specs.Plans.{carried_out, carried_with_ticks}
use Rattle.resin_meaning_forms.specs.Reading.{keep_through}
use Rattle.resin_meaning_forms.specs.Totals.{items_on}
use Rattle.resin_meaning_forms.specs.Writes.{context_of}

-- a refusal is an exception with its message
abbrev pub refused : {A : Type 0} → List ℕ → Prog A
refused words = act (throw_new SqlException words)

-- ---- rows: a list of arrays from the names of columns to their cells

abbrev pub with_cell : Evals → List ℕ → StoredCell → Array → Prog Array
with_cell ev column c a = cell_value ev column c >>= λ v. computed (added_at (Some (text_key column)) v a)

-- the cells of a row, one after the other: a text passes its filters before the next is read
abbrev pub row_on : Evals → List (List ℕ) → List StoredCell → Array → Prog Array
row_on ev (column ∷ columns) (c ∷ cells) a = with_cell ev column c a >>= row_on ev columns cells
row_on ev columns cells a = give a

abbrev pub rows_on : Evals → List (List ℕ) → List (List StoredCell) → Array → Prog Array
rows_on ev columns [] a = give a
rows_on ev columns (cells ∷ rows) a = row_on ev columns cells empty >>= λ row. computed (added_at None (as_tree row) a) >>= rows_on ev columns rows

abbrev pub row_list : Evals → List (List ℕ) → List (List StoredCell) → Prog Tree
row_list ev columns rows = rows_on ev columns rows empty >>= λ a. give (as_tree a)

-- ---- statements that are no joins and no totals

abbrev pub result_value : Evals → SqlResult → Prog Tree
result_value ev (Count n) = give (integer (pos n) no_labels)
result_value ev (Rows columns rows) = row_list ev columns rows

-- the rows that the keeper gave take a tick each, once all calls were made and before a cell is read
abbrev pub answered : Evals → Result SqlAnswer SqlRefusal → Prog Tree
answered ev (Ok answer) = act (charge answer.scanned) >> result_value ev answer.result
answered ev (Err x) = refused (message x)

-- ---- joins and totals

-- the cost is charged, and then the answer is made
abbrev pub more_answered : (MoreAnswer → Prog Tree) → Result MoreAnswer SqlRefusal → Prog Tree
more_answered made (Ok answer) = act (charge answer.scanned) >> made answer
more_answered made (Err x) = refused (message x)

abbrev pub joined : Evals → MoreAnswer → Prog Tree
joined ev answer = row_list ev answer.names answer.rows

-- a list of one row
abbrev pub totalled : Evals → List TotalItem → MoreAnswer → Prog Tree
totalled ev items answer = do
  row ← items_on ev answer.chosen (first_items items) answer.rows empty
  list ← computed (added_at None (as_tree row) empty)
  give (as_tree list)

-- ---- the call

-- a statement whose literals are kept so
abbrev pub executed : Evals → MoreStmt → List StoredCell → Prog Tree
executed ev (Plain s) cells = carried_out (plan s cells) >>= answered ev
executed ev (Join s) cells = carried_with_ticks (join_plan s cells) >>= more_answered (joined ev)
executed ev (Total s) cells = carried_with_ticks (total_plan s cells) >>= more_answered (totalled ev s.items)

-- what a text is read as: its literals are kept, which makes no keeper call, and then it is carried out; or it is no statement
abbrev pub run_read : Evals → LabelledText → Result MoreStmt SqlFault → Prog Tree
run_read ev t (Ok s) = kept_literals ev t (more_literals s) [] >>= executed ev s
run_read ev t (Err (Bad place)) = refused (syntax_message place)
run_read ev t (Err Memory) = stop NoMemory

-- the text passes its filters, and what they give is read
abbrev pub sql_query : Evals → LabelledText → Prog Tree
sql_query ev q = keep_through ev Sql (context_of Sql) q >>= λ t. run_read ev t (read_more_as (bytes_of t))
