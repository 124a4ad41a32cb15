-- The programs of Queries are framed.
use Rattle.std.specs.Prelude.{ℕ, pos, List, [], ◌∷◌, Option, None, Some, Result, Ok, Err}
use Rattle.resin_meaning_forms.specs.Under.array_fn.Filled.{added_at}
use Rattle.resin_meaning_forms.specs.Under.label.Sets.{empty as no_labels}
use Rattle.resin_meaning_forms.specs.Under.lstr.Texts.{Text as LabelledText, bytes_of}
use Rattle.resin_meaning_forms.specs.Under.value.Arrays.{Array}
use Rattle.resin_meaning_forms.specs.Under.value.Changes.{empty}
use Rattle.resin_meaning_forms.specs.Under.value.Keys.{text_key}
use Rattle.resin_meaning_forms.specs.Under.value.Trees.{Tree, integer}
use Rattle.resin_meaning_forms.specs.Under.heap.declared.prelude.PreludeClass.TheVariants.{SqlException}
use Rattle.resin_meaning_forms.specs.Under.journal.declared.channel.Channel.TheVariants.{Sql}
use Rattle.resin_meaning_forms.specs.Under.machine.Objects.{throw_new}
use Rattle.resin_meaning_forms.specs.Under.machine.Steps.{charge}
use Rattle.resin_meaning_forms.specs.Under.machine.declared.stop.Stop.TheVariants.{Memory as NoMemory}
use Rattle.resin_meaning_forms.specs.Under.base.declared.stored.StoredCell.{StoredCell}
use Rattle.resin_meaning_forms.specs.Under.meaning.Programs.{Prog, give, stop, act, ◌>>=◌}
use Rattle.resin_meaning_forms.specs.Under.meaning_tables.Under.sql_more.Joins.{join_plan}
use Rattle.resin_meaning_forms.specs.Under.meaning_tables.Under.sql_more.Totals.{first_items, total_plan}
use Rattle.resin_meaning_forms.specs.Under.meaning_tables.Under.sql_more.declared.answer.MoreAnswer.{MoreAnswer}
use Rattle.resin_meaning_forms.specs.Under.meaning_tables.Under.joint.Readings.{read_more_as, more_literals}
use Rattle.resin_meaning_forms.specs.Under.meaning_tables.Under.joint.declared.tree.MoreStmt.{MoreStmt}
use Rattle.resin_meaning_forms.specs.Under.meaning_tables.Under.joint.declared.tree.MoreStmt.TheVariants.{Plain, Join, Total}
use Rattle.resin_meaning_forms.specs.Under.meaning_tables.Under.joint.declared.tree.JoinStmt.{JoinStmt}
use Rattle.resin_meaning_forms.specs.Under.meaning_tables.Under.joint.declared.tree.TotalItem.{TotalItem}
use Rattle.resin_meaning_forms.specs.Under.meaning_tables.Under.joint.declared.tree.TotalStmt.{TotalStmt}
use Rattle.resin_meaning_forms.specs.Under.meaning_tables.Under.plan.Statements.{plan}
use Rattle.resin_meaning_forms.specs.Under.meaning_tables.Under.plan.declared.answer.SqlAnswer.{SqlAnswer}
use Rattle.resin_meaning_forms.specs.Under.meaning_tables.Under.plan.declared.answer.SqlResult.{SqlResult}
use Rattle.resin_meaning_forms.specs.Under.meaning_tables.Under.plan.declared.answer.SqlResult.TheVariants.{Count, Rows}
use Rattle.resin_meaning_forms.specs.Under.meaning_tables.Under.sql.Messages.{message, syntax_message}
use Rattle.resin_meaning_forms.specs.Under.meaning_tables.Under.sql.declared.fault.SqlFault.{SqlFault}
use Rattle.resin_meaning_forms.specs.Under.meaning_tables.Under.sql.declared.fault.SqlFault.TheVariants.{Bad, Memory}
use Rattle.resin_meaning_forms.specs.Under.meaning_tables.Under.sql.declared.fault.SqlRefusal.{SqlRefusal}
use Rattle.resin_meaning_forms.specs.Under.meaning_tables.Under.sql.declared.tree.Stmt.{Stmt}
use Rattle.resin_meaning_forms.specs.Cells.{kept_literals, cell_value}
use Rattle.resin_meaning_forms.specs.Inputs.{as_tree}
use Rattle.resin_meaning_forms.specs.Parts.{Evals, computed, ◌>>◌}
use Rattle.resin_meaning_forms.specs.Under.meaning_tables.Plans.{carried_out, carried_with_ticks}
use Rattle.resin_meaning_forms.specs.Reading.{keep_through}
use Rattle.resin_meaning_forms.specs.Totals.{items_on}
use Rattle.resin_meaning_forms.specs.Writes.{context_of}
use Rattle.resin_meaning_forms.specs.Queries.{refused, with_cell, row_on, rows_on, row_list, result_value, answered, more_answered, joined, totalled, executed, run_read, sql_query}
use Rattle.resin_frame.specs.Frames.{IsFramed}
use Rattle.resin_frame.proofs.Frames.{FramedEvals, framed_bind, framing}
use Rattle.resin_frame.proofs.framed_forms.Cells.{cell_value_framed, kept_literals_framed}
use Rattle.resin_frame.proofs.framed_forms.Totals.{items_on_framed}
use Rattle.resin_frame.proofs.framed_forms.Plans.{carried_out_framed, carried_with_ticks_framed}
use Rattle.resin_frame.proofs.framed_forms.Reading.{keep_through_framed}

pub refused_framed : {own : Option (List ℕ)} {A : Type 0} (words : List ℕ) → IsFramed {A = A} own (refused words)
refused_framed words = search framing depth 12

pub with_cell_framed : {own : Option (List ℕ)} (ev : Evals) (column : List ℕ) (c : StoredCell) (a : Array) → FramedEvals own ev → IsFramed {A = Array} own (with_cell ev column c a)
with_cell_framed ev column c a h = search (framing, cell_value_framed) depth 12

pub row_on_framed : {own : Option (List ℕ)} (ev : Evals) (columns : List (List ℕ)) (cells : List StoredCell) (a : Array) → FramedEvals own ev → IsFramed {A = Array} own (row_on ev columns cells a)
row_on_framed {own = own} ev (column ∷ columns) (c ∷ cells) a h = let ih = λ (y : Array). row_on_framed {own = own} ev columns cells y h in search (framing, with_cell_framed, ih) depth 12
row_on_framed ev columns cells a h = search framing depth 12

pub rows_on_framed : {own : Option (List ℕ)} (ev : Evals) (columns : List (List ℕ)) (a2 : List (List StoredCell)) (a : Array) → FramedEvals own ev → IsFramed {A = Array} own (rows_on ev columns a2 a)
rows_on_framed ev columns [] a h = search framing depth 12
rows_on_framed {own = own} ev columns (cells ∷ rows) a h = let ih = λ (y : Array). rows_on_framed {own = own} ev columns rows y h in search (framing, row_on_framed, ih) depth 12

pub row_list_framed : {own : Option (List ℕ)} (ev : Evals) (columns : List (List ℕ)) (rows : List (List StoredCell)) → FramedEvals own ev → IsFramed {A = Tree} own (row_list ev columns rows)
row_list_framed ev columns rows h = search (framing, rows_on_framed) depth 12

pub result_value_framed : {own : Option (List ℕ)} (ev : Evals) (a1 : SqlResult) → FramedEvals own ev → IsFramed {A = Tree} own (result_value ev a1)
result_value_framed ev (Count n) h = search framing depth 12
result_value_framed ev (Rows columns rows) h = search (framing, row_list_framed) depth 12

pub answered_framed : {own : Option (List ℕ)} (ev : Evals) (a1 : Result SqlAnswer SqlRefusal) → FramedEvals own ev → IsFramed {A = Tree} own (answered ev a1)
answered_framed ev (Ok answer) h = search (framing, result_value_framed) depth 12
answered_framed ev (Err x) h = search (framing, refused_framed) depth 12

pub more_answered_framed : {own : Option (List ℕ)} (made : (MoreAnswer → Prog Tree)) (a1 : Result MoreAnswer SqlRefusal) → ((x0 : MoreAnswer) → IsFramed own (made x0)) → IsFramed {A = Tree} own (more_answered made a1)
more_answered_framed made (Ok answer) h_made = search framing depth 12
more_answered_framed made (Err x) h_made = search (framing, refused_framed) depth 12

pub joined_framed : {own : Option (List ℕ)} (ev : Evals) (answer : MoreAnswer) → FramedEvals own ev → IsFramed {A = Tree} own (joined ev answer)
joined_framed ev answer h = search (framing, row_list_framed) depth 12

pub totalled_framed : {own : Option (List ℕ)} (ev : Evals) (items : List TotalItem) (answer : MoreAnswer) → FramedEvals own ev → IsFramed {A = Tree} own (totalled ev items answer)
totalled_framed ev items answer h = search (framing, items_on_framed) depth 12

pub executed_framed : {own : Option (List ℕ)} (ev : Evals) (a1 : MoreStmt) (cells : List StoredCell) → FramedEvals own ev → IsFramed {A = Tree} own (executed ev a1 cells)
executed_framed ev (Plain s) cells h = search (framing, carried_out_framed, answered_framed) depth 12
executed_framed ev (Join s) cells h = framed_bind _ _ (carried_with_ticks_framed (join_plan s cells)) (λ r. more_answered_framed (joined ev) r (λ x. joined_framed ev x h))
executed_framed ev (Total s) cells h = framed_bind _ _ (carried_with_ticks_framed (total_plan s cells)) (λ r. more_answered_framed (totalled ev s.items) r (λ x. totalled_framed ev s.items x h))

pub run_read_framed : {own : Option (List ℕ)} (ev : Evals) (t : LabelledText) (a2 : Result MoreStmt SqlFault) → FramedEvals own ev → IsFramed {A = Tree} own (run_read ev t a2)
run_read_framed ev t (Ok s) h = search (framing, kept_literals_framed, executed_framed) depth 12
run_read_framed ev t (Err (Bad place)) h = search (framing, refused_framed) depth 12
run_read_framed ev t (Err Memory) h = search framing depth 12

pub sql_query_framed : {own : Option (List ℕ)} (ev : Evals) (q : LabelledText) → FramedEvals own ev → IsFramed {A = Tree} own (sql_query ev q)
sql_query_framed ev q h = search (framing, keep_through_framed, run_read_framed) depth 12
