-- The programs of Plans are framed: a plan makes keeper calls on tables alone.
use Rattle.std.specs.Prelude.{ℕ, Option, List, Result, not}
use Rattle.std.specs.FinMap.{contains_key}
use Rattle.resin_meaning_forms.specs.Under.base.TableStore.{columns_of, rows_of, next_number, after_create, after_insert, can_update, after_update, has_row, after_delete}
use Rattle.resin_meaning_forms.specs.Under.meaning.Programs.{Prog}
use Rattle.resin_meaning_forms.specs.Under.meaning_tables.Under.plan.Plans.{Steps, Done, Ask}
use Rattle.resin_meaning_forms.specs.Under.meaning_tables.Under.plan.TableCalls.{TableCall, Answer, MakeTable, AskColumns, AskRows, AddRow, SetRow, TakeRow}
use Rattle.resin_meaning_forms.specs.Under.meaning_tables.Under.sql.declared.fault.SqlRefusal.{SqlRefusal}
use Rattle.resin_meaning_forms.specs.Under.meaning_tables.Under.sql_more.Plans.{End, Answers, Refuses, Costs}
use Rattle.resin_meaning_forms.specs.Under.meaning_tables.Under.sql_more.Plans.{Plan as MorePlan}
use Rattle.resin_meaning_forms.specs.Under.meaning_tables.Under.sql_more.declared.answer.MoreAnswer.{MoreAnswer}
use Rattle.resin_meaning_forms.specs.Under.meaning_tables.Plans.{asked, carried_out, paid_for, ticks_left, carried_with_ticks}
use Rattle.resin_frame.specs.Frames.{IsFramed}
use Rattle.resin_frame.proofs.Frames.{framed_bind, framed_create, framed_columns, framed_rows, framed_insert, framed_update, framed_delete, framing}

pub asked_framed : {own : Option (List ℕ)} (call : TableCall) → IsFramed {A = Answer call} own (asked call)
asked_framed (MakeTable name columns) = framed_create name columns
asked_framed (AskColumns name) = framed_columns name
asked_framed (AskRows name) = framed_rows name
asked_framed (AddRow name cells) = framed_insert name cells
asked_framed (SetRow name number cells) = framed_update name number cells
asked_framed (TakeRow name number) = framed_delete name number

pub carried_out_framed : {own : Option (List ℕ)} {A : Type 0} (p : Steps A) → IsFramed {A = A} own (carried_out p)
carried_out_framed (Done end) = search framing depth 12
carried_out_framed {own = own} {A = A} (Ask call next) =
    framed_bind (asked call) (λ answer. carried_out (next answer)) (asked_framed call) (λ answer. carried_out_framed {own = own} {A = A} (next answer))

pub paid_for_framed : {own : Option (List ℕ)} (e : End) → IsFramed {A = (Result MoreAnswer SqlRefusal)} own (paid_for e)
paid_for_framed (Answers answer) = search framing depth 12
paid_for_framed (Refuses x) = search framing depth 12
paid_for_framed Costs = search framing depth 12

pub carried_with_ticks_framed : {own : Option (List ℕ)} (plan : ℕ → MorePlan) → IsFramed {A = (Result MoreAnswer SqlRefusal)} own (carried_with_ticks plan)
carried_with_ticks_framed plan =
    framed_bind _ _ (search framing) (λ left. framed_bind _ _ (carried_out_framed (plan left)) (λ e. paid_for_framed e))
