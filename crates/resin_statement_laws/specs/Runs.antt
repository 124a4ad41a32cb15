-- What it means that a run went along an effect.
use Rattle.std.specs.Prelude.{◌≡◌, ℕ, not, List, take, Result, Ok, Err}
use Rattle.std.specs.FinMap.{contains_key}
use Rattle.resin_base.specs.TableStore.{TableStore, columns_of, rows_of, next_number, can_update, has_row}
use Rattle.resin_base.specs.TableStore.{after_create, after_insert, after_update, after_delete}
use Rattle.resin_meaning_forms.specs.Under.meaning_tables.Under.sql.declared.fault.SqlStop.{SqlStop}
use Rattle.resin_meaning_forms.specs.Under.meaning_tables.Under.sql.declared.fault.SqlStop.TheVariants.{Refused, Keeper, Spent, Memory}
use Rattle.resin_meaning_forms.specs.Under.meaning_tables.Under.plan.Plans.{Steps, Done, Ask}
use Rattle.resin_meaning_forms.specs.Under.meaning_tables.Under.plan.TableCalls.{TableCall, MakeTable, AskColumns, AskRows}
use Rattle.resin_meaning_forms.specs.Under.meaning_tables.Under.plan.TableCalls.{AddRow, SetRow, TakeRow, Answer}
use Rattle.resin_meaning_forms.specs.Under.meaning_tables.Under.plan.declared.answer.SqlAnswer.{SqlAnswer}
use Rattle.resin_frame.specs.LabelledTables.{LabelledTables}
use Rattle.resin_statement_laws.specs.Effects.{Step, all_stepped, Effect, LabelledEnd, plain_end}

-- ---- following a plan, no call failing

-- what a keeper answers that holds this
abbrev pub answer_of : (call : TableCall) → TableStore → Answer call
answer_of (MakeTable name columns) s = not (contains_key s name)
answer_of (AskColumns name) s = columns_of s name
answer_of (AskRows name) s = rows_of s name
answer_of (AddRow name cells) s = next_number s name cells
answer_of (SetRow name number cells) s = can_update s name number cells
answer_of (TakeRow name number) s = has_row s name number

-- and what it holds then
abbrev pub left_by : TableCall → TableStore → TableStore
left_by (MakeTable name columns) s = after_create s name columns
left_by (AskColumns name) s = s
left_by (AskRows name) s = s
left_by (AddRow name cells) s = after_insert s name cells
left_by (SetRow name number cells) s = after_update s name number cells
left_by (TakeRow name number) s = after_delete s name number

-- what a keeper holds where all calls of a plan were made, and what they come to
abbrev pub followed : {A : Type 0} → Steps A → TableStore → TableStore × A
followed (Done end) s = (s, end)
followed (Ask call next) s = followed (next (answer_of call s)) (left_by call s)

-- ---- runs

-- the first steps of these led from the one to the other: none of them, some, or all
abbrev pub IsFront : LabelledTables → List Step → LabelledTables → Type 0
IsFront before steps now = (k : ℕ) × (now ≡ all_stepped before (take k steps))

-- A run that has an answer, or is refused, has that of the effect, all of whose steps were taken; of one that stopped the first ones were.
abbrev pub EndsWith : Effect LabelledEnd → LabelledTables → Result SqlAnswer SqlStop → LabelledTables → Type 0
EndsWith e before (Ok answer) now = (Ok answer ≡ plain_end e.end) × (now ≡ all_stepped before e.steps)
EndsWith e before (Err (Refused x)) now = (Err x ≡ plain_end e.end) × (now ≡ all_stepped before e.steps)
EndsWith e before (Err Keeper) now = IsFront before e.steps now
EndsWith e before (Err Spent) now = IsFront before e.steps now
EndsWith e before (Err Memory) now = IsFront before e.steps now
