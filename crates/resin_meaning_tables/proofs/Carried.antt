-- A run along a plan is a run of the program that the plan means.
use Rattle.std.proofs.Common.{◌≡◌, ℕ, ◌≤◌, Bool, true, false, Result, Ok, Err, inl, inr, refl, sym, ap, subst, ◌∙◌, arith}
use Rattle.resin_meaning.specs.Under.base.Causes.{last_count}
use Rattle.resin_meaning.specs.Under.base.TableStore.{columns_of, rows_of, next_number, after_create, after_insert, can_update, after_update, has_row, after_delete}
use Rattle.resin_meaning.specs.Under.base.declared.faults.KeepFault.{KeepFault}
use Rattle.resin_meaning.specs.Under.base.declared.faults.KeepFault.TheVariants as fault
use Rattle.resin_machine.specs.State.{State}
use Rattle.resin_machine.specs.declared.stop.Stop.{Stop}
use Rattle.resin_machine.specs.declared.stop.Stop.TheVariants as stop
use Rattle.resin_meaning.specs.KeeperCalls.{kept}
use Rattle.resin_meaning.specs.Programs.{Prog, give, act, ◌>>=◌}
use Rattle.resin_meaning.specs.Runs.{Seen, World, world, seen, Does}
use Rattle.resin_meaning.specs.Runs.{Leads as LeadsTo}
use Rattle.resin_meaning_tables.specs.Plans.{asked, carried_out, paid_for, ticks_left}
use Rattle.resin_machine.specs.Under.scalar.declared.faults.ScriptFault.TheVariants.{FuelSpent}
use Rattle.resin_meaning.specs.Under.store.Files.{LabelledFiles}
use Rattle.resin_machine.specs.Steps.{Act, faults}
use Rattle.resin_machine.proofs.Kept.{keeps_same}
use Rattle.resin_meaning.proofs.Composition.{does_act, does_next, does_stop, does_give, does_nothing, does_unbegun, leads_here, leads_next}
use Rattle.resin_meaning.proofs.OneCall.{does_table_call, does_unasked, create_follows, columns_follows, rows_follows, insert_follows, update_follows, delete_follows}
use Rattle.resin_sql_more.specs.Under.plan.Plans.{Steps, Done, Ask, Plan, Leads, here, behind, Ends, answered, refused, failed, spent, wanting, wanting_in_call}
use Rattle.resin_sql_more.specs.Under.plan.TableCalls.{TableCall, Answer, MakeTable, AskColumns, AskRows, AddRow, SetRow, TakeRow, Keeping, IsCalled}
use Rattle.resin_sql_more.specs.Under.plan.declared.answer.SqlAnswer.{SqlAnswer}
use Rattle.resin_sql_more.specs.Under.sql.declared.fault.SqlRefusal.{SqlRefusal}
use Rattle.resin_sql_more.specs.Under.sql.declared.fault.SqlStop.{SqlStop}
use Rattle.resin_sql_more.specs.Under.sql.declared.fault.SqlStop.TheVariants.{Refused, Keeper, Spent, Memory}
use Rattle.resin_sql_more.specs.Plans as more
use Rattle.resin_sql_more.specs.declared.answer.MoreAnswer.{MoreAnswer}
use Rattle.resin_meaning_tables.specs.Stops.{ended}

-- the keeper of tables and the calls, beside a machine and files
abbrev pub beside : State → Seen LabelledFiles → Keeping → World
beside m f u = world m f (seen u.stored u.faults u.answers) u.calls

-- ---- a call

-- a call of a plan is the keeper call that it asks for
pub does_call : (call : TableCall) (m : State) (f : Seen LabelledFiles) (u v : Keeping) (r : Result (Answer call) KeepFault) → IsCalled call u r v → Does (asked call) (beside m f u) (kept r) (beside m f v)
does_call (MakeTable name columns) m f u v r c =
    does_table_call name true _ m f _ _ u.calls v.calls r c.numbered c.listed (create_follows name columns u.stored v.stored r c.contents) c.cause c.told
does_call (AskColumns name) m f u v r c =
    does_table_call name false _ m f _ _ u.calls v.calls r c.numbered c.listed (columns_follows name u.stored v.stored r c.contents) c.cause c.told
does_call (AskRows name) m f u v r c =
    does_table_call name false _ m f _ _ u.calls v.calls r c.numbered c.listed (rows_follows name u.stored v.stored r c.contents) c.cause c.told
does_call (AddRow name cells) m f u v r c =
    does_table_call name true _ m f _ _ u.calls v.calls r c.numbered c.listed (insert_follows name cells u.stored v.stored r c.contents) c.cause c.told
does_call (SetRow name number cells) m f u v r c =
    does_table_call name true _ m f _ _ u.calls v.calls r c.numbered c.listed (update_follows name number cells u.stored v.stored r c.contents) c.cause c.told
does_call (TakeRow name number) m f u v r c =
    does_table_call name true _ m f _ _ u.calls v.calls r c.numbered c.listed (delete_follows name number u.stored v.stored r c.contents) c.cause c.told

-- the next call has no number
pub does_full : (call : TableCall) (m : State) (f : Seen LabelledFiles) (u : Keeping) → last_count ≤ u.calls.made → Does (asked call) (beside m f u) (Err (stop.Fault FuelSpent m.line)) (beside m f u)
does_full (MakeTable name columns) m f u le = does_unasked _ _ m f _ u.calls u.calls (stop.Fault FuelSpent m.line) _ refl (inl (refl, le), refl)
does_full (AskColumns name) m f u le = does_unasked _ _ m f _ u.calls u.calls (stop.Fault FuelSpent m.line) _ refl (inl (refl, le), refl)
does_full (AskRows name) m f u le = does_unasked _ _ m f _ u.calls u.calls (stop.Fault FuelSpent m.line) _ refl (inl (refl, le), refl)
does_full (AddRow name cells) m f u le = does_unasked _ _ m f _ u.calls u.calls (stop.Fault FuelSpent m.line) _ refl (inl (refl, le), refl)
does_full (SetRow name number cells) m f u le = does_unasked _ _ m f _ u.calls u.calls (stop.Fault FuelSpent m.line) _ refl (inl (refl, le), refl)
does_full (TakeRow name number) m f u le = does_unasked _ _ m f _ u.calls u.calls (stop.Fault FuelSpent m.line) _ refl (inl (refl, le), refl)

-- ---- a plan

-- calls that led along a plan led along its program
pub leads_along : {A : Type 0} {p : Steps A} {u : Keeping} (m : State) (f : Seen LabelledFiles) {q : Steps A} {v : Keeping} → Leads p u q v → LeadsTo (carried_out p) (beside m f u) (carried_out q) (beside m f v)
leads_along m f here = leads_here _ _
leads_along {p = p} {u = u} m f (behind {call = call} {next = next} {answer = answer} {v = v} {w = w} l c) =
    leads_next (carried_out p) (asked call) (λ a. carried_out (next a)) (leads_along m f l) (does_call call m f v w (Ok answer) c)

-- want of memory behind some of its calls
pub does_front : {A : Type 0} (q : Steps A) (w : World) → Does (carried_out q) w (Err stop.Memory) w
does_front (Done end) w = does_nothing (give end) (λ failing at. inl refl)
does_front (Ask call next) w = does_unbegun (asked call) (λ a. carried_out (next a))

-- what the plan comes to, once all calls were made
pub does_all : {A : Type 0} {p : Steps A} {u w : Keeping} {end : A} (m : State) (f : Seen LabelledFiles) → Leads p u (Done end) w → Does (carried_out p) (beside m f u) (Ok end) (beside m f w)
does_all {w = w} {end = end} m f l = (leads_along m f l).goes_on (Ok end) (beside m f w) (does_give end (beside m f w))

-- a call that stops the run
pub does_until : {A : Type 0} {p : Steps A} {u v w : Keeping} {s : Stop} (call : TableCall) (next : Answer call → Steps A) (m : State) (f : Seen LabelledFiles)
    → Leads p u (Ask call next) v → Does (asked call) (beside m f v) (Err s) (beside m f w) → Does (carried_out p) (beside m f u) (Err s) (beside m f w)
does_until {w = w} {s = s} call next m f l d = (leads_along m f l).goes_on (Err s) (beside m f w) (does_stop (asked call) (λ a. carried_out (next a)) d)

pub does_before : {A : Type 0} {p q : Steps A} {u w : Keeping} (m : State) (f : Seen LabelledFiles) → Leads p u q w → Does (carried_out p) (beside m f u) (Err stop.Memory) (beside m f w)
does_before {q = q} {w = w} m f l = (leads_along m f l).goes_on (Err stop.Memory) (beside m f w) (does_front q (beside m f w))

-- too few ticks
does_costly : {A : Type 0} (m : State) (f : Seen LabelledFiles) (u : Keeping) → Does (act (faults {A = A} FuelSpent)) (beside m f u) (Err (stop.Fault FuelSpent m.line)) (beside m f u)
does_costly {A = A} m f u = does_act (faults {A = A} FuelSpent) f _ u.calls (record { acted = refl; ticks = omega arith; keeps = keeps_same m; ties = λ ne h. h })

-- the ticks that are left
pub does_tell : (m : State) (f : Seen LabelledFiles) (u : Keeping) (left : ℕ) → left ≡ m.ticks → Does (act ticks_left) (beside m f u) (Ok left) (beside m f u)
does_tell m f u left e = rw e (does_act ticks_left f _ u.calls (record { acted = refl; ticks = omega arith; keeps = keeps_same m; ties = λ ne h. h }))

-- a statement that is no join and no total
pub does_plan : {p : Plan} {u w : Keeping} {r : Result SqlAnswer SqlStop} (m : State) (f : Seen LabelledFiles) → Ends p u r w → Does (carried_out p) (beside m f u) (ended m.line r) (beside m f w)
does_plan m f (answered l) = does_all m f l
does_plan m f (refused l) = does_all m f l
does_plan m f (failed {call = call} {next = next} {v = v} {w = w} l c) = does_until call next m f l (does_call call m f v w (Err fault.Failed) c)
does_plan m f (spent {call = call} {next = next} {w = w} l le) = does_until call next m f l (does_full call m f w le)
does_plan m f (wanting l) = does_before m f l
does_plan m f (wanting_in_call {call = call} {next = next} {v = v} {w = w} l c) = does_until call next m f l (does_call call m f v w (Err fault.Memory) c)

-- a join or a total, whose cost is asked for where all calls were made
pub does_more : {p : more.Plan} {u w : Keeping} {r : Result MoreAnswer SqlStop} (m : State) (f : Seen LabelledFiles) → more.Ends p u r w → Does (carried_out p >>= paid_for) (beside m f u) (ended m.line r) (beside m f w)
does_more {w = w} m f (more.answered {answer = answer} l) = does_next _ paid_for (does_all m f l) (does_give (Ok answer) (beside m f w))
does_more {w = w} m f (more.refused {x = x} l) = does_next _ paid_for (does_all m f l) (does_give (Err x) (beside m f w))
does_more {w = w} m f (more.dear l) = does_next _ paid_for (does_all m f l) (does_costly m f w)
does_more m f (more.failed {call = call} {next = next} {v = v} {w = w} l c) = does_stop _ paid_for (does_until call next m f l (does_call call m f v w (Err fault.Failed) c))
does_more m f (more.spent {call = call} {next = next} {w = w} l le) = does_stop _ paid_for (does_until call next m f l (does_full call m f w le))
does_more m f (more.wanting l) = does_stop _ paid_for (does_before m f l)
does_more m f (more.wanting_in_call {call = call} {next = next} {v = v} {w = w} l c) = does_stop _ paid_for (does_until call next m f l (does_call call m f v w (Err fault.Memory) c))
