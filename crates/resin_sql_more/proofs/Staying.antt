-- A run that only asks leaves the tables as they are.
use Rattle.std.proofs.Common.{◌≡◌, ℕ, List, Bool, true, false, cond, Option, Some, None, Result, Ok, refl, ◌∙◌}
use Rattle.std.specs.Str.{bytes_eq}
use Rattle.resin_base.specs.Contents.{Told}
use Rattle.resin_base.specs.TableStore.{TableStore}
use Rattle.resin_base.specs.declared.cell.Column.{Column}
use Rattle.resin_base.specs.declared.cell.Row.{Row}
use Rattle.resin_base.specs.declared.faults.KeepFault.{KeepFault}
use Rattle.resin_base.specs.declared.stored.StoredCell.{StoredCell}
use Rattle.resin_sql.specs.declared.fault.SqlRefusal.{SqlRefusal}
use Rattle.resin_sql.specs.declared.fault.SqlRefusal.TheVariants.{SameTable}
use Rattle.resin_sql.specs.declared.fault.SqlStop.{SqlStop}
use Rattle.resin_joint.specs.declared.tree.JoinStmt.{JoinStmt}
use Rattle.resin_joint.specs.declared.tree.TotalStmt.{TotalStmt}
use Rattle.resin_plan.specs.Plans.{Done, Ask, Leads, here, behind}
use Rattle.resin_plan.specs.TableCalls.{TableCall, MakeTable, AskColumns, AskRows, AddRow, SetRow, TakeRow, Answer, Changes, Keeping, IsCalled}
use Rattle.resin_sql_more.specs.declared.answer.MoreAnswer.{MoreAnswer}
use Rattle.resin_sql_more.specs.Plans.{Plan, Refuses, unless, Ends, answered, refused, dear, failed, spent, wanting, wanting_in_call, Stays}
use Rattle.resin_sql_more.specs.Joins.{join_plan, join_on, join_rows, join_cause, both_columns, shape_of}
use Rattle.resin_sql_more.specs.Totals.{total_plan, total_on, total_rows, total_cause}

-- each of its calls asks for columns or rows
abbrev pub OnlyAsks : Plan → Type 0
OnlyAsks (Done e) = Unit {0}
OnlyAsks (Ask (MakeTable name columns) next) = ⊥
OnlyAsks (Ask (AskColumns name) next) = (kept : Option (List Column)) → OnlyAsks (next kept)
OnlyAsks (Ask (AskRows name) next) = (rows : List Row) → OnlyAsks (next rows)
OnlyAsks (Ask (AddRow name cells) next) = ⊥
OnlyAsks (Ask (SetRow name number cells) next) = ⊥
OnlyAsks (Ask (TakeRow name number) next) = ⊥

abbrev Same : Option TableStore → Option TableStore → Type 0
Same s t = Told s t (λ x y. y ≡ x)

same-refl : (s : Option TableStore) → Same s s
same-refl None = tt
same-refl (Some s) = refl

same-then : (s t w : Option TableStore) → Same s t → Same t w → Same s w
same-then None t w a b = tt
same-then (Some s) None w a b = absurd a
same-then (Some s) (Some t) None a b = absurd b
same-then (Some s) (Some t) (Some w) a b = b ∙ a

shown : (s t : Option TableStore) (P : TableStore → TableStore → Type 0) → ((x y : TableStore) → P x y → y ≡ x) → Told s t P → Same s t
shown None t P f h = tt
shown (Some s) None P f h = absurd h
shown (Some s) (Some t) P f h = f s t h

-- what may follow a call is left only by one that asks
asked : (call : TableCall) (next : Answer call → Plan) (r : Result (Answer call) KeepFault) (v w : Keeping) → OnlyAsks (Ask call next) → IsCalled call v r w → Same v.stored w.stored
asked (MakeTable name columns) next r v w o c = absurd o
asked (AskColumns name) next r v w o c = shown v.stored w.stored (λ s t. Changes (AskColumns name) s r t) (λ x y h. h.0) c.contents
asked (AskRows name) next r v w o c = shown v.stored w.stored (λ s t. Changes (AskRows name) s r t) (λ x y h. h.0) c.contents
asked (AddRow name cells) next r v w o c = absurd o
asked (SetRow name number cells) next r v w o c = absurd o
asked (TakeRow name number) next r v w o c = absurd o

goes-on : (call : TableCall) (next : Answer call → Plan) (answer : Answer call) → OnlyAsks (Ask call next) → OnlyAsks (next answer)
goes-on (MakeTable name columns) next answer o = absurd o
goes-on (AskColumns name) next answer o = o answer
goes-on (AskRows name) next answer o = o answer
goes-on (AddRow name cells) next answer o = absurd o
goes-on (SetRow name number cells) next answer o = absurd o
goes-on (TakeRow name number) next answer o = absurd o

leads-asks : {p : Plan} {u : Keeping} {q : Plan} {v : Keeping} → OnlyAsks p → Leads p u q v → Same u.stored v.stored × OnlyAsks q
leads-asks {u = u} o here = (same-refl u.stored, o)
leads-asks {u = u} {v = w} o (behind {call = call} {next = next} {answer = answer} {v = v} l c) =
    let h = leads-asks o l in
    (same-then u.stored v.stored w.stored h.0 (asked call next (Ok answer) v w h.1 c), goes-on call next answer h.1)

pub stays : {p : Plan} {u w : Keeping} {r : Result MoreAnswer SqlStop} → OnlyAsks p → Ends p u r w → Stays u w
stays o (answered l) = (leads-asks o l).0
stays o (refused l) = (leads-asks o l).0
stays o (dear l) = (leads-asks o l).0
stays {u = u} {w = w} o (failed {call = call} {next = next} {v = v} l c) = let h = leads-asks o l in same-then u.stored v.stored w.stored h.0 (asked call next _ v w h.1 c)
stays o (spent l le) = (leads-asks o l).0
stays o (wanting l) = (leads-asks o l).0
stays {u = u} {w = w} o (wanting_in_call {call = call} {next = next} {v = v} l c) = let h = leads-asks o l in same-then u.stored v.stored w.stored h.0 (asked call next _ v w h.1 c)

-- ---- joins and totals

unless-asks : (cause : Option SqlRefusal) (rest : Plan) → OnlyAsks rest → OnlyAsks (unless cause rest)
unless-asks None rest o = o
unless-asks (Some x) rest o = tt

rows-ask : (s : JoinStmt) (vs : List StoredCell) (left : ℕ) (ts us : List Column) → OnlyAsks (join_rows s vs left ts us)
unfolding join_rows
rows-ask s vs left ts us = unless-asks (join_cause s vs (both_columns s ts us)) _ (λ firsts lasts. tt)

on-asks : (s : JoinStmt) (vs : List StoredCell) (left : ℕ) (ts us : Option (List Column)) → OnlyAsks (join_on s vs left ts us)
on-asks s vs left None us = tt
on-asks s vs left (Some ts) None = tt
on-asks s vs left (Some ts) (Some us) = rows-ask s vs left ts us

unless-same : (b : Bool) (rest : Plan) → OnlyAsks rest → OnlyAsks (cond b (Done (Refuses SameTable)) rest)
unless-same true rest o = tt
unless-same false rest o = o

pub join_asks : (s : JoinStmt) (vs : List StoredCell) (left : ℕ) → OnlyAsks (join_plan s vs left)
unfolding join_plan
join_asks s vs left = unless-same (bytes_eq s.table s.joined) _ (λ ts us. on-asks s vs left (shape_of ts) (shape_of us))

total-rows-ask : (s : TotalStmt) (vs : List StoredCell) (left : ℕ) (columns : List Column) → OnlyAsks (total_rows s vs left columns)
unfolding total_rows
total-rows-ask s vs left columns = unless-asks (total_cause s vs columns) _ (λ rows. tt)

total-on-asks : (s : TotalStmt) (vs : List StoredCell) (left : ℕ) (columns : Option (List Column)) → OnlyAsks (total_on s vs left columns)
total-on-asks s vs left None = tt
total-on-asks s vs left (Some columns) = total-rows-ask s vs left columns

pub total_asks : (s : TotalStmt) (vs : List StoredCell) (left : ℕ) → OnlyAsks (total_plan s vs left)
unfolding total_plan
total_asks s vs left = λ columns. total-on-asks s vs left (shape_of columns)
