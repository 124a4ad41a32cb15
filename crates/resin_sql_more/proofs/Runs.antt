-- How the parts of a run make a whole.
use Rattle.std.proofs.Common.{◌≡◌, ℕ, ◌≤◌, List, Option, Some, None, Result, Ok, Err, inl, inr, sym, subst, IsErrAnd}
use Rattle.std.proofs.lemmas.Result.{err_from_is_err_and}
use Rattle.resin_base.specs.Causes.{last_count}
use Rattle.resin_base.specs.declared.cell.Column.{Column}
use Rattle.resin_base.specs.declared.cell.Row.{Row}
use Rattle.resin_sql.specs.declared.fault.SqlRefusal.{SqlRefusal}
use Rattle.resin_sql.specs.declared.fault.SqlStop.{SqlStop}
use Rattle.resin_sql.specs.declared.fault.SqlStop.TheVariants.{Refused, Keeper, Spent, Memory}
use Rattle.resin_plan.specs.Plans.{Done, Ask, Leads, here}
use Rattle.resin_plan.specs.TableCalls.{TableCall, AskColumns, AskRows, Answer, Keeping, Makes, makes}
use Rattle.resin_plan.proofs.Runs.{leads_then, leads_on}
use Rattle.resin_sql_more.specs.declared.answer.MoreAnswer.{MoreAnswer}
use Rattle.resin_sql_more.specs.Plans.{End, Plan, Refuses, unless, Comes, Ends, answered, refused, dear, failed, spent, wanting, wanting_in_call}

-- ---- one part and then another

pub ends_then : {p q : Plan} {u v w : Keeping} {r : Result MoreAnswer SqlStop} → Leads p u q v → Ends q v r w → Ends p u r w
ends_then l (answered m) = answered (leads_then l m)
ends_then l (refused m) = refused (leads_then l m)
ends_then l (dear m) = dear (leads_then l m)
ends_then l (failed m c) = failed (leads_then l m) c
ends_then l (spent m le) = spent (leads_then l m) le
ends_then l (wanting m) = wanting (leads_then l m)
ends_then l (wanting_in_call m c) = wanting_in_call (leads_then l m) c

-- a call that wasn't answered ends the run
pub ends_by : {p : Plan} {u v w : Keeping} (call : TableCall) (next : Answer call → Plan) (stop : SqlStop) → Leads p u (Ask call next) v → Makes call v (Err stop) w → Ends p u (Err stop) w
ends_by call next Keeper l (makes c) = failed l c
ends_by {p = p} {u = u} {w = w} call next Spent l (makes c) = spent (subst (λ (x : Keeping). Leads p u (Ask call next) x) (sym c.1) l) (subst (λ (x : Keeping). last_count ≤ x.calls.made) (sym c.1) c.0)
ends_by {p = p} {u = u} {w = w} call next Memory l (makes (inl e)) = wanting (subst (λ (x : Keeping). Leads p u (Ask call next) x) (sym e) l)
ends_by call next Memory l (makes (inr c)) = wanting_in_call l c
ends_by call next (Refused x) l (makes c) = absurd c

-- ---- the exits of `?`

pub ends_as : {p : Plan} {u w : Keeping} {e : SqlStop} (r : Result MoreAnswer SqlStop) → IsErrAnd r (λ y. y ≡ e) → Ends p u (Err e) w → Ends p u r w
ends_as r h d = let y = err_from_is_err_and r h in rw (y.1, y.2) d

pub wanting_exit : {p q : Plan} {u w : Keeping} (r : Result MoreAnswer SqlStop) → IsErrAnd r (λ y. y ≡ Memory) → Leads p u q w → Ends p u r w
wanting_exit r h l = ends_as r h (wanting l)

-- ---- calls whose arguments have other names

pub columns_exit : {u w : Keeping} {e : SqlStop} (name table : List ℕ) (next : Option (List Column) → Plan) (r : Result MoreAnswer SqlStop) → IsErrAnd r (λ y. y ≡ e) → name ≡ table
    → Makes (AskColumns name) u (Err e) w → Ends (Ask (AskColumns table) next) u r w
columns_exit {u = u} {w = w} {e = e} name table next r h is m =
    ends_as r h (ends_by (AskColumns table) next e here (subst (λ (n : List ℕ). Makes (AskColumns n) u (Err e) w) is m))

pub columns_on : {u v w : Keeping} (name table : List ℕ) (next : Option (List Column) → Plan) (kept : Option (List Column)) (r : Result MoreAnswer SqlStop) → name ≡ table
    → Makes (AskColumns name) u (Ok kept) v → Ends (next kept) v r w → Ends (Ask (AskColumns table) next) u r w
columns_on {u = u} {v = v} name table next kept r is m d =
    ends_then (leads_on (AskColumns table) next kept here (subst (λ (n : List ℕ). Makes (AskColumns n) u (Ok kept) v) is m)) d

pub rows_exit : {u w : Keeping} {e : SqlStop} (name table : List ℕ) (next : List Row → Plan) (r : Result MoreAnswer SqlStop) → IsErrAnd r (λ y. y ≡ e) → name ≡ table
    → Makes (AskRows name) u (Err e) w → Ends (Ask (AskRows table) next) u r w
rows_exit {u = u} {w = w} {e = e} name table next r h is m =
    ends_as r h (ends_by (AskRows table) next e here (subst (λ (n : List ℕ). Makes (AskRows n) u (Err e) w) is m))

pub rows_on : {u v w : Keeping} (name table : List ℕ) (next : List Row → Plan) (rows : List Row) (r : Result MoreAnswer SqlStop) → name ≡ table
    → Makes (AskRows name) u (Ok rows) v → Ends (next rows) v r w → Ends (Ask (AskRows table) next) u r w
rows_on {u = u} {v = v} name table next rows r is m d =
    ends_then (leads_on (AskRows table) next rows here (subst (λ (n : List ℕ). Makes (AskRows n) u (Ok rows) v) is m)) d

-- ---- ends without a call

pub cause_exit : {u : Keeping} (cause : Option SqlRefusal) (rest : Plan) (x : SqlRefusal) → cause ≡ Some x → Ends (unless cause rest) u (Err (Refused x)) u
cause_exit {u = u} cause rest x e = subst (λ (c : Option SqlRefusal). Ends (unless c rest) u (Err (Refused x)) u) (sym e) (refused here)

pub cause_on : {u w : Keeping} (cause : Option SqlRefusal) (rest : Plan) (r : Result MoreAnswer SqlStop) → cause ≡ None → Ends rest u r w → Ends (unless cause rest) u r w
cause_on {u = u} {w = w} cause rest r e d = subst (λ (c : Option SqlRefusal). Ends (unless c rest) u r w) (sym e) d

pub comes : {u : Keeping} (e : End) (r : Result MoreAnswer SqlStop) → Comes e r → Ends (Done e) u r u
comes {u = u} e (Ok a) h = subst (λ (x : End). Ends (Done x) u (Ok a) u) (sym h) (answered here)
comes {u = u} e (Err (Refused x)) h = subst (λ (y : End). Ends (Done y) u (Err (Refused x)) u) (sym h) (refused here)
comes {u = u} e (Err Spent) h = subst (λ (x : End). Ends (Done x) u (Err Spent) u) (sym h) (dear here)
comes e (Err Memory) h = wanting here
comes e (Err Keeper) h = absurd h

-- a plan that is another is run as that one
pub ends_same : {p q : Plan} {u w : Keeping} {r : Result MoreAnswer SqlStop} → p ≡ q → Ends q u r w → Ends p u r w
ends_same {u = u} {w = w} {r = r} e d = subst (λ (x : Plan). Ends x u r w) (sym e) d

pub refuses : {p : Plan} {u : Keeping} (x : SqlRefusal) → p ≡ Done (Refuses x) → Ends p u (Err (Refused x)) u
refuses {u = u} x e = ends_same e (refused here)
