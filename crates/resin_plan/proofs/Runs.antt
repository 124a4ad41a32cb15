-- How the parts of a run make a whole.
use Rattle.std.proofs.Common.{◌≡◌, ℕ, ◌≤◌, ◌<◌, List, Bool, Option, Some, None, Result, Ok, Err, inl, inr, sym, ap, subst, IsErrAnd}
use Rattle.std.proofs.lemmas.Result.{err_from_is_err_and}
use Rattle.resin_base.specs.Causes.{last_count, HasCause, TellsMore, outcome}
use Rattle.resin_base.specs.Contents.{Told}
use Rattle.resin_base.specs.Numbering.{Lists}
use Rattle.resin_base.specs.TableStore.{TableStore}
use Rattle.resin_base.specs.declared.calls.Calls.{Calls}
use Rattle.resin_base.specs.declared.faults.KeepFault.{KeepFault}
use Rattle.resin_base.specs.declared.faults.KeepFault.TheVariants as fault
use Rattle.resin_sql.specs.declared.fault.SqlRefusal.{SqlRefusal}
use Rattle.resin_sql.specs.declared.fault.SqlStop.{SqlStop}
use Rattle.resin_sql.specs.declared.fault.SqlStop.TheVariants.{Refused, Keeper, Spent, Memory}
use Rattle.resin_plan.specs.declared.answer.SqlAnswer.{SqlAnswer}
use Rattle.resin_base.specs.declared.cell.Column.{Column}
use Rattle.resin_base.specs.declared.cell.Row.{Row}
use Rattle.resin_plan.specs.Statements.{on_table}
use Rattle.resin_plan.specs.TableCalls.{TableCall, MakeTable, AskRows, Answer, Changes, Keeping, keeping, Makes, makes, Asks, ended}
use Rattle.resin_plan.specs.Plans.{Steps, Plan, Ask, give, refuse, unless, passed, Leads, here, behind, Ends, answered, refused, failed, spent, wanting, wanting_in_call, GoesOn}

-- ---- one call

-- where the number of the next call wasn't listed
pub makes_unasked : (call : TableCall) (s : Option TableStore) (f : ℕ) (a : Option (List Bool)) (c c' : Calls) (e : SqlStop) (r : Result (Answer call) SqlStop)
    → IsErrAnd r (λ y. y ≡ e) → Asks c (Err e) c' → Makes call (keeping s f a c) r (keeping s f a c')
makes_unasked call s f a c c' e r h (inl x, same) =
    let y = err_from_is_err_and r h in
    rw (y.1, y.2, x.0) (makes (x.1, ap (keeping s f a) same))
makes_unasked call s f a c c' e r h (inr x, same) =
    let y = err_from_is_err_and r h in
    rw (y.1, y.2, x) (makes (inl (ap (keeping s f a) same)))

-- where it was, and the keeper was asked
pub makes_asked : (call : TableCall) (s s' : Option TableStore) (f f' : ℕ) (a a' : Option (List Bool)) (c c' : Calls) (answer : Result (Answer call) KeepFault)
    → c.made < last_count → Lists c answer c' → Told s s' (λ x y. Changes call x answer y) → HasCause f f' answer → TellsMore a a' (outcome answer)
    → Makes call (keeping s f a c) (ended answer) (keeping s' f' a' c')
makes_asked call s s' f f' a a' c c' (Ok v) room listed contents cause told =
    makes (record { numbered = room; contents = contents; cause = cause; told = told; listed = listed })
makes_asked call s s' f f' a a' c c' (Err fault.Failed) room listed contents cause told =
    makes (record { numbered = room; contents = contents; cause = cause; told = told; listed = listed })
makes_asked call s s' f f' a a' c c' (Err fault.Memory) room listed contents cause told =
    makes (inr (record { numbered = room; contents = contents; cause = cause; told = told; listed = listed }))

-- ---- one part and then another

pub leads_then : {A : Type 0} {p q : Steps A} {u v : Keeping} {s : Steps A} {w : Keeping} → Leads p u q v → Leads q v s w → Leads p u s w
leads_then l here = l
leads_then l (behind m c) = behind (leads_then l m) c

pub ends_then : {p q : Plan} {u v w : Keeping} {r : Result SqlAnswer SqlStop} → Leads p u q v → Ends q v r w → Ends p u r w
ends_then l (answered m) = answered (leads_then l m)
ends_then l (refused m) = refused (leads_then l m)
ends_then l (failed m c) = failed (leads_then l m) c
ends_then l (spent m le) = spent (leads_then l m) le
ends_then l (wanting m) = wanting (leads_then l m)
ends_then l (wanting_in_call m c) = wanting_in_call (leads_then l m) c

-- a call that was answered leads on
pub leads_on : {A : Type 0} {p : Steps A} {u v w : Keeping} (call : TableCall) (next : Answer call → Steps A) (answer : Answer call) → Leads p u (Ask call next) v → Makes call v (Ok answer) w → Leads p u (next answer) w
leads_on call next answer l (makes c) = behind l c

-- a call that wasn't ends the run
pub ends_by : {p : Plan} {u v w : Keeping} (call : TableCall) (next : Answer call → Plan) (stop : SqlStop) → Leads p u (Ask call next) v → Makes call v (Err stop) w → Ends p u (Err stop) w
ends_by call next Keeper l (makes c) = failed l c
ends_by {p = p} {u = u} {w = w} call next Spent l (makes c) = spent (subst (λ (x : Keeping). Leads p u (Ask call next) x) (sym c.1) l) (subst (λ (x : Keeping). last_count ≤ x.calls.made) (sym c.1) c.0)
ends_by {p = p} {u = u} {w = w} call next Memory l (makes (inl e)) = wanting (subst (λ (x : Keeping). Leads p u (Ask call next) x) (sym e) l)
ends_by call next Memory l (makes (inr c)) = wanting_in_call l c
ends_by call next (Refused x) l (makes c) = absurd c

-- ---- the exits of `?`

pub ends_as : {p : Plan} {u w : Keeping} {e : SqlStop} (r : Result SqlAnswer SqlStop) → IsErrAnd r (λ y. y ≡ e) → Ends p u (Err e) w → Ends p u r w
ends_as r h d = let y = err_from_is_err_and r h in rw (y.1, y.2) d

pub wanting_exit : {p q : Plan} {u w : Keeping} (r : Result SqlAnswer SqlStop) → IsErrAnd r (λ y. y ≡ Memory) → Leads p u q w → Ends p u r w
wanting_exit r h l = ends_as r h (wanting l)

pub call_exit : {p : Plan} {u v w : Keeping} {e : SqlStop} (call : TableCall) (next : Answer call → Plan) (r : Result SqlAnswer SqlStop) → IsErrAnd r (λ y. y ≡ e) → Leads p u (Ask call next) v → Makes call v (Err e) w → Ends p u r w
call_exit call next r h l m = ends_as r h (ends_by call next _ l m)

pub pass_exit : {u : Keeping} {e : SqlStop} (cause : Option SqlRefusal) (rest : Plan) (r : Result SqlAnswer SqlStop) → IsErrAnd r (λ y. y ≡ e) → Err e ≡ passed cause → Ends (unless cause rest) u r u
pass_exit None rest r h is = absurd (cc)
pass_exit {u = u} (Some x) rest r h is = ends_as r h (subst (λ (s : Result (Unit {0}) SqlStop). at_stop s) (sym is) (refused here))
  where
    at_stop : Result (Unit {0}) SqlStop → Type 0
    at_stop (Ok t) = Unit {0}
    at_stop (Err s) = Ends (refuse x) u (Err s) u

pub pass_on : {u w : Keeping} (cause : Option SqlRefusal) (rest : Plan) (r : Result SqlAnswer SqlStop) → Ok tt ≡ passed cause → Ends rest u r w → Ends (unless cause rest) u r w
pass_on None rest r is d = d
pass_on (Some x) rest r is d = absurd (cc)

pub goes_exit : {A : Type 0} {p : Plan} {u w : Keeping} {e : SqlStop} (rest : A → Plan) (r : Result A SqlStop) → IsErrAnd r (λ y. y ≡ e) → Ends p u (Err e) w → GoesOn p u r rest w
goes_exit rest r h d = let y = err_from_is_err_and r h in rw (y.1, y.2) d

-- ---- the other parts

-- a plan that is another is run as that one
pub ends_same : {p q : Plan} {u w : Keeping} {r : Result SqlAnswer SqlStop} → p ≡ q → Ends q u r w → Ends p u r w
ends_same {u = u} {w = w} {r = r} e d = subst (λ (x : Plan). Ends x u r w) (sym e) d

-- an answer, by the plan that it stands for
pub gives : {p : Plan} {u : Keeping} (a : SqlAnswer) → give a ≡ p → Ends p u (Ok a) u
gives {u = u} a e = subst (λ (x : Plan). Ends x u (Ok a) u) e (answered here)

pub refuses : {p : Plan} {u : Keeping} (x : SqlRefusal) → refuse x ≡ p → Ends p u (Err (Refused x)) u
refuses {u = u} x e = subst (λ (y : Plan). Ends y u (Err (Refused x)) u) e (refused here)

-- ---- the table of a statement

pub opened_exit : {u w : Keeping} {e : SqlStop} (name table : List ℕ) (rest : List Column → Plan) (r : Result SqlAnswer SqlStop) → IsErrAnd r (λ y. y ≡ e) → name ≡ table
    → ((k : List Column → Plan) → Ends (on_table name k) u (Err e) w) → Ends (on_table table rest) u r w
opened_exit {u = u} {w = w} {e = e} name table rest r h is all = ends_as r h (subst (λ (n : List ℕ). Ends (on_table n rest) u (Err e) w) is (all rest))

pub opened_on : {u v w : Keeping} (name table : List ℕ) (rest : List Column → Plan) (columns : List Column) (r : Result SqlAnswer SqlStop) → name ≡ table
    → ((k : List Column → Plan) → Leads (on_table name k) u (k columns) v) → Ends (rest columns) v r w → Ends (on_table table rest) u r w
opened_on {u = u} {v = v} name table rest columns r is all d = ends_then (subst (λ (n : List ℕ). Leads (on_table n rest) u (rest columns) v) is (all rest)) d

-- ---- calls whose arguments have other names

pub rows_exit : {u w : Keeping} {e : SqlStop} (name table : List ℕ) (next : List Row → Plan) (r : Result SqlAnswer SqlStop) → IsErrAnd r (λ y. y ≡ e) → name ≡ table
    → Makes (AskRows name) u (Err e) w → Ends (Ask (AskRows table) next) u r w
rows_exit {u = u} {w = w} {e = e} name table next r h is m = call_exit (AskRows table) next r h here (subst (λ (n : List ℕ). Makes (AskRows n) u (Err e) w) is m)

pub rows_on : {u v w : Keeping} (name table : List ℕ) (next : List Row → Plan) (rows : List Row) (r : Result SqlAnswer SqlStop) → name ≡ table
    → Makes (AskRows name) u (Ok rows) v → Ends (next rows) v r w → Ends (Ask (AskRows table) next) u r w
rows_on {u = u} {v = v} name table next rows r is m d =
    ends_then (leads_on (AskRows table) next rows here (subst (λ (n : List ℕ). Makes (AskRows n) u (Ok rows) v) is m)) d

pub make_exit : {u w : Keeping} {e : SqlStop} (name table : List ℕ) (columns kept : List Column) (next : Bool → Plan) (r : Result SqlAnswer SqlStop) → IsErrAnd r (λ y. y ≡ e) → name ≡ table → columns ≡ kept
    → Makes (MakeTable name columns) u (Err e) w → Ends (Ask (MakeTable table kept) next) u r w
make_exit {u = u} {w = w} {e = e} name table columns kept next r h is is' m =
    call_exit (MakeTable table kept) next r h here (subst (λ (n : List ℕ). Makes (MakeTable n kept) u (Err e) w) is (subst (λ (cs : List Column). Makes (MakeTable name cs) u (Err e) w) is' m))

pub make_on : {u v w : Keeping} (name table : List ℕ) (columns kept : List Column) (next : Bool → Plan) (made : Bool) (r : Result SqlAnswer SqlStop) → name ≡ table → columns ≡ kept
    → Makes (MakeTable name columns) u (Ok made) v → Ends (next made) v r w → Ends (Ask (MakeTable table kept) next) u r w
make_on {u = u} {v = v} name table columns kept next made r is is' m d =
    ends_then (leads_on (MakeTable table kept) next made here (subst (λ (n : List ℕ). Makes (MakeTable n kept) u (Ok made) v) is (subst (λ (cs : List Column). Makes (MakeTable name cs) u (Ok made) v) is' m))) d

-- what follows the columns, under other names of them
pub renamed : {v w : Keeping} {r : Result SqlAnswer SqlStop} (rest : List Column → List (List ℕ) → Plan) (cs columns : List Column) (ns names : List (List ℕ)) → cs ≡ columns → ns ≡ names → Ends (rest cs ns) v r w → Ends (rest columns names) v r w
renamed {v = v} {w = w} {r = r} rest cs columns ns names e f d =
    subst (λ (x : List Column). Ends (rest x names) v r w) e (subst (λ (x : List (List ℕ)). Ends (rest cs x) v r w) f d)

-- another name of what is left
pub leads_same : {A : Type 0} {p q q' : Steps A} {u v : Keeping} → q ≡ q' → Leads p u q v → Leads p u q' v
leads_same {A = A} {p = p} {u = u} {v = v} e l = subst (λ (x : Steps A). Leads p u x v) e l
