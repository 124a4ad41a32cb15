-- Statements (PHP manual, "Control Structures" and "Exceptions").
use Rattle.std.specs.Prelude.{ℕ, zero, suc, List, [], ◌∷◌, Bool, true, if◌then◌else◌, Option, None, Some, Result, Ok, Err}
use Rattle.std.specs.List.{list_any}
use Rattle.resin_builtin.specs.Under.label.Sets.{empty as no_labels}
use Rattle.resin_builtin.specs.Under.lstr.Texts.{carrying}
use Rattle.resin_builtin.specs.Under.scalar.declared.faults.ScriptFault.TheVariants.{FuelSpent, BadOperand}
use Rattle.resin_builtin.specs.Under.value.declared.key.Key.{Key}
use Rattle.resin_builtin.specs.Under.value.declared.key.Key.TheVariants.{Int as IntKey, Text as TextKey}
use Rattle.resin_builtin.specs.Under.value.declared.value.Value.{Value}
use Rattle.resin_builtin.specs.Under.value.declared.value.Value.TheVariants.{Null, Int, Text, Arr, Obj}
use Rattle.resin_builtin.specs.Under.value.Trees.{Tree, object}
use Rattle.resin_builtin.specs.Under.value.Seen.{tree_of}
use Rattle.resin_builtin.specs.Under.value.Values.{value_of}
use Rattle.resin_builtin.specs.Under.value.Arrays.{EntryList}
use Rattle.resin_target.specs.Under.tree.declared.expression.Expr.{Expr}
use Rattle.resin_target.specs.Under.tree.declared.expression.Target.{Target}
use Rattle.resin_target.specs.Under.tree.declared.statement.Branch.{Branch, out-Branch}
use Rattle.resin_target.specs.Under.tree.declared.statement.Case.{Case, out-Case}
use Rattle.resin_target.specs.Under.tree.declared.statement.Catch.{Catch, out-Catch}
use Rattle.resin_target.specs.Under.tree.declared.statement.Loop.{Loop, Loop-F, out-Loop}
use Rattle.resin_target.specs.Under.tree.declared.statement.Simple.{Simple}
use Rattle.resin_target.specs.Under.tree.declared.statement.Simple.TheVariants as simple
use Rattle.resin_target.specs.Under.tree.declared.statement.Stmt.{Stmt}
use Rattle.resin_target.specs.Under.tree.declared.statement.StmtKind.{StmtKind, StmtKind-F, out-StmtKind}
use Rattle.resin_target.specs.Under.heap.declared.prelude.PreludeClass.TheVariants.{Throwable}
use Rattle.resin_target.specs.Under.machine.declared.stop.Stop.{Stop}
use Rattle.resin_target.specs.Under.machine.declared.stop.Stop.TheVariants.{Thrown, Exit}
use Rattle.resin_target.specs.Under.machine.State.{State}
use Rattle.resin_target.specs.Under.machine.Steps.{awake}
use Rattle.resin_target.specs.Under.machine.Variables.{assign as assign_variable, bind_global}
use Rattle.resin_meaning_tables.specs.Under.meaning.Programs.{Prog, give, stop, ended, act, tried, ◌>>=◌}
use Rattle.resin_meaning_forms.specs.declared.course.Course.{Course}
use Rattle.resin_meaning_forms.specs.declared.course.Course.TheVariants.{Next, Break, Continue, Return}
use Rattle.resin_meaning_forms.specs.Parts.{Evals, faulted, looked, ◌>>◌}
use Rattle.resin_meaning_forms.specs.Invoke.{block}
use Rattle.resin_meaning_forms.specs.Merges.{is_under}
use Rattle.resin_meaning_forms.specs.Operators.{equal, fits}
use Rattle.resin_meaning_forms.specs.Targets.{steps}
use Rattle.resin_target.specs.Targets.{erase}
use Rattle.resin_meaning_forms.specs.Writes.{echo, inline}
use Rattle.resin_meaning_forms.specs.Expressions.{holds}

-- ---- statements that hold no other

-- each operand is written before the next one is evaluated
abbrev pub echo_all : Evals → List Expr → Prog Course
echo_all ev [] = give Next
echo_all ev (e ∷ es) = do
  v ← ev.expr e
  echo ev v
  echo_all ev es

abbrev pub unset_all : Evals → List Target → Prog Course
unset_all ev [] = give Next
unset_all ev (t ∷ ts) = do
  path ← steps ev t.path
  act (erase t.variable path)
  unset_all ev ts

abbrev pub bind_all : List (List ℕ) → Prog Course
bind_all [] = give Next
bind_all (x ∷ xs) = act (bind_global x) >> bind_all xs

abbrev pub object_or_none : Value → ℕ
object_or_none (Obj o) = o
object_or_none v = 0

-- only an object under Throwable is thrown
abbrev pub throw : Value → Prog Course
throw v = do
  fit ← looked (λ m. is_under Throwable m (tree_of v))
  if fit then stop (Thrown (object_or_none v)) else faulted BadOperand

abbrev pub returned : Evals → Option Expr → Prog Course
returned ev None = give (Return Null)
returned ev (Some e) = ev.expr e >>= λ v. give (Return v)

abbrev pub simple_form : Evals → Simple → Prog Course
simple_form ev (simple.Inline bytes) = inline ev bytes >> give Next
simple_form ev (simple.Do e) = ev.expr e >> give Next
simple_form ev (simple.Echo es) = echo_all ev es
simple_form ev (simple.Return e) = returned ev e
simple_form ev (simple.Throw e) = ev.expr e >>= throw
simple_form ev simple.Break = give Break
simple_form ev simple.Continue = give Continue
simple_form ev (simple.Unset ts) = unset_all ev ts
simple_form ev (simple.Global names) = bind_all names
simple_form ev simple.Exit = act awake >> stop Exit

-- ---- `if`

abbrev pub other_branch : Evals → Option Stmt → Prog Course
other_branch ev None = give Next
other_branch ev (Some s) = ev.stmt s

-- the first branch whose condition holds, else the other
abbrev pub branches : Evals → Option Stmt → List Branch → Prog Course
branches ev other [] = other_branch ev other
branches ev other (b ∷ bs) = ev.expr (out-Branch b).condition >>= λ v. if holds v then ev.stmt (out-Branch b).body else branches ev other bs

-- ---- loops

-- what a turn's end means for the loop: nothing where the loop goes on, else how it ends
abbrev pub turn_end : Course → Option Course
turn_end Next = None
turn_end Continue = None
turn_end Break = Some Next
turn_end (Return v) = Some (Return v)

abbrev pub going_on : Prog Course → Option Course → Prog Course
going_on further None = further
going_on further (Some course) = give course

-- a turn, and then what follows where the loop goes on
abbrev pub turn : Evals → Stmt → Prog Course → Prog Course
turn ev body further = ev.stmt body >>= λ course. going_on further (turn_end course)

-- at most so many turns: each takes a tick at least
abbrev pub while_turns : ℕ → Evals → Expr → Stmt → Prog Course
while_turns zero ev e body = faulted FuelSpent
while_turns (suc n) ev e body = ev.expr e >>= λ v. if holds v then turn ev body (while_turns n ev e body) else give Next

-- with as many turns as there are ticks, and one
abbrev pub by_ticks : {A : Type 0} → (ℕ → Prog A) → Prog A
by_ticks turns failing at = turns (suc at.state.ticks) failing at

abbrev pub while_loop : Evals → Expr → Stmt → Prog Course
while_loop ev e body = by_ticks (λ n. while_turns n ev e body)

-- all expressions are evaluated, and the last one decides; none is true
abbrev pub last_holds : Evals → Bool → List Expr → Prog Bool
last_holds ev so_far [] = give so_far
last_holds ev so_far (e ∷ es) = ev.expr e >>= λ v. last_holds ev (holds v) es

-- expressions that are evaluated for what they do
abbrev pub run_all : Evals → List Expr → Prog (Unit {0})
run_all ev [] = give tt
run_all ev (e ∷ es) = ev.expr e >> run_all ev es

abbrev pub for_turns : ℕ → Evals → List Expr → List Expr → Stmt → Prog Course
for_turns zero ev tests steps body = faulted FuelSpent
for_turns (suc n) ev tests steps body = do
  more ← last_holds ev true tests
  if more then turn ev body (run_all ev steps >> for_turns n ev tests steps body) else give Next

abbrev pub for_loop : Evals → List Expr → List Expr → Stmt → Prog Course
for_loop ev tests steps body = by_ticks (λ n. for_turns n ev tests steps body)

-- a key as a value
abbrev pub key_value : Key → Value
key_value (IntKey n) = Int n no_labels
key_value (TextKey b) = Text (carrying no_labels b)

abbrev pub assign_key : Option (List ℕ) → Key → Prog (Unit {0})
assign_key None k = give tt
assign_key (Some x) k = act (assign_variable x (key_value k))

-- an entry for the variables of a `foreach`: the key is assigned first, then the value
abbrev pub assign_entry : Option (List ℕ) → List ℕ → Key × Tree → Prog (Unit {0})
assign_entry kx x e = assign_key kx e.0 >> act (assign_variable x (value_of e.1))

-- the entries of an array as it was
abbrev pub each_entry : Evals → Option (List ℕ) → List ℕ → Stmt → EntryList → Prog Course
each_entry ev kx x body [] = give Next
each_entry ev kx x body (e ∷ es) = assign_entry kx x e >> turn ev body (each_entry ev kx x body es)

abbrev pub foreach : Evals → Option (List ℕ) → List ℕ → Stmt → Value → Prog Course
foreach ev kx x body (Arr a) = each_entry ev kx x body a.entries
foreach ev kx x body v = faulted BadOperand

abbrev pub loop_form : Evals → Loop → Prog Course
loop_form ev l = elim (out-Loop l) [
  | Loop-F.While e body ↦ while_loop ev e body
  | Loop-F.DoWhile body e ↦ turn ev body (while_loop ev e body)
  | Loop-F.For first tests steps body ↦ run_all ev first >> for_loop ev tests steps body
  | Loop-F.Foreach e kx x body ↦ ev.expr e >>= foreach ev kx x body
]

-- ---- `switch`

-- the cases from `default:` on
abbrev pub from_default : List Case → List Case
from_default [] = []
from_default (c ∷ cs) = elim (out-Case c).condition [ None ↦ c ∷ cs | Some e ↦ from_default cs ]

-- the cases from the first on that is equal, as `==` says, to the subject; those from `default:` on where none is
abbrev pub chosen : Evals → Value → List Case → List Case → Prog (List Case)
chosen ev v default [] = give default
chosen ev v default (c ∷ cs) = elim (out-Case c).condition [
  | None ↦ chosen ev v default cs
  | Some e ↦ (do
    w ← ev.expr e
    same ← equal (tree_of v) (tree_of w)
    if same then give (c ∷ cs) else chosen ev v default cs)
]

-- the statements of all these cases run, one case after the other; `break` and `continue` in them end the `switch`
abbrev pub run_cases : Evals → List Case → Prog Course
run_cases ev [] = give Next
run_cases ev (c ∷ cs) =
    block ev (out-Case c).statements >>= elim [ Next ↦ run_cases ev cs | Break ↦ give Next | Continue ↦ give Next | Return v ↦ give (Return v) ]

abbrev pub switch : Evals → Expr → List Case → Prog Course
switch ev e cs = do
  v ← ev.expr e
  from ← chosen ev v (from_default cs) cs
  run_cases ev from

-- ---- `try`

-- the first `catch` with a class that fits the object
abbrev pub catch_for : ℕ → List Catch → State → Option Catch
catch_for o [] m = None
catch_for o (c ∷ cs) m = if list_any (λ name. fits name (object o) m) (out-Catch c).classes then Some c else catch_for o cs m

abbrev pub assign_caught : Option (List ℕ) → ℕ → Prog (Unit {0})
assign_caught None o = give tt
assign_caught (Some x) o = act (assign_variable x (Obj o))

abbrev pub handled : Evals → ℕ → Option Catch → Prog Course
handled ev o None = stop (Thrown o)
handled ev o (Some c) = assign_caught (out-Catch c).variable o >> block ev (out-Catch c).statements

abbrev pub catching : Evals → List Catch → ℕ → Prog Course
catching ev cs o = looked (catch_for o cs) >>= handled ev o

abbrev pub caught_by : Evals → List Catch → Result Course ℕ → Prog Course
caught_by ev cs (Ok course) = give course
caught_by ev cs (Err o) = catching ev cs o

abbrev pub with_catches : Evals → List Stmt → List Catch → Prog Course
with_catches ev body cs = tried (block ev body) >>= caught_by ev cs

abbrev pub end_of : Result Course ℕ → Result Course Stop
end_of (Ok course) = Ok course
end_of (Err o) = Err (Thrown o)

-- how a `try` ends whose last part ended so: its own jump replaces the end before it
abbrev pub closing : Course → Result Course ℕ → Result Course Stop
closing Next end = end_of end
closing Break end = Ok Break
closing Continue end = Ok Continue
closing (Return v) end = Ok (Return v)

-- what stands behind `finally` runs after every normal end, throw and jump
abbrev pub try_form : Evals → List Stmt → List Catch → Option (List Stmt) → Prog Course
try_form ev body cs None = with_catches ev body cs
try_form ev body cs (Some last) = do
  end ← tried (with_catches ev body cs)
  course ← block ev last
  ended (closing course end)

-- ---- the forms

abbrev pub stmt_form : Evals → StmtKind → Prog Course
stmt_form ev k = elim (out-StmtKind k) [
  | StmtKind-F.Simple s ↦ simple_form ev s
  | StmtKind-F.Block ss ↦ block ev ss
  | StmtKind-F.If bs other ↦ branches ev other bs
  | StmtKind-F.Loop l ↦ loop_form ev l
  | StmtKind-F.Switch e cs ↦ switch ev e cs
  | StmtKind-F.Try body cs last ↦ try_form ev body cs last
]
