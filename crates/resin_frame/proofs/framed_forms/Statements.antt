-- The programs of Statements are framed.
use Rattle.std.specs.Prelude.{ℕ, zero, suc, List, [], ◌∷◌, Bool, true, if◌then◌else◌, Option, None, Some, Result, Ok, Err}
use Rattle.std.specs.List.{list_any}
use Rattle.resin_meaning_forms.specs.Under.label.Sets.{empty as no_labels}
use Rattle.resin_meaning_forms.specs.Under.lstr.Texts.{carrying}
use Rattle.resin_meaning_forms.specs.Under.scalar.declared.faults.ScriptFault.TheVariants.{FuelSpent, BadOperand}
use Rattle.resin_meaning_forms.specs.Under.value.declared.key.Key.{Key}
use Rattle.resin_meaning_forms.specs.Under.value.declared.key.Key.TheVariants.{Int as IntKey, Text as TextKey}
use Rattle.resin_meaning_forms.specs.Under.value.declared.value.Value.{Value}
use Rattle.resin_meaning_forms.specs.Under.value.declared.value.Value.TheVariants.{Null, Int, Text, Arr, Obj}
use Rattle.resin_meaning_forms.specs.Under.value.Trees.{Tree, object}
use Rattle.resin_meaning_forms.specs.Under.value.Seen.{tree_of}
use Rattle.resin_meaning_forms.specs.Under.value.Values.{value_of}
use Rattle.resin_meaning_forms.specs.Under.value.Arrays.{EntryList}
use Rattle.resin_meaning_forms.specs.Under.tree.declared.expression.Expr.{Expr}
use Rattle.resin_meaning_forms.specs.Under.tree.declared.expression.Target.{Target}
use Rattle.resin_meaning_forms.specs.Under.tree.declared.statement.Branch.{Branch, out-Branch}
use Rattle.resin_meaning_forms.specs.Under.tree.declared.statement.Case.{Case, out-Case}
use Rattle.resin_meaning_forms.specs.Under.tree.declared.statement.Catch.{Catch, out-Catch}
use Rattle.resin_meaning_forms.specs.Under.tree.declared.statement.Loop.{Loop, Loop-F, out-Loop}
use Rattle.resin_meaning_forms.specs.Under.tree.declared.statement.Simple.{Simple}
use Rattle.resin_meaning_forms.specs.Under.tree.declared.statement.Simple.TheVariants as simple
use Rattle.resin_meaning_forms.specs.Under.tree.declared.statement.Stmt.{Stmt}
use Rattle.resin_meaning_forms.specs.Under.tree.declared.statement.StmtKind.{StmtKind, StmtKind-F, out-StmtKind}
use Rattle.resin_meaning_forms.specs.Under.heap.declared.prelude.PreludeClass.TheVariants.{Throwable}
use Rattle.resin_meaning_forms.specs.Under.machine.declared.stop.Stop.{Stop}
use Rattle.resin_meaning_forms.specs.Under.machine.declared.stop.Stop.TheVariants.{Thrown, Exit}
use Rattle.resin_meaning_forms.specs.Under.machine.State.{State}
use Rattle.resin_meaning_forms.specs.Under.machine.Steps.{awake}
use Rattle.resin_meaning_forms.specs.Under.machine.Variables.{assign as assign_variable, bind_global}
use Rattle.resin_meaning_forms.specs.Under.meaning.Programs.{Prog, give, stop, ended, act, tried, ◌>>=◌}
use Rattle.resin_meaning_forms.specs.declared.course.Course.{Course}
use Rattle.resin_meaning_forms.specs.declared.course.Course.TheVariants.{Next, Break, Continue, Return}
use Rattle.resin_meaning_forms.specs.Parts.{Evals, faulted, looked, ◌>>◌}
use Rattle.resin_meaning_forms.specs.Invoke.{block}
use Rattle.resin_meaning_forms.specs.Merges.{is_under}
use Rattle.resin_meaning_forms.specs.Operators.{equal, fits}
use Rattle.resin_meaning_forms.specs.Targets.{steps}
use Rattle.resin_meaning_forms.specs.Under.target.Targets.{erase}
use Rattle.resin_meaning_forms.specs.Writes.{echo, inline}
use Rattle.resin_meaning_forms.specs.Expressions.{holds}
use Rattle.resin_meaning_forms.specs.Statements.{echo_all, unset_all, bind_all, object_or_none, throw, returned, simple_form, other_branch, branches, turn_end, going_on, turn, while_turns, by_ticks, while_loop, last_holds, run_all, for_turns, for_loop, key_value, assign_key, assign_entry, each_entry, foreach, loop_form, from_default, chosen, run_cases, switch, catch_for, assign_caught, handled, catching, caught_by, with_catches, end_of, closing, try_form, stmt_form}
use Rattle.resin_frame.specs.Frames.{IsFramed}
use Rattle.resin_frame.proofs.Frames.{framed_by_ticks, framed_bind, framed_looked, FramedEvals, framing}
use Rattle.resin_frame.proofs.Numbers.{catch_for_numberless}
use Rattle.resin_frame.proofs.framed_forms.Writes.{echo_framed, inline_framed}
use Rattle.resin_frame.proofs.framed_forms.Targets.{steps_framed}
use Rattle.resin_frame.proofs.framed_forms.Operators.{equal_framed}
use Rattle.resin_frame.proofs.framed_forms.Invoke.{block_framed}

pub echo_all_framed : {own : Option (List ℕ)} (ev : Evals) (a1 : List Expr) → FramedEvals own ev → IsFramed {A = Course} own (echo_all ev a1)
echo_all_framed ev [] h = search framing depth 12
echo_all_framed {own = own} ev (e ∷ es) h = let ih = echo_all_framed {own = own} ev es h in search (framing, echo_framed, h.expr) depth 12

pub unset_all_framed : {own : Option (List ℕ)} (ev : Evals) (a1 : List Target) → FramedEvals own ev → IsFramed {A = Course} own (unset_all ev a1)
unset_all_framed ev [] h = search framing depth 12
unset_all_framed {own = own} ev (t ∷ ts) h = let ih = unset_all_framed {own = own} ev ts h in search (framing, steps_framed) depth 12

pub bind_all_framed : {own : Option (List ℕ)} (a0 : List (List ℕ)) → IsFramed {A = Course} own (bind_all a0)
bind_all_framed [] = search framing depth 12
bind_all_framed {own = own} (x ∷ xs) = let ih = bind_all_framed {own = own} xs in search framing depth 12

pub throw_framed : {own : Option (List ℕ)} (v : Value) → IsFramed {A = Course} own (throw v)
throw_framed v = search framing depth 12

pub returned_framed : {own : Option (List ℕ)} (ev : Evals) (a1 : Option Expr) → FramedEvals own ev → IsFramed {A = Course} own (returned ev a1)
returned_framed ev None h = search framing depth 12
returned_framed ev (Some e) h = search (framing, h.expr) depth 12

pub simple_form_framed : {own : Option (List ℕ)} (ev : Evals) (a1 : Simple) → FramedEvals own ev → IsFramed {A = Course} own (simple_form ev a1)
simple_form_framed ev (simple.Inline bytes) h = search (framing, inline_framed) depth 12
simple_form_framed ev (simple.Do e) h = search (framing, h.expr) depth 12
simple_form_framed ev (simple.Echo es) h = search (framing, echo_all_framed) depth 12
simple_form_framed ev (simple.Return e) h = search (framing, returned_framed) depth 12
simple_form_framed ev (simple.Throw e) h = search (framing, throw_framed, h.expr) depth 12
simple_form_framed ev simple.Break h = search framing depth 12
simple_form_framed ev simple.Continue h = search framing depth 12
simple_form_framed ev (simple.Unset ts) h = search (framing, unset_all_framed) depth 12
simple_form_framed ev (simple.Global names) h = search (framing, bind_all_framed) depth 12
simple_form_framed ev simple.Exit h = search framing depth 12

pub other_branch_framed : {own : Option (List ℕ)} (ev : Evals) (a1 : Option Stmt) → FramedEvals own ev → IsFramed {A = Course} own (other_branch ev a1)
other_branch_framed ev None h = search framing depth 12
other_branch_framed ev (Some s) h = search (framing, h.stmt) depth 12

pub branches_framed : {own : Option (List ℕ)} (ev : Evals) (other : Option Stmt) (a2 : List Branch) → FramedEvals own ev → IsFramed {A = Course} own (branches ev other a2)
branches_framed ev other [] h = search (framing, other_branch_framed) depth 12
branches_framed {own = own} ev other (b ∷ bs) h = let ih = branches_framed {own = own} ev other bs h in search (framing, h.expr, h.stmt) depth 12

pub going_on_framed : {own : Option (List ℕ)} (further : Prog Course) (a1 : Option Course) → IsFramed own further → IsFramed {A = Course} own (going_on further a1)
going_on_framed further None h_further = search framing depth 12
going_on_framed further (Some course) h_further = search framing depth 12

pub turn_framed : {own : Option (List ℕ)} (ev : Evals) (body : Stmt) (further : Prog Course) → FramedEvals own ev → IsFramed own further → IsFramed {A = Course} own (turn ev body further)
turn_framed ev body further h h_further = search (framing, going_on_framed, h.stmt) depth 12

pub while_turns_framed : {own : Option (List ℕ)} (a0 : ℕ) (ev : Evals) (e : Expr) (body : Stmt) → FramedEvals own ev → IsFramed {A = Course} own (while_turns a0 ev e body)
while_turns_framed zero ev e body h = search framing depth 12
while_turns_framed {own = own} (suc n) ev e body h = let ih = while_turns_framed {own = own} n ev e body h in search (framing, turn_framed, h.expr) depth 12

pub while_loop_framed : {own : Option (List ℕ)} (ev : Evals) (e : Expr) (body : Stmt) → FramedEvals own ev → IsFramed {A = Course} own (while_loop ev e body)
while_loop_framed ev e body h = search (framing, while_turns_framed, framed_by_ticks) depth 12

pub last_holds_framed : {own : Option (List ℕ)} (ev : Evals) (so_far : Bool) (a2 : List Expr) → FramedEvals own ev → IsFramed {A = Bool} own (last_holds ev so_far a2)
last_holds_framed ev so_far [] h = search framing depth 12
last_holds_framed {own = own} ev so_far (e ∷ es) h = let ih = λ (y1 : Bool). last_holds_framed {own = own} ev y1 es h in search (framing, h.expr, ih) depth 12

pub run_all_framed : {own : Option (List ℕ)} (ev : Evals) (a1 : List Expr) → FramedEvals own ev → IsFramed {A = (Unit {0})} own (run_all ev a1)
run_all_framed ev [] h = search framing depth 12
run_all_framed {own = own} ev (e ∷ es) h = let ih = run_all_framed {own = own} ev es h in search (framing, h.expr) depth 12

pub for_turns_framed : {own : Option (List ℕ)} (a0 : ℕ) (ev : Evals) (tests : List Expr) (steps : List Expr) (body : Stmt) → FramedEvals own ev → IsFramed {A = Course} own (for_turns a0 ev tests steps body)
for_turns_framed zero ev tests steps body h = search framing depth 12
for_turns_framed {own = own} (suc n) ev tests steps body h = let ih = for_turns_framed {own = own} n ev tests steps body h in search (framing, turn_framed, last_holds_framed, run_all_framed) depth 12

pub for_loop_framed : {own : Option (List ℕ)} (ev : Evals) (tests : List Expr) (steps : List Expr) (body : Stmt) → FramedEvals own ev → IsFramed {A = Course} own (for_loop ev tests steps body)
for_loop_framed ev tests steps body h = search (framing, framed_by_ticks, for_turns_framed) depth 12

pub assign_key_framed : {own : Option (List ℕ)} (a0 : Option (List ℕ)) (k : Key) → IsFramed {A = (Unit {0})} own (assign_key a0 k)
assign_key_framed None k = search framing depth 12
assign_key_framed (Some x) k = search framing depth 12

pub assign_entry_framed : {own : Option (List ℕ)} (kx : Option (List ℕ)) (x : List ℕ) (e : Key × Tree) → IsFramed {A = (Unit {0})} own (assign_entry kx x e)
assign_entry_framed kx x e = search (framing, assign_key_framed) depth 12

pub each_entry_framed : {own : Option (List ℕ)} (ev : Evals) (kx : Option (List ℕ)) (x : List ℕ) (body : Stmt) (a4 : EntryList) → FramedEvals own ev → IsFramed {A = Course} own (each_entry ev kx x body a4)
each_entry_framed ev kx x body [] h = search framing depth 12
each_entry_framed {own = own} ev kx x body (e ∷ es) h = let ih = each_entry_framed {own = own} ev kx x body es h in search (framing, turn_framed, assign_entry_framed) depth 12

pub foreach_framed : {own : Option (List ℕ)} (ev : Evals) (kx : Option (List ℕ)) (x : List ℕ) (body : Stmt) (v : Value) → FramedEvals own ev → IsFramed {A = Course} own (foreach ev kx x body v)
foreach_framed ev kx x body (Arr a) h = search (framing, each_entry_framed) depth 12
foreach_framed ev kx x body v h = search framing depth 12

pub loop_form_framed : {own : Option (List ℕ)} (ev : Evals) (l : Loop) → FramedEvals own ev → IsFramed {A = Course} own (loop_form ev l)
loop_form_framed {own = own} ev l h = elim (out-Loop l) as (λ x. IsFramed {A = Course} own (elim x [
  | Loop-F.While e body ↦ while_loop ev e body
  | Loop-F.DoWhile body e ↦ turn ev body (while_loop ev e body)
  | Loop-F.For first tests steps body ↦ run_all ev first >> for_loop ev tests steps body
  | Loop-F.Foreach e kx x body ↦ ev.expr e >>= foreach ev kx x body
])) [
  | Loop-F.While e body ↦ search (framing, steps_framed, turn_framed, while_loop_framed, run_all_framed, for_loop_framed, foreach_framed, h.expr) depth 12
  | Loop-F.DoWhile body e ↦ search (framing, steps_framed, turn_framed, while_loop_framed, run_all_framed, for_loop_framed, foreach_framed, h.expr) depth 12
  | Loop-F.For first tests steps body ↦ search (framing, steps_framed, turn_framed, while_loop_framed, run_all_framed, for_loop_framed, foreach_framed, h.expr) depth 12
  | Loop-F.Foreach e kx x body ↦ search (framing, steps_framed, turn_framed, while_loop_framed, run_all_framed, for_loop_framed, foreach_framed, h.expr) depth 12
]

pub chosen_framed : {own : Option (List ℕ)} (ev : Evals) (v : Value) (default : List Case) (a3 : List Case) → FramedEvals own ev → IsFramed {A = (List Case)} own (chosen ev v default a3)
chosen_framed ev v default [] h = search framing depth 12
chosen_framed {own = own} ev v default (c ∷ cs) h = let ih = chosen_framed {own = own} ev v default cs h in elim (out-Case c).condition as (λ x. IsFramed {A = (List Case)} own (elim x [
  | None ↦ chosen ev v default cs
  | Some e ↦ (do
    w ← ev.expr e
    same ← equal (tree_of v) (tree_of w)
    if same then give (c ∷ cs) else chosen ev v default cs)
])) [
  | None ↦ search (framing, equal_framed, h.expr) depth 12
  | Some e ↦ search (framing, equal_framed, h.expr) depth 12
]

pub run_cases_framed : {own : Option (List ℕ)} (ev : Evals) (a1 : List Case) → FramedEvals own ev → IsFramed {A = Course} own (run_cases ev a1)
run_cases_framed ev [] h = search framing depth 12
run_cases_framed {own = own} ev (c ∷ cs) h = let ih = run_cases_framed {own = own} ev cs h in framed_bind _ _ (search (framing, block_framed) depth 12) (λ x. elim x as (λ y. IsFramed {A = Course} own (elim y [ Next ↦ run_cases ev cs | Break ↦ give Next | Continue ↦ give Next | Return v ↦ give (Return v) ])) [ Next ↦ search (framing, block_framed) depth 12 | Break ↦ search (framing, block_framed) depth 12 | Continue ↦ search (framing, block_framed) depth 12 | Return v ↦ search (framing, block_framed) depth 12 ])

pub switch_framed : {own : Option (List ℕ)} (ev : Evals) (e : Expr) (cs : List Case) → FramedEvals own ev → IsFramed {A = Course} own (switch ev e cs)
switch_framed ev e cs h = search (framing, chosen_framed, run_cases_framed, h.expr) depth 12

pub assign_caught_framed : {own : Option (List ℕ)} (a0 : Option (List ℕ)) (o : ℕ) → IsFramed {A = (Unit {0})} own (assign_caught a0 o)
assign_caught_framed None o = search framing depth 12
assign_caught_framed (Some x) o = search framing depth 12

pub handled_framed : {own : Option (List ℕ)} (ev : Evals) (o : ℕ) (a2 : Option Catch) → FramedEvals own ev → IsFramed {A = Course} own (handled ev o a2)
handled_framed ev o None h = search framing depth 12
handled_framed ev o (Some c) h = search (framing, block_framed, assign_caught_framed) depth 12

pub catching_framed : {own : Option (List ℕ)} (ev : Evals) (cs : List Catch) (o : ℕ) → FramedEvals own ev → IsFramed {A = Course} own (catching ev cs o)
catching_framed ev cs o h = framed_bind _ _ (framed_looked (catch_for o cs) (catch_for_numberless o cs)) (λ c. handled_framed ev o c h)

pub caught_by_framed : {own : Option (List ℕ)} (ev : Evals) (cs : List Catch) (a2 : Result Course ℕ) → FramedEvals own ev → IsFramed {A = Course} own (caught_by ev cs a2)
caught_by_framed ev cs (Ok course) h = search framing depth 12
caught_by_framed ev cs (Err o) h = search (framing, catching_framed) depth 12

pub with_catches_framed : {own : Option (List ℕ)} (ev : Evals) (body : List Stmt) (cs : List Catch) → FramedEvals own ev → IsFramed {A = Course} own (with_catches ev body cs)
with_catches_framed ev body cs h = search (framing, block_framed, caught_by_framed) depth 12

pub try_form_framed : {own : Option (List ℕ)} (ev : Evals) (body : List Stmt) (cs : List Catch) (a3 : Option (List Stmt)) → FramedEvals own ev → IsFramed {A = Course} own (try_form ev body cs a3)
try_form_framed ev body cs None h = search (framing, with_catches_framed) depth 12
try_form_framed ev body cs (Some last) h = search (framing, block_framed, with_catches_framed) depth 12

pub stmt_form_framed : {own : Option (List ℕ)} (ev : Evals) (k : StmtKind) → FramedEvals own ev → IsFramed {A = Course} own (stmt_form ev k)
stmt_form_framed {own = own} ev k h = elim (out-StmtKind k) as (λ x. IsFramed {A = Course} own (elim x [
  | StmtKind-F.Simple s ↦ simple_form ev s
  | StmtKind-F.Block ss ↦ block ev ss
  | StmtKind-F.If bs other ↦ branches ev other bs
  | StmtKind-F.Loop l ↦ loop_form ev l
  | StmtKind-F.Switch e cs ↦ switch ev e cs
  | StmtKind-F.Try body cs last ↦ try_form ev body cs last
])) [
  | StmtKind-F.Simple s ↦ search (framing, block_framed, simple_form_framed, branches_framed, loop_form_framed, switch_framed, try_form_framed) depth 12
  | StmtKind-F.Block ss ↦ search (framing, block_framed, simple_form_framed, branches_framed, loop_form_framed, switch_framed, try_form_framed) depth 12
  | StmtKind-F.If bs other ↦ search (framing, block_framed, simple_form_framed, branches_framed, loop_form_framed, switch_framed, try_form_framed) depth 12
  | StmtKind-F.Loop l ↦ search (framing, block_framed, simple_form_framed, branches_framed, loop_form_framed, switch_framed, try_form_framed) depth 12
  | StmtKind-F.Switch e cs ↦ search (framing, block_framed, simple_form_framed, branches_framed, loop_form_framed, switch_framed, try_form_framed) depth 12
  | StmtKind-F.Try body cs last ↦ search (framing, block_framed, simple_form_framed, branches_framed, loop_form_framed, switch_framed, try_form_framed) depth 12
]
