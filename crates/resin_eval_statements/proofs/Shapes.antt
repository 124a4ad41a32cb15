-- What a form means by its shape, as an equation for each.
use Rattle.std.proofs.Common.{◌≡◌, ℕ, List, true, false, Option, refl}
use Rattle.std.specs.Prelude.{not, if◌then◌else◌}
use Rattle.resin_eval_writes.specs.Under.value.declared.value.Value.TheVariants.{Bool as Boolean}
use Rattle.resin_eval_writes.specs.Under.value.Values.{value_of}
use Rattle.resin_tree.specs.declared.expression.Literal.{Literal}
use Rattle.resin_tree.specs.declared.expression.Unary.{Unary}
use Rattle.resin_tree.specs.declared.expression.Combining.{Combining}
use Rattle.resin_tree.specs.declared.expression.Comparison.{Comparison}
use Rattle.resin_tree.specs.declared.expression.Expr.{Expr}
use Rattle.resin_tree.specs.declared.expression.Expr.TheVariants as expr
use Rattle.resin_tree.specs.declared.expression.ArrayItem.{ArrayItem}
use Rattle.resin_tree.specs.declared.expression.Access.{Access}
use Rattle.resin_tree.specs.declared.expression.Access.TheVariants as access
use Rattle.resin_tree.specs.declared.expression.Operation.{Operation}
use Rattle.resin_tree.specs.declared.expression.Operation.TheVariants as operation
use Rattle.resin_tree.specs.declared.expression.Test.{Test}
use Rattle.resin_tree.specs.declared.expression.Test.TheVariants as test
use Rattle.resin_tree.specs.declared.expression.PathStep.{PathStep}
use Rattle.resin_tree.specs.declared.expression.PathStep.TheVariants as path_step
use Rattle.resin_tree.specs.declared.expression.Target.{Target}
use Rattle.resin_tree.specs.declared.expression.Assignment.{Assignment}
use Rattle.resin_tree.specs.declared.expression.Assignment.TheVariants as assignment
use Rattle.resin_tree.specs.declared.expression.Call.{Call}
use Rattle.resin_tree.specs.declared.statement.Simple.{Simple}
use Rattle.resin_tree.specs.declared.statement.Stmt.{Stmt}
use Rattle.resin_tree.specs.declared.statement.Branch.{Branch}
use Rattle.resin_tree.specs.declared.statement.Case.{Case}
use Rattle.resin_tree.specs.declared.statement.Catch.{Catch}
use Rattle.resin_tree.specs.declared.statement.Loop.{Loop}
use Rattle.resin_tree.specs.declared.statement.Loop.TheVariants as loop
use Rattle.resin_tree.specs.declared.statement.StmtKind.{StmtKind}
use Rattle.resin_tree.specs.declared.statement.StmtKind.TheVariants as kind
use Rattle.resin_eval_writes.specs.Under.machine.Variables.{read}
use Rattle.resin_eval_writes.specs.Under.meaning.Programs.{give, act, ◌>>=◌}
use Rattle.resin_eval_writes.specs.Under.target.declared.path.Index.TheVariants.{At, Next}
use Rattle.resin_eval_writes.specs.Under.target.declared.path.Path.{Path}
use Rattle.resin_eval_writes.specs.Under.target.Paths.{with_index, with_property}
use Rattle.resin_eval_writes.specs.Under.meaning_forms.Parts.{Evals, ◌>>◌}
use Rattle.resin_eval_writes.specs.Under.meaning_forms.Operands.{is_nothing, index_of, soft_index_of, property_of}
use Rattle.resin_eval_writes.specs.Under.meaning_forms.Invoke.{literal_of, block}
use Rattle.resin_eval_writes.specs.Under.meaning_forms.Operators.{unary, combined, compared, instance_of}
use Rattle.resin_eval_writes.specs.Under.meaning_forms.Targets.{step}
use Rattle.resin_eval_writes.specs.Under.meaning_forms.Assignments.{assign, compound, coalesce_assign, changed, incremented, decremented, assignment_form}
use Rattle.resin_eval_writes.specs.Under.meaning_forms.Calls.{call_form}
use Rattle.resin_eval_writes.specs.Under.meaning_forms.Expressions.{array_form, interpolated, access_form, soft_access_form, soft_form, operation_form, holds, all_set, test_form, expr_form}
use Rattle.resin_eval_writes.specs.Under.meaning_forms.Statements.{while_loop, for_loop, turn, run_all, foreach, loop_form, simple_form, branches, switch, try_form, stmt_form}

pub while_means : (ev : Evals) (z : Loop) (e : Expr) (body : Stmt) → z ≡ loop.While e body → loop_form ev z ≡ (while_loop ev e body)
while_means ev z e body h = rw (h, loop.outs-While e body, loop_form) refl

pub do_while_means : (ev : Evals) (z : Loop) (body : Stmt) (e : Expr) → z ≡ loop.DoWhile body e → loop_form ev z ≡ (turn ev body (while_loop ev e body))
do_while_means ev z body e h = rw (h, loop.outs-DoWhile body e, loop_form) refl

pub for_means : (ev : Evals) (z : Loop) (first tests after : List Expr) (body : Stmt) → z ≡ loop.For first tests after body → loop_form ev z ≡ (run_all ev first >> for_loop ev tests after body)
for_means ev z first tests after body h = rw (h, loop.outs-For first tests after body, loop_form) refl

pub foreach_means : (ev : Evals) (z : Loop) (e : Expr) (kx : Option (List ℕ)) (x : List ℕ) (body : Stmt) → z ≡ loop.Foreach e kx x body → loop_form ev z ≡ (ev.expr e >>= foreach ev kx x body)
foreach_means ev z e kx x body h = rw (h, loop.outs-Foreach e kx x body, loop_form) refl

pub simple_means : (ev : Evals) (z : StmtKind) (s : Simple) → z ≡ kind.Simple s → stmt_form ev z ≡ (simple_form ev s)
simple_means ev z s h = rw (h, kind.outs-Simple s, stmt_form) refl

pub block_means : (ev : Evals) (z : StmtKind) (ss : List Stmt) → z ≡ kind.Block ss → stmt_form ev z ≡ (block ev ss)
block_means ev z ss h = rw (h, kind.outs-Block ss, stmt_form) refl

pub if_means : (ev : Evals) (z : StmtKind) (bs : List Branch) (other : Option Stmt) → z ≡ kind.If bs other → stmt_form ev z ≡ (branches ev other bs)
if_means ev z bs other h = rw (h, kind.outs-If bs other, stmt_form) refl

pub loop_means : (ev : Evals) (z : StmtKind) (l : Loop) → z ≡ kind.Loop l → stmt_form ev z ≡ (loop_form ev l)
loop_means ev z l h = rw (h, kind.outs-Loop l, stmt_form) refl

pub switch_means : (ev : Evals) (z : StmtKind) (e : Expr) (cs : List Case) → z ≡ kind.Switch e cs → stmt_form ev z ≡ (switch ev e cs)
switch_means ev z e cs h = rw (h, kind.outs-Switch e cs, stmt_form) refl

pub try_means : (ev : Evals) (z : StmtKind) (body : List Stmt) (cs : List Catch) (last : Option (List Stmt)) → z ≡ kind.Try body cs last → stmt_form ev z ≡ (try_form ev body cs last)
try_means ev z body cs last h = rw (h, kind.outs-Try body cs last, stmt_form) refl
