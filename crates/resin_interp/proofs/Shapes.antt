-- What a form means by its shape, as an equation for each.
use Rattle.std.proofs.Common.{◌≡◌, ℕ, List, true, false, Option, refl}
use Rattle.std.specs.Prelude.{not, if◌then◌else◌}
use Rattle.resin_eval_calls.specs.Under.value.declared.value.Value.TheVariants.{Bool as Boolean}
use Rattle.resin_eval_calls.specs.Under.value.Values.{value_of}
use Rattle.resin_tree.specs.declared.expression.Literal.{Literal}
use Rattle.resin_tree.specs.declared.expression.Unary.{Unary}
use Rattle.resin_tree.specs.declared.expression.Combining.{Combining}
use Rattle.resin_tree.specs.declared.expression.Comparison.{Comparison}
use Rattle.resin_tree.specs.declared.expression.Expr.{Expr}
use Rattle.resin_tree.specs.declared.expression.Expr.TheVariants as expr
use Rattle.resin_tree.specs.declared.expression.ArrayItem.{ArrayItem}
use Rattle.resin_tree.specs.declared.expression.Access.{Access}
use Rattle.resin_tree.specs.declared.expression.Access.TheVariants as access
use Rattle.resin_tree.specs.declared.expression.Operation.{Operation}
use Rattle.resin_tree.specs.declared.expression.Operation.TheVariants as operation
use Rattle.resin_tree.specs.declared.expression.Test.{Test}
use Rattle.resin_tree.specs.declared.expression.Test.TheVariants as test
use Rattle.resin_tree.specs.declared.expression.PathStep.{PathStep}
use Rattle.resin_tree.specs.declared.expression.PathStep.TheVariants as path_step
use Rattle.resin_tree.specs.declared.expression.Target.{Target}
use Rattle.resin_tree.specs.declared.expression.Assignment.{Assignment}
use Rattle.resin_tree.specs.declared.expression.Assignment.TheVariants as assignment
use Rattle.resin_tree.specs.declared.expression.Call.{Call}
use Rattle.resin_tree.specs.declared.statement.Simple.{Simple}
use Rattle.resin_tree.specs.declared.statement.Stmt.{Stmt}
use Rattle.resin_tree.specs.declared.statement.Branch.{Branch}
use Rattle.resin_tree.specs.declared.statement.Case.{Case}
use Rattle.resin_tree.specs.declared.statement.Catch.{Catch}
use Rattle.resin_tree.specs.declared.statement.Loop.{Loop}
use Rattle.resin_tree.specs.declared.statement.Loop.TheVariants as loop
use Rattle.resin_tree.specs.declared.statement.StmtKind.{StmtKind}
use Rattle.resin_tree.specs.declared.statement.StmtKind.TheVariants as kind
use Rattle.resin_eval_calls.specs.Under.machine.Variables.{read}
use Rattle.resin_eval_calls.specs.Under.meaning.Programs.{give, act, ◌>>=◌}
use Rattle.resin_eval_calls.specs.Under.target.declared.path.Index.TheVariants.{At, Next}
use Rattle.resin_eval_calls.specs.Under.target.declared.path.Path.{Path}
use Rattle.resin_eval_calls.specs.Under.target.Paths.{with_index, with_property}
use Rattle.resin_eval_calls.specs.Under.meaning_forms.Parts.{Evals, ◌>>◌}
use Rattle.resin_eval_calls.specs.Under.meaning_forms.Operands.{is_nothing, index_of, soft_index_of, property_of}
use Rattle.resin_eval_calls.specs.Under.meaning_forms.Invoke.{literal_of, block}
use Rattle.resin_eval_calls.specs.Under.meaning_forms.Operators.{unary, combined, compared, instance_of}
use Rattle.resin_eval_calls.specs.Under.meaning_forms.Targets.{step}
use Rattle.resin_eval_calls.specs.Under.meaning_forms.Assignments.{assign, compound, coalesce_assign, changed, incremented, decremented, assignment_form}
use Rattle.resin_eval_calls.specs.Under.meaning_forms.Calls.{call_form}
use Rattle.resin_eval_calls.specs.Under.meaning_forms.Expressions.{array_form, interpolated, access_form, soft_access_form, soft_form, operation_form, holds, all_set, test_form, expr_form}
use Rattle.resin_eval_calls.specs.Under.meaning_forms.Statements.{while_loop, for_loop, turn, run_all, foreach, loop_form, simple_form, branches, switch, try_form, stmt_form}

pub array_means : (ev : Evals) (z : Expr) (is : List ArrayItem) → z ≡ expr.Array is → expr_form ev z ≡ (array_form ev is)
array_means ev z is h = rw (h, expr.outs-Array is, expr_form) refl

pub join_means : (ev : Evals) (z : Expr) (es : List Expr) → z ≡ expr.Join es → expr_form ev z ≡ (interpolated ev es)
join_means ev z es h = rw (h, expr.outs-Join es, expr_form) refl

pub access_means : (ev : Evals) (z : Expr) (a : Access) → z ≡ expr.Access a → expr_form ev z ≡ (access_form ev a)
access_means ev z a h = rw (h, expr.outs-Access a, expr_form) refl

pub operation_means : (ev : Evals) (z : Expr) (o : Operation) → z ≡ expr.Operation o → expr_form ev z ≡ (operation_form ev o)
operation_means ev z o h = rw (h, expr.outs-Operation o, expr_form) refl

pub test_means : (ev : Evals) (z : Expr) (t : Test) → z ≡ expr.Test t → expr_form ev z ≡ (test_form ev t)
test_means ev z t h = rw (h, expr.outs-Test t, expr_form) refl

pub assignment_means : (ev : Evals) (z : Expr) (a : Assignment) → z ≡ expr.Assignment a → expr_form ev z ≡ (assignment_form ev a)
assignment_means ev z a h = rw (h, expr.outs-Assignment a, expr_form) refl

pub call_means : (ev : Evals) (z : Expr) (c : Call) → z ≡ expr.Call c → expr_form ev z ≡ (call_form ev c)
call_means ev z c h = rw (h, expr.outs-Call c, expr_form) refl

pub index_means : (ev : Evals) (z : Access) (b e : Expr) → z ≡ access.Index b e → access_form ev z ≡ (ev.expr b >>= λ v. ev.expr e >>= λ k. index_of v k)
index_means ev z b e h = rw (h, access.outs-Index b e, access_form) refl

pub property_means : (ev : Evals) (z : Access) (b : Expr) (p : List ℕ) → z ≡ access.Property b p → access_form ev z ≡ (ev.expr b >>= λ v. property_of v p)
property_means ev z b p h = rw (h, access.outs-Property b p, access_form) refl

pub soft_index_means : (ev : Evals) (z : Access) (b e : Expr) → z ≡ access.Index b e → soft_access_form ev z ≡ (ev.soft b >>= λ v. ev.expr e >>= λ k. soft_index_of v k)
soft_index_means ev z b e h = rw (h, access.outs-Index b e, soft_access_form) refl

pub soft_property_means : (ev : Evals) (z : Access) (b : Expr) (p : List ℕ) → z ≡ access.Property b p → soft_access_form ev z ≡ (ev.soft b >>= λ v. property_of v p)
soft_property_means ev z b p h = rw (h, access.outs-Property b p, soft_access_form) refl

pub soft_access_means : (ev : Evals) (z : Expr) (a : Access) → z ≡ expr.Access a → soft_form ev z ≡ (soft_access_form ev a)
soft_access_means ev z a h = rw (h, expr.outs-Access a, soft_form) refl

pub unary_means : (ev : Evals) (z : Operation) (op : Unary) (a : Expr) → z ≡ operation.Unary op a → operation_form ev z ≡ (ev.expr a >>= λ x. unary ev op x)
unary_means ev z op a h = rw (h, operation.outs-Unary op a, operation_form) refl

pub combine_means : (ev : Evals) (z : Operation) (op : Combining) (a b : Expr) → z ≡ operation.Combine op a b → operation_form ev z ≡ (ev.expr a >>= λ x. ev.expr b >>= λ y. combined ev op x y)
combine_means ev z op a b h = rw (h, operation.outs-Combine op a b, operation_form) refl

pub compare_means : (ev : Evals) (z : Operation) (op : Comparison) (a b : Expr) → z ≡ operation.Compare op a b → operation_form ev z ≡ (ev.expr a >>= λ x. ev.expr b >>= λ y. compared op x y)
compare_means ev z op a b h = rw (h, operation.outs-Compare op a b, operation_form) refl

pub instance_means : (ev : Evals) (z : Operation) (a : Expr) (class : List ℕ) → z ≡ operation.InstanceOf a class → operation_form ev z ≡ (ev.expr a >>= λ x. instance_of class x)
instance_means ev z a class h = rw (h, operation.outs-InstanceOf a class, operation_form) refl

pub and_means : (ev : Evals) (z : Test) (a b : Expr) → z ≡ test.And a b → test_form ev z ≡ (ev.expr a >>= λ x. if holds x then (ev.expr b >>= λ y. give (Boolean (holds y))) else give (Boolean false))
and_means ev z a b h = rw (h, test.outs-And a b, test_form) refl

pub or_means : (ev : Evals) (z : Test) (a b : Expr) → z ≡ test.Or a b → test_form ev z ≡ (ev.expr a >>= λ x. if holds x then give (Boolean true) else (ev.expr b >>= λ y. give (Boolean (holds y))))
or_means ev z a b h = rw (h, test.outs-Or a b, test_form) refl

pub coalesce_means : (ev : Evals) (z : Test) (a b : Expr) → z ≡ test.Coalesce a b → test_form ev z ≡ (ev.soft a >>= λ x. if is_nothing x then ev.expr b else give x)
coalesce_means ev z a b h = rw (h, test.outs-Coalesce a b, test_form) refl

pub choice_means : (ev : Evals) (z : Test) (q a b : Expr) → z ≡ test.Choice q a b → test_form ev z ≡ (ev.expr q >>= λ x. if holds x then ev.expr a else ev.expr b)
choice_means ev z q a b h = rw (h, test.outs-Choice q a b, test_form) refl

pub either_means : (ev : Evals) (z : Test) (q b : Expr) → z ≡ test.Either q b → test_form ev z ≡ (ev.expr q >>= λ x. if holds x then give x else ev.expr b)
either_means ev z q b h = rw (h, test.outs-Either q b, test_form) refl

pub isset_means : (ev : Evals) (z : Test) (es : List Expr) → z ≡ test.Isset es → test_form ev z ≡ (all_set ev es)
isset_means ev z es h = rw (h, test.outs-Isset es, test_form) refl

pub empty_means : (ev : Evals) (z : Test) (e : Expr) → z ≡ test.Empty e → test_form ev z ≡ (ev.soft e >>= λ x. give (Boolean (not (holds x))))
empty_means ev z e h = rw (h, test.outs-Empty e, test_form) refl
