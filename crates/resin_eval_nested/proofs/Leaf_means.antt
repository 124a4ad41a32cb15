-- What an expression means by the room that is left, and what leaves mean.
use Rattle.std.proofs.Common.{◌≡◌, ◌≢◌, ℕ, suc, ◌-◌, List, Result, Ok, Err, refl, sym, subst, arith}
use Rattle.resin_step_objects.specs.Under.store.Files.{LabelledFiles}
use Rattle.resin_step_objects.specs.Under.base.TableStore.{TableStore}
use Rattle.resin_step_objects.specs.Under.base.declared.calls.Calls.{Calls}
use Rattle.resin_step_objects.specs.Under.scalar.declared.faults.ScriptFault.TheVariants.{DepthSpent}
use Rattle.resin_step_objects.specs.Under.value.declared.value.Value.{Value}
use Rattle.resin_step_objects.specs.Under.value.Values.{value_of}
use Rattle.resin_tree.specs.declared.expression.Expr.{Expr}
use Rattle.resin_tree.specs.declared.expression.Expr.TheVariants as expr
use Rattle.resin_tree.specs.declared.expression.Literal.{Literal}
use Rattle.resin_step_objects.specs.Under.machine.declared.stop.Stop.{Stop}
use Rattle.resin_step_objects.specs.Under.machine.declared.stop.Stop.TheVariants.{Fault}
use Rattle.resin_step_objects.specs.Under.machine.State.{State}
use Rattle.resin_step_objects.specs.Under.machine.Steps.{charge}
use Rattle.resin_step_objects.specs.Under.machine.Variables.{read}
use Rattle.resin_step_objects.specs.Under.meaning.Programs.{give, act}
use Rattle.resin_step_objects.specs.Under.meaning.Runs.{Seen, World, world, Does}
use Rattle.resin_step_objects.specs.Under.meaning_forms.Parts.{Evals, ◌>>◌}
use Rattle.resin_step_objects.specs.Under.meaning_forms.Invoke.{literal_of}
use Rattle.resin_step_objects.specs.Under.meaning_forms.Expressions.{expr_form}
use Rattle.resin_step_objects.specs.Under.meaning_forms.Programs.{evals}
use Rattle.resin_eval_nested.proofs.Arms.{does_faulted}

-- no further evaluation may be open
pub shut_expr : (room : ℕ) (e : Expr) (m : State) {f : Seen LabelledFiles} {t : Seen TableStore} {c : Calls} {s : Stop} → room ≡ 0 → s ≡ Fault DepthSpent m.line → Does ((evals room).expr e) (world m f t c) (Err s) (world m f t c)
shut_expr room e m h k = rw h (unfold evals in does_faulted DepthSpent m k)

-- one more may be open
pub open_expr : (room : ℕ) (e : Expr) {u v : World} {r : Result Value Stop} → room ≢ 0 → Does ((evals (suc (room - 1))).expr e) u r v → Does ((evals room).expr e) u r v
open_expr room e {u = u} {v = v} {r = r} ne d =
    let h : room ≡ suc (room - 1) = omega arith in
    subst (λ (n : ℕ). Does ((evals n).expr e) u r v) (sym h) d

-- what it means: a tick, and then its form
pub ticked_expr : (room : ℕ) (e : Expr) {u v : World} {r : Result Value Stop} → Does (act (charge 1) >> expr_form (evals room) e) u r v → Does ((evals (suc room)).expr e) u r v
ticked_expr room e d = unfold evals in d

pub literal_means : (ev : Evals) (z : Expr) (l : Literal) → z ≡ expr.Literal l → expr_form ev z ≡ (give (value_of (literal_of l)))
literal_means ev z l h = rw (h, expr.outs-Literal l, expr_form) refl

pub variable_means : (ev : Evals) (z : Expr) (x : List ℕ) → z ≡ expr.Variable x → expr_form ev z ≡ (act (read x))
variable_means ev z x h = rw (h, expr.outs-Variable x, expr_form) refl

-- a literal and a variable where as many may be open
pub open_literal : (room : ℕ) (l : Literal) {u v : World} {r : Result Value Stop} → room ≢ 0 → Does (act (charge 1) >> give (value_of (literal_of l))) u r v → Does ((evals room).expr (expr.Literal l)) u r v
open_literal room l ne d = open_expr room _ ne (ticked_expr (room - 1) _ (rw (literal_means (evals (room - 1)) (expr.Literal l) l refl) d))

pub open_variable : (room : ℕ) (x : List ℕ) {u v : World} {r : Result Value Stop} → room ≢ 0 → Does (act (charge 1) >> act (read x)) u r v → Does ((evals room).expr (expr.Variable x)) u r v
open_variable room x ne d = open_expr room _ ne (ticked_expr (room - 1) _ (rw (variable_means (evals (room - 1)) (expr.Variable x) x refl) d))
