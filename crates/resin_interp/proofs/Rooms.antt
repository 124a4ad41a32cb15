-- An evaluation by the room that is left.
use Rattle.std.proofs.Common.{◌≡◌, ◌≢◌, ℕ, suc, ◌-◌, min, ◌<◌, ◌≤◌, List, length, Result, Ok, Err, refl, sym, ◌∙◌, subst, arith, Bor, IsErrAnd}
use Rattle.std.proofs.lemmas.Result.{err_from_is_err_and}
use Rattle.std.specs.Prelude.{OnOk}
use Rattle.resin_eval_calls.specs.Under.store.Files.{LabelledFiles}
use Rattle.resin_eval_calls.specs.Under.base.TableStore.{TableStore}
use Rattle.resin_eval_calls.specs.Under.base.declared.calls.Calls.{Calls}
use Rattle.resin_eval_calls.specs.Under.scalar.declared.faults.ScriptFault.TheVariants.{DepthSpent}
use Rattle.resin_eval_calls.specs.Under.value.declared.value.Value.{Value}
use Rattle.resin_tree.specs.declared.expression.Access.{Access}
use Rattle.resin_tree.specs.declared.expression.ArrayItem.{ArrayItem}
use Rattle.resin_tree.specs.declared.expression.Assignment.{Assignment}
use Rattle.resin_tree.specs.declared.expression.Call.{Call}
use Rattle.resin_tree.specs.declared.expression.Expr.{Expr, Expr-F, out-Expr, roll-Expr, roll-out-Expr, out-roll-Expr}
use Rattle.resin_tree.specs.declared.expression.Expr.TheVariants as expr
use Rattle.resin_tree.specs.declared.expression.Operation.{Operation}
use Rattle.resin_tree.specs.declared.expression.PathStep.{PathStep}
use Rattle.resin_tree.specs.declared.expression.Target.{Target}
use Rattle.resin_tree.specs.declared.expression.Test.{Test}
use Rattle.resin_tree.specs.declared.statement.Stmt.{Stmt}
use Rattle.resin_eval_calls.specs.Under.machine.declared.stop.Stop.{Stop}
use Rattle.resin_eval_calls.specs.Under.machine.declared.stop.Stop.TheVariants.{Fault}
use Rattle.resin_eval_calls.specs.Under.machine.State.{State}
use Rattle.resin_eval_calls.specs.Under.machine.Steps.{charge, at_line}
use Rattle.resin_eval_calls.specs.Under.meaning.Programs.{act, on_line}
use Rattle.resin_eval_calls.specs.Under.meaning.Runs.{Seen, World, world, Does}
use Rattle.resin_eval_calls.specs.Under.meaning_forms.declared.course.Course.{Course}
use Rattle.resin_eval_calls.specs.Under.meaning_forms.Parts.{Evals, ◌>>◌}
use Rattle.resin_eval_calls.specs.Under.meaning_forms.Expressions.{expr_form, soft_form}
use Rattle.resin_eval_calls.specs.Under.meaning_forms.Programs.{evals, ticked_form}
use Rattle.resin_eval_calls.specs.Under.meaning_forms.Sources.{source}
use Rattle.resin_eval_calls.specs.Under.lstr.declared.limits.TheConstants.{LONGEST}
use Rattle.resin_eval_calls.specs.Under.eval_nested.Nested.{Ends}
use Rattle.resin_eval_calls.specs.Under.eval_nested.declared.nested.Nested.{Nested}
use Rattle.resin_eval_calls.specs.Under.eval_nested.declared.nested.Nested.TheVariants.{Value as ForValue, Asked, Statement, Source}
use Rattle.resin_eval_calls.specs.Under.eval_nested.declared.nested.Outcome.{Outcome}
use Rattle.resin_eval_calls.proofs.eval_nested_lemmas.Arms.{does_faulted}
use Rattle.resin_eval_calls.proofs.eval_nested_lemmas.Leaf_means.{shut_expr}

shut_soft : (room : ℕ) (e : Expr) (m : State) {f : Seen LabelledFiles} {t : Seen TableStore} {c : Calls} {s : Stop} → room ≡ 0 → s ≡ Fault DepthSpent m.line → Does ((evals room).soft e) (world m f t c) (Err s) (world m f t c)
shut_soft room e m h k = rw h (unfold evals in does_faulted DepthSpent m k)

shut_stmt : (room : ℕ) (s : Stmt) (m : State) {f : Seen LabelledFiles} {t : Seen TableStore} {c : Calls} {e : Stop} → room ≡ 0 → e ≡ Fault DepthSpent m.line → Does ((evals room).stmt s) (world m f t c) (Err e) (world m f t c)
shut_stmt room s m h k = rw h (unfold evals in does_faulted DepthSpent m k)

-- no further evaluation may be open
pub shut : (room : ℕ) (n : Nested) (m : State) (f : Seen LabelledFiles) (t : Seen TableStore) (c : Calls) {s : Stop} → ((src : Bor (List ℕ)) → n ≡ Source src → ⊥) → room ≡ 0 → s ≡ Fault DepthSpent m.line → Ends room n (world m f t c) (Err s) (world m f t c)
shut room (ForValue e) m f t c ne h k = shut_expr room e.now m h k
shut room (Asked e) m f t c ne h k = shut_soft room e.now m h k
shut room (Statement s) m f t c ne h k = shut_stmt room s.now m h k
shut room (Source s) m f t c ne h k = absurd (ne s refl)

-- what nests is stopped
pub value_stopped : (room : ℕ) (e : Bor Expr) {u w : World} {s : Stop} (r : Result Outcome Stop) → IsErrAnd r (λ x. x ≡ s) → Does ((evals room).expr e.now) u (Err s) w → Ends room (ForValue e) u r w
value_stopped room e r h d = let k = err_from_is_err_and r h in rw (k.1, k.2) d

pub asked_stopped : (room : ℕ) (e : Bor Expr) {u w : World} {s : Stop} (r : Result Outcome Stop) → IsErrAnd r (λ x. x ≡ s) → Does ((evals room).soft e.now) u (Err s) w → Ends room (Asked e) u r w
asked_stopped room e r h d = let k = err_from_is_err_and r h in rw (k.1, k.2) d

pub statement_stopped : (room : ℕ) (e : Bor Stmt) {u w : World} {s : Stop} (r : Result Outcome Stop) → IsErrAnd r (λ x. x ≡ s) → Does ((evals room).stmt e.now) u (Err s) w → Ends room (Statement e) u r w
statement_stopped room e r h d = let k = err_from_is_err_and r h in rw (k.1, k.2) d

-- a source text is stopped
pub source_stopped : (room : ℕ) (src : Bor (List ℕ)) {u w : World} {s : Stop} (r : Result Outcome Stop) → IsErrAnd r (λ x. x ≡ s) → (length src.now ≤ LONGEST → Does (source (evals room) src.now) u (Err s) w)
    → Ends room (Source src) u r w
source_stopped room src r h d = let k = err_from_is_err_and r h in rw (k.1, k.2) d

-- what comes before what where as many evaluations may be open: a source text, its file, its statements, one of them
pub rank : Nested → ℕ
rank (ForValue e) = 0
rank (Asked e) = 0
rank (Statement s) = 0
rank (Source src) = 4

pub source_rank : (n : Nested) (src : Bor (List ℕ)) → n ≡ Source src → min 4 (rank n) ≡ 4
unfolding rank
source_rank n src h = rw h refl

pub statement_rank : (s : Bor Stmt) → min 4 (rank (Statement s)) ≡ 0
unfolding rank
statement_rank s = refl

-- one more may be open
pub open_soft : (room : ℕ) (e : Expr) {u v : World} {r : Result Value Stop} → room ≢ 0 → Does ((evals (suc (room - 1))).soft e) u r v → Does ((evals room).soft e) u r v
open_soft room e {u = u} {v = v} {r = r} ne d =
    let h : room ≡ suc (room - 1) = omega arith in
    subst (λ (n : ℕ). Does ((evals n).soft e) u r v) (sym h) d

pub open_stmt : (room : ℕ) (s : Stmt) {u v : World} {r : Result Course Stop} → room ≢ 0 → Does ((evals (suc (room - 1))).stmt s) u r v → Does ((evals room).stmt s) u r v
open_stmt room s {u = u} {v = v} {r = r} ne d =
    let h : room ≡ suc (room - 1) = omega arith in
    subst (λ (n : ℕ). Does ((evals n).stmt s) u r v) (sym h) d

-- what each means: a tick, and then its form
pub ticked_soft : (room : ℕ) (e : Expr) {u v : World} {r : Result Value Stop} → Does (act (charge 1) >> soft_form (evals room) e) u r v → Does ((evals (suc room)).soft e) u r v
ticked_soft room e d = unfold evals in d

pub lined_stmt : (room : ℕ) (s : Stmt) {u v : World} {r : Result Course Stop} → Does (on_line s.line (ticked_form (evals room) s.kind)) u r v → Does ((evals (suc room)).stmt s) u r v
lined_stmt room s d = unfold evals in d

-- what a statement spends is spent though its line is put back
pub lined_spent : {A : Type 0} (r : Result A Stop) (m ml m1 m2 : State) (n was : ℕ) → ml ≡ at_line n m → m2 ≡ at_line was m1 → OnOk r (m1.ticks < ml.ticks) → OnOk r (m2.ticks < m.ticks)
lined_spent r m ml m1 m2 n was el e2 h = rw e2 (rw el at h)

-- only a part of a value is read otherwise where it is only asked for
soft_layer : (ev : Evals) (o : Expr-F Access Assignment Call Expr Operation PathStep Test ArrayItem Target) → ((a : Access) → roll-Expr o ≡ expr.Access a → ⊥) → soft_form ev (roll-Expr o) ≡ expr_form ev (roll-Expr o)
soft_layer ev (Expr-F.Literal l) ne = rw (out-roll-Expr (Expr-F.Literal l), soft_form) refl
soft_layer ev (Expr-F.Variable x) ne = rw (out-roll-Expr (Expr-F.Variable x), soft_form) refl
soft_layer ev (Expr-F.Array is) ne = rw (out-roll-Expr (Expr-F.Array is), soft_form) refl
soft_layer ev (Expr-F.Join es) ne = rw (out-roll-Expr (Expr-F.Join es), soft_form) refl
soft_layer ev (Expr-F.Access a) ne = absurd (ne a (expr.rolls-Access a))
soft_layer ev (Expr-F.Operation o) ne = rw (out-roll-Expr (Expr-F.Operation o), soft_form) refl
soft_layer ev (Expr-F.Test t) ne = rw (out-roll-Expr (Expr-F.Test t), soft_form) refl
soft_layer ev (Expr-F.Assignment a) ne = rw (out-roll-Expr (Expr-F.Assignment a), soft_form) refl
soft_layer ev (Expr-F.Call c) ne = rw (out-roll-Expr (Expr-F.Call c), soft_form) refl

pub does_hard : (ev : Evals) (e : Expr) {u v : World} {r : Result Value Stop} → ((a : Access) → e ≡ expr.Access a → ⊥) → Does (expr_form ev e) u r v → Does (soft_form ev e) u r v
does_hard ev e {u = u} {v = v} {r = r} ne d =
    let h = subst (λ (x : Expr). soft_form ev x ≡ expr_form ev x) (roll-out-Expr e) (soft_layer ev (out-Expr e) (λ a k. ne a (sym (roll-out-Expr e) ∙ k))) in
    rw h d
