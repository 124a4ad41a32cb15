-- What a form means by its shape, as an equation for each.
use Rattle.std.proofs.Common.{◌≡◌, ℕ, List, refl}
use Rattle.resin_tree.specs.declared.expression.Combining.{Combining}
use Rattle.resin_tree.specs.declared.expression.Expr.{Expr}
use Rattle.resin_tree.specs.declared.expression.PathStep.{PathStep}
use Rattle.resin_tree.specs.declared.expression.PathStep.TheVariants as path_step
use Rattle.resin_tree.specs.declared.expression.Target.{Target}
use Rattle.resin_tree.specs.declared.expression.Assignment.{Assignment}
use Rattle.resin_tree.specs.declared.expression.Assignment.TheVariants as assignment
use Rattle.resin_tree.specs.declared.expression.Combining.TheVariants.{Concat}
use Rattle.resin_eval_merges.specs.Under.meaning.Programs.{give, ◌>>=◌}
use Rattle.resin_eval_merges.specs.Under.value.declared.value.Value.{Value}
use Rattle.resin_eval_merges.specs.Under.target.Paths.{no_postfix}
use Rattle.resin_eval_merges.specs.Under.eval_nested.Under.step_parts.Appends.{appended}
use Rattle.resin_eval_merges.specs.Under.target.declared.path.Index.TheVariants.{At, Next}
use Rattle.resin_eval_merges.specs.Under.target.declared.path.Path.{Path}
use Rattle.resin_eval_merges.specs.Under.target.Paths.{with_index, with_property}
use Rattle.resin_eval_merges.specs.Under.meaning_forms.Parts.{Evals}
use Rattle.resin_eval_merges.specs.Under.meaning_forms.Targets.{step}
use Rattle.resin_eval_assign.specs.Compounds.{combined_there}
use Rattle.resin_eval_merges.specs.Under.meaning_forms.Assignments.{assign, compound, coalesce_assign, changed, incremented, decremented, assignment_form}

pub step_index_means : (ev : Evals) (path : Path) (z : PathStep) (e : Expr) → z ≡ path_step.Index e → step ev path z ≡ (ev.expr e >>= λ v. give (with_index (At v) path))
step_index_means ev path z e h = rw (h, path_step.outs-Index e, step) refl

pub step_append_means : (ev : Evals) (path : Path) (z : PathStep) → z ≡ path_step.Append → step ev path z ≡ (give (with_index Next path))
step_append_means ev path z h = rw (h, path_step.outs-Append, step) refl

pub step_property_means : (ev : Evals) (path : Path) (z : PathStep) (p : List ℕ) → z ≡ path_step.Property p → step ev path z ≡ (give (with_property p path))
step_property_means ev path z p h = rw (h, path_step.outs-Property p, step) refl

pub assign_means : (ev : Evals) (z : Assignment) (t : Target) (e : Expr) → z ≡ assignment.Assign t e → assignment_form ev z ≡ (assign ev t e)
assign_means ev z t e h = rw (h, assignment.outs-Assign t e, assignment_form) refl

pub compound_means : (ev : Evals) (z : Assignment) (op : Combining) (t : Target) (e : Expr) → z ≡ assignment.Compound op t e → assignment_form ev z ≡ (compound ev op t e)
compound_means ev z op t e h = rw (h, assignment.outs-Compound op t e, assignment_form) refl

pub coalesce_assign_means : (ev : Evals) (z : Assignment) (t : Target) (e : Expr) → z ≡ assignment.CoalesceAssign t e → assignment_form ev z ≡ (coalesce_assign ev t e)
coalesce_assign_means ev z t e h = rw (h, assignment.outs-CoalesceAssign t e, assignment_form) refl

pub pre_increment_means : (ev : Evals) (z : Assignment) (t : Target) → z ≡ assignment.PreIncrement t → assignment_form ev z ≡ (changed ev (incremented ev) t >>= λ p. give p.1)
pre_increment_means ev z t h = rw (h, assignment.outs-PreIncrement t, assignment_form) refl

pub pre_decrement_means : (ev : Evals) (z : Assignment) (t : Target) → z ≡ assignment.PreDecrement t → assignment_form ev z ≡ (changed ev (decremented ev) t >>= λ p. give p.1)
pre_decrement_means ev z t h = rw (h, assignment.outs-PreDecrement t, assignment_form) refl

pub post_increment_means : (ev : Evals) (z : Assignment) (t : Target) → z ≡ assignment.PostIncrement t → assignment_form ev z ≡ (changed ev (incremented ev) t >>= λ p. give p.0)
post_increment_means ev z t h = rw (h, assignment.outs-PostIncrement t, assignment_form) refl

pub post_decrement_means : (ev : Evals) (z : Assignment) (t : Target) → z ≡ assignment.PostDecrement t → assignment_form ev z ≡ (changed ev (decremented ev) t >>= λ p. give p.0)
post_decrement_means ev z t h = rw (h, assignment.outs-PostDecrement t, assignment_form) refl

-- `.=` of a variable alone
pub append_means : (ev : Evals) (op : Combining) (name : List ℕ) (path : Path) (y : Value) → op ≡ Concat → path ≡ no_postfix → combined_there ev op name path y ≡ appended name y
append_means ev op name path y e p = λ i. combined_there ev (e i) name (p i) y
