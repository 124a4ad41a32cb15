-- The programs of Assignments are framed.
use Rattle.std.specs.Prelude.{Option}
use Rattle.std.specs.Prelude.{ℕ, pos, ◌+ℤ◌, ◌-ℤ◌, List, if◌then◌else◌}
use Rattle.resin_meaning_forms.specs.Under.label.Sets.{empty as no_labels}
use Rattle.resin_meaning_forms.specs.Under.scalar.declared.faults.ScriptFault.TheVariants.{BadOperand}
use Rattle.resin_meaning_forms.specs.Under.value.declared.value.Value.{Value}
use Rattle.resin_meaning_forms.specs.Under.value.declared.value.Value.TheVariants.{Null, Int}
use Rattle.resin_meaning_forms.specs.Under.ops.Arithmetic.{within as fitting}
use Rattle.resin_meaning_forms.specs.Under.tree.declared.expression.Assignment.{Assignment, Assignment-F, out-Assignment}
use Rattle.resin_meaning_forms.specs.Under.tree.declared.expression.Combining.{Combining}
use Rattle.resin_meaning_forms.specs.Under.tree.declared.expression.Expr.{Expr}
use Rattle.resin_meaning_forms.specs.Under.tree.declared.expression.Target.{Target}
use Rattle.resin_meaning_forms.specs.Under.meaning.Programs.{Prog, give, act, ◌>>=◌}
use Rattle.resin_meaning_forms.specs.Under.target.declared.path.Path.{Path}
use Rattle.resin_meaning_forms.specs.Under.target.Targets.{fetch, store}
use Rattle.resin_meaning_forms.specs.Parts.{Evals, computed, faulted, ◌>>◌}
use Rattle.resin_meaning_forms.specs.Merges.{merge}
use Rattle.resin_meaning_forms.specs.Operators.{combined, labelled}
use Rattle.resin_meaning_forms.specs.Targets.{steps}
use Rattle.resin_meaning_forms.specs.Operands.{is_nothing}
use Rattle.resin_meaning_forms.specs.Assignments.{stored_value, assign, compound, coalesce_assign, incremented, decremented, changed, assignment_form}
use Rattle.resin_frame.specs.Frames.{IsFramed}
use Rattle.resin_frame.proofs.Frames.{FramedEvals, framing}
use Rattle.resin_frame.proofs.framed_forms.Targets.{steps_framed}
use Rattle.resin_frame.proofs.framed_forms.Operators.{combined_framed}
use Rattle.resin_frame.proofs.framed_forms.Merges.{merge_framed}

pub stored_value_framed : {own : Option (List ℕ)} (x : List ℕ) (path : Path) (v : Value) → IsFramed {A = Value} own (stored_value x path v)
stored_value_framed x path v = search framing depth 12

pub assign_framed : {own : Option (List ℕ)} (ev : Evals) (t : Target) (e : Expr) → FramedEvals own ev → IsFramed {A = Value} own (assign ev t e)
assign_framed ev t e h = search (framing, steps_framed, stored_value_framed, h.expr) depth 12

pub compound_framed : {own : Option (List ℕ)} (ev : Evals) (op : Combining) (t : Target) (e : Expr) → FramedEvals own ev → IsFramed {A = Value} own (compound ev op t e)
compound_framed ev op t e h = search (framing, combined_framed, steps_framed, stored_value_framed, h.expr) depth 12

pub coalesce_assign_framed : {own : Option (List ℕ)} (ev : Evals) (t : Target) (e : Expr) → FramedEvals own ev → IsFramed {A = Value} own (coalesce_assign ev t e)
coalesce_assign_framed ev t e h = search (framing, steps_framed, stored_value_framed, h.expr) depth 12

pub incremented_framed : {own : Option (List ℕ)} (ev : Evals) (v : Value) → FramedEvals own ev → IsFramed {A = Value} own (incremented ev v)
incremented_framed ev (Int n s) h = search (framing, merge_framed) depth 12
incremented_framed ev Null h = search framing depth 12
incremented_framed ev v h = search framing depth 12

pub decremented_framed : {own : Option (List ℕ)} (ev : Evals) (v : Value) → FramedEvals own ev → IsFramed {A = Value} own (decremented ev v)
decremented_framed ev (Int n s) h = search (framing, merge_framed) depth 12
decremented_framed ev v h = search framing depth 12

pub changed_framed : {own : Option (List ℕ)} (ev : Evals) (change : (Value → Prog Value)) (t : Target) → FramedEvals own ev → ((x0 : Value) → IsFramed own (change x0)) → IsFramed {A = (Value × Value)} own (changed ev change t)
changed_framed ev change t h h_change = search (framing, steps_framed, stored_value_framed) depth 12

pub assignment_form_framed : {own : Option (List ℕ)} (ev : Evals) (a : Assignment) → FramedEvals own ev → IsFramed {A = Value} own (assignment_form ev a)
assignment_form_framed {own = own} ev a h = elim (out-Assignment a) as (λ x. IsFramed {A = Value} own (elim x [
  | Assignment-F.Assign t e ↦ assign ev t e
  | Assignment-F.Compound op t e ↦ compound ev op t e
  | Assignment-F.CoalesceAssign t e ↦ coalesce_assign ev t e
  | Assignment-F.PreIncrement t ↦ changed ev (incremented ev) t >>= λ p. give p.1
  | Assignment-F.PreDecrement t ↦ changed ev (decremented ev) t >>= λ p. give p.1
  | Assignment-F.PostIncrement t ↦ changed ev (incremented ev) t >>= λ p. give p.0
  | Assignment-F.PostDecrement t ↦ changed ev (decremented ev) t >>= λ p. give p.0
])) [
  | Assignment-F.Assign t e ↦ search (framing, assign_framed, compound_framed, coalesce_assign_framed, incremented_framed, decremented_framed, changed_framed) depth 12
  | Assignment-F.Compound op t e ↦ search (framing, assign_framed, compound_framed, coalesce_assign_framed, incremented_framed, decremented_framed, changed_framed) depth 12
  | Assignment-F.CoalesceAssign t e ↦ search (framing, assign_framed, compound_framed, coalesce_assign_framed, incremented_framed, decremented_framed, changed_framed) depth 12
  | Assignment-F.PreIncrement t ↦ search (framing, assign_framed, compound_framed, coalesce_assign_framed, incremented_framed, decremented_framed, changed_framed) depth 12
  | Assignment-F.PreDecrement t ↦ search (framing, assign_framed, compound_framed, coalesce_assign_framed, incremented_framed, decremented_framed, changed_framed) depth 12
  | Assignment-F.PostIncrement t ↦ search (framing, assign_framed, compound_framed, coalesce_assign_framed, incremented_framed, decremented_framed, changed_framed) depth 12
  | Assignment-F.PostDecrement t ↦ search (framing, assign_framed, compound_framed, coalesce_assign_framed, incremented_framed, decremented_framed, changed_framed) depth 12
]
