-- Assignments (PHP manual, "Assignment Operators" and "Incrementing/Decrementing Operators"). The target's index expressions come first,
-- then the right side; a compound form then reads the old value and combines; then the value is stored.
use Rattle.std.specs.Prelude.{ℕ, pos, ◌+ℤ◌, ◌-ℤ◌, List, if◌then◌else◌}
use Rattle.resin_builtin.specs.Under.label.Sets.{empty as no_labels}
use Rattle.resin_builtin.specs.Under.scalar.declared.faults.ScriptFault.TheVariants.{BadOperand}
use Rattle.resin_builtin.specs.Under.value.declared.value.Value.{Value}
use Rattle.resin_builtin.specs.Under.value.declared.value.Value.TheVariants.{Null, Int}
use Rattle.resin_target.specs.Under.ops.Arithmetic.{within as fitting}
use Rattle.resin_target.specs.Under.tree.declared.expression.Assignment.{Assignment, Assignment-F, out-Assignment}
use Rattle.resin_target.specs.Under.tree.declared.expression.Combining.{Combining}
use Rattle.resin_target.specs.Under.tree.declared.expression.Expr.{Expr}
use Rattle.resin_target.specs.Under.tree.declared.expression.Target.{Target}
use Rattle.resin_meaning_tables.specs.Under.meaning.Programs.{Prog, give, act, ◌>>=◌}
use Rattle.resin_target.specs.declared.path.Path.{Path}
use Rattle.resin_target.specs.Targets.{fetch, store}
use Rattle.resin_meaning_forms.specs.Parts.{Evals, computed, faulted, ◌>>◌}
use Rattle.resin_meaning_forms.specs.Merges.{merge}
use Rattle.resin_meaning_forms.specs.Operators.{combined, labelled}
use Rattle.resin_meaning_forms.specs.Targets.{steps}
use Rattle.resin_meaning_forms.specs.Operands.{is_nothing}

-- a value is stored, and is the value of the form
abbrev pub stored_value : List ℕ → Path → Value → Prog Value
stored_value x path v = act (store x path v) >> give v

abbrev pub assign : Evals → Target → Expr → Prog Value
assign ev t e = do
  path ← steps ev t.path
  v ← ev.expr e
  stored_value t.variable path v

abbrev pub compound : Evals → Combining → Target → Expr → Prog Value
compound ev op t e = do
  path ← steps ev t.path
  y ← ev.expr e
  x ← act (fetch t.variable path)
  v ← combined ev op x y
  stored_value t.variable path v

-- only where the target is null the right side is evaluated, and stored
abbrev pub coalesce_assign : Evals → Target → Expr → Prog Value
coalesce_assign ev t e = do
  path ← steps ev t.path
  x ← act (fetch t.variable path)
  if is_nothing x then (ev.expr e >>= stored_value t.variable path) else give x

-- one more: of an integer, or of null as 0
abbrev pub incremented : Evals → Value → Prog Value
incremented ev (Int n s) = do
  m ← computed (fitting (n +ℤ pos 1))
  set ← merge ev s no_labels
  give (labelled m set)
incremented ev Null = give (labelled (pos 1) no_labels)
incremented ev v = faulted BadOperand

-- one less, of an integer alone
abbrev pub decremented : Evals → Value → Prog Value
decremented ev (Int n s) = do
  m ← computed (fitting (n -ℤ pos 1))
  set ← merge ev s no_labels
  give (labelled m set)
decremented ev v = faulted BadOperand

-- the value that stood before, and the one that is stored
abbrev pub changed : Evals → (Value → Prog Value) → Target → Prog (Value × Value)
changed ev change t = do
  path ← steps ev t.path
  old ← act (fetch t.variable path)
  new ← change old
  _ ← stored_value t.variable path new
  give (old, new)

abbrev pub assignment_form : Evals → Assignment → Prog Value
assignment_form ev a = elim (out-Assignment a) [
  | Assignment-F.Assign t e ↦ assign ev t e
  | Assignment-F.Compound op t e ↦ compound ev op t e
  | Assignment-F.CoalesceAssign t e ↦ coalesce_assign ev t e
  | Assignment-F.PreIncrement t ↦ changed ev (incremented ev) t >>= λ p. give p.1
  | Assignment-F.PreDecrement t ↦ changed ev (decremented ev) t >>= λ p. give p.1
  | Assignment-F.PostIncrement t ↦ changed ev (incremented ev) t >>= λ p. give p.0
  | Assignment-F.PostDecrement t ↦ changed ev (decremented ev) t >>= λ p. give p.0
]
