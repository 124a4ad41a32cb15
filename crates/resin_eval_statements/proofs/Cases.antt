-- The cases of a `switch`, the parts of a `try`, and the items of an array.
use Rattle.std.proofs.Common.{◌≡◌, ℕ, List, [], ◌∷◌, Bool, true, false, Option, Some, None, Result, Ok, IsErrAnd, inl, inr, refl, ◌∙◌, ap}
use Rattle.std.specs.Prelude.{◌⊎◌, if◌then◌else◌}
use Rattle.std.specs.List.{list_any}
use Rattle.resin_eval_writes.specs.Under.value.declared.value.Value.{Value}
use Rattle.resin_eval_writes.specs.Under.value.Trees.{object}
use Rattle.resin_eval_writes.specs.Under.value.Seen.{tree_of}
use Rattle.resin_tree.specs.declared.expression.Expr.{Expr}
use Rattle.resin_tree.specs.declared.statement.Case.{Case, out-Case}
use Rattle.resin_tree.specs.declared.statement.Catch.{Catch, out-Catch}
use Rattle.resin_eval_writes.specs.Under.machine.declared.stop.Stop.{Stop}
use Rattle.resin_eval_writes.specs.Under.machine.declared.stop.Stop.TheVariants.{Memory}
use Rattle.resin_tree.specs.declared.expression.ArrayItem.{ArrayItem}
use Rattle.resin_eval_writes.specs.Under.value.Arrays.{Array}
use Rattle.resin_eval_writes.specs.Under.meaning_forms.Expressions.{items}
use Rattle.resin_eval_writes.proofs.meaning_lemmas.Composition.{does_next, does_give, does_unbegun_exit}
use Rattle.resin_eval_writes.specs.Under.machine.State.{State}
use Rattle.resin_eval_writes.specs.Under.meaning.Programs.{Prog, give, ◌>>=◌}
use Rattle.resin_eval_writes.specs.Under.meaning.Runs.{World, Does}
use Rattle.resin_eval_writes.specs.Under.meaning_forms.declared.course.Course.{Course}
use Rattle.resin_eval_writes.specs.Under.meaning_forms.declared.course.Course.TheVariants.{Next, Break, Continue, Return}
use Rattle.resin_eval_writes.specs.Under.meaning_forms.Parts.{Evals}
use Rattle.resin_eval_writes.specs.Under.meaning_forms.Invoke.{block}
use Rattle.resin_eval_writes.specs.Under.meaning_forms.Operators.{equal, fits}
use Rattle.resin_eval_writes.specs.Under.meaning_forms.Statements.{from_default, chosen, run_cases, catch_for}

-- `default:` itself
pub default_here : (c : Case) (cs : List Case) → (out-Case c).condition ≡ None → from_default (c ∷ cs) ≡ c ∷ cs
default_here c cs h = rw (h, from_default) refl

-- a case with a condition is no `default:`
pub default_past : (c : Case) (cs : List Case) (e : Expr) → (out-Case c).condition ≡ Some e → from_default (c ∷ cs) ≡ from_default cs
default_past c cs e h = rw (h, from_default) refl

-- `default:` is passed over
pub does_passed : (ev : Evals) (v : Value) (d : List Case) (c : Case) (cs : List Case) {u w : World} {r : Result (List Case) Stop} → (out-Case c).condition ≡ None → Does (chosen ev v d cs) u r w → Does (chosen ev v d (c ∷ cs)) u r w
does_passed ev v d c cs h e = rw (h, chosen) e

-- a case is compared
pub does_case : (ev : Evals) (v : Value) (d : List Case) (c : Case) (cs : List Case) (e : Expr) {u w : World} {r : Result (List Case) Stop} → (out-Case c).condition ≡ Some e
    → Does (ev.expr e >>= λ x. equal (tree_of v) (tree_of x) >>= λ same. if same then give (c ∷ cs) else chosen ev v d cs) u r w → Does (chosen ev v d (c ∷ cs)) u r w
does_case ev v d c cs e h k = rw (h, chosen) k

-- `break` and `continue` in a case end the `switch`
pub case_ends : (ev : Evals) (c : Case) (cs : List Case) (course : Course) {u v : World} → (course ≡ Break) ⊎ (course ≡ Continue) → Does (block ev (out-Case c).statements) u (Ok course) v → Does (run_cases ev (c ∷ cs)) u (Ok Next) v
case_ends ev c cs course {v = v} (inl h) d = does_next _ _ (rw h at d) (does_give Next v)
case_ends ev c cs course {v = v} (inr h) d = does_next _ _ (rw h at d) (does_give Next v)

-- `return` in a case
pub case_returns : (ev : Evals) (c : Case) (cs : List Case) (course : Course) (x : Value) {u v : World} → course ≡ Return x → Does (block ev (out-Case c).statements) u (Ok course) v → Does (run_cases ev (c ∷ cs)) u (Ok (Return x)) v
case_returns ev c cs course x {v = v} h d = does_next _ _ (rw h at d) (does_give (Return x) v)

-- the next case runs too
pub case_goes : (ev : Evals) (c : Case) (cs : List Case) (course : Course) {u v w : World} {r : Result Course Stop} → course ≡ Next → Does (block ev (out-Case c).statements) u (Ok course) v → Does (run_cases ev cs) v r w → Does (run_cases ev (c ∷ cs)) u r w
case_goes ev c cs course h d e = does_next _ _ (rw h at d) e

if_true : {A : Type 0} (b : Bool) (x y : A) → b ≡ true → (if b then x else y) ≡ x
if_true b x y h = rw h refl

if_false : {A : Type 0} (b : Bool) (x y : A) → b ≡ false → (if b then x else y) ≡ y
if_false b x y h = rw h refl

-- a `catch` with a class that fits, and one without
pub catch_here : (o : ℕ) (c : Catch) (cs : List Catch) (m : State) → list_any (λ name. fits name (object o) m) (out-Catch c).classes ≡ true → catch_for o (c ∷ cs) m ≡ Some c
catch_here o c cs m h = if_true _ (Some c) (catch_for o cs m) h

pub catch_past : (o : ℕ) (c : Catch) (cs : List Catch) (m : State) → list_any (λ name. fits name (object o) m) (out-Catch c).classes ≡ false → catch_for o (c ∷ cs) m ≡ catch_for o cs m
catch_past o c cs m h = if_false _ (Some c) (catch_for o cs m) h

-- what is no value is none
pub no_value : {A : Type 0} (o : Option A) → ((x : A) → o ≡ Some x → ⊥) → o ≡ None
no_value None ne = refl
no_value (Some x) ne = absurd (ne x refl)
