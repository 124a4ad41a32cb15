-- The cases of a `switch`, the parts of a `try`, and the items of an array.
use Rattle.std.proofs.Common.{◌≡◌, ℕ, List, [], ◌∷◌, Bool, true, false, Option, Some, None, Result, Ok, IsErrAnd, inl, inr, refl, ◌∙◌, ap}
use Rattle.std.specs.Prelude.{◌⊎◌, if◌then◌else◌}
use Rattle.std.specs.List.{list_any}
use Rattle.resin_eval_calls.specs.Under.value.declared.value.Value.{Value}
use Rattle.resin_eval_calls.specs.Under.value.Trees.{object}
use Rattle.resin_eval_calls.specs.Under.value.Seen.{tree_of}
use Rattle.resin_tree.specs.declared.expression.Expr.{Expr}
use Rattle.resin_tree.specs.declared.statement.Case.{Case, out-Case}
use Rattle.resin_tree.specs.declared.statement.Catch.{Catch, out-Catch}
use Rattle.resin_eval_calls.specs.Under.machine.declared.stop.Stop.{Stop}
use Rattle.resin_eval_calls.specs.Under.machine.declared.stop.Stop.TheVariants.{Memory}
use Rattle.resin_tree.specs.declared.expression.ArrayItem.{ArrayItem}
use Rattle.resin_eval_calls.specs.Under.value.Arrays.{Array}
use Rattle.resin_eval_calls.specs.Under.meaning_forms.Expressions.{items}
use Rattle.resin_eval_calls.proofs.meaning_lemmas.Composition.{does_next, does_give, does_unbegun_exit}
use Rattle.resin_eval_calls.proofs.eval_nested_lemmas.Arms.{does_none}
use Rattle.resin_eval_calls.specs.Under.machine.State.{State}
use Rattle.resin_eval_calls.specs.Under.meaning.Programs.{Prog, give, ◌>>=◌}
use Rattle.resin_eval_calls.specs.Under.meaning.Runs.{World, Does}
use Rattle.resin_eval_calls.specs.Under.meaning_forms.declared.course.Course.{Course}
use Rattle.resin_eval_calls.specs.Under.meaning_forms.declared.course.Course.TheVariants.{Next, Break, Continue, Return}
use Rattle.resin_eval_calls.specs.Under.meaning_forms.Parts.{Evals}
use Rattle.resin_eval_calls.specs.Under.meaning_forms.Invoke.{block}
use Rattle.resin_eval_calls.specs.Under.meaning_forms.Operators.{equal, fits}
use Rattle.resin_eval_calls.specs.Under.meaning_forms.Statements.{from_default, chosen, run_cases, catch_for}

-- want of memory before the items of an array
pub unbegun_items : (ev : Evals) (a : Array) (is : List ArrayItem) {u : World} (r : Result Array Stop) → IsErrAnd r (λ e. e ≡ Memory) → Does (items ev a is) u r u
unbegun_items ev a [] r h = does_none a r h
unbegun_items ev a (i ∷ is) r h = does_unbegun_exit _ _ r h
