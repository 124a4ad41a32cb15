-- The height of each tree, from those of its parts.
use Rattle.std.proofs.Common.{◌≡◌, ℕ, ◌+◌, max, List, [], ◌∷◌, ◌++◌, map, Option, Some, None, refl, sym, ◌∙◌, ap, arith}
use Rattle.resin_tree.specs.declared.expression.Access.{Access, Access-F, fold-Access, fold-roll-Access}
use Rattle.resin_tree.specs.declared.expression.Access.TheVariants as access
use Rattle.resin_tree.specs.declared.expression.Assignment.{Assignment, Assignment-F, fold-Assignment, fold-roll-Assignment}
use Rattle.resin_tree.specs.declared.expression.Assignment.TheVariants as assignment
use Rattle.resin_tree.specs.declared.expression.Call.{Call, Call-F, fold-Call, fold-roll-Call}
use Rattle.resin_tree.specs.declared.expression.Call.TheVariants as call
use Rattle.resin_tree.specs.declared.expression.Expr.{Expr, Expr-F, fold-Expr, fold-roll-Expr}
use Rattle.resin_tree.specs.declared.expression.Expr.TheVariants as x
use Rattle.resin_tree.specs.declared.expression.Operation.{Operation, Operation-F, fold-Operation, fold-roll-Operation}
use Rattle.resin_tree.specs.declared.expression.Operation.TheVariants as operation
use Rattle.resin_tree.specs.declared.expression.PathStep.{PathStep, PathStep-F, fold-PathStep, fold-roll-PathStep}
use Rattle.resin_tree.specs.declared.expression.PathStep.TheVariants as step
use Rattle.resin_tree.specs.declared.expression.Test.{Test, Test-F, fold-Test, fold-roll-Test}
use Rattle.resin_tree.specs.declared.expression.Test.TheVariants as test
use Rattle.resin_tree.specs.declared.expression.ArrayItem.{ArrayItem, fold-ArrayItem, fold-roll-ArrayItem}
use Rattle.resin_tree.specs.declared.expression.Target.{Target, fold-Target, fold-roll-Target}
use Rattle.resin_tree.specs.declared.expression.Literal.{Literal}
use Rattle.resin_tree.specs.declared.expression.Unary.{Unary}
use Rattle.resin_tree.specs.declared.expression.Combining.{Combining}
use Rattle.resin_tree.specs.declared.expression.Comparison.{Comparison}
use Rattle.resin_tree.specs.declared.expression.Import.{Import}
use Rattle.resin_grammar.specs.Heights.{height, item_height, step_height, highest, of_access, of_assignment, of_call, of_expr, of_operation, of_step, of_test, of_item, of_target}
use Rattle.resin_grammar.specs.Trees as tree
use Rattle.resin_grammar.specs.declared.operators.Writing.{Writing}
use Rattle.resin_grammar.specs.declared.operators.Writing.TheVariants as write
use Rattle.resin_grammar.specs.Places.{Place, target_of, place_height}

pub height_literal : (l : Literal) → height (x.Literal l) ≡ 1
unfolding height
height_literal l = ap (fold-Expr ℕ ℕ ℕ ℕ ℕ ℕ ℕ ℕ ℕ of_access of_assignment of_call of_expr of_operation of_step of_test of_item of_target) (sym (x.rolls-Literal l)) ∙ fold-roll-Expr ℕ ℕ ℕ ℕ ℕ ℕ ℕ ℕ ℕ of_access of_assignment of_call of_expr of_operation of_step of_test of_item of_target (Expr-F.Literal l)

pub height_variable : (v : List ℕ) → height (x.Variable v) ≡ 1
unfolding height
height_variable v = ap (fold-Expr ℕ ℕ ℕ ℕ ℕ ℕ ℕ ℕ ℕ of_access of_assignment of_call of_expr of_operation of_step of_test of_item of_target) (sym (x.rolls-Variable v)) ∙ fold-roll-Expr ℕ ℕ ℕ ℕ ℕ ℕ ℕ ℕ ℕ of_access of_assignment of_call of_expr of_operation of_step of_test of_item of_target (Expr-F.Variable v)

pub height_array : (items : List ArrayItem) → height (x.Array items) ≡ highest (map item_height items) + 1
unfolding height item_height
height_array items = ap (fold-Expr ℕ ℕ ℕ ℕ ℕ ℕ ℕ ℕ ℕ of_access of_assignment of_call of_expr of_operation of_step of_test of_item of_target) (sym (x.rolls-Array items)) ∙ fold-roll-Expr ℕ ℕ ℕ ℕ ℕ ℕ ℕ ℕ ℕ of_access of_assignment of_call of_expr of_operation of_step of_test of_item of_target (Expr-F.Array items)

pub height_join : (es : List Expr) → height (x.Join es) ≡ highest (map height es) + 1
unfolding height
height_join es = ap (fold-Expr ℕ ℕ ℕ ℕ ℕ ℕ ℕ ℕ ℕ of_access of_assignment of_call of_expr of_operation of_step of_test of_item of_target) (sym (x.rolls-Join es)) ∙ fold-roll-Expr ℕ ℕ ℕ ℕ ℕ ℕ ℕ ℕ ℕ of_access of_assignment of_call of_expr of_operation of_step of_test of_item of_target (Expr-F.Join es)

pub height_index : (a i : Expr) → height (tree.index a i) ≡ max (height a) (height i) + 1
unfolding height
height_index a i = ap (fold-Expr ℕ ℕ ℕ ℕ ℕ ℕ ℕ ℕ ℕ of_access of_assignment of_call of_expr of_operation of_step of_test of_item of_target) (sym (x.rolls-Access (access.Index a i))) ∙ fold-roll-Expr ℕ ℕ ℕ ℕ ℕ ℕ ℕ ℕ ℕ of_access of_assignment of_call of_expr of_operation of_step of_test of_item of_target (Expr-F.Access (access.Index a i)) ∙ ap (fold-Access ℕ ℕ ℕ ℕ ℕ ℕ ℕ ℕ ℕ of_access of_assignment of_call of_expr of_operation of_step of_test of_item of_target) (sym (access.rolls-Index a i)) ∙ fold-roll-Access ℕ ℕ ℕ ℕ ℕ ℕ ℕ ℕ ℕ of_access of_assignment of_call of_expr of_operation of_step of_test of_item of_target (Access-F.«Access::Index» a i)

pub height_property : (a : Expr) (p : List ℕ) → height (tree.property a p) ≡ height a + 1
unfolding height
height_property a p = ap (fold-Expr ℕ ℕ ℕ ℕ ℕ ℕ ℕ ℕ ℕ of_access of_assignment of_call of_expr of_operation of_step of_test of_item of_target) (sym (x.rolls-Access (access.Property a p))) ∙ fold-roll-Expr ℕ ℕ ℕ ℕ ℕ ℕ ℕ ℕ ℕ of_access of_assignment of_call of_expr of_operation of_step of_test of_item of_target (Expr-F.Access (access.Property a p)) ∙ ap (fold-Access ℕ ℕ ℕ ℕ ℕ ℕ ℕ ℕ ℕ of_access of_assignment of_call of_expr of_operation of_step of_test of_item of_target) (sym (access.rolls-Property a p)) ∙ fold-roll-Access ℕ ℕ ℕ ℕ ℕ ℕ ℕ ℕ ℕ of_access of_assignment of_call of_expr of_operation of_step of_test of_item of_target (Access-F.«Access::Property» a p)

pub height_unary : (op : Unary) (a : Expr) → height (tree.unary op a) ≡ height a + 1
unfolding height
height_unary op a = ap (fold-Expr ℕ ℕ ℕ ℕ ℕ ℕ ℕ ℕ ℕ of_access of_assignment of_call of_expr of_operation of_step of_test of_item of_target) (sym (x.rolls-Operation (operation.Unary op a))) ∙ fold-roll-Expr ℕ ℕ ℕ ℕ ℕ ℕ ℕ ℕ ℕ of_access of_assignment of_call of_expr of_operation of_step of_test of_item of_target (Expr-F.Operation (operation.Unary op a)) ∙ ap (fold-Operation ℕ ℕ ℕ ℕ ℕ ℕ ℕ ℕ ℕ of_access of_assignment of_call of_expr of_operation of_step of_test of_item of_target) (sym (operation.rolls-Unary op a)) ∙ fold-roll-Operation ℕ ℕ ℕ ℕ ℕ ℕ ℕ ℕ ℕ of_access of_assignment of_call of_expr of_operation of_step of_test of_item of_target (Operation-F.Unary op a)

pub height_combine : (op : Combining) (a b : Expr) → height (x.Operation (operation.Combine op a b)) ≡ max (height a) (height b) + 1
unfolding height
height_combine op a b = ap (fold-Expr ℕ ℕ ℕ ℕ ℕ ℕ ℕ ℕ ℕ of_access of_assignment of_call of_expr of_operation of_step of_test of_item of_target) (sym (x.rolls-Operation (operation.Combine op a b))) ∙ fold-roll-Expr ℕ ℕ ℕ ℕ ℕ ℕ ℕ ℕ ℕ of_access of_assignment of_call of_expr of_operation of_step of_test of_item of_target (Expr-F.Operation (operation.Combine op a b)) ∙ ap (fold-Operation ℕ ℕ ℕ ℕ ℕ ℕ ℕ ℕ ℕ of_access of_assignment of_call of_expr of_operation of_step of_test of_item of_target) (sym (operation.rolls-Combine op a b)) ∙ fold-roll-Operation ℕ ℕ ℕ ℕ ℕ ℕ ℕ ℕ ℕ of_access of_assignment of_call of_expr of_operation of_step of_test of_item of_target (Operation-F.Combine op a b)

pub height_compare : (op : Comparison) (a b : Expr) → height (x.Operation (operation.Compare op a b)) ≡ max (height a) (height b) + 1
unfolding height
height_compare op a b = ap (fold-Expr ℕ ℕ ℕ ℕ ℕ ℕ ℕ ℕ ℕ of_access of_assignment of_call of_expr of_operation of_step of_test of_item of_target) (sym (x.rolls-Operation (operation.Compare op a b))) ∙ fold-roll-Expr ℕ ℕ ℕ ℕ ℕ ℕ ℕ ℕ ℕ of_access of_assignment of_call of_expr of_operation of_step of_test of_item of_target (Expr-F.Operation (operation.Compare op a b)) ∙ ap (fold-Operation ℕ ℕ ℕ ℕ ℕ ℕ ℕ ℕ ℕ of_access of_assignment of_call of_expr of_operation of_step of_test of_item of_target) (sym (operation.rolls-Compare op a b)) ∙ fold-roll-Operation ℕ ℕ ℕ ℕ ℕ ℕ ℕ ℕ ℕ of_access of_assignment of_call of_expr of_operation of_step of_test of_item of_target (Operation-F.Compare op a b)

pub height_instance_of : (a : Expr) (c : List ℕ) → height (tree.instance_of a c) ≡ height a + 1
unfolding height
height_instance_of a c = ap (fold-Expr ℕ ℕ ℕ ℕ ℕ ℕ ℕ ℕ ℕ of_access of_assignment of_call of_expr of_operation of_step of_test of_item of_target) (sym (x.rolls-Operation (operation.InstanceOf a c))) ∙ fold-roll-Expr ℕ ℕ ℕ ℕ ℕ ℕ ℕ ℕ ℕ of_access of_assignment of_call of_expr of_operation of_step of_test of_item of_target (Expr-F.Operation (operation.InstanceOf a c)) ∙ ap (fold-Operation ℕ ℕ ℕ ℕ ℕ ℕ ℕ ℕ ℕ of_access of_assignment of_call of_expr of_operation of_step of_test of_item of_target) (sym (operation.rolls-InstanceOf a c)) ∙ fold-roll-Operation ℕ ℕ ℕ ℕ ℕ ℕ ℕ ℕ ℕ of_access of_assignment of_call of_expr of_operation of_step of_test of_item of_target (Operation-F.InstanceOf a c)

pub height_and : (a b : Expr) → height (x.Test (test.And a b)) ≡ max (height a) (height b) + 1
unfolding height
height_and a b = ap (fold-Expr ℕ ℕ ℕ ℕ ℕ ℕ ℕ ℕ ℕ of_access of_assignment of_call of_expr of_operation of_step of_test of_item of_target) (sym (x.rolls-Test (test.And a b))) ∙ fold-roll-Expr ℕ ℕ ℕ ℕ ℕ ℕ ℕ ℕ ℕ of_access of_assignment of_call of_expr of_operation of_step of_test of_item of_target (Expr-F.Test (test.And a b)) ∙ ap (fold-Test ℕ ℕ ℕ ℕ ℕ ℕ ℕ ℕ ℕ of_access of_assignment of_call of_expr of_operation of_step of_test of_item of_target) (sym (test.rolls-And a b)) ∙ fold-roll-Test ℕ ℕ ℕ ℕ ℕ ℕ ℕ ℕ ℕ of_access of_assignment of_call of_expr of_operation of_step of_test of_item of_target (Test-F.And a b)

pub height_or : (a b : Expr) → height (x.Test (test.Or a b)) ≡ max (height a) (height b) + 1
unfolding height
height_or a b = ap (fold-Expr ℕ ℕ ℕ ℕ ℕ ℕ ℕ ℕ ℕ of_access of_assignment of_call of_expr of_operation of_step of_test of_item of_target) (sym (x.rolls-Test (test.Or a b))) ∙ fold-roll-Expr ℕ ℕ ℕ ℕ ℕ ℕ ℕ ℕ ℕ of_access of_assignment of_call of_expr of_operation of_step of_test of_item of_target (Expr-F.Test (test.Or a b)) ∙ ap (fold-Test ℕ ℕ ℕ ℕ ℕ ℕ ℕ ℕ ℕ of_access of_assignment of_call of_expr of_operation of_step of_test of_item of_target) (sym (test.rolls-Or a b)) ∙ fold-roll-Test ℕ ℕ ℕ ℕ ℕ ℕ ℕ ℕ ℕ of_access of_assignment of_call of_expr of_operation of_step of_test of_item of_target (Test-F.Or a b)

pub height_coalesce : (a b : Expr) → height (x.Test (test.Coalesce a b)) ≡ max (height a) (height b) + 1
unfolding height
height_coalesce a b = ap (fold-Expr ℕ ℕ ℕ ℕ ℕ ℕ ℕ ℕ ℕ of_access of_assignment of_call of_expr of_operation of_step of_test of_item of_target) (sym (x.rolls-Test (test.Coalesce a b))) ∙ fold-roll-Expr ℕ ℕ ℕ ℕ ℕ ℕ ℕ ℕ ℕ of_access of_assignment of_call of_expr of_operation of_step of_test of_item of_target (Expr-F.Test (test.Coalesce a b)) ∙ ap (fold-Test ℕ ℕ ℕ ℕ ℕ ℕ ℕ ℕ ℕ of_access of_assignment of_call of_expr of_operation of_step of_test of_item of_target) (sym (test.rolls-Coalesce a b)) ∙ fold-roll-Test ℕ ℕ ℕ ℕ ℕ ℕ ℕ ℕ ℕ of_access of_assignment of_call of_expr of_operation of_step of_test of_item of_target (Test-F.Coalesce a b)

pub height_either : (a b : Expr) → height (x.Test (test.Either a b)) ≡ max (height a) (height b) + 1
unfolding height
height_either a b = ap (fold-Expr ℕ ℕ ℕ ℕ ℕ ℕ ℕ ℕ ℕ of_access of_assignment of_call of_expr of_operation of_step of_test of_item of_target) (sym (x.rolls-Test (test.Either a b))) ∙ fold-roll-Expr ℕ ℕ ℕ ℕ ℕ ℕ ℕ ℕ ℕ of_access of_assignment of_call of_expr of_operation of_step of_test of_item of_target (Expr-F.Test (test.Either a b)) ∙ ap (fold-Test ℕ ℕ ℕ ℕ ℕ ℕ ℕ ℕ ℕ of_access of_assignment of_call of_expr of_operation of_step of_test of_item of_target) (sym (test.rolls-Either a b)) ∙ fold-roll-Test ℕ ℕ ℕ ℕ ℕ ℕ ℕ ℕ ℕ of_access of_assignment of_call of_expr of_operation of_step of_test of_item of_target (Test-F.Either a b)

pub height_choice : (c a b : Expr) → height (x.Test (test.Choice c a b)) ≡ max (height c) (max (height a) (height b)) + 1
unfolding height
height_choice c a b = ap (fold-Expr ℕ ℕ ℕ ℕ ℕ ℕ ℕ ℕ ℕ of_access of_assignment of_call of_expr of_operation of_step of_test of_item of_target) (sym (x.rolls-Test (test.Choice c a b))) ∙ fold-roll-Expr ℕ ℕ ℕ ℕ ℕ ℕ ℕ ℕ ℕ of_access of_assignment of_call of_expr of_operation of_step of_test of_item of_target (Expr-F.Test (test.Choice c a b)) ∙ ap (fold-Test ℕ ℕ ℕ ℕ ℕ ℕ ℕ ℕ ℕ of_access of_assignment of_call of_expr of_operation of_step of_test of_item of_target) (sym (test.rolls-Choice c a b)) ∙ fold-roll-Test ℕ ℕ ℕ ℕ ℕ ℕ ℕ ℕ ℕ of_access of_assignment of_call of_expr of_operation of_step of_test of_item of_target (Test-F.Choice c a b)

pub height_isset : (es : List Expr) → height (tree.isset es) ≡ highest (map height es) + 1
unfolding height
height_isset es = ap (fold-Expr ℕ ℕ ℕ ℕ ℕ ℕ ℕ ℕ ℕ of_access of_assignment of_call of_expr of_operation of_step of_test of_item of_target) (sym (x.rolls-Test (test.Isset es))) ∙ fold-roll-Expr ℕ ℕ ℕ ℕ ℕ ℕ ℕ ℕ ℕ of_access of_assignment of_call of_expr of_operation of_step of_test of_item of_target (Expr-F.Test (test.Isset es)) ∙ ap (fold-Test ℕ ℕ ℕ ℕ ℕ ℕ ℕ ℕ ℕ of_access of_assignment of_call of_expr of_operation of_step of_test of_item of_target) (sym (test.rolls-Isset es)) ∙ fold-roll-Test ℕ ℕ ℕ ℕ ℕ ℕ ℕ ℕ ℕ of_access of_assignment of_call of_expr of_operation of_step of_test of_item of_target (Test-F.Isset es)

pub height_empty : (e : Expr) → height (tree.empty e) ≡ height e + 1
unfolding height
height_empty e = ap (fold-Expr ℕ ℕ ℕ ℕ ℕ ℕ ℕ ℕ ℕ of_access of_assignment of_call of_expr of_operation of_step of_test of_item of_target) (sym (x.rolls-Test (test.Empty e))) ∙ fold-roll-Expr ℕ ℕ ℕ ℕ ℕ ℕ ℕ ℕ ℕ of_access of_assignment of_call of_expr of_operation of_step of_test of_item of_target (Expr-F.Test (test.Empty e)) ∙ ap (fold-Test ℕ ℕ ℕ ℕ ℕ ℕ ℕ ℕ ℕ of_access of_assignment of_call of_expr of_operation of_step of_test of_item of_target) (sym (test.rolls-Empty e)) ∙ fold-roll-Test ℕ ℕ ℕ ℕ ℕ ℕ ℕ ℕ ℕ of_access of_assignment of_call of_expr of_operation of_step of_test of_item of_target (Test-F.Empty e)

pub height_function : (f : List ℕ) (es : List Expr) → height (tree.function_call f es) ≡ highest (map height es) + 1
unfolding height
height_function f es = ap (fold-Expr ℕ ℕ ℕ ℕ ℕ ℕ ℕ ℕ ℕ of_access of_assignment of_call of_expr of_operation of_step of_test of_item of_target) (sym (x.rolls-Call (call.Function f es))) ∙ fold-roll-Expr ℕ ℕ ℕ ℕ ℕ ℕ ℕ ℕ ℕ of_access of_assignment of_call of_expr of_operation of_step of_test of_item of_target (Expr-F.Call (call.Function f es)) ∙ ap (fold-Call ℕ ℕ ℕ ℕ ℕ ℕ ℕ ℕ ℕ of_access of_assignment of_call of_expr of_operation of_step of_test of_item of_target) (sym (call.rolls-Function f es)) ∙ fold-roll-Call ℕ ℕ ℕ ℕ ℕ ℕ ℕ ℕ ℕ of_access of_assignment of_call of_expr of_operation of_step of_test of_item of_target (Call-F.Function f es)

pub height_method : (a : Expr) (m : List ℕ) (es : List Expr) → height (tree.method_call a m es) ≡ max (height a) (highest (map height es)) + 1
unfolding height
height_method a m es = ap (fold-Expr ℕ ℕ ℕ ℕ ℕ ℕ ℕ ℕ ℕ of_access of_assignment of_call of_expr of_operation of_step of_test of_item of_target) (sym (x.rolls-Call (call.Method a m es))) ∙ fold-roll-Expr ℕ ℕ ℕ ℕ ℕ ℕ ℕ ℕ ℕ of_access of_assignment of_call of_expr of_operation of_step of_test of_item of_target (Expr-F.Call (call.Method a m es)) ∙ ap (fold-Call ℕ ℕ ℕ ℕ ℕ ℕ ℕ ℕ ℕ of_access of_assignment of_call of_expr of_operation of_step of_test of_item of_target) (sym (call.rolls-Method a m es)) ∙ fold-roll-Call ℕ ℕ ℕ ℕ ℕ ℕ ℕ ℕ ℕ of_access of_assignment of_call of_expr of_operation of_step of_test of_item of_target (Call-F.Method a m es)

pub height_parent : (m : List ℕ) (es : List Expr) → height (tree.parent_call m es) ≡ highest (map height es) + 1
unfolding height
height_parent m es = ap (fold-Expr ℕ ℕ ℕ ℕ ℕ ℕ ℕ ℕ ℕ of_access of_assignment of_call of_expr of_operation of_step of_test of_item of_target) (sym (x.rolls-Call (call.Parent m es))) ∙ fold-roll-Expr ℕ ℕ ℕ ℕ ℕ ℕ ℕ ℕ ℕ of_access of_assignment of_call of_expr of_operation of_step of_test of_item of_target (Expr-F.Call (call.Parent m es)) ∙ ap (fold-Call ℕ ℕ ℕ ℕ ℕ ℕ ℕ ℕ ℕ of_access of_assignment of_call of_expr of_operation of_step of_test of_item of_target) (sym (call.rolls-Parent m es)) ∙ fold-roll-Call ℕ ℕ ℕ ℕ ℕ ℕ ℕ ℕ ℕ of_access of_assignment of_call of_expr of_operation of_step of_test of_item of_target (Call-F.Parent m es)

pub height_new : (c : List ℕ) (es : List Expr) → height (tree.new_object c es) ≡ highest (map height es) + 1
unfolding height
height_new c es = ap (fold-Expr ℕ ℕ ℕ ℕ ℕ ℕ ℕ ℕ ℕ of_access of_assignment of_call of_expr of_operation of_step of_test of_item of_target) (sym (x.rolls-Call (call.New c es))) ∙ fold-roll-Expr ℕ ℕ ℕ ℕ ℕ ℕ ℕ ℕ ℕ of_access of_assignment of_call of_expr of_operation of_step of_test of_item of_target (Expr-F.Call (call.New c es)) ∙ ap (fold-Call ℕ ℕ ℕ ℕ ℕ ℕ ℕ ℕ ℕ of_access of_assignment of_call of_expr of_operation of_step of_test of_item of_target) (sym (call.rolls-New c es)) ∙ fold-roll-Call ℕ ℕ ℕ ℕ ℕ ℕ ℕ ℕ ℕ of_access of_assignment of_call of_expr of_operation of_step of_test of_item of_target (Call-F.New c es)

pub height_import : (kind : Import) (e : Expr) → height (tree.import kind e) ≡ height e + 1
unfolding height
height_import kind e = ap (fold-Expr ℕ ℕ ℕ ℕ ℕ ℕ ℕ ℕ ℕ of_access of_assignment of_call of_expr of_operation of_step of_test of_item of_target) (sym (x.rolls-Call (call.Import kind e))) ∙ fold-roll-Expr ℕ ℕ ℕ ℕ ℕ ℕ ℕ ℕ ℕ of_access of_assignment of_call of_expr of_operation of_step of_test of_item of_target (Expr-F.Call (call.Import kind e)) ∙ ap (fold-Call ℕ ℕ ℕ ℕ ℕ ℕ ℕ ℕ ℕ of_access of_assignment of_call of_expr of_operation of_step of_test of_item of_target) (sym (call.rolls-Import kind e)) ∙ fold-roll-Call ℕ ℕ ℕ ℕ ℕ ℕ ℕ ℕ ℕ of_access of_assignment of_call of_expr of_operation of_step of_test of_item of_target (Call-F.Import kind e)

height_target : (p : Place) → fold-Target ℕ ℕ ℕ ℕ ℕ ℕ ℕ ℕ ℕ of_access of_assignment of_call of_expr of_operation of_step of_test of_item of_target (target_of p) ≡ place_height p
unfolding step_height
height_target p = fold-roll-Target ℕ ℕ ℕ ℕ ℕ ℕ ℕ ℕ ℕ of_access of_assignment of_call of_expr of_operation of_step of_test of_item of_target (record { variable = p.variable; path = p.path })

pub height_assign : (p : Place) (e : Expr) → height (x.Assignment (assignment.Assign (target_of p) e)) ≡ max (place_height p) (height e) + 1
unfolding height
height_assign p e = ap (fold-Expr ℕ ℕ ℕ ℕ ℕ ℕ ℕ ℕ ℕ of_access of_assignment of_call of_expr of_operation of_step of_test of_item of_target) (sym (x.rolls-Assignment (assignment.Assign (target_of p) e))) ∙ fold-roll-Expr ℕ ℕ ℕ ℕ ℕ ℕ ℕ ℕ ℕ of_access of_assignment of_call of_expr of_operation of_step of_test of_item of_target (Expr-F.Assignment (assignment.Assign (target_of p) e)) ∙ ap (fold-Assignment ℕ ℕ ℕ ℕ ℕ ℕ ℕ ℕ ℕ of_access of_assignment of_call of_expr of_operation of_step of_test of_item of_target) (sym (assignment.rolls-Assign (target_of p) e)) ∙ fold-roll-Assignment ℕ ℕ ℕ ℕ ℕ ℕ ℕ ℕ ℕ of_access of_assignment of_call of_expr of_operation of_step of_test of_item of_target (Assignment-F.Assign (target_of p) e) ∙ ap (λ h. max h (height e) + 1) (height_target p)

pub height_default : (p : Place) (e : Expr) → height (x.Assignment (assignment.CoalesceAssign (target_of p) e)) ≡ max (place_height p) (height e) + 1
unfolding height
height_default p e = ap (fold-Expr ℕ ℕ ℕ ℕ ℕ ℕ ℕ ℕ ℕ of_access of_assignment of_call of_expr of_operation of_step of_test of_item of_target) (sym (x.rolls-Assignment (assignment.CoalesceAssign (target_of p) e))) ∙ fold-roll-Expr ℕ ℕ ℕ ℕ ℕ ℕ ℕ ℕ ℕ of_access of_assignment of_call of_expr of_operation of_step of_test of_item of_target (Expr-F.Assignment (assignment.CoalesceAssign (target_of p) e)) ∙ ap (fold-Assignment ℕ ℕ ℕ ℕ ℕ ℕ ℕ ℕ ℕ of_access of_assignment of_call of_expr of_operation of_step of_test of_item of_target) (sym (assignment.rolls-CoalesceAssign (target_of p) e)) ∙ fold-roll-Assignment ℕ ℕ ℕ ℕ ℕ ℕ ℕ ℕ ℕ of_access of_assignment of_call of_expr of_operation of_step of_test of_item of_target (Assignment-F.CoalesceAssign (target_of p) e) ∙ ap (λ h. max h (height e) + 1) (height_target p)

pub height_compound : (op : Combining) (p : Place) (e : Expr) → height (x.Assignment (assignment.Compound op (target_of p) e)) ≡ max (place_height p) (height e) + 1
unfolding height
height_compound op p e = ap (fold-Expr ℕ ℕ ℕ ℕ ℕ ℕ ℕ ℕ ℕ of_access of_assignment of_call of_expr of_operation of_step of_test of_item of_target) (sym (x.rolls-Assignment (assignment.Compound op (target_of p) e))) ∙ fold-roll-Expr ℕ ℕ ℕ ℕ ℕ ℕ ℕ ℕ ℕ of_access of_assignment of_call of_expr of_operation of_step of_test of_item of_target (Expr-F.Assignment (assignment.Compound op (target_of p) e)) ∙ ap (fold-Assignment ℕ ℕ ℕ ℕ ℕ ℕ ℕ ℕ ℕ of_access of_assignment of_call of_expr of_operation of_step of_test of_item of_target) (sym (assignment.rolls-Compound op (target_of p) e)) ∙ fold-roll-Assignment ℕ ℕ ℕ ℕ ℕ ℕ ℕ ℕ ℕ of_access of_assignment of_call of_expr of_operation of_step of_test of_item of_target (Assignment-F.Compound op (target_of p) e) ∙ ap (λ h. max h (height e) + 1) (height_target p)

pub height_written : (w : Writing) (p : Place) (e : Expr) → height (tree.assignment w (target_of p) e) ≡ max (place_height p) (height e) + 1
height_written write.Assign p e = height_assign p e
height_written (write.Compound op) p e = height_compound op p e
height_written write.CoalesceAssign p e = height_default p e
height_written write.Increment p e = height_assign p e
height_written write.Decrement p e = height_assign p e

pub height_pre_increment : (p : Place) → height (tree.pre_increment (target_of p)) ≡ place_height p + 1
unfolding height
height_pre_increment p = ap (fold-Expr ℕ ℕ ℕ ℕ ℕ ℕ ℕ ℕ ℕ of_access of_assignment of_call of_expr of_operation of_step of_test of_item of_target) (sym (x.rolls-Assignment (assignment.PreIncrement (target_of p)))) ∙ fold-roll-Expr ℕ ℕ ℕ ℕ ℕ ℕ ℕ ℕ ℕ of_access of_assignment of_call of_expr of_operation of_step of_test of_item of_target (Expr-F.Assignment (assignment.PreIncrement (target_of p))) ∙ ap (fold-Assignment ℕ ℕ ℕ ℕ ℕ ℕ ℕ ℕ ℕ of_access of_assignment of_call of_expr of_operation of_step of_test of_item of_target) (sym (assignment.rolls-PreIncrement (target_of p))) ∙ fold-roll-Assignment ℕ ℕ ℕ ℕ ℕ ℕ ℕ ℕ ℕ of_access of_assignment of_call of_expr of_operation of_step of_test of_item of_target (Assignment-F.PreIncrement (target_of p)) ∙ ap (λ h. h + 1) (height_target p)

pub height_pre_decrement : (p : Place) → height (tree.pre_decrement (target_of p)) ≡ place_height p + 1
unfolding height
height_pre_decrement p = ap (fold-Expr ℕ ℕ ℕ ℕ ℕ ℕ ℕ ℕ ℕ of_access of_assignment of_call of_expr of_operation of_step of_test of_item of_target) (sym (x.rolls-Assignment (assignment.PreDecrement (target_of p)))) ∙ fold-roll-Expr ℕ ℕ ℕ ℕ ℕ ℕ ℕ ℕ ℕ of_access of_assignment of_call of_expr of_operation of_step of_test of_item of_target (Expr-F.Assignment (assignment.PreDecrement (target_of p))) ∙ ap (fold-Assignment ℕ ℕ ℕ ℕ ℕ ℕ ℕ ℕ ℕ of_access of_assignment of_call of_expr of_operation of_step of_test of_item of_target) (sym (assignment.rolls-PreDecrement (target_of p))) ∙ fold-roll-Assignment ℕ ℕ ℕ ℕ ℕ ℕ ℕ ℕ ℕ of_access of_assignment of_call of_expr of_operation of_step of_test of_item of_target (Assignment-F.PreDecrement (target_of p)) ∙ ap (λ h. h + 1) (height_target p)

pub height_post_increment : (p : Place) → height (tree.post_increment (target_of p)) ≡ place_height p + 1
unfolding height
height_post_increment p = ap (fold-Expr ℕ ℕ ℕ ℕ ℕ ℕ ℕ ℕ ℕ of_access of_assignment of_call of_expr of_operation of_step of_test of_item of_target) (sym (x.rolls-Assignment (assignment.PostIncrement (target_of p)))) ∙ fold-roll-Expr ℕ ℕ ℕ ℕ ℕ ℕ ℕ ℕ ℕ of_access of_assignment of_call of_expr of_operation of_step of_test of_item of_target (Expr-F.Assignment (assignment.PostIncrement (target_of p))) ∙ ap (fold-Assignment ℕ ℕ ℕ ℕ ℕ ℕ ℕ ℕ ℕ of_access of_assignment of_call of_expr of_operation of_step of_test of_item of_target) (sym (assignment.rolls-PostIncrement (target_of p))) ∙ fold-roll-Assignment ℕ ℕ ℕ ℕ ℕ ℕ ℕ ℕ ℕ of_access of_assignment of_call of_expr of_operation of_step of_test of_item of_target (Assignment-F.PostIncrement (target_of p)) ∙ ap (λ h. h + 1) (height_target p)

pub height_post_decrement : (p : Place) → height (tree.post_decrement (target_of p)) ≡ place_height p + 1
unfolding height
height_post_decrement p = ap (fold-Expr ℕ ℕ ℕ ℕ ℕ ℕ ℕ ℕ ℕ of_access of_assignment of_call of_expr of_operation of_step of_test of_item of_target) (sym (x.rolls-Assignment (assignment.PostDecrement (target_of p)))) ∙ fold-roll-Expr ℕ ℕ ℕ ℕ ℕ ℕ ℕ ℕ ℕ of_access of_assignment of_call of_expr of_operation of_step of_test of_item of_target (Expr-F.Assignment (assignment.PostDecrement (target_of p))) ∙ ap (fold-Assignment ℕ ℕ ℕ ℕ ℕ ℕ ℕ ℕ ℕ of_access of_assignment of_call of_expr of_operation of_step of_test of_item of_target) (sym (assignment.rolls-PostDecrement (target_of p))) ∙ fold-roll-Assignment ℕ ℕ ℕ ℕ ℕ ℕ ℕ ℕ ℕ of_access of_assignment of_call of_expr of_operation of_step of_test of_item of_target (Assignment-F.PostDecrement (target_of p)) ∙ ap (λ h. h + 1) (height_target p)

pub height_of_index : (e : Expr) → step_height (step.Index e) ≡ height e
unfolding height step_height
height_of_index e = ap (fold-PathStep ℕ ℕ ℕ ℕ ℕ ℕ ℕ ℕ ℕ of_access of_assignment of_call of_expr of_operation of_step of_test of_item of_target) (sym (step.rolls-Index e)) ∙ fold-roll-PathStep ℕ ℕ ℕ ℕ ℕ ℕ ℕ ℕ ℕ of_access of_assignment of_call of_expr of_operation of_step of_test of_item of_target (PathStep-F.«PathStep::Index» e)

pub height_of_property : (p : List ℕ) → step_height (step.Property p) ≡ 0
unfolding height step_height
height_of_property p = ap (fold-PathStep ℕ ℕ ℕ ℕ ℕ ℕ ℕ ℕ ℕ of_access of_assignment of_call of_expr of_operation of_step of_test of_item of_target) (sym (step.rolls-Property p)) ∙ fold-roll-PathStep ℕ ℕ ℕ ℕ ℕ ℕ ℕ ℕ ℕ of_access of_assignment of_call of_expr of_operation of_step of_test of_item of_target (PathStep-F.«PathStep::Property» p)

pub height_of_append : step_height step.Append ≡ 0
unfolding step_height
height_of_append = ap (fold-PathStep ℕ ℕ ℕ ℕ ℕ ℕ ℕ ℕ ℕ of_access of_assignment of_call of_expr of_operation of_step of_test of_item of_target) (sym step.rolls-Append) ∙ fold-roll-PathStep ℕ ℕ ℕ ℕ ℕ ℕ ℕ ℕ ℕ of_access of_assignment of_call of_expr of_operation of_step of_test of_item of_target PathStep-F.Append

zero_max : (n : ℕ) → max 0 n ≡ n
zero_max n = omega arith

pub height_of_value : (v : Expr) → item_height (tree.item None v) ≡ height v
unfolding height item_height
height_of_value v = fold-roll-ArrayItem ℕ ℕ ℕ ℕ ℕ ℕ ℕ ℕ ℕ of_access of_assignment of_call of_expr of_operation of_step of_test of_item of_target (record { key = None; value = v }) ∙ zero_max (height v)

pub height_of_pair : (k v : Expr) → item_height (tree.item (Some k) v) ≡ max (height k) (height v)
unfolding height item_height
height_of_pair k v = fold-roll-ArrayItem ℕ ℕ ℕ ℕ ℕ ℕ ℕ ℕ ℕ of_access of_assignment of_call of_expr of_operation of_step of_test of_item of_target (record { key = Some k; value = v })

pub highest_push : (ns : List ℕ) (n : ℕ) → highest (ns ++ n ∷ []) ≡ max (highest ns) n
highest_push [] n = omega arith
highest_push (m ∷ ns) n = let e = highest_push ns n in omega arith

pub highest_of_push : (es : List Expr) (e : Expr) → highest (map height (es ++ e ∷ [])) ≡ max (highest (map height es)) (height e)
highest_of_push [] e = omega arith
highest_of_push (d ∷ es) e = let h = highest_of_push es e in omega arith

items_push : (items : List ArrayItem) (i : ArrayItem) → highest (map item_height (items ++ i ∷ [])) ≡ max (highest (map item_height items)) (item_height i)
items_push [] i = omega arith
items_push (j ∷ items) i = let h = items_push items i in omega arith

pub highest_of_value : (items : List ArrayItem) (v : Expr) → highest (map item_height (items ++ tree.item None v ∷ [])) ≡ max (highest (map item_height items)) (height v)
highest_of_value items v = items_push items (tree.item None v) ∙ ap (max (highest (map item_height items))) (height_of_value v)

pub highest_of_pair : (items : List ArrayItem) (k v : Expr) → highest (map item_height (items ++ tree.item (Some k) v ∷ [])) ≡ max (highest (map item_height items)) (max (height k) (height v))
highest_of_pair items k v = items_push items (tree.item (Some k) v) ∙ ap (max (highest (map item_height items))) (height_of_pair k v)
