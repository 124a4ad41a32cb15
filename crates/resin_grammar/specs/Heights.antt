-- How high a tree is: 1 for a leaf, and otherwise one more than its highest part. The parts are the expressions in it: a
-- call without arguments is a leaf, and a target is as high as the expression that reads it.
use Rattle.std.specs.Prelude.{ℕ, ◌+◌, max, List, [], ◌∷◌, Option, Some, None, unwrap_or}
use Rattle.std.specs.List.{fold}
use Rattle.resin_tree.specs.declared.expression.Access.{Access-F}
use Rattle.resin_tree.specs.declared.expression.Assignment.{Assignment-F}
use Rattle.resin_tree.specs.declared.expression.Call.{Call-F}
use Rattle.resin_tree.specs.declared.expression.Expr.{Expr, Expr-F, fold-Expr}
use Rattle.resin_tree.specs.declared.expression.Operation.{Operation-F}
use Rattle.resin_tree.specs.declared.expression.PathStep.{PathStep, PathStep-F, fold-PathStep}
use Rattle.resin_tree.specs.declared.expression.Test.{Test-F}
use Rattle.resin_tree.specs.declared.expression.ArrayItem.{ArrayItem, fold-ArrayItem}
use Rattle.resin_grammar.specs.Layers.{AccessLayer, AssignmentLayer, CallLayer, ExprLayer}
use Rattle.resin_grammar.specs.Layers.{OperationLayer, StepLayer, TestLayer, ItemLayer, TargetLayer}

-- the greatest of a list, 0 of none
abbrev pub highest : List ℕ → ℕ
highest [] = 0
highest (n ∷ ns) = max n (highest ns)

abbrev pub of_access : AccessLayer ℕ → ℕ
of_access (Access-F.«Access::Index» a i) = max a i + 1
of_access (Access-F.«Access::Property» a p) = a + 1

abbrev pub of_operation : OperationLayer ℕ → ℕ
of_operation (Operation-F.Unary op a) = a + 1
of_operation (Operation-F.Combine op a b) = max a b + 1
of_operation (Operation-F.Compare op a b) = max a b + 1
of_operation (Operation-F.InstanceOf a c) = a + 1

abbrev pub of_test : TestLayer ℕ → ℕ
of_test (Test-F.And a b) = max a b + 1
of_test (Test-F.Or a b) = max a b + 1
of_test (Test-F.Coalesce a b) = max a b + 1
of_test (Test-F.Choice c a b) = max c (max a b) + 1
of_test (Test-F.Either c b) = max c b + 1
of_test (Test-F.Isset es) = highest es + 1
of_test (Test-F.Empty e) = e + 1

-- the index of a step, 0 where it has none
abbrev pub of_step : StepLayer ℕ → ℕ
of_step (PathStep-F.«PathStep::Index» i) = i
of_step PathStep-F.Append = 0
of_step (PathStep-F.«PathStep::Property» p) = 0

-- a variable is a leaf, and each step behind it is one more
abbrev pub along : ℕ → ℕ → ℕ
along height index = max height index + 1

abbrev pub of_target : TargetLayer ℕ → ℕ
of_target t = fold along 1 t.path

abbrev pub of_assignment : AssignmentLayer ℕ → ℕ
of_assignment (Assignment-F.Assign t e) = max t e + 1
of_assignment (Assignment-F.Compound op t e) = max t e + 1
of_assignment (Assignment-F.CoalesceAssign t e) = max t e + 1
of_assignment (Assignment-F.PreIncrement t) = t + 1
of_assignment (Assignment-F.PreDecrement t) = t + 1
of_assignment (Assignment-F.PostIncrement t) = t + 1
of_assignment (Assignment-F.PostDecrement t) = t + 1

abbrev pub of_call : CallLayer ℕ → ℕ
of_call (Call-F.Function f es) = highest es + 1
of_call (Call-F.Method a m es) = max a (highest es) + 1
of_call (Call-F.Parent m es) = highest es + 1
of_call (Call-F.New c es) = highest es + 1
of_call (Call-F.Import kind e) = e + 1

abbrev pub of_item : ItemLayer ℕ → ℕ
of_item i = max (unwrap_or i.key 0) i.value

abbrev pub of_expr : ExprLayer ℕ → ℕ
of_expr (Expr-F.Literal x) = 1
of_expr (Expr-F.Variable v) = 1
of_expr (Expr-F.Array items) = highest items + 1
of_expr (Expr-F.Join parts) = highest parts + 1
of_expr (Expr-F.Access h) = h
of_expr (Expr-F.Operation h) = h
of_expr (Expr-F.Test h) = h
of_expr (Expr-F.Assignment h) = h
of_expr (Expr-F.Call h) = h

unfoldable pub height : Expr → ℕ
height = fold-Expr ℕ ℕ ℕ ℕ ℕ ℕ ℕ ℕ ℕ of_access of_assignment of_call of_expr of_operation of_step of_test of_item of_target

-- the higher of an item's key and value
unfoldable pub item_height : ArrayItem → ℕ
item_height = fold-ArrayItem ℕ ℕ ℕ ℕ ℕ ℕ ℕ ℕ ℕ of_access of_assignment of_call of_expr of_operation of_step of_test of_item of_target

unfoldable pub step_height : PathStep → ℕ
step_height = fold-PathStep ℕ ℕ ℕ ℕ ℕ ℕ ℕ ℕ ℕ of_access of_assignment of_call of_expr of_operation of_step of_test of_item of_target
