-- One layer of each type of trees, with results of type A in place of the trees in it.
use Rattle.std.specs.Prelude.{ℕ}
use Rattle.resin_tree.specs.declared.expression.Access.{Access, Access-F}
use Rattle.resin_tree.specs.declared.expression.Assignment.{Assignment, Assignment-F}
use Rattle.resin_tree.specs.declared.expression.Call.{Call, Call-F}
use Rattle.resin_tree.specs.declared.expression.Expr.{Expr, Expr-F}
use Rattle.resin_tree.specs.declared.expression.Operation.{Operation, Operation-F}
use Rattle.resin_tree.specs.declared.expression.PathStep.{PathStep, PathStep-F}
use Rattle.resin_tree.specs.declared.expression.Test.{Test, Test-F}
use Rattle.resin_tree.specs.declared.expression.ArrayItem.{ArrayItem, ArrayItem-F}
use Rattle.resin_tree.specs.declared.expression.Target.{Target, Target-F}

abbrev pub AccessLayer : Type 0 → Type 0
AccessLayer A = Access-F A A A A A A A A A

abbrev pub AssignmentLayer : Type 0 → Type 0
AssignmentLayer A = Assignment-F A A A A A A A A A

abbrev pub CallLayer : Type 0 → Type 0
CallLayer A = Call-F A A A A A A A A A

abbrev pub ExprLayer : Type 0 → Type 0
ExprLayer A = Expr-F A A A A A A A A A

abbrev pub OperationLayer : Type 0 → Type 0
OperationLayer A = Operation-F A A A A A A A A A

abbrev pub StepLayer : Type 0 → Type 0
StepLayer A = PathStep-F A A A A A A A A A

abbrev pub TestLayer : Type 0 → Type 0
TestLayer A = Test-F A A A A A A A A A

abbrev pub ItemLayer : Type 0 → Type 0
ItemLayer A = ArrayItem-F A A A A A A A A A

abbrev pub TargetLayer : Type 0 → Type 0
TargetLayer A = Target-F A A A A A A A A A

-- a step of a target with the trees in it
abbrev pub Step : Type 0
Step = PathStep-F Access Assignment Call Expr Operation PathStep Test ArrayItem Target
