-- The trees that the forms make of their parts.
use Rattle.std.specs.Prelude.{ℕ, ℤ, List, Option, Some, None}
use Rattle.resin_tree.specs.declared.expression.Expr.{Expr}
use Rattle.resin_tree.specs.declared.expression.Expr.TheVariants as x
use Rattle.resin_tree.specs.declared.expression.Literal.TheVariants as literal
use Rattle.resin_tree.specs.declared.expression.ConstantName.{ConstantName}
use Rattle.resin_tree.specs.declared.expression.Access.TheVariants as access
use Rattle.resin_tree.specs.declared.expression.Unary.{Unary}
use Rattle.resin_tree.specs.declared.expression.Unary.TheVariants as sign
use Rattle.resin_tree.specs.declared.expression.Operation.TheVariants as operation
use Rattle.resin_tree.specs.declared.expression.Test.TheVariants as test
use Rattle.resin_tree.specs.declared.expression.Target.{Target}
use Rattle.resin_tree.specs.declared.expression.Assignment.TheVariants as writes
use Rattle.resin_tree.specs.declared.expression.Call.TheVariants as call
use Rattle.resin_tree.specs.declared.expression.Import.{Import}
use Rattle.resin_tree.specs.declared.expression.Import.TheVariants.{Include}
use Rattle.resin_tree.specs.declared.expression.ArrayItem.{ArrayItem}
use Rattle.resin_grammar.specs.declared.operators.Operator.{Operator}
use Rattle.resin_grammar.specs.declared.operators.Operator.TheVariants.{Combine, Compare, And, Or}
use Rattle.resin_grammar.specs.declared.operators.Writing.{Writing}
use Rattle.resin_grammar.specs.declared.operators.Writing.TheVariants as write

abbrev pub int : ℤ → Expr
int n = x.Literal (literal.Int n)

abbrev pub text : List ℕ → Expr
text s = x.Literal (literal.Text s)

abbrev pub constant : ConstantName → Expr
constant c = x.Literal (literal.Constant c)

abbrev pub variable : List ℕ → Expr
variable v = x.Variable v

abbrev pub array : List ArrayItem → Expr
array items = x.Array items

abbrev pub join : List Expr → Expr
join parts = x.Join parts

abbrev pub item : Option Expr → Expr → ArrayItem
item key value = record { key = key; value = value }

abbrev pub index : Expr → Expr → Expr
index a i = x.Access (access.Index a i)

abbrev pub property : Expr → List ℕ → Expr
property a p = x.Access (access.Property a p)

abbrev pub unary : Unary → Expr → Expr
unary op e = x.Operation (operation.Unary op e)

abbrev pub not_of : Expr → Expr
not_of e = unary sign.Not e

abbrev pub instance_of : Expr → List ℕ → Expr
instance_of e c = x.Operation (operation.InstanceOf e c)

abbrev pub binary : Operator → Expr → Expr → Expr
binary (Combine op) a b = x.Operation (operation.Combine op a b)
binary (Compare op) a b = x.Operation (operation.Compare op a b)
binary And a b = x.Test (test.And a b)
binary Or a b = x.Test (test.Or a b)

abbrev pub coalesce : Expr → Expr → Expr
coalesce a b = x.Test (test.Coalesce a b)

-- `c ? a : b`, or `c ?: b`
abbrev pub choice : Expr → Option Expr → Expr → Expr
choice c (Some a) b = x.Test (test.Choice c a b)
choice c None b = x.Test (test.Either c b)

abbrev pub isset : List Expr → Expr
isset es = x.Test (test.Isset es)

abbrev pub empty : Expr → Expr
empty e = x.Test (test.Empty e)

-- `t = e` and its kin
abbrev pub assignment : Writing → Target → Expr → Expr
assignment (write.Compound op) t e = x.Assignment (writes.Compound op t e)
assignment write.CoalesceAssign t e = x.Assignment (writes.CoalesceAssign t e)
assignment _ t e = x.Assignment (writes.Assign t e)

abbrev pub pre_increment : Target → Expr
pre_increment t = x.Assignment (writes.PreIncrement t)

abbrev pub pre_decrement : Target → Expr
pre_decrement t = x.Assignment (writes.PreDecrement t)

abbrev pub post_increment : Target → Expr
post_increment t = x.Assignment (writes.PostIncrement t)

abbrev pub post_decrement : Target → Expr
post_decrement t = x.Assignment (writes.PostDecrement t)

abbrev pub function_call : List ℕ → List Expr → Expr
function_call f es = x.Call (call.Function f es)

abbrev pub method_call : Expr → List ℕ → List Expr → Expr
method_call a m es = x.Call (call.Method a m es)

abbrev pub parent_call : List ℕ → List Expr → Expr
parent_call m es = x.Call (call.Parent m es)

abbrev pub new_object : List ℕ → List Expr → Expr
new_object c es = x.Call (call.New c es)

abbrev pub import : Import → Expr → Expr
import kind e = x.Call (call.Import kind e)

-- the form of import that a token begins; `include` for a token that begins none
abbrev pub import_by : Option Import → Expr → Expr
import_by (Some kind) e = import kind e
import_by None e = import Include e
