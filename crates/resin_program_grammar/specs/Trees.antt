-- The statements and declarations that the forms make of their parts.
use Rattle.std.specs.Prelude.{ℕ, ℤ, ◌-◌, List, [], ◌∷◌, ◌++◌, Option, Some, None}
use Rattle.resin_tree.specs.declared.declaration.ClassDecl.{ClassDecl}
use Rattle.resin_tree.specs.declared.declaration.Constant.{Constant}
use Rattle.resin_tree.specs.declared.declaration.Constant.TheVariants as constant
use Rattle.resin_tree.specs.declared.declaration.ConstantItem.{ConstantItem}
use Rattle.resin_tree.specs.declared.declaration.Function.{Function}
use Rattle.resin_tree.specs.declared.declaration.Parameter.{Parameter}
use Rattle.resin_tree.specs.declared.declaration.Property.{Property}
use Rattle.resin_tree.specs.declared.expression.ConstantName.{ConstantName}
use Rattle.resin_tree.specs.declared.expression.Expr.{Expr}
use Rattle.resin_tree.specs.declared.expression.Literal.TheVariants as literal
use Rattle.resin_tree.specs.declared.statement.Branch.{Branch, roll-Branch}
use Rattle.resin_tree.specs.declared.statement.Case.{Case, roll-Case}
use Rattle.resin_tree.specs.declared.statement.Catch.{Catch, roll-Catch}
use Rattle.resin_tree.specs.declared.statement.Loop.{Loop}
use Rattle.resin_tree.specs.declared.statement.Simple.{Simple}
use Rattle.resin_tree.specs.declared.statement.Stmt.{Stmt}
use Rattle.resin_tree.specs.declared.statement.StmtKind.{StmtKind}
use Rattle.resin_tree.specs.declared.statement.StmtKind.TheVariants as s
use Rattle.resin_program_grammar.specs.declared.chain.Chain.{Chain}
use Rattle.resin_program_grammar.specs.declared.members.Members.{Members}

-- ---- statements. The first number is the line.

abbrev pub statement : ℕ → StmtKind → Stmt
statement line kind = record { line = line; kind = kind }

abbrev pub simple : ℕ → Simple → Stmt
simple line x = statement line (s.Simple x)

abbrev pub block : ℕ → List Stmt → Stmt
block line ss = statement line (s.Block ss)

abbrev pub loop : ℕ → Loop → Stmt
loop line x = statement line (s.Loop x)

abbrev pub branch : Expr → Stmt → Branch
branch e body = roll-Branch (record { condition = e; body = body })

abbrev pub case : Option Expr → List Stmt → Case
case e ss = roll-Case (record { condition = e; statements = ss })

abbrev pub catch : List (List ℕ) → Option (List ℕ) → List Stmt → Catch
catch classes v ss = roll-Catch (record { classes = classes; variable = v; statements = ss })

-- ---- an `if` while it is read

abbrev pub chain : ℕ → Chain
chain line = record { line = line; branches = [] }

-- one link more
abbrev pub longer : Chain → Expr → Stmt → Chain
longer c e body = record { line = c.line; branches = c.branches ++ branch e body ∷ [] }

-- the whole `if`, with the statement behind `else`
abbrev pub whole : Chain → Option Stmt → Stmt
whole c other = statement c.line (s.If c.branches other)

-- ---- declarations

abbrev pub int : ℤ → Constant
int n = constant.Literal (literal.Int n)

abbrev pub text : List ℕ → Constant
text x = constant.Literal (literal.Text x)

abbrev pub constant_named : ConstantName → Constant
constant_named c = constant.Literal (literal.Constant c)

abbrev pub array : List ConstantItem → Constant
array items = constant.Array items

abbrev pub item : Option Constant → Constant → ConstantItem
item key value = record { key = key; value = value }

abbrev pub parameter : List ℕ → Option Constant → Parameter
parameter v c = record { name = v; default = c }

abbrev pub function : ℕ → List ℕ → List Parameter → List Stmt → Function
function line n ps ss = record { line = line; name = n; parameters = ps; body = ss }

abbrev pub no_members : Members
no_members = record { properties = []; methods = [] }

abbrev pub with_property : Members → List ℕ → Option Constant → Members
with_property ms v c = record { properties = ms.properties ++ record { name = v; default = c } ∷ []; methods = ms.methods }

abbrev pub with_method : Members → Function → Members
with_method ms f = record { properties = ms.properties; methods = ms.methods ++ f ∷ [] }

abbrev pub class : ℕ → List ℕ → Option (List ℕ) → Members → ClassDecl
class line n parent ms = record { line = line; name = n; parent = parent; properties = ms.properties; methods = ms.methods }
