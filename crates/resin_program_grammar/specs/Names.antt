-- The names of the grammar of programs: what may hold itself, those of expressions among them. Each stands for what
-- follows a token, one construct deeper.
use Rattle.std.specs.Prelude.{ℕ, ℤ, Bool, List, Option}
use Rattle.resin_tree.specs.declared.declaration.ConstantItem.{ConstantItem}
use Rattle.resin_tree.specs.declared.declaration.Parameter.{Parameter}
use Rattle.resin_tree.specs.declared.expression.Expr.{Expr}
use Rattle.resin_tree.specs.declared.expression.Target.{Target}
use Rattle.resin_tree.specs.declared.statement.Case.{Case}
use Rattle.resin_tree.specs.declared.statement.Stmt.{Stmt}
use Rattle.resin_grammar.specs.declared.sign.Sign.{Sign}
use Rattle.resin_grammar.specs.Names as e
use Rattle.resin_program_grammar.specs.declared.chain.Around.{Around}
use Rattle.resin_program_grammar.specs.declared.chain.Chain.{Chain}
use Rattle.resin_program_grammar.specs.declared.chain.Left.{Left}
use Rattle.resin_program_grammar.specs.declared.chain.Parts.{Parts}
use Rattle.resin_program_grammar.specs.declared.members.Members.{Members}

pub data Name : Type 0 where
  -- a name of the grammar of expressions
  Expression : e.Name → Name
  -- Statements, behind `{` or `:`. `true`: `break` and `continue` may stand.
  Statements : Bool → Name
  -- A statement that is a body, behind `)` or `do`, entered at its first token; or nothing, where no statement begins.
  Body : Around → Name
  -- `(e) s` behind `elseif`, with the rest of the `if`; the links so far
  Link : Around → Chain → Name
  -- what stands behind `else`, entered at its first token, with the rest of the `if`
  Otherwise : Around → Chain → Name
  -- the `:` body of a link with this condition, behind a `:` on this line, with the links before it
  Part : Bool → Chain → Expr → ℕ → Name
  -- `(e): s..` behind `elseif`, with the rest of an `if` in the form with `:`
  PartLink : Bool → Chain → Name
  -- `e, ..; e, ..; e, ..` behind `for (`
  ForHead : Name
  -- `e as $v` or `e as $k => $v`, behind `foreach (`
  ForeachHead : Name
  -- the cases of a `switch`
  Cases : Name
  -- the classes and the variable behind `catch (`
  CatchHead : Name
  -- `t, ..` behind `unset (`
  Targets : Name
  -- nothing, behind `exit (`
  NoArgument : Name
  -- the parameters of a function
  FunctionParameters : Name
  -- the members of a class
  ClassMembers : Name
  -- the items of a constant array, up to this bracket
  ConstantItems : Sign → Name
  -- the integer behind `-` in a constant expression
  Digits : Name

-- what each gives
abbrev pub Value : Name → Type 0
Value (Expression n) = e.Value n
Value (Statements in_loop) = List Stmt
Value (Body around) = Option (Stmt × Left)
Value (Link around c) = Stmt × Left
Value (Otherwise around c) = Stmt × Left
Value (Part in_loop c e line) = Parts
Value (PartLink in_loop c) = Stmt
Value ForHead = List Expr × List Expr × List Expr
Value ForeachHead = Expr × Option (List ℕ) × List ℕ
Value Cases = List Case
Value CatchHead = List (List ℕ) × Option (List ℕ)
Value Targets = List Target
Value NoArgument = Unit {0}
Value FunctionParameters = List Parameter
Value ClassMembers = Members
Value (ConstantItems close) = List ConstantItem
Value Digits = ℤ
