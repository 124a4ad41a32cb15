-- A function value that reads expressions of a level, where fewer constructs than a bound may still open.
use Rattle.std.specs.Prelude.{ℕ, ◌<◌, List, Result}
use Rattle.std.specs.declared.alloc.Global.{Global}
use denote.Ref.{MutBor}
use Rattle.resin_form.specs.Reads.{Reads}
use Rattle.resin_form.specs.declared.fault.Fault.{Fault}
use Rattle.resin_lex.specs.declared.token.Token.{Token}
use Rattle.resin_tree.specs.declared.expression.Expr.{Expr}
use Rattle.resin_grammar.specs.Expressions.{level}
use Rattle.resin_grammar.specs.Reading.{under}

pub record Nests (bound : ℕ) (pre : Global → MutBor (List Token) → ℕ → ℕ → Type 0)
    (post : Global → MutBor (List Token) → ℕ → ℕ → Result Expr Fault → MutBor (List Token) → Type 0) : Type 0 where
  pub callable : (alloc : Global) (old : MutBor (List Token)) (depth n : ℕ) → depth < bound → pre alloc old depth n
  pub reads : (alloc : Global) (old new : MutBor (List Token)) (depth n : ℕ) (r : Result Expr Fault) → depth < bound → post alloc old depth n r new
      → Reads (under depth (level n) old.now) r new.now
