-- A reader to a depth reads to each smaller one.
use Rattle.std.proofs.Common.{◌≡◌, ℕ, ◌+◌, ◌<◌, ◌≤◌, List, Result, subst, sym, arith}
use Rattle.std.specs.declared.alloc.Global.{Global}
use denote.Ref.{MutBor}
use Rattle.resin_form.specs.declared.fault.Fault.{Fault}
use Rattle.resin_lex.specs.declared.token.Token.{Token}
use Rattle.resin_tree.specs.declared.expression.Expr.{Expr}
use Rattle.resin_parse_part.specs.Nests.{Nests}

module _ (pre : Global → MutBor (List Token) → ℕ → ℕ → Type 0) (post : Global → MutBor (List Token) → ℕ → ℕ → Result Expr Fault → MutBor (List Token) → Type 0) where
  pub fewer : (m n : ℕ) → m ≤ n → Nests n pre post → Nests m pre post
  fewer m n h nests = record {
    callable = λ alloc old depth level lt. nests.callable alloc old depth level (omega arith);
    reads = λ alloc old new depth level r lt p. nests.reads alloc old new depth level r (omega arith) p;
  }
