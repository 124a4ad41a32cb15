-- A reader to a depth reads to each smaller one.
use Rattle.std.proofs.Common.{ℕ, ◌≤◌, List, Result, arith}
use denote.Ref.{MutBor}
use Rattle.resin_form.specs.declared.fault.Fault.{Fault}
use Rattle.resin_lex.specs.declared.token.Token.{Token}
use Rattle.resin_tree.specs.declared.statement.Stmt.{Stmt}
use Rattle.resin_program_grammar.specs.declared.chain.Left.{Left}
use Rattle.resin_parse_plain.specs.declared.reader.Reader.{Reader}
use Rattle.resin_parse_statement.specs.declared.parser.Nested.{Nested}
use Rattle.resin_parse_statement.specs.Nested.{Nests}

module _ (pre : Reader → MutBor (List Token) → Nested → Type 0) (post : Reader → MutBor (List Token) → Nested → Result (Stmt × Left) Fault → MutBor (List Token) → Type 0) where
  pub fewer : (m n : ℕ) → m ≤ n → Nests n pre post → Nests m pre post
  fewer m n h nests = record {
    callable = λ r old what lt. nests.callable r old what (omega arith);
    reads = λ r old new what found lt p. nests.reads r old new what found (omega arith) p;
  }
