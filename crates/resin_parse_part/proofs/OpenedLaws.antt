-- What a name stands for, one construct deeper.
use Rattle.std.proofs.Common.{◌≡◌, ℕ, suc, ◌+◌, List, Result, subst, arith}
use Rattle.resin_form.specs.Meaning.{reading}
use Rattle.resin_form.specs.Reads.{Reads}
use Rattle.resin_form.specs.declared.fault.Fault.{Fault}
use Rattle.resin_lex.specs.declared.token.Token.{Token}
use Rattle.resin_grammar.specs.Names.{Name, Value}
use Rattle.resin_grammar.specs.Expressions.{rules}
use Rattle.resin_grammar.specs.Reading.{behind, is_low}

begun : (depth : ℕ) (n : Name) (ts new : List Token) (r : Result (Value n) Fault) → Reads (behind depth (rules n) ts) r new → Reads (reading rules is_low (suc (suc depth)) n ts) r new
unfolding reading
begun depth n ts new r h = h

pub opened : (depth inner : ℕ) (n : Name) (ts new : List Token) (r : Result (Value n) Fault) → inner + 1 ≡ depth → Reads (behind inner (rules n) ts) r new → Reads (reading rules is_low (suc depth) n ts) r new
opened depth inner n ts new r e h = let same : suc inner ≡ depth = omega arith in subst (λ d. Reads (reading rules is_low (suc d) n ts) r new) same (begun inner n ts new r h)
