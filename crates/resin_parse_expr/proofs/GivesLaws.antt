-- From the outcome of reading to what it says of the grammar.
use Rattle.std.proofs.Common.{ℕ, suc, List, Result, Ok, Err}
use Rattle.resin_form.specs.Reads.{Reads}
use Rattle.resin_form.proofs.Fronts.{is_read, is_refused, is_too_deep}
use Rattle.resin_form.specs.declared.fault.Fault.{Fault}
use Rattle.resin_form.specs.declared.fault.Fault.TheVariants.{Syntax, TooDeep, Memory}
use Rattle.resin_lex.specs.declared.token.Token.{Token}
use Rattle.resin_tree.specs.declared.expression.Expr.{Expr}
use Rattle.resin_grammar.specs.Expressions.{rules, expression}
use Rattle.resin_grammar.specs.Reading.{Gives, under, is_low}

pub gives : (depth : ℕ) (ts rest : List Token) (r : Result Expr Fault) → Reads (under depth expression ts) r rest → Gives depth ts r rest
gives depth ts rest (Ok e) h = is_read rules expression is_low (suc depth) ts rest e h
gives depth ts rest (Err Syntax) h = is_refused rules expression is_low (suc depth) ts rest h
gives depth ts rest (Err TooDeep) h = is_too_deep rules expression is_low (suc depth) ts rest h
gives depth ts rest (Err Memory) h = tt
