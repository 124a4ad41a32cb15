-- Reading by the grammar of expressions, within the limits on nesting and height.
use Rattle.std.specs.Prelude.{ℕ, suc, nat_lt, Bool, List, Result, Ok, Err}
use Rattle.resin_form.specs.Form.{Begin, Form, After}
use Rattle.resin_form.specs.Reading.{Reader, read, read_after}
use Rattle.resin_form.specs.Meaning.{allows_at, reading, IsRead, IsRefused, IsTooDeep}
use Rattle.resin_form.specs.declared.fault.Fault.{Fault}
use Rattle.resin_form.specs.declared.fault.Fault.TheVariants.{Syntax, TooDeep, Memory}
use Rattle.resin_lex.specs.declared.token.Token.{Token}
use Rattle.resin_tree.specs.declared.expression.Expr.{Expr}
use Rattle.resin_grammar.specs.Names.{Name, Value}
use Rattle.resin_grammar.specs.Expressions.{rules, expression}

-- the heights of the trees that may stand to the left of an operator or a postfix
abbrev pub is_low : ℕ → Bool
is_low height = nat_lt height 1000

-- what the tokens begin with, by a form, where so many constructs may still open in one another
abbrev pub under : {A : Type 0} → ℕ → Form Token Name Value A → Reader Token A
under depth F = read (allows_at is_low (suc depth)) (reading rules is_low (suc depth)) F

-- the same behind a token
abbrev pub behind : {b : Begin} {A : Type 0} → ℕ → After Token Name Value b A → Reader Token A
behind depth F = read_after (allows_at is_low (suc depth)) (reading rules is_low (suc depth)) F

-- What the expression at the front of the tokens is, where so many constructs may still open in one another, and what is
-- left behind it: the tree of the longest run of tokens that is a front of an expression, where that run is one. Otherwise
-- the fault: what is left begins with the token that cannot go on, or it follows the one that opens a construct too many.
abbrev pub Gives : ℕ → List Token → Result Expr Fault → List Token → Type 0
Gives depth ts (Ok e) rest = IsRead rules expression is_low (suc depth) ts e rest
Gives depth ts (Err Syntax) rest = IsRefused rules expression is_low (suc depth) ts rest
Gives depth ts (Err TooDeep) rest = IsTooDeep rules expression is_low (suc depth) ts rest
Gives depth ts (Err Memory) rest = Unit {0}
