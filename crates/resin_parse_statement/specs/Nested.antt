-- What a parser of statements reads through its function value: what nests in statements.
use Rattle.std.specs.Prelude.{ℕ, ◌<◌, Bool, false, List, [], ◌∷◌, ◌++◌, Result, Some, None, is_some, unwrap_or}
use denote.Ref.{MutBor}
use Rattle.resin_form.specs.Form.{Begin, give, next, taken}
use Rattle.resin_form.specs.Reading.{Reader as Reading}
use Rattle.resin_form.specs.Reads.{Reads}
use Rattle.resin_form.specs.declared.fault.Fault.{Fault}
use Rattle.resin_lex.specs.declared.token.Token.{Token}
use Rattle.resin_tree.specs.declared.declaration.Item.{Item}
use Rattle.resin_tree.specs.declared.expression.Expr.{Expr}
use Rattle.resin_tree.specs.declared.declaration.Item.TheVariants as item
use Rattle.resin_tree.specs.declared.statement.Simple.TheVariants.{Inline}
use Rattle.resin_tree.specs.declared.statement.Stmt.{Stmt}
use Rattle.resin_program_grammar.specs.Declarations.{one_item, function, class, final_class}
use Rattle.resin_program_grammar.specs.Leads.{inline_of}
use Rattle.resin_program_grammar.specs.declared.chain.Left.{Left}
use Rattle.resin_program_grammar.specs.declared.chain.Left.TheVariants.{ElseIf}
use Rattle.resin_program_grammar.specs.Combine.{Rule, Behind, ◌>>=◌, either, no_token}
use Rattle.resin_program_grammar.specs.Reading.{under, behind}
use Rattle.resin_program_grammar.specs.Statements.{one_statement, one_body, link, part_from, alone, inside}
use Rattle.resin_program_grammar.specs.Trees.{whole, simple}
use Rattle.resin_program_grammar.specs.declared.chain.Around.{Around}
use Rattle.resin_program_grammar.specs.declared.chain.Chain.{Chain}
use Rattle.resin_parse_plain.specs.Lines.{line_in}
use Rattle.resin_parse_plain.specs.declared.reader.Reader.{Reader}
use Rattle.resin_parse_statement.specs.declared.parser.Nested.{Nested}
use Rattle.resin_parse_statement.specs.declared.parser.Nested.TheVariants.{Statement, Link, Part}

-- the line of a token, as a reader finds it
abbrev pub line_by : Reader → Token → ℕ
line_by r = line_in r.lines.now

-- what a reader reads by a form, and behind a token
abbrev pub by : {A : Type 0} → Reader → Rule A → Reading Token A
by r F = under (line_by r) r.depth F

abbrev pub by_after : {b : Begin} {A : Type 0} → Reader → Behind b A → Reading Token A
by_after r F = behind (line_by r) r.depth F

abbrev pub form_of : (Token → ℕ) → Nested → Rule (Stmt × Left)
form_of line (Statement a) = one_statement line a
form_of line (Link a c may) = link a c may
form_of line (Part in_loop c e) = part_from line in_loop c e >>= λ st. give (alone st)

-- a function value that reads these, where fewer constructs than a bound may still open
pub record Nests (bound : ℕ) (pre : Reader → MutBor (List Token) → Nested → Type 0)
    (post : Reader → MutBor (List Token) → Nested → Result (Stmt × Left) Fault → MutBor (List Token) → Type 0) : Type 0 where
  pub callable : (r : Reader) (old : MutBor (List Token)) (n : Nested) → r.depth < bound → pre r old n
  pub reads : (r : Reader) (old new : MutBor (List Token)) (n : Nested) (found : Result (Stmt × Left) Fault) → r.depth < bound
      → post r old n found new → Reads (by r (form_of (line_by r) n) old.now) found new.now

-- a body behind `else`, which ends the `if`
unfoldable pub other_body : (Token → ℕ) → Around → Chain → Rule (Stmt × Left)
other_body line a c = one_body line a >>= λ st. give (whole c (Some st.0), st.1)

-- what ends an `if` behind the condition of a link without a body: `may` says whether the link can belong to an `if` around
abbrev pub link_end : Chain → Bool → Expr → Rule (Stmt × Left)
link_end c may e = either may (give (whole c None, ElseIf e)) (no_token (alone (whole c None)))

-- a statement behind others
unfoldable pub one_more : (Token → ℕ) → Around → List Stmt → Rule (List Stmt × Left)
one_more line a done = one_statement line a >>= λ st. give (done ++ st.0 ∷ [], st.1)

-- a function, a class or a statement behind others
unfoldable pub one_more_item : (Token → ℕ) → List Item → Rule (List Item)
one_more_item line items = one_item line >>= λ i. give (items ++ i ∷ [])

-- text outside code
unfoldable pub inline_form : (Token → ℕ) → Rule Stmt
inline_form line = next (λ t. is_some (inline_of t.kind)) (λ t. taken (give (simple (line t) (Inline (unwrap_or (inline_of t.kind) [])))))

-- what stands at the top level of a file, behind `function`, `class` and `final`, and a statement
unfoldable pub function_item : ℕ → Rule Item
function_item at = function at >>= λ f. give (item.Function f)

unfoldable pub class_item : ℕ → Rule Item
class_item at = class at >>= λ c. give (item.Class c)

unfoldable pub final_item : ℕ → Rule Item
final_item at = final_class at >>= λ c. give (item.Class c)

unfoldable pub statement_item : (Token → ℕ) → Rule Item
statement_item line = one_statement line (inside false) >>= λ st. give (item.Statement st.0)
