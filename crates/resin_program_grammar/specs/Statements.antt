-- The forms of statements. Each begins with one token, the expression statement with that of its expression. `a` says
-- what stands around the statement, and `at` is its line. With the tree a statement gives what it has left: `else` or
-- `elseif (e)` before a `:`, read behind its end, which belong to an `if` in the form with `:` around it.
--
-- What nests: each bracket, each `{ }`, each `:` body, each link of an `if` from its `elseif` (or the `if` of `else if`)
-- to the end of the `if`, and each body without braces, from its first token.
use Rattle.std.specs.Prelude.{ℕ, Bool, true, false, ◌&&◌, ◌||◌, List, [], ◌∷◌, ◌++◌, map, Option, Some, None, is_some}
use Rattle.resin_form.specs.Form.{Own, Named, give, next, maybe, many, plain, followed, taken, opens, enters, call}
use Rattle.resin_lex.specs.declared.token.Token.{Token}
use Rattle.resin_lex.specs.declared.token.TokenKind.{TokenKind}
use Rattle.resin_tree.specs.declared.expression.Expr.{Expr}
use Rattle.resin_tree.specs.declared.expression.Target.{Target}
use Rattle.resin_tree.specs.declared.statement.Case.{Case}
use Rattle.resin_tree.specs.declared.statement.Catch.{Catch}
use Rattle.resin_tree.specs.declared.statement.Loop.{Loop}
use Rattle.resin_tree.specs.declared.statement.Loop.TheVariants as loop
use Rattle.resin_tree.specs.declared.statement.Simple.{Simple}
use Rattle.resin_tree.specs.declared.statement.Simple.TheVariants as simple
use Rattle.resin_tree.specs.declared.statement.Stmt.{Stmt}
use Rattle.resin_tree.specs.declared.statement.StmtKind.TheVariants as kind
use Rattle.resin_grammar.specs.declared.sign.Sign.TheVariants as s
use Rattle.resin_grammar.specs.Signs.{is_sign}
use Rattle.resin_grammar.specs.Names as name
use Rattle.resin_grammar.specs.Expressions.{is_variable, name_of}
use Rattle.resin_grammar.specs.Places.{target_of}
use Rattle.resin_program_grammar.specs.declared.chain.Around.{Around}
use Rattle.resin_program_grammar.specs.declared.chain.Chain.{Chain}
use Rattle.resin_program_grammar.specs.declared.chain.Left.{Left}
use Rattle.resin_program_grammar.specs.declared.chain.Left.TheVariants.{Nothing, Else, ElseIf}
use Rattle.resin_program_grammar.specs.declared.chain.Parts.{Parts}
use Rattle.resin_program_grammar.specs.declared.chain.Parts.TheVariants.{Open, AtElse, Whole}
use Rattle.resin_program_grammar.specs.declared.lead.Compound.{Compound}
use Rattle.resin_program_grammar.specs.declared.lead.Compound.TheVariants as compound
use Rattle.resin_program_grammar.specs.declared.lead.Plain.{Plain}
use Rattle.resin_program_grammar.specs.declared.lead.Plain.TheVariants as p
use Rattle.resin_program_grammar.specs.declared.word.Word.{Word}
use Rattle.resin_program_grammar.specs.declared.word.Word.TheVariants as w
use Rattle.resin_program_grammar.specs.Words.{is_word}
use Rattle.resin_program_grammar.specs.Leads.{plain_of, compound_of, inline_of}
use Rattle.resin_program_grammar.specs.Plain.{begins_statement, expression_statement, plain_statement, case_test}
use Rattle.resin_program_grammar.specs.Trees as tree
use Rattle.resin_program_grammar.specs.Names.{Expression, Statements, Body, Link, Otherwise, Part, PartLink}
use Rattle.resin_program_grammar.specs.Names.{ForHead, ForeachHead, Cases, CatchHead, Targets, NoArgument}
use Rattle.resin_program_grammar.specs.Combine.{Rule, Behind, ◌>>=◌, ◌>>◌, either, one_of, or_else, expects, wants, a_name}
use Rattle.resin_program_grammar.specs.Combine.{a_variable, no_token, opened, in_round, in_braces, condition, expression}

-- ---- statements with others in them, behind their first token

-- a statement that has left nothing
abbrev pub alone : Stmt → Stmt × Left
alone st = (st, Nothing)

-- in braces or a `:` body of a loop: no `else` goes out of it
abbrev pub inside : Bool → Around
inside in_loop = record { in_loop = in_loop; in_part = false }

-- a body of a loop
abbrev pub looping : Around → Around
looping a = record { in_loop = true; in_part = a.in_part }

-- `{ s.. }`
unfoldable pub braces : Bool → Rule (List Stmt)
braces in_loop = in_braces (Statements in_loop) >>= λ ss. expects s.RightBrace >> give ss

-- `)` and a body, or nothing where no statement begins
unfoldable pub body_follows : Around → Rule (Option (Stmt × Left))
body_follows a = next (λ t. is_sign s.RightRound t.kind) (λ _. call (Body a))

abbrev pub do_end : ℕ → Option (Stmt × Left) → Rule (Stmt × Left)
do_end at (Some body) =
    wants w.While >> condition >>= λ e. expects s.RightRound >> wants w.Semicolon >> give (alone (tree.loop at (loop.DoWhile body.0 e)))
do_end at None = no_token (alone (tree.block at []))

unfoldable pub do_form : ℕ → Behind Named (Stmt × Left)
do_form at = followed (call (Body (inside true))) (do_end at)

-- ---- `if`

-- Behind the body of a link: more links, or `else`; or nothing, where the body has left something.
-- `else if` is a link.
abbrev pub else_word : Around → Chain → TokenKind → Behind Named (Stmt × Left)
else_word a c kind = one_of (is_word w.ElseIf kind) (opens 0 (call (Link a c))) (call (Otherwise a c))

unfoldable pub chain_end : Around → Chain → Rule (Stmt × Left)
chain_end a c = maybe (λ t. is_word w.ElseIf t.kind || is_word w.Else t.kind) (λ t. else_word a c t.kind) (alone (tree.whole c None))

abbrev pub chain_on : Around → Chain → Left → Rule (Stmt × Left)
chain_on a c Nothing = chain_end a c
chain_on a c Else = give (tree.whole c None, Else)
chain_on a c (ElseIf e) = give (tree.whole c None, ElseIf e)

-- A link behind its condition e. Where no body stands, `:` comes next: the link belongs to an `if` in the form with
-- `:` around this one. `may`: whether it can, as it begins with `elseif`.
abbrev pub linked : Around → Chain → Bool → Expr → Option (Stmt × Left) → Rule (Stmt × Left)
linked a c may e (Some body) = chain_on a (tree.longer c e body.0) body.1
linked a c may e None = either (may && a.in_part) (give (tree.whole c None, ElseIf e)) (no_token (alone (tree.whole c None)))

-- `(e) s` and the rest of the `if`
unfoldable pub link : Around → Chain → Bool → Rule (Stmt × Left)
link a c may = condition >>= λ e. body_follows a >>= linked a c may e

-- ---- `switch` and `try`

unfoldable pub switch : ℕ → Rule Stmt
switch at = condition >>= λ e. expects s.RightRound >> in_braces Cases >>= λ cs. expects s.RightBrace >> give (tree.statement at (kind.Switch e cs))

-- `catch (..) { s.. }`, behind `catch`
unfoldable pub catch_part : Bool → List Catch → Rule (List Catch)
catch_part in_loop cs = in_round CatchHead >>= λ h. expects s.RightRound >> braces in_loop >>= λ ss. give (cs ++ tree.catch h.0 h.1 ss ∷ [])

unfoldable pub more_catches : Bool → List Catch → Rule (List Catch)
more_catches in_loop cs = many (λ _ t. is_word w.Catch t.kind) (λ cs _. taken (catch_part in_loop cs)) cs

unfoldable pub catches : Bool → Rule (List Catch)
catches in_loop = more_catches in_loop []

unfoldable pub finally_part : Bool → Rule (Option (List Stmt))
finally_part in_loop = braces in_loop >>= λ ss. give (Some ss)

-- `finally` may be missing where a `catch` stands
abbrev pub finally : Bool → List Catch → Rule (Option (List Stmt))
finally in_loop [] = wants w.Finally >> finally_part in_loop
finally in_loop (c ∷ cs) = maybe (λ t. is_word w.Finally t.kind) (λ _. taken (finally_part in_loop)) None

unfoldable pub try_form : Bool → ℕ → Rule Stmt
try_form in_loop at = braces in_loop >>= λ ss. catches in_loop >>= λ cs. finally in_loop cs >>= λ last. give (tree.statement at (kind.Try ss cs last))

module _ (line : Token → ℕ) where
  -- the block of a `:` body, with the line of its `:`
  unfoldable pub colon_block : Bool → Rule Stmt
  colon_block in_loop = next (λ t. is_sign s.Colon t.kind) (λ t. opened (Statements in_loop) (λ ss. give (tree.block (line t) ss)))

  -- ---- loops

  -- A loop's body: one statement, or `:` and statements up to this word and `;`.
  abbrev pub loop_body : Word → Option (Stmt × Left) → Rule (Stmt × Left)
  loop_body ends (Some body) = give body
  loop_body ends None = colon_block true >>= λ body. wants ends >> wants w.Semicolon >> give (alone body)

  unfoldable pub while_form : Around → ℕ → Rule (Stmt × Left)
  while_form a at = condition >>= λ e. body_follows (looping a) >>= loop_body w.EndWhile >>= λ body. give (tree.loop at (loop.While e body.0), body.1)

  unfoldable pub for_form : Around → ℕ → Rule (Stmt × Left)
  for_form a at =
      in_round ForHead >>= λ h. body_follows (looping a) >>= loop_body w.EndFor >>= λ body. give (tree.loop at (loop.For h.0 h.1 h.2 body.0), body.1)

  unfoldable pub foreach_form : Around → ℕ → Rule (Stmt × Left)
  foreach_form a at =
      in_round ForeachHead >>= λ h. body_follows (looping a) >>= loop_body w.EndForeach >>= λ body.
      give (tree.loop at (loop.Foreach h.0 h.1 h.2 body.0), body.1)

  -- ---- `if` in the form with `:`

  -- `: s.. endif;` behind `else`
  unfoldable pub last_part : Bool → Chain → Rule Stmt
  last_part in_loop c = colon_block in_loop >>= λ body. wants w.EndIf >> wants w.Semicolon >> give (tree.whole c (Some body))

  -- behind `endif`
  unfoldable pub parts_ended : Chain → Rule Stmt
  parts_ended c = wants w.Semicolon >> give (tree.whole c None)

  abbrev pub part_word : Bool → Chain → TokenKind → Behind Named Stmt
  part_word in_loop c kind =
      one_of (is_word w.ElseIf kind) (opens 0 (call (PartLink in_loop c)))
      (one_of (is_word w.Else kind) (plain (last_part in_loop c)) (plain (parts_ended c)))

  -- behind the body of a link: `elseif`, `else` or `endif`
  unfoldable pub open_parts : Bool → Chain → Rule Stmt
  open_parts in_loop c = next (λ t. is_word w.ElseIf t.kind || (is_word w.Else t.kind || is_word w.EndIf t.kind)) (λ t. part_word in_loop c t.kind)

  abbrev pub parts_on : Bool → Parts → Rule Stmt
  parts_on in_loop (Open c) = open_parts in_loop c
  parts_on in_loop (AtElse c) = last_part in_loop c
  parts_on in_loop (Whole st) = give st

  -- the `:` body of a link with this condition
  unfoldable pub one_part : Bool → Chain → Expr → Rule Parts
  one_part in_loop c e = next (λ t. is_sign s.Colon t.kind) (λ t. opens 0 (call (Part in_loop c e (line t))))

  -- the same, and the rest of the `if`
  unfoldable pub part_from : Bool → Chain → Expr → Rule Stmt
  part_from in_loop c e = one_part in_loop c e >>= parts_on in_loop

  -- Behind the statements of a `:` body. Where the last one has left `elseif (e)`, the link takes the place of the body
  -- that ends there: the rest of the `if` is read here, where as many constructs are open as in a link of it.
  abbrev pub part_end : Bool → Chain → Left → Rule Parts
  part_end in_loop c Nothing = give (Open c)
  part_end in_loop c Else = give (AtElse c)
  part_end in_loop c (ElseIf e) = part_from in_loop c e >>= λ st. give (Whole st)

  -- `(e): s..` and the rest of the `if`
  unfoldable pub part_link : Bool → Chain → Rule Stmt
  part_link in_loop c = condition >>= λ e. expects s.RightRound >> part_from in_loop c e

  -- an `if` behind its condition: a body, or `:`
  abbrev pub if_body : Around → ℕ → Expr → Option (Stmt × Left) → Rule (Stmt × Left)
  if_body a at e (Some body) = chain_on a (tree.longer (tree.chain at) e body.0) body.1
  if_body a at e None = part_from a.in_loop (tree.chain at) e >>= λ st. give (alone st)

  unfoldable pub if_form : Around → ℕ → Rule (Stmt × Left)
  if_form a at = condition >>= λ e. body_follows a >>= if_body a at e

  -- ---- any statement

  unfoldable pub left_nothing : Rule Stmt → Rule (Stmt × Left)
  left_nothing F = F >>= λ st. give (alone st)

  unfoldable pub block_form : Bool → ℕ → Behind Named (Stmt × Left)
  block_form in_loop at = opened (Statements in_loop) (λ ss. expects s.RightBrace >> give (alone (tree.block at ss)))

  abbrev pub compound_statement : Around → ℕ → Compound → Behind Named (Stmt × Left)
  compound_statement a at compound.Block = block_form a.in_loop at
  compound_statement a at compound.Do = do_form at
  compound_statement a at compound.For = plain (for_form a at)
  compound_statement a at compound.Foreach = plain (foreach_form a at)
  compound_statement a at compound.If = plain (if_form a at)
  compound_statement a at compound.Switch = plain (left_nothing (switch at))
  compound_statement a at compound.Try = plain (left_nothing (try_form a.in_loop at))
  compound_statement a at compound.While = plain (while_form a at)

  abbrev pub compound_or : Option Compound → Around → Token → Behind Named (Stmt × Left)
  compound_or (Some c) a t = compound_statement a (line t) c
  compound_or None a t = followed (expression_statement (line t) t) (λ st. give (alone st))

  abbrev pub plain_or : Option Plain → Around → Token → Behind Named (Stmt × Left)
  plain_or (Some p) a t = plain (left_nothing (plain_statement (line t) p))
  plain_or None a t = compound_or (compound_of t.kind) a t

  abbrev pub inline_or : Option (List ℕ) → Around → Token → Behind Named (Stmt × Left)
  inline_or (Some x) a t = plain (give (alone (tree.simple (line t) (simple.Inline x))))
  inline_or None a t = plain_or (plain_of a.in_loop t.kind) a t

  -- a statement behind its first token
  unfoldable pub statement : Around → Token → Behind Named (Stmt × Left)
  statement a t = inline_or (inline_of t.kind) a t

  unfoldable pub one_statement : Around → Rule (Stmt × Left)
  one_statement a = next (begins_statement a.in_loop) (statement a)

  abbrev pub is_nothing : Left → Bool
  is_nothing Nothing = true
  is_nothing Else = false
  is_nothing (ElseIf e) = false

  unfoldable pub more_statements : Around → List Stmt × Left → Rule (List Stmt × Left)
  more_statements a done =
      many (λ done t. is_nothing done.1 && begins_statement a.in_loop t)
      (λ done t. followed (statement a t) (λ st. give (done.0 ++ st.0 ∷ [], st.1))) done

  -- one behind the other, until one has left something
  unfoldable pub statements : Around → Rule (List Stmt × Left)
  statements a = more_statements a ([], Nothing)

  unfoldable pub inner_statements : Bool → Rule (List Stmt)
  inner_statements in_loop = statements (inside in_loop) >>= λ done. give done.0

  -- ---- what the names stand for

  -- A body, behind its first token. One in braces is no construct beside its braces.
  unfoldable pub body_statement : Around → Token → Behind Named (Stmt × Left)
  body_statement a t = one_of (is_word w.LeftBrace t.kind)
      (plain (inner_statements a.in_loop >>= λ ss. expects s.RightBrace >> give (alone (tree.block (line t) ss))))
      (statement a t)

  unfoldable pub one_body : Around → Rule (Stmt × Left)
  one_body a = next (begins_statement a.in_loop) (body_statement a)

  unfoldable pub body : Around → Rule (Option (Stmt × Left))
  body a = maybe (begins_statement a.in_loop) (λ t. enters (followed (body_statement a t) (λ st. give (Some st)))) None

  -- behind `else`: a link, a body, or nothing where `:` comes next
  unfoldable pub else_body : Around → Chain → Token → Behind Named (Stmt × Left)
  else_body a c t =
      one_of (is_word w.If t.kind) (plain (link a c false)) (followed (body_statement a t) (λ st. give (tree.whole c (Some st.0), st.1)))

  unfoldable pub one_else_body : Around → Chain → Rule (Stmt × Left)
  one_else_body a c = next (begins_statement a.in_loop) (else_body a c)

  abbrev pub else_end : Around → Chain → Rule (Stmt × Left)
  else_end a c = either a.in_part (give (tree.whole c None, Else)) (no_token (alone (tree.whole c None)))

  unfoldable pub otherwise : Around → Chain → Rule (Stmt × Left)
  otherwise a c = maybe (begins_statement a.in_loop) (λ t. enters (followed (else_body a c t) (λ st. give (Some st)))) None >>= or_else (else_end a c)

  unfoldable pub part : Bool → Chain → Expr → ℕ → Rule Parts
  part in_loop c e at =
      statements (record { in_loop = in_loop; in_part = true }) >>= λ done. part_end in_loop (tree.longer c e (tree.block at done.0)) done.1

  unfoldable pub case_after : List Case → TokenKind → Rule (List Case)
  case_after cs kind = case_test kind >>= λ e. expects s.Colon >> inner_statements true >>= λ ss. give (cs ++ tree.case e ss ∷ [])

  unfoldable pub more_cases : List Case → Rule (List Case)
  more_cases cs = many (λ _ t. is_word w.Case t.kind || is_word w.Default t.kind) (λ cs t. taken (case_after cs t.kind)) cs

  unfoldable pub cases : Rule (List Case)
  cases = more_cases []
