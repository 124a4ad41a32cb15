-- The loops over statements, and over what stands at the top level of a file: one turn, and the exits.
use Rattle.std.proofs.Common.{◌≡◌, ℕ, suc, ◌≤◌, Bool, true, false, List, [], ◌∷◌, ◌++◌, length, drop, Option, Some, Err, sym, ◌∙◌, ap, subst}
use Rattle.std.specs.Prelude.{◌&&◌}
use Rattle.resin_form.specs.Form.{Named, give, followed}
use Rattle.resin_form.specs.Reading.{Outcome, Got}
use Rattle.resin_form.specs.Reads.{Reads, first}
use Rattle.resin_form.specs.declared.fault.Fault.{Fault}
use Rattle.resin_form.proofs.Turns.{smaller, goes_on, fails, ends}
use Rattle.resin_lex.specs.declared.token.Token.{Token}
use Rattle.resin_tree.specs.declared.declaration.Item.{Item}
use Rattle.resin_tree.specs.declared.statement.Stmt.{Stmt}
use Rattle.resin_grammar.specs.Reading.{is_low}
use Rattle.resin_program_grammar.specs.declared.chain.Around.{Around}
use Rattle.resin_program_grammar.specs.declared.chain.Left.{Left}
use Rattle.resin_program_grammar.specs.Combine.{Behind}
use Rattle.resin_program_grammar.specs.Declarations.{rules, begins_item, top_item, one_item, more_items}
use Rattle.resin_program_grammar.specs.Plain.{begins_statement}
use Rattle.resin_program_grammar.specs.Reading.{under, behind}
use Rattle.resin_program_grammar.specs.Statements.{statement, one_statement, is_nothing, more_statements}
use Rattle.resin_parse_statement.specs.Nested.{one_more, one_more_item}
use Rattle.resin_parse_statement.proofs.Steps.{first_tail, step}

right_true : (x y : Bool) → (x && y) ≡ true → y ≡ true
right_true true y h = h
right_true false y h = cc

module _ (line : Token → ℕ) (d : ℕ) (a : Around) where
  abbrev goes : List Stmt × Left → Token → Bool
  goes read t = is_nothing line read.1 && begins_statement a.in_loop t

  abbrev turn : List Stmt × Left → Token → Behind Named (List Stmt × Left)
  turn read t = followed (statement line a t) (λ st. give (read.0 ++ st.0 ∷ [], st.1))

  -- `done`: the statements so far, without what the last has left
  module _ (read : List Stmt × Left) (done : List Stmt) (t : Token) (old : List Token) (same : done ≡ read.0) (is_first : first old ≡ Some t) (goes_here : goes read t ≡ true) where
    turned : under line d (one_more line a done) old ≡ behind line d (turn read t) (drop 1 old)
    unfolding one_statement one_more
    turned = ap (λ ss. under line d (one_more line a ss) old) same
        ∙ step (rules line) is_low (suc d) (begins_statement a.in_loop) (statement line a) (λ st. give (read.0 ++ st.0 ∷ [], st.1)) t old is_first (right_true (is_nothing line read.1) (begins_statement a.in_loop t) goes_here)

    pub statements_shorten : (mid : List Token) (next : List Stmt × Left) → under line d (one_more line a done) old ≡ Got next mid → suc (length mid) ≤ length old
    statements_shorten mid next g = smaller (rules line) is_low (suc d) (turn read t) old t (drop 1 old) next mid (first_tail old t is_first) (sym turned ∙ g)

    -- `outcome`: what the whole loop comes to
    module _ (outcome : Outcome Token (List Stmt × Left)) (so_far : under line d (more_statements line a read) old ≡ outcome) where
      pub statements_go_on : (mid : List Token) (next : List Stmt × Left) → under line d (one_more line a done) old ≡ Got next mid → under line d (more_statements line a next) mid ≡ outcome
      unfolding more_statements
      statements_go_on mid next g = goes_on (rules line) is_low (suc d) goes turn outcome read old so_far t (drop 1 old) mid next (first_tail old t is_first) goes_here (sym turned ∙ g)

      pub statements_fail : (new : List Token) (fault : Fault) → Reads {A = List Stmt × Left} (under line d (one_more line a done) old) (Err fault) new → Reads outcome (Err fault) new
      unfolding more_statements
      statements_fail new fault g = fails (rules line) is_low (suc d) goes turn outcome read old so_far t (drop 1 old) new fault (first_tail old t is_first) goes_here (subst (λ o. Reads {A = List Stmt × Left} o (Err fault) new) turned g)

  -- `next`: the next token, or none
  pub statements_end : (outcome : Outcome Token (List Stmt × Left)) (read : List Stmt × Left) (old : List Token) → under line d (more_statements line a read) old ≡ outcome → (next : Option Token) → first old ≡ next → ((t : Token) → next ≡ Some t → goes read t ≡ false) → outcome ≡ Got read old
  unfolding more_statements
  statements_end outcome read old so_far next e h = ends (rules line) is_low (suc d) goes turn outcome read old so_far next e h

module _ (line : Token → ℕ) (d : ℕ) where
  abbrev item_turn : List Item → Token → Behind Named (List Item)
  item_turn items t = followed (top_item line t) (λ i. give (items ++ i ∷ []))

  module _ (items : List Item) (t : Token) (old : List Token) (is_first : first old ≡ Some t) (starts : begins_item t ≡ true) where
    item_turned : under line d (one_more_item line items) old ≡ behind line d (item_turn items t) (drop 1 old)
    unfolding one_item one_more_item
    item_turned = step (rules line) is_low (suc d) begins_item (top_item line) (λ i. give (items ++ i ∷ [])) t old is_first starts

    pub items_shorten : (mid : List Token) (next : List Item) → under line d (one_more_item line items) old ≡ Got next mid → suc (length mid) ≤ length old
    items_shorten mid next g = smaller (rules line) is_low (suc d) (item_turn items t) old t (drop 1 old) next mid (first_tail old t is_first) (sym item_turned ∙ g)

    module _ (outcome : Outcome Token (List Item)) (so_far : under line d (more_items line items) old ≡ outcome) where
      pub items_go_on : (mid : List Token) (next : List Item) → under line d (one_more_item line items) old ≡ Got next mid → under line d (more_items line next) mid ≡ outcome
      unfolding more_items
      items_go_on mid next g = goes_on (rules line) is_low (suc d) (λ _ t. begins_item t) item_turn outcome items old so_far t (drop 1 old) mid next (first_tail old t is_first) starts (sym item_turned ∙ g)

      pub items_fail : (new : List Token) (fault : Fault) → Reads {A = List Item} (under line d (one_more_item line items) old) (Err fault) new → Reads outcome (Err fault) new
      unfolding more_items
      items_fail new fault g = fails (rules line) is_low (suc d) (λ _ t. begins_item t) item_turn outcome items old so_far t (drop 1 old) new fault (first_tail old t is_first) starts (subst (λ o. Reads {A = List Item} o (Err fault) new) item_turned g)

  pub items_end : (outcome : Outcome Token (List Item)) (items : List Item) (old : List Token) → under line d (more_items line items) old ≡ outcome → (next : Option Token) → first old ≡ next → ((t : Token) → next ≡ Some t → begins_item t ≡ false) → outcome ≡ Got items old
  unfolding more_items
  items_end outcome items old so_far next e h = ends (rules line) is_low (suc d) (λ _ t. begins_item t) item_turn outcome items old so_far next e h
