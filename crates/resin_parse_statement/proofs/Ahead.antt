-- What the forms of statements do where the next token is known.
use Rattle.std.proofs.Common.{◌≡◌, ◌≢◌, ℕ, zero, suc, Bool, true, false, List, [], ◌∷◌, drop, Option, Some, None, refl, sym, ◌∙◌, ap}
use Rattle.std.specs.Prelude.{◌||◌, is_some, unwrap_or}
use Rattle.resin_form.specs.Form.{Named, Enters, give, plain, followed}
use Rattle.resin_form.specs.Meaning.{allows_at}
use Rattle.resin_form.specs.Reading.{Outcome, Got, Stop, Deep, and_then}
use Rattle.resin_form.specs.Reads.{first}
use Rattle.resin_form.proofs.Cases.{if_true, if_false}
use Rattle.resin_lex.specs.declared.token.Token.{Token}
use Rattle.resin_tree.specs.declared.declaration.Item.{Item}
use Rattle.resin_tree.specs.declared.declaration.Item.TheVariants as item
use Rattle.resin_tree.specs.declared.statement.Simple.TheVariants.{Inline}
use Rattle.resin_tree.specs.declared.statement.Catch.{Catch}
use Rattle.resin_grammar.specs.Reading.{is_low}
use Rattle.resin_grammar.specs.declared.sign.Sign.TheVariants as s
use Rattle.resin_program_grammar.specs.declared.chain.Around.{Around}
use Rattle.resin_program_grammar.specs.declared.chain.Chain.{Chain}
use Rattle.resin_program_grammar.specs.declared.lead.Compound.{Compound}
use Rattle.resin_program_grammar.specs.declared.lead.Plain.{Plain}
use Rattle.resin_program_grammar.specs.declared.word.Word.TheVariants as w
use Rattle.resin_program_grammar.specs.Words.{is_word}
use Rattle.resin_program_grammar.specs.Leads.{inline_of, plain_of, compound_of}
use Rattle.resin_program_grammar.specs.Start.{begins}
use Rattle.resin_program_grammar.specs.Combine.{Rule, Behind, ◌>>=◌, ◌>>◌, one_of, or_else, expects, wants, expression}
use Rattle.resin_program_grammar.specs.Plain.{begins_statement, plain_statement, expression_statement, whole_expression_statement}
use Rattle.resin_program_grammar.specs.Statements.{alone, finally, finally_part, left_nothing, statement, one_statement, inner_statements, body_statement, one_body, body, link, else_body, else_end, otherwise, inline_or, plain_or, compound_or, compound_statement, inside}
use Rattle.resin_program_grammar.specs.Declarations.{begins_item, top_item, one_item, function, class, final_class}
use Rattle.resin_program_grammar.specs.Trees.{block, simple, whole}
use Rattle.resin_program_grammar.specs.Reading.{under, behind}
use Rattle.resin_parse_statement.specs.Nested.{other_body, inline_form, function_item, class_item, final_item, statement_item}
use Rattle.resin_parse_statement.proofs.Steps.{first_tail}

last_of_four : (a b c x : Bool) → (a || (b || (c || x))) ≡ true → a ≡ false → b ≡ false → c ≡ false → x ≡ true
last_of_four false false false x h p q r = h
last_of_four true b c x h p q r = cc
last_of_four false true c x h p q r = cc
last_of_four false false true x h p q r = cc

-- a value behind what may be missing, where it stands
some_or : {A : Type 0} (line : Token → ℕ) (d : ℕ) (E : Rule A) (o : Outcome Token A) → and_then (and_then o (λ v rest. Got (Some v) rest)) (λ v rest. under line d (or_else E v) rest) ≡ o
some_or line d E (Got v rest) = refl
some_or line d E (Stop rest) = refl
some_or line d E (Deep rest) = refl

module _ (line : Token → ℕ) (d : ℕ) where
  -- a construct may be entered where one may be read
  entered : (n : ℕ) → allows_at is_low (suc n) Enters 0 ≡ true
  entered zero = refl
  entered (suc n) = refl

  inline_same : (a : Around) (t : Token) (o : Option (List ℕ)) (ts : List Token) → is_some o ≡ true → behind line d (inline_or line o a t) ts ≡ Got (alone (simple (line t) (Inline (unwrap_or o [])))) ts
  inline_same a t (Some x) ts h = refl
  inline_same a t None ts h = cc

  not_inline : (a : Around) (t : Token) (o : Option (List ℕ)) (ts : List Token) → is_some o ≡ false → behind line d (inline_or line o a t) ts ≡ behind line d (plain_or line (plain_of a.in_loop t.kind) a t) ts
  not_inline a t (Some x) ts h = cc
  not_inline a t None ts h = refl

  -- what ends a `try`
  pub last_here : (b : Bool) (cs : List Catch) (t : Token) (ts old : List Token) → old ≡ t ∷ ts → is_word w.Finally t.kind ≡ true → under line d (finally b cs) old ≡ under line d (finally_part b) ts
  unfolding wants
  last_here b [] t ts old e h = ap (under line d (finally b [])) e ∙ ap (λ o. and_then o (λ _ rest. under line d (finally_part b) rest)) (if_true (Got tt ts) _ h)
  last_here b (c ∷ cs) t ts old e h = ap (under line d (finally b (c ∷ cs))) e ∙ if_true (under line d (finally_part b) ts) _ h

  no_last_at : (b : Bool) (cs : List Catch) (old : List Token) → ((t : Token) → first old ≡ Some t → is_word w.Finally t.kind ≡ false) → cs ≢ [] → under line d (finally b cs) old ≡ Got None old
  no_last_at b [] old h n = absurd (n refl)
  no_last_at b (c ∷ cs) [] h n = refl
  no_last_at b (c ∷ cs) (t ∷ ts) h n = if_false _ _ (h t refl)

  missing_at : (b : Bool) (old : List Token) → ((t : Token) → first old ≡ Some t → is_word w.Finally t.kind ≡ false) → under line d (finally b []) old ≡ Stop old
  unfolding wants
  missing_at b [] h = refl
  missing_at b (t ∷ ts) h =
      let no_word : under line d (wants w.Finally) (t ∷ ts) ≡ Stop (t ∷ ts) = if_false _ _ (h t refl) in
      ap (λ (o : Outcome Token (Unit {0})). and_then o (λ _ rest. under line d (finally_part b) rest)) no_word

  -- `next`: the next token, or none, which is no `finally`
  pub no_last : (b : Bool) (cs : List Catch) (old : List Token) (next : Option Token) → first old ≡ next → ((t : Token) → next ≡ Some t → is_word w.Finally t.kind ≡ false) → cs ≢ [] → under line d (finally b cs) old ≡ Got None old
  no_last b cs old next e h n = no_last_at b cs old (λ t k. h t (sym e ∙ k)) n

  pub missing : (b : Bool) (cs : List Catch) (old : List Token) (next : Option Token) → first old ≡ next → ((t : Token) → next ≡ Some t → is_word w.Finally t.kind ≡ false) → cs ≡ [] → under line d (finally b cs) old ≡ Stop old
  missing b cs old next e h n = ap (λ xs. under line d (finally b xs) old) n ∙ missing_at b old (λ t k. h t (sym e ∙ k))

  -- the next token begins a statement
  module _ (a : Around) (t : Token) (old : List Token) (is_first : first old ≡ Some t) (starts : begins_statement a.in_loop t ≡ true) where
    at_statement : under line d (one_statement line a) old ≡ behind line d (statement line a t) (drop 1 old)
    unfolding one_statement
    at_statement = ap (under line d (one_statement line a)) (first_tail old t is_first) ∙ if_true (behind line d (statement line a t) (drop 1 old)) _ starts

    at_body : under line d (one_body line a) old ≡ behind line d (body_statement line a t) (drop 1 old)
    unfolding one_body
    at_body = ap (under line d (one_body line a)) (first_tail old t is_first) ∙ if_true (behind line d (body_statement line a t) (drop 1 old)) _ starts

    pub body_is_statement : is_word w.LeftBrace t.kind ≡ false → under line d (one_body line a) old ≡ under line d (one_statement line a) old
    unfolding body_statement
    body_is_statement h = at_body
        ∙ ap (λ b. behind line d (one_of b (plain (inner_statements line a.in_loop >>= λ ss. expects s.RightBrace >> give (alone (block (line t) ss)))) (statement line a t)) (drop 1 old)) h
        ∙ sym at_statement

    pub body_is_block : (ts : List Token) → old ≡ t ∷ ts → is_word w.LeftBrace t.kind ≡ true → under line d (one_body line a) old ≡ under line d (inner_statements line a.in_loop >>= λ ss. expects s.RightBrace >> give (alone (block (line t) ss))) ts
    unfolding body_statement
    body_is_block ts e h = at_body
        ∙ ap (λ b. behind line d (one_of b (plain (inner_statements line a.in_loop >>= λ ss. expects s.RightBrace >> give (alone (block (line t) ss)))) (statement line a t)) (drop 1 old)) h
        ∙ ap (λ xs. under line d (inner_statements line a.in_loop >>= λ ss. expects s.RightBrace >> give (alone (block (line t) ss))) (drop 1 xs)) e

    pub body_here : under line d (body line a) old ≡ and_then (under line d (one_body line a) old) (λ st rest. Got (Some st) rest)
    unfolding body
    body_here = ap (under line d (body line a)) (first_tail old t is_first)
        ∙ if_true _ _ starts
        ∙ if_true (and_then (behind line d (body_statement line a t) (drop 1 old)) (λ st rest. Got (Some st) rest)) _ (entered d)
        ∙ ap (λ o. and_then o (λ st rest. Got (Some st) rest)) (sym at_body)

    else_here : (c : Chain) → under line d (otherwise line a c) old ≡ behind line d (else_body line a c t) (drop 1 old)
    unfolding otherwise
    else_here c = ap (under line d (otherwise line a c)) (first_tail old t is_first)
        ∙ ap (λ o. and_then o (λ st rest. under line d (or_else (else_end line a c) st) rest))
        (if_true _ _ starts ∙ if_true (and_then (behind line d (else_body line a c t) (drop 1 old)) (λ st rest. Got (Some st) rest)) _ (entered d))
        ∙ some_or line d (else_end line a c) (behind line d (else_body line a c t) (drop 1 old))

    pub link_here : (c : Chain) (ts : List Token) → old ≡ t ∷ ts → is_word w.If t.kind ≡ true → under line d (otherwise line a c) old ≡ under line d (link a c false) ts
    unfolding else_body
    link_here c ts e h = else_here c
        ∙ ap (λ b. behind line d (one_of b (plain (link a c false)) (followed (body_statement line a t) (λ st. give (whole c (Some st.0), st.1)))) (drop 1 old)) h
        ∙ ap (λ xs. under line d (link a c false) (drop 1 xs)) e

    pub other_here : (c : Chain) → is_word w.If t.kind ≡ false → under line d (otherwise line a c) old ≡ under line d (other_body line a c) old
    unfolding else_body other_body
    other_here c h = else_here c
        ∙ ap (λ b. behind line d (one_of b (plain (link a c false)) (followed (body_statement line a t) (λ st. give (whole c (Some st.0), st.1)))) (drop 1 old)) h
        ∙ ap (λ o. and_then o (λ st rest. Got (whole c (Some st.0), st.1) rest)) (sym at_body)

    pub inline_here : is_some (inline_of t.kind) ≡ true → under line d (one_statement line a) old ≡ under line d (left_nothing line (inline_form line)) old
    unfolding statement left_nothing inline_form
    inline_here h = at_statement ∙ inline_same a t (inline_of t.kind) (drop 1 old) h
        ∙ sym (ap (under line d (left_nothing line (inline_form line))) (first_tail old t is_first)
        ∙ ap (λ o. and_then o (λ st rest. Got (alone st) rest)) (if_true (Got (simple (line t) (Inline (unwrap_or (inline_of t.kind) []))) (drop 1 old)) _ h))

    coded : is_some (inline_of t.kind) ≡ false → under line d (one_statement line a) old ≡ behind line d (plain_or line (plain_of a.in_loop t.kind) a t) (drop 1 old)
    unfolding statement
    coded h = at_statement ∙ not_inline a t (inline_of t.kind) (drop 1 old) h

    pub plain_here : (p : Plain) (ts : List Token) → old ≡ t ∷ ts → is_some (inline_of t.kind) ≡ false → plain_of a.in_loop t.kind ≡ Some p → under line d (one_statement line a) old ≡ under line d (left_nothing line (plain_statement (line t) p)) ts
    plain_here p ts e h k = coded h ∙ ap (λ o. behind line d (plain_or line o a t) (drop 1 old)) k ∙ ap (λ xs. under line d (left_nothing line (plain_statement (line t) p)) (drop 1 xs)) e

    larger : is_some (inline_of t.kind) ≡ false → plain_of a.in_loop t.kind ≡ None → under line d (one_statement line a) old ≡ behind line d (compound_or line (compound_of t.kind) a t) (drop 1 old)
    larger h k = coded h ∙ ap (λ o. behind line d (plain_or line o a t) (drop 1 old)) k

    pub compound_here : (c : Compound) (ts : List Token) → old ≡ t ∷ ts → is_some (inline_of t.kind) ≡ false → plain_of a.in_loop t.kind ≡ None → compound_of t.kind ≡ Some c → under line d (one_statement line a) old ≡ behind line d (compound_statement line a (line t) c) ts
    compound_here c ts e h k m = larger h k ∙ ap (λ o. behind line d (compound_or line o a t) (drop 1 old)) m ∙ ap (λ xs. behind line d (compound_statement line a (line t) c) (drop 1 xs)) e

    begins_one : is_some (inline_of t.kind) ≡ false → plain_of a.in_loop t.kind ≡ None → compound_of t.kind ≡ None → begins expression t ≡ true
    unfolding begins_statement
    begins_one h k m = last_of_four (is_some (inline_of t.kind)) (is_some (plain_of a.in_loop t.kind)) (is_some (compound_of t.kind)) (begins expression t) starts h (ap is_some k) (ap is_some m)

    pub expression_here : is_some (inline_of t.kind) ≡ false → plain_of a.in_loop t.kind ≡ None → compound_of t.kind ≡ None → under line d (one_statement line a) old ≡ under line d (left_nothing line (whole_expression_statement line)) old
    unfolding left_nothing whole_expression_statement
    expression_here h k m = larger h k ∙ ap (λ o. behind line d (compound_or line o a t) (drop 1 old)) m
        ∙ sym (ap (under line d (left_nothing line (whole_expression_statement line))) (first_tail old t is_first)
        ∙ ap (λ o. and_then o (λ st rest. Got (alone st) rest)) (if_true (behind line d (expression_statement (line t) t) (drop 1 old)) _ (begins_one h k m)))

  -- the next token begins what may stand at the top level of a file
  module _ (t : Token) (old : List Token) (is_first : first old ≡ Some t) (starts : begins_item t ≡ true) where
    at_item : under line d (one_item line) old ≡ behind line d (top_item line t) (drop 1 old)
    unfolding one_item
    at_item = ap (under line d (one_item line)) (first_tail old t is_first) ∙ if_true (behind line d (top_item line t) (drop 1 old)) _ starts

    abbrev functions : Behind Named Item
    functions = plain (function (line t) >>= λ f. give (item.Function f))

    abbrev classes : Behind Named Item
    classes = plain (class (line t) >>= λ c. give (item.Class c))

    abbrev finals : Behind Named Item
    finals = plain (final_class (line t) >>= λ c. give (item.Class c))

    abbrev others : Behind Named Item
    others = followed (statement line (inside false) t) (λ st. give (item.Statement st.0))

    abbrev chosen : Bool → Bool → Bool → Behind Named Item
    chosen f c n = one_of f functions (one_of c classes (one_of n finals others))

    at_choice : (f c n : Bool) → is_word w.Function t.kind ≡ f → is_word w.Class t.kind ≡ c → is_word w.Final t.kind ≡ n → under line d (one_item line) old ≡ behind line d (chosen f c n) (drop 1 old)
    unfolding top_item
    at_choice f c n x y z = at_item ∙ ap (λ b. behind line d (chosen b (is_word w.Class t.kind) (is_word w.Final t.kind)) (drop 1 old)) x
        ∙ ap (λ b. behind line d (chosen f b (is_word w.Final t.kind)) (drop 1 old)) y
        ∙ ap (λ b. behind line d (chosen f c b) (drop 1 old)) z

    pub function_here : (ts : List Token) → old ≡ t ∷ ts → is_word w.Function t.kind ≡ true → under line d (one_item line) old ≡ under line d (function_item (line t)) ts
    unfolding function_item
    function_here ts e h = at_choice true (is_word w.Class t.kind) (is_word w.Final t.kind) h refl refl ∙ ap (λ xs. behind line d functions (drop 1 xs)) e

    pub class_here : (ts : List Token) → old ≡ t ∷ ts → is_word w.Function t.kind ≡ false → is_word w.Class t.kind ≡ true → under line d (one_item line) old ≡ under line d (class_item (line t)) ts
    unfolding class_item
    class_here ts e h k = at_choice false true (is_word w.Final t.kind) h k refl ∙ ap (λ xs. behind line d classes (drop 1 xs)) e

    pub final_here : (ts : List Token) → old ≡ t ∷ ts → is_word w.Function t.kind ≡ false → is_word w.Class t.kind ≡ false → is_word w.Final t.kind ≡ true → under line d (one_item line) old ≡ under line d (final_item (line t)) ts
    unfolding final_item
    final_here ts e h k m = at_choice false false true h k m ∙ ap (λ xs. behind line d finals (drop 1 xs)) e

    begins_last : is_word w.Function t.kind ≡ false → is_word w.Class t.kind ≡ false → is_word w.Final t.kind ≡ false → begins_statement false t ≡ true
    begins_last h k m = last_of_four (is_word w.Function t.kind) (is_word w.Class t.kind) (is_word w.Final t.kind) (begins_statement false t) starts h k m

    pub statement_here : is_word w.Function t.kind ≡ false → is_word w.Class t.kind ≡ false → is_word w.Final t.kind ≡ false → under line d (one_item line) old ≡ under line d (statement_item line) old
    unfolding statement_item
    statement_here h k m = at_choice false false false h k m
        ∙ ap (λ o. and_then o (λ st rest. Got (item.Statement st.0) rest)) (sym (at_statement (inside false) t old is_first (begins_last h k m)))
