-- From the outcome of reading the tokens of a text to what the text is.
use Rattle.std.proofs.Common.{◌≡◌, ℕ, ◌+◌, ◌-◌, List, [], ◌∷◌, ◌++◌, length, drop, Option, Some, None, ◌⊎◌, inl, inr, refl, sym, ◌∙◌, ap, subst, arith, length-append, append_assoc}
use mathlib.Core.Path.{fun_ext}
use Rattle.std.specs.Prelude.{unwrap_or}
use Rattle.std.proofs.Math.Seq.{drop-append_seam}
use Rattle.std.proofs.lemmas.List.{append-nil}
use Rattle.resin_form.specs.Meaning.{IsFrontWithin, IsTree, SpellsWithin}
use Rattle.resin_form.specs.Reading.{Outcome, Got, Stop, Deep}
use Rattle.resin_form.proofs.Fronts.{is_read, is_refused, is_too_deep, one_tree, tree_without_limits}
use Rattle.resin_lex.specs.declared.token.Token.{Token}
use Rattle.resin_lex.specs.Lexes.{HasTokens, HasFront}
use Rattle.resin_lex.specs.Lines.{line_of_token}
use Rattle.resin_lex.proofs.Once.{read_once}
use Rattle.resin_tree.specs.declared.declaration.Program.{Program}
use Rattle.resin_grammar.specs.Reading.{is_low}
use Rattle.resin_program_grammar.specs.Declarations.{rules, program, top_items, more_items}
use Rattle.resin_program_grammar.specs.Programs.{place_of, IsProgram, IsFaultPlace, IsDeepPlace}
use Rattle.resin_program_grammar.specs.Reading.{under}

pub behind_front : {A : Type 0} (all front rest : List A) → all ≡ front ++ rest → drop (length all - length rest) all ≡ rest
behind_front all front rest e =
    let long = ap length e in
    let parts = length-append front rest in
    let count : length all - length rest ≡ length front = omega (arith, long, parts) in
    rw count (subst (λ x. drop (length front) x ≡ rest) (sym e) (drop-append_seam front rest))

no_more : {A : Type 0} (front rest all : List A) → all ≡ front ++ rest → rest ≡ [] → front ≡ all
no_more front rest all e n = sym (e ∙ ap (λ x. front ++ x) n ∙ append-nil front)

-- nothing, or one last
last_of : {A : Type 0} (xs : List A) → (xs ≡ []) ⊎ ((init : List A) × (x : A) × (xs ≡ init ++ x ∷ []))
last_of [] = inl refl
last_of (y ∷ ys) = elim (last_of ys) [ inl e ↦ inr ([], y, ap (λ zs. y ∷ zs) e) | inr r ↦ inr (y ∷ r.0, r.1, ap (λ zs. y ∷ zs) r.2) ]

module _ (src : List ℕ) (tokens : List Token) (lexical : Option ℕ) (lexed : HasFront src tokens lexical) (rest : List Token) where
  abbrev L : Token → ℕ
  L = line_of_token src

  end_of : ℕ
  end_of = unwrap_or lexical (length src)

  all_tokens : (f : Option ℕ) → HasFront src tokens f → f ≡ None → HasTokens src tokens None
  all_tokens None h e = subst (λ ts. HasTokens src ts None) (sym h.1.1) h.1.0
  all_tokens (Some place) h e = cc

  pub whole : (p : Program) → under L 200 (program L) tokens ≡ Got p rest → rest ≡ [] → lexical ≡ None → IsProgram src p
  whole p e r n =
      let x = is_read (rules L) (program L) is_low 201 tokens rest p e in
      record {
        tokens = tokens;
        lexed = all_tokens lexical lexed n;
        tree = subst (λ w. SpellsWithin (rules L) is_low 201 (program L) w p []) (no_more x.front rest tokens x.ends.text r) x.tree;
      }

  pub ends_early : (p : Program) → under L 200 (program L) tokens ≡ Got p rest → (rest ≡ [] → lexical ≡ None → ⊥) → IsFaultPlace src (place_of (unwrap_or lexical (length src)) rest)
  ends_early p e unless =
      let x = is_read (rules L) (program L) is_low 201 tokens rest p e in
      record {
        tokens = tokens;
        lexical = lexical;
        lexed = lexed;
        front = x.front;
        rest = rest;
        longest = x.ends;
        within = inr (p, x.tree);
        no_program = λ r n q t. unless r n;
        is = refl;
      }

  pub stops : under L 200 (program L) tokens ≡ Stop rest → IsFaultPlace src (place_of (unwrap_or lexical (length src)) rest)
  stops e =
      let x = is_refused (rules L) (program L) is_low 201 tokens rest e in
      record {
        tokens = tokens;
        lexical = lexical;
        lexed = lexed;
        front = x.front;
        rest = rest;
        longest = x.ends;
        within = inl x.begins;
        no_program = λ r n q t. x.no_tree q t;
        is = refl;
      }

  nothing_read : under L 200 (program L) [] ≡ Got (record { items = [] }) []
  unfolding program top_items more_items
  nothing_read = refl

  nothing_within : IsFrontWithin (rules L) is_low 201 (program L) []
  nothing_within =
      let x = is_read (rules L) (program L) is_low 201 [] [] (record { items = [] }) nothing_read in
      inr (record { items = [] }, subst (λ w. SpellsWithin (rules L) is_low 201 (program L) w (record { items = [] }) []) (no_more x.front [] [] x.ends.text refl) x.tree)

  pub too_deep : under L 200 (program L) tokens ≡ Deep rest → IsDeepPlace src (place_of (unwrap_or lexical (length src)) (drop (length tokens - length rest - 1) tokens))
  too_deep e =
      let x = is_too_deep (rules L) (program L) is_low 201 tokens rest e in
      elim (last_of x.front) as (λ _. IsDeepPlace src (place_of (unwrap_or lexical (length src)) (drop (length tokens - length rest - 1) tokens))) [
        | inl n ↦ absurd (x.too_deep (subst (λ w. IsFrontWithin (rules L) is_low 201 (program L) w) (sym n) nothing_within))
        | inr r ↦ (let split : tokens ≡ r.0 ++ r.1 ∷ rest = x.text ∙ ap (λ w. w ++ rest) r.2 ∙ append_assoc r.0 (r.1 ∷ []) rest in
            let long = ap length split in
            let parts = length-append r.0 (r.1 ∷ rest) in
            let count : length tokens - length rest - 1 ≡ length r.0 = omega (arith, long, parts) in
            let from_there : drop (length tokens - length rest - 1) tokens ≡ r.1 ∷ rest = rw count (subst (λ y. drop (length r.0) y ≡ r.1 ∷ rest) (sym split) (drop-append_seam r.0 (r.1 ∷ rest))) in
            record {
              tokens = tokens;
              lexical = lexical;
              lexed = lexed;
              front = r.0;
              opening = r.1;
              rest = rest;
              splits = split;
              first = x;
              is = ap (place_of (unwrap_or lexical (length src))) from_there;
            })
      ]

no_length : {A : Type 0} (xs : List A) → length xs ≡ 0 → xs ≡ []
no_length [] e = refl
no_length (x ∷ xs) e = cc

-- the same of what a reader finds that goes by lines of its own, and of the places that it tells
module _ (src : List ℕ) (tokens : List Token) (lexical : Option ℕ) (lexed : HasFront src tokens lexical) (line : Token → ℕ) (same : (t : Token) → line t ≡ line_of_token src t) (rest : List Token) where
  pub by_lines : (o : Outcome Token Program) → under line 200 (program line) tokens ≡ o → under (line_of_token src) 200 (program (line_of_token src)) tokens ≡ o
  by_lines o e = subst (λ l. under l 200 (program l) tokens ≡ o) (fun_ext same) e

  pub is_program : (p : Program) → under line 200 (program line) tokens ≡ Got p rest → length rest ≡ 0 → lexical ≡ None → IsProgram src p
  is_program p e r n = whole src tokens lexical lexed rest p (by_lines (Got p rest) e) (no_length rest r) n

  module _ (at place end : ℕ) (count : at ≡ length tokens - length rest) (until : end ≡ unwrap_or lexical (length src)) where
    pub placed : (front : List Token) → tokens ≡ front ++ rest → place ≡ place_of end (drop at tokens) → place_of (unwrap_or lexical (length src)) rest ≡ place
    placed front text is = sym (is ∙ ap (λ k. place_of end (drop k tokens)) count ∙ ap (place_of end) (behind_front tokens front rest text) ∙ ap (λ x. place_of x rest) until)

    pub ends_at : (p : Program) → under line 200 (program line) tokens ≡ Got p rest → (length rest ≡ 0 → lexical ≡ None → ⊥) → place ≡ place_of end (drop at tokens) → IsFaultPlace src place
    ends_at p e unless is =
        let x = is_read (rules (line_of_token src)) (program (line_of_token src)) is_low 201 tokens rest p (by_lines (Got p rest) e) in
        subst (IsFaultPlace src) (placed x.front x.ends.text is) (ends_early src tokens lexical lexed rest p (by_lines (Got p rest) e) (λ r n. unless (ap length r) n))

    pub stops_at : under line 200 (program line) tokens ≡ Stop rest → place ≡ place_of end (drop at tokens) → IsFaultPlace src place
    stops_at e is =
        let x = is_refused (rules (line_of_token src)) (program (line_of_token src)) is_low 201 tokens rest (by_lines (Stop rest) e) in
        subst (IsFaultPlace src) (placed x.front x.ends.text is) (stops src tokens lexical lexed rest (by_lines (Stop rest) e))

    pub deep_at : under line 200 (program line) tokens ≡ Deep rest → place ≡ place_of end (drop (at - 1) tokens) → IsDeepPlace src place
    deep_at e is =
        subst (IsDeepPlace src) (sym (is ∙ ap (λ k. place_of end (drop (k - 1) tokens)) count ∙ ap (λ x. place_of x (drop (length tokens - length rest - 1) tokens)) until))
        (too_deep src tokens lexical lexed rest (by_lines (Deep rest) e))

-- a text is one program at most
pub one_program : (src : List ℕ) (p q : Program) → IsProgram src p → IsProgram src q → p ≡ q
one_program src p q a b =
    let L = line_of_token src in
    let t = (read_once src a.tokens b.tokens None None a.lexed b.lexed).0 in
    one_tree (rules L) (program L) a.tokens p q
    (tree_without_limits (rules L) (program L) is_low 201 a.tokens p a.tree)
    (subst (λ w. IsTree (rules L) (program L) w q) (sym t) (tree_without_limits (rules L) (program L) is_low 201 b.tokens q b.tree))
