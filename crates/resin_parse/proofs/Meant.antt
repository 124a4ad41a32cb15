-- Each source text is what it is read as, and nothing else.
use Rattle.std.proofs.Common.{◌≡◌, ◌≢◌, ℕ, zero, suc, ◌+◌, ◌-◌, ◌≤◌, List, [], ◌∷◌, ◌++◌, length, drop, Option, Some, None, Ok, Err, inl, inr, refl, sym, ◌∙◌, ap, subst, arith, length-append}
use Rattle.std.specs.Prelude.{unwrap_or}
use Rattle.std.proofs.Math.Seq.{drop-append_seam}
use Rattle.resin_form.specs.Meaning.{IsFront, IsFrontWithin, IsTree, EndsLongest, IsTooDeep, SpellsWithin}
use Rattle.resin_form.specs.Reading.{Outcome, Got, Stop, Deep}
use Rattle.resin_form.proofs.Fronts.{is_read, is_refused, is_too_deep, front_without_limits, tree_without_limits}
use Rattle.resin_grammar.specs.Reading.{is_low}
use Rattle.resin_lex.specs.First.{first}
use Rattle.resin_lex.specs.Lexes.{HasTokens, HasFront, before}
use Rattle.resin_lex.specs.Lines.{line_of_token}
use Rattle.resin_lex.specs.Modes.{after, top}
use Rattle.resin_lex.specs.Reads.{Reads}
use Rattle.resin_lex.specs.Reads as r
use Rattle.resin_lex.specs.declared.modes.Open.{Open}
use Rattle.resin_lex.specs.declared.modes.Open.TheVariants.{Outside}
use Rattle.resin_lex.specs.declared.modes.Step.{Step}
use Rattle.resin_lex.specs.declared.modes.Step.TheVariants as step
use Rattle.resin_lex.specs.declared.token.Token.{Token}
use Rattle.resin_lex.specs.declared.token.ParseFault.TheVariants as fault
use Rattle.resin_lex.proofs.Lexed.{lexes}
use Rattle.resin_tree.specs.declared.declaration.Program.{Program}
use Rattle.resin_program_grammar.specs.Declarations.{rules, program}
use Rattle.resin_program_grammar.specs.Programs.{place_of, IsFaultPlace, IsParsed}
use Rattle.resin_program_grammar.specs.Reading.{under}
use Rattle.resin_parse.specs.Meaning.{HasOneMeaning}
use Rattle.resin_program_grammar.specs.Parsed.{Lexed, lexed_from, lexed_by, lexed, if_whole, told, parsed}
use Rattle.resin_parse.proofs.AsParsed.{as_parsed, shorter, stands_so, early}
use Rattle.resin_parse.proofs.Whole.{whole, ends_early, stops, too_deep}
use Rattle.resin_parse.proofs.Within.{Cuts, same, longer, shorter as less, cuts, spelled_read, front_before}

-- ---- the lexer as a function reads the text

abbrev ReadSo : List Open → ℕ → List ℕ → Lexed → Type 0
ReadSo os at xs l = Reads os at xs l.0 l.1

step_reads : (n : ℕ) (os : List Open) (at x : ℕ) (xs : List ℕ) → length (x ∷ xs) ≤ suc n
    → ((os : List Open) (at : ℕ) (ys : List ℕ) → length ys ≤ n → ReadSo os at ys (lexed_from n os at ys))
    → (s : Step) → first (top os) at (x ∷ xs) ≡ s → ReadSo os at (x ∷ xs) (lexed_by (lexed_from n) os at (x ∷ xs) s)
step_reads n os at x xs le rest (step.Token shape k act) e = r.token (λ q. cc) e (rest (after act os) (at + k) (drop k (x ∷ xs)) (shorter (top os) n at k _ act x xs (stands_so (top os) at x xs (step.Token shape k act) e) le))
step_reads n os at x xs le rest (step.Skip k act) e = r.skip (λ q. cc) e (rest (after act os) (at + k) (drop k (x ∷ xs)) (shorter (top os) n at k None act x xs (stands_so (top os) at x xs (step.Skip k act) e) le))
step_reads n os at x xs le rest step.Fault e = r.fails (λ q. cc) e

from_reads : (n : ℕ) (os : List Open) (at : ℕ) (xs : List ℕ) → length xs ≤ n → ReadSo os at xs (lexed_from n os at xs)
unfolding lexed_from
from_reads zero os at [] le = r.ends
from_reads zero os at (x ∷ xs) le = absurd (omega arith)
from_reads (suc n) os at [] le = r.ends
from_reads (suc n) os at (x ∷ xs) le = step_reads n os at x xs le (from_reads n) (first (top os) at (x ∷ xs)) refl

-- the tokens of `lexed` are those of the text, up to its first lexical fault
pub has_tokens : (src : List ℕ) → HasTokens src (lexed src).0 (lexed src).1
has_tokens src = lexes (Outside ∷ []) 0 src (lexed src).0 (lexed src).1 (from_reads (length src) (Outside ∷ []) 0 src (let z : length src ≤ length src = omega arith in z))

abbrev front_of : List ℕ → List Token
front_of src = before (lexed src).1 (lexed src).0

pub has_front : (src : List ℕ) → HasFront src (front_of src) (lexed src).1
has_front src = ((lexed src).0, (has_tokens src, refl))

-- ---- what is told of the tokens before the first lexical fault

never_memory : (end : ℕ) (p : Program) (ts : List Token) (lexical : Option ℕ) → if_whole end p ts lexical ≢ Err fault.Memory
never_memory end p [] None e = cc
never_memory end p [] (Some place) e = cc
never_memory end p (t ∷ ts) lexical e = cc

told_so : (end : ℕ) (tokens : List Token) (lexical : Option ℕ) (o : Outcome Token Program) → told end tokens lexical o ≢ Err fault.Memory
told_so end tokens lexical (Got p rest) e = never_memory end p rest lexical e
told_so end tokens lexical (Stop rest) e = cc
told_so end tokens lexical (Deep rest) e = cc

module _ (src : List ℕ) (tokens : List Token) (lexical : Option ℕ) (found : HasFront src tokens lexical) where
  abbrev L : Token → ℕ
  L = line_of_token src

  abbrev end : ℕ
  end = unwrap_or lexical (length src)

  abbrev outcome : Outcome Token Program
  outcome = under L 200 (program L) tokens

  whole_or_not : (p : Program) (rest : List Token) → outcome ≡ Got p rest → (ts : List Token) (x : Option ℕ) → rest ≡ ts → lexical ≡ x → IsParsed (if_whole end p ts x) src
  whole_or_not p rest e [] None n m = whole src tokens lexical found rest p e n m
  whole_or_not p rest e [] (Some place) n m = subst (λ ts. IsFaultPlace src (place_of end ts)) n (ends_early src tokens lexical found rest p e (λ _ k. let h : None ≡ Some place = sym k ∙ m in cc))
  whole_or_not p rest e (t ∷ ts) x n m = subst (λ us. IsFaultPlace src (place_of end us)) n (ends_early src tokens lexical found rest p e (λ k _. let h : [] ≡ t ∷ ts = sym k ∙ n in cc))

  is_told : (o : Outcome Token Program) → outcome ≡ o → IsParsed (told end tokens lexical o) src
  is_told (Got p rest) e = whole_or_not p rest e rest lexical refl refl
  is_told (Stop rest) e = stops src tokens lexical found rest e
  is_told (Deep rest) e = too_deep src tokens lexical found rest e

  pub meant_so : IsParsed (parsed src) src
  meant_so = subst (λ a. IsParsed a src) (sym (as_parsed src tokens lexical found)) (is_told outcome refl)

  pub told_always : parsed src ≢ Err fault.Memory
  told_always e = told_so end tokens lexical outcome (sym (as_parsed src tokens lexical found) ∙ e)

  -- ---- the grammar says one thing of them

  -- no limit is met where a longest front is within the limits
  module _ (front rest : List Token) (longest : EndsLongest (rules L) (program L) tokens front rest) (within : IsFrontWithin (rules L) is_low 201 (program L) front) where
    not_deep_by : (behind : List Token) (x : IsTooDeep (rules L) (program L) is_low 201 tokens behind) → Cuts x.front behind front rest → ⊥
    not_deep_by behind x (same e k) = x.too_deep (subst (λ w. IsFrontWithin (rules L) is_low 201 (program L) w) (sym e) within)
    not_deep_by behind x (longer t more e k) = longest.longest t more behind k (subst (λ w. IsFront (rules L) (program L) w) e x.is_front)
    not_deep_by behind x (less t more e k) = x.too_deep (front_before (rules L) is_low (program L) 201 x.front (t ∷ more) (subst (λ w. IsFrontWithin (rules L) is_low 201 (program L) w) e within))

    not_deep : (behind : List Token) → IsTooDeep (rules L) (program L) is_low 201 tokens behind → ⊥
    not_deep behind x = not_deep_by behind x (cuts x.front behind front rest (sym x.text ∙ longest.text))

    -- no other front is a longest one
    one_longest_by : (u behind : List Token) → EndsLongest (rules L) (program L) tokens u behind → IsFrontWithin (rules L) is_low 201 (program L) u → Cuts u behind front rest → (u ≡ front) × (behind ≡ rest)
    one_longest_by u behind x f (same e k) = (e, k)
    one_longest_by u behind x f (longer t more e k) = absurd (longest.longest t more behind k (subst (λ w. IsFront (rules L) (program L) w) e (front_without_limits (rules L) (program L) is_low 201 u f)))
    one_longest_by u behind x f (less t more e k) = absurd (x.longest t more rest k (subst (λ w. IsFront (rules L) (program L) w) e (front_without_limits (rules L) (program L) is_low 201 front within)))

    one_longest : (u behind : List Token) → EndsLongest (rules L) (program L) tokens u behind → IsFrontWithin (rules L) is_low 201 (program L) u → (u ≡ front) × (behind ≡ rest)
    one_longest u behind x f = one_longest_by u behind x f (cuts u behind front rest (sym x.text ∙ longest.text))

    module _ (no_program : rest ≡ [] → lexical ≡ None → (p : Program) → IsTree (rules L) (program L) front p → ⊥) where
      fault_told : (o : Outcome Token Program) → outcome ≡ o → told end tokens lexical o ≡ Err (fault.Syntax (place_of end rest))
      fault_told (Got p behind) e =
          let x = is_read (rules L) (program L) is_low 201 tokens behind p e in
          let s = one_longest x.front behind x.ends (inr (p, x.tree)) in
          let t : IsTree (rules L) (program L) front p = subst (λ w. IsTree (rules L) (program L) w p) s.0 (tree_without_limits (rules L) (program L) is_low 201 x.front p x.tree) in
          early end p behind lexical (λ n m. no_program (sym s.1 ∙ n) m p t) ∙ ap (λ ts. Err (fault.Syntax (place_of end ts))) s.1
      fault_told (Stop behind) e =
          let x = is_refused (rules L) (program L) is_low 201 tokens behind e in
          let s = one_longest x.front behind x.ends (inl x.begins) in
          ap (λ ts. Err (fault.Syntax (place_of end ts))) s.1
      fault_told (Deep behind) e = absurd (not_deep behind (is_too_deep (rules L) (program L) is_low 201 tokens behind e))

      pub fault_read : parsed src ≡ Err (fault.Syntax (place_of end rest))
      fault_read = as_parsed src tokens lexical found ∙ fault_told outcome refl

  module _ (front rest : List Token) (opening : Token) (splits : tokens ≡ front ++ opening ∷ rest) (deep : IsTooDeep (rules L) (program L) is_low 201 tokens rest) where
    one_deep_by : (behind : List Token) (x : IsTooDeep (rules L) (program L) is_low 201 tokens behind) → Cuts x.front behind deep.front rest → behind ≡ rest
    one_deep_by behind x (same e k) = k
    one_deep_by behind x (longer t more e k) = absurd (deep.too_deep (x.first deep.front more t e))
    one_deep_by behind x (less t more e k) = absurd (x.too_deep (deep.first x.front more t e))

    one_deep : (behind : List Token) → IsTooDeep (rules L) (program L) is_low 201 tokens behind → behind ≡ rest
    one_deep behind x = one_deep_by behind x (cuts x.front behind deep.front rest (sym x.text ∙ deep.text))

    opening_there : drop (length tokens - length rest - 1) tokens ≡ opening ∷ rest
    opening_there =
        let long = ap length splits in
        let parts = length-append front (opening ∷ rest) in
        let count : length tokens - length rest - 1 ≡ length front = omega (arith, long, parts) in
        rw count (subst (λ y. drop (length front) y ≡ opening ∷ rest) (sym splits) (drop-append_seam front (opening ∷ rest)))

    deep_told : (o : Outcome Token Program) → outcome ≡ o → told end tokens lexical o ≡ Err (fault.TooDeep opening.from)
    deep_told (Got p behind) e = (let x = is_read (rules L) (program L) is_low 201 tokens behind p e in absurd (not_deep x.front behind x.ends (inr (p, x.tree)) rest deep))
    deep_told (Stop behind) e = (let x = is_refused (rules L) (program L) is_low 201 tokens behind e in absurd (not_deep x.front behind x.ends (inl x.begins) rest deep))
    deep_told (Deep behind) e =
        let s = one_deep behind (is_too_deep (rules L) (program L) is_low 201 tokens behind e) in
        ap (λ ts. Err (fault.TooDeep (place_of end (drop (length tokens - length ts - 1) tokens)))) s ∙ ap (λ ts. Err (fault.TooDeep (place_of end ts))) opening_there

    pub deep_read : parsed src ≡ Err (fault.TooDeep opening.from)
    deep_read = as_parsed src tokens lexical found ∙ deep_told outcome refl

  -- tokens that spell a program are read as it
  pub program_read : (p : Program) → lexical ≡ None → SpellsWithin (rules L) is_low 201 (program L) tokens p [] → parsed src ≡ Ok p
  program_read p n s =
      as_parsed src tokens lexical found
      ∙ ap (told end tokens lexical) (spelled_read (rules L) is_low (program L) 201 tokens p s)
      ∙ ap (λ x. if_whole end p [] x) n

pub one_meaning : (src : List ℕ) → HasOneMeaning src
one_meaning src = record {
  meant = meant_so src (front_of src) (lexed src).1 (has_front src);
  told = told_always src (front_of src) (lexed src).1 (has_front src);
  program = λ p a. program_read src a.tokens None (a.tokens, (a.lexed, refl)) p refl a.tree;
  misspelt = λ place a. fault_read src a.tokens a.lexical a.lexed a.front a.rest a.longest a.within a.no_program ∙ ap (λ n. Err (fault.Syntax n)) (sym a.is);
  too_deep = λ place a. deep_read src a.tokens a.lexical a.lexed a.front a.rest a.opening a.splits a.first ∙ ap (λ n. Err (fault.TooDeep n)) (sym a.is);
}
