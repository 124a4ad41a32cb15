-- A text is read as what `parsed` says.
use Rattle.std.proofs.Common.{◌≡◌, ◌≢◌, ℕ, zero, suc, ◌+◌, ◌-◌, ◌<◌, ◌≤◌, List, [], ◌∷◌, length, take, drop, Option, Some, None, Ok, Err, refl, sym, ◌∙◌, ap, subst, arith}
use Rattle.std.specs.Prelude.{unwrap_or}
use Rattle.std.proofs.lemmas.List.{length-drop}
use Rattle.resin_form.specs.Reading.{Outcome, Got, Stop, Deep}
use Rattle.resin_form.proofs.Fronts.{is_read, is_refused}
use Rattle.resin_grammar.specs.Reading.{is_low}
use Rattle.resin_lex.specs.First.{first}
use Rattle.resin_lex.specs.Lexes.{HasTokens, HasFront, before}
use Rattle.resin_lex.specs.Lines.{line_of_token}
use Rattle.resin_lex.specs.Modes.{after, top, innermost, blamed}
use Rattle.resin_lex.specs.Reads.{Reads, token_of}
use Rattle.resin_lex.specs.Reads as r
use Rattle.resin_lex.specs.declared.modes.Open.{Open}
use Rattle.resin_lex.specs.declared.modes.Open.TheVariants.{Outside}
use Rattle.resin_lex.specs.declared.modes.Act.{Act}
use Rattle.resin_lex.specs.declared.modes.Shape.{Shape}
use Rattle.resin_lex.specs.declared.modes.Step.{Step}
use Rattle.resin_lex.specs.declared.modes.Step.TheVariants as step
use Rattle.resin_lex.specs.declared.token.Token.{Token}
use Rattle.resin_lex.specs.declared.token.TokenKind.{TokenKind}
use Rattle.resin_lex.specs.declared.token.ParseFault.TheVariants as fault
use Rattle.resin_lex.specs.Grammar.{Stands}
use Rattle.resin_lex.proofs.Lexed.{reads, some}
use Rattle.resin_lex.proofs.MarksSound.{Sound}
use Rattle.resin_lex.proofs.Stood.{sound}
use Rattle.resin_tree.specs.declared.declaration.Program.{Program}
use Rattle.resin_program_grammar.specs.Declarations.{rules, program}
use Rattle.resin_program_grammar.specs.Programs.{place_of}
use Rattle.resin_program_grammar.specs.Reading.{under}
use Rattle.resin_parse.proofs.Whole.{by_lines, placed}
use Rattle.resin_program_grammar.specs.Parsed.{Lexed, with_token, lexed_from, lexed_by, lexed, if_whole, told, parsed_front, parsed}

-- what stands first takes at least one byte
takes : (o : Option Open) (at n : ℕ) (what : Option TokenKind) (act : Act) (x : ℕ) (xs : List ℕ) → Stands o at what act (take n (x ∷ xs)) (drop n (x ∷ xs)) → 0 < n
takes o at zero what act x xs h = absurd (some o at what act [] (x ∷ xs) h refl)
takes o at (suc n) what act x xs h = omega arith

less : (m n : ℕ) (x : ℕ) (xs : List ℕ) → 0 < n → length (x ∷ xs) ≤ suc m → length (drop n (x ∷ xs)) ≤ m
less m n x xs p le = let e : length (drop n (x ∷ xs)) ≡ length (x ∷ xs) - n = length-drop n (x ∷ xs) in omega arith

pub stands_so : (o : Option Open) (at : ℕ) (x : ℕ) (xs : List ℕ) (s : Step) → first o at (x ∷ xs) ≡ s → Sound (Stands o at) (x ∷ xs) s
stands_so o at x xs s e = subst (Sound (Stands o at) (x ∷ xs)) e (sound o at x xs)

pub shorter : (o : Option Open) (n at k : ℕ) (what : Option TokenKind) (act : Act) (x : ℕ) (xs : List ℕ) → Stands o at what act (take k (x ∷ xs)) (drop k (x ∷ xs)) → length (x ∷ xs) ≤ suc n → length (drop k (x ∷ xs)) ≤ n
shorter o n at k what act x xs s le = less n k x xs (takes o at k what act x xs s) le

one_token : (n : ℕ) (os : List Open) (at : ℕ) (xs : List ℕ) (k : ℕ) (shape : Shape) (act : Act) (us : List Token) (f : Option ℕ) → xs ≢ [] → length xs ≤ n
    → first (top os) at xs ≡ step.Token shape k act → ((m : ℕ) → length (drop k xs) ≤ m → lexed_from m (after act os) (at + k) (drop k xs) ≡ (us, f))
    → lexed_from n os at xs ≡ (token_of shape at (at + k) (take k xs) ∷ us, f)
unfolding lexed_from
one_token n os at [] k shape act us f h le e rest = absurd (h refl)
one_token zero os at (x ∷ xs) k shape act us f h le e rest = absurd (omega arith)
one_token (suc n) os at (x ∷ xs) k shape act us f h le e rest =
    ap (lexed_by (lexed_from n) os at (x ∷ xs)) e
    ∙ ap (with_token (token_of shape at (at + k) (take k (x ∷ xs)))) (rest n (shorter (top os) n at k _ act x xs (stands_so (top os) at x xs (step.Token shape k act) e) le))

one_skip : (n : ℕ) (os : List Open) (at : ℕ) (xs : List ℕ) (k : ℕ) (act : Act) (us : List Token) (f : Option ℕ) → xs ≢ [] → length xs ≤ n
    → first (top os) at xs ≡ step.Skip k act → ((m : ℕ) → length (drop k xs) ≤ m → lexed_from m (after act os) (at + k) (drop k xs) ≡ (us, f))
    → lexed_from n os at xs ≡ (us, f)
unfolding lexed_from
one_skip n os at [] k act us f h le e rest = absurd (h refl)
one_skip zero os at (x ∷ xs) k act us f h le e rest = absurd (omega arith)
one_skip (suc n) os at (x ∷ xs) k act us f h le e rest =
    ap (lexed_by (lexed_from n) os at (x ∷ xs)) e
    ∙ rest n (shorter (top os) n at k None act x xs (stands_so (top os) at x xs (step.Skip k act) e) le)

one_fault : (n : ℕ) (os : List Open) (at : ℕ) (xs : List ℕ) → xs ≢ [] → length xs ≤ n → first (top os) at xs ≡ step.Fault
    → lexed_from n os at xs ≡ ([], Some (blamed (top os) at))
unfolding lexed_from
one_fault n os at [] h le e = absurd (h refl)
one_fault zero os at (x ∷ xs) h le e = absurd (omega arith)
one_fault (suc n) os at (x ∷ xs) h le e = ap (lexed_by (lexed_from n) os at (x ∷ xs)) e

at_end : (n : ℕ) (os : List Open) (at : ℕ) → lexed_from n os at [] ≡ ([], innermost os)
unfolding lexed_from
at_end zero os at = refl
at_end (suc n) os at = refl

as_read : (os : List Open) (at : ℕ) (xs : List ℕ) (ts : List Token) (f : Option ℕ) → Reads os at xs ts f → (n : ℕ) → length xs ≤ n → lexed_from n os at xs ≡ (ts, f)
as_read os at xs ts f r.ends n le = at_end n os at
as_read os at xs ts f (r.token {n = k} {shape = shape} {act = act} {tokens = us} h e q) n le =
    one_token n os at xs k shape act us f h le e (as_read (after act os) (at + k) (drop k xs) us f q)
as_read os at xs ts f (r.skip {n = k} {act = act} h e q) n le = one_skip n os at xs k act ts f h le e (as_read (after act os) (at + k) (drop k xs) ts f q)
as_read os at xs ts f (r.fails h e) n le = one_fault n os at xs h le e

pub as_lexed : (src : List ℕ) (all : List Token) (f : Option ℕ) → HasTokens src all f → lexed src ≡ (all, f)
as_lexed src all f h = as_read (Outside ∷ []) 0 src all f (reads (Outside ∷ []) 0 src all f h) (length src) (let z : length src ≤ length src = omega arith in z)

pub as_parsed : (src : List ℕ) (tokens : List Token) (lexical : Option ℕ) → HasFront src tokens lexical
    → parsed src ≡ told (unwrap_or lexical (length src)) tokens lexical (under (line_of_token src) 200 (program (line_of_token src)) tokens)
unfolding parsed
as_parsed src tokens lexical h =
    ap (λ (l : Lexed). parsed_front src (before l.1 l.0) l.1) (as_lexed src h.0 lexical h.1.0) ∙ ap (λ ts. parsed_front src ts lexical) (sym h.1.1)

pub early : (end : ℕ) (p : Program) (ts : List Token) (x : Option ℕ) → (ts ≡ [] → x ≡ None → ⊥) → if_whole end p ts x ≡ Err (fault.Syntax (place_of end ts))
early end p [] None not = absurd (not refl refl)
early end p [] (Some place) not = refl
early end p (t ∷ ts) x not = refl

-- the answers of `program`, which goes by lines of its own
module _ (src : List ℕ) (tokens : List Token) (lexical : Option ℕ) (found : HasFront src tokens lexical) (line : Token → ℕ) (same : (t : Token) → line t ≡ line_of_token src t) (rest : List Token) where
  by : (o : Outcome Token Program) → under line 200 (program line) tokens ≡ o → parsed src ≡ told (unwrap_or lexical (length src)) tokens lexical o
  by o e = as_parsed src tokens lexical found ∙ ap (told (unwrap_or lexical (length src)) tokens lexical) (by_lines src tokens lexical found line same rest o e)

  none_left : (ts : List Token) → length ts ≡ 0 → ts ≡ []
  none_left [] e = refl
  none_left (t ∷ ts) e = cc

  pub exact_program : (p : Program) → under line 200 (program line) tokens ≡ Got p rest → length rest ≡ 0 → lexical ≡ None → parsed src ≡ Ok p
  exact_program p e z n = by (Got p rest) e ∙ ap (λ ts. if_whole (unwrap_or lexical (length src)) p ts lexical) (none_left rest z) ∙ ap (λ x. if_whole (unwrap_or x (length src)) p [] x) n

  module _ (at place end : ℕ) (count : at ≡ length tokens - length rest) (until : end ≡ unwrap_or lexical (length src)) where
    pub exact_end : (p : Program) → under line 200 (program line) tokens ≡ Got p rest → (length rest ≡ 0 → lexical ≡ None → ⊥) → place ≡ place_of end (drop at tokens) → parsed src ≡ Err (fault.Syntax place)
    exact_end p e not is =
        let x = is_read (rules (line_of_token src)) (program (line_of_token src)) is_low 201 tokens rest p (by_lines src tokens lexical found line same rest (Got p rest) e) in
        by (Got p rest) e ∙ early (unwrap_or lexical (length src)) p rest lexical (λ n. not (ap length n))
        ∙ ap (λ n. Err (fault.Syntax n)) (placed src tokens lexical found line same rest at place end count until x.front x.ends.text is)

    pub exact_stop : under line 200 (program line) tokens ≡ Stop rest → place ≡ place_of end (drop at tokens) → parsed src ≡ Err (fault.Syntax place)
    exact_stop e is =
        let x = is_refused (rules (line_of_token src)) (program (line_of_token src)) is_low 201 tokens rest (by_lines src tokens lexical found line same rest (Stop rest) e) in
        by (Stop rest) e ∙ ap (λ n. Err (fault.Syntax n)) (placed src tokens lexical found line same rest at place end count until x.front x.ends.text is)

    pub exact_deep : under line 200 (program line) tokens ≡ Deep rest → place ≡ place_of end (drop (at - 1) tokens) → parsed src ≡ Err (fault.TooDeep place)
    exact_deep e is =
        by (Deep rest) e
        ∙ ap (λ n. Err (fault.TooDeep n)) (sym (is ∙ ap (λ k. place_of end (drop (k - 1) tokens)) count ∙ ap (λ x. place_of x (drop (length tokens - length rest - 1) tokens)) until))
