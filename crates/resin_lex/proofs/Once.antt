-- One reading, and tokens in a row.
use Rattle.std.proofs.Common.{◌≡◌, ℕ, zero, suc, ◌+◌, ◌<◌, ◌≤◌, List, [], ◌∷◌, take, drop, length, Option, Some, None, refl, sym, ◌∙◌, ap, subst, arith, length-append}
use Rattle.std.specs.Prelude.{nat_lt}
use Rattle.std.specs.List.{prefix_len}
use Rattle.resin_lex.specs.Grammar.{Stands}
use Rattle.resin_lex.specs.Modes.{after, top}
use Rattle.resin_lex.specs.Reads.{Reads, token_of}
use Rattle.resin_lex.specs.Reads as r
use Rattle.resin_lex.specs.Lexes.{Lexes, NothingStands, HasTokens, HasFront, IsRow, before}
use Rattle.resin_lex.specs.Lexes as l
use Rattle.resin_lex.specs.declared.modes.Open.{Open}
use Rattle.resin_lex.specs.declared.modes.Open.TheVariants.{Outside}
use Rattle.resin_lex.specs.declared.modes.Act.{Act}
use Rattle.resin_lex.specs.declared.modes.Shape.{Shape}
use Rattle.resin_lex.specs.declared.modes.Step.TheVariants.{Token, Skip}
use Rattle.resin_lex.specs.declared.token.TokenKind.{TokenKind}
use Rattle.resin_lex.specs.declared.token.Token as t
use Rattle.resin_lex.proofs.Lexed.{reads, some}

same_token : (shape shape' : Shape) (n n' : ℕ) (a a' : Act) → Token shape n a ≡ Token shape' n' a' → (shape ≡ shape') × (n ≡ n') × (a ≡ a')
same_token shape shape' n n' a a' e = (cc, cc, cc)

same_skip : (n n' : ℕ) (a a' : Act) → Skip n a ≡ Skip n' a' → (n ≡ n') × (a ≡ a')
same_skip n n' a a' e = (cc, cc)

abbrev pub Same : List t.Token → List t.Token → Option ℕ → Option ℕ → Type 0
Same ts us f g = (ts ≡ us) × (f ≡ g)

once : (os : List Open) (at : ℕ) (xs : List ℕ) (ts us : List t.Token) (f g : Option ℕ) → Reads os at xs ts f → Reads os at xs us g → Same ts us f g
once os at xs ts us f g r.ends r.ends = (refl, refl)
once os at xs ts us f g r.ends (r.token h e q) = absurd (h refl)
once os at xs ts us f g r.ends (r.skip h e q) = absurd (h refl)
once os at xs ts us f g r.ends (r.fails h e) = absurd (h refl)
once os at xs ts us f g (r.token h e q) r.ends = absurd (h refl)
once os at xs ts us f g (r.skip h e q) r.ends = absurd (h refl)
once os at xs ts us f g (r.fails h e) r.ends = absurd (h refl)
once os at xs ts us f g (r.token {n = n} {shape = k} {act = a} {tokens = vs} h e q) (r.token {n = n'} {shape = k'} {act = a'} {tokens = vs'} h' e' q') =
    let s = same_token k' k n' n a' a (sym e' ∙ e) in
    let i = once (after a os) (at + n) (drop n xs) vs vs' f g q (subst (λ m. Reads (after a os) (at + m) (drop m xs) vs' g) s.1 (subst (λ b. Reads (after b os) (at + n') (drop n' xs) vs' g) s.2 q')) in
    (cc, i.1)
once os at xs ts us f g (r.token h e q) (r.skip h' e' q') = absurd (let s = sym e ∙ e' in cc)
once os at xs ts us f g (r.token h e q) (r.fails h' e') = absurd (let s = sym e ∙ e' in cc)
once os at xs ts us f g (r.skip h e q) (r.token h' e' q') = absurd (let s = sym e ∙ e' in cc)
once os at xs ts us f g (r.skip {n = n} {act = a} h e q) (r.skip {n = n'} {act = a'} h' e' q') =
    let s = same_skip n' n a' a (sym e' ∙ e) in
    once (after a os) (at + n) (drop n xs) ts us f g q (subst (λ m. Reads (after a os) (at + m) (drop m xs) us g) s.0 (subst (λ b. Reads (after b os) (at + n') (drop n' xs) us g) s.1 q'))
once os at xs ts us f g (r.skip h e q) (r.fails h' e') = absurd (let s = sym e ∙ e' in cc)
once os at xs ts us f g (r.fails h e) (r.token h' e' q') = absurd (let s = sym e ∙ e' in cc)
once os at xs ts us f g (r.fails h e) (r.skip h' e' q') = absurd (let s = sym e ∙ e' in cc)
once os at xs ts us f g (r.fails h e) (r.fails h' e') = (refl, refl)

-- a text has one list of tokens, and one first fault or none
pub read_once : (src : List ℕ) (ts us : List t.Token) (f g : Option ℕ) → HasTokens src ts f → HasTokens src us g → Same ts us f g
read_once src ts us f g a b = once (Outside ∷ []) 0 src ts us f g (reads (Outside ∷ []) 0 src ts f a) (reads (Outside ∷ []) 0 src us g b)

row_sooner : (at later end : ℕ) (ts : List t.Token) → at ≤ later → IsRow later end ts → IsRow at end ts
row_sooner at later end [] h q = omega arith
row_sooner at later end (x ∷ xs) h q = (omega (arith, q.0), q.1, q.2)

not_empty : (w rest : List ℕ) (o : Option Open) (at : ℕ) (what : Option TokenKind) (act : Act) → Stands o at what act w rest → 0 < length w
not_empty [] rest o at what act h = absurd (some o at what act [] rest h refl)
not_empty (b ∷ w) rest o at what act h = omega arith

in_row : (os : List Open) (at : ℕ) (xs : List ℕ) (ts : List t.Token) (fault : Option ℕ) → Lexes os at xs ts fault → IsRow at (at + length xs) ts
in_row os at xs ts fault l.ends = omega arith
in_row os at xs ts fault (l.token {tokens = us} kind act w rest e st q) =
    let k = not_empty w rest (top os) at (Some kind) act st in
    let n : (at + length w) + length rest ≡ at + length xs = omega (arith, ap length e, length-append w rest) in
    (omega arith, omega arith, subst (λ end. IsRow (at + length w) end us) n (in_row (after act os) (at + length w) rest us fault q))
in_row os at xs ts fault (l.blank act w rest e st q) =
    let n : (at + length w) + length rest ≡ at + length xs = omega (arith, ap length e, length-append w rest) in
    row_sooner at (at + length w) (at + length xs) ts (omega arith) (subst (λ end. IsRow (at + length w) end ts) n (in_row (after act os) (at + length w) rest ts fault q))
in_row os at xs ts fault (l.fails k h) = omega arith

-- the tokens of a text are slices of it, one behind the other
pub in_text : (src : List ℕ) (ts : List t.Token) (f : Option ℕ) → HasTokens src ts f → IsRow 0 (length src) ts
in_text src ts f h = let e : 0 + length src ≡ length src = omega arith in subst (λ end. IsRow 0 end ts) e (in_row (Outside ∷ []) 0 src ts f h)

row_end : (at end : ℕ) (ts : List t.Token) → IsRow at end ts → at ≤ end
row_end at end [] h = h
row_end at end (x ∷ xs) h = let w = row_end x.to end xs h.2 in omega (arith, h.0, h.1)

row_taken : (at end n : ℕ) (ts : List t.Token) → IsRow at end ts → IsRow at end (take n ts)
row_taken at end zero ts h = row_end at end ts h
row_taken at end (suc n) [] h = h
row_taken at end (suc n) (x ∷ xs) h = (h.0, h.1, row_taken x.to end n xs h.2)

row_before : (at end : ℕ) (fault : Option ℕ) (ts : List t.Token) → IsRow at end ts → IsRow at end (before fault ts)
row_before at end None ts h = h
row_before at end (Some place) ts h = row_taken at end (prefix_len (λ (token : t.Token). nat_lt token.from place) ts) ts h

-- so are those before a fault
pub front_in_text : (src : List ℕ) (ts : List t.Token) (f : Option ℕ) → HasFront src ts f → IsRow 0 (length src) ts
front_in_text src ts f h = subst (IsRow 0 (length src)) (sym h.1.1) (row_before 0 (length src) f h.0 (in_text src h.0 f h.1.0))
