-- One turn of the loops over lines.
use Rattle.std.proofs.Common.{◌≡◌, ℕ, zero, suc, ◌+◌, ◌<◌, ◌≤◌, Bool, true, false, List, [], ◌∷◌, ◌++◌, take, drop, map, length, get_or, sym, ◌∙◌, ap, subst, arith, add-one, drop-cons}
use Rattle.std.specs.Prelude.{if◌then◌else◌}
use Rattle.resin_lex.specs.Lines.{ends_line, line_ends, line_of_token}
use Rattle.resin_lex.specs.Lexes.{IsRow}
use Rattle.resin_lex.specs.declared.token.Token as t

abbrev pub one_if : Bool → ℕ
one_if b = if b then 1 else 0

-- one more byte
pub one_byte : (i : ℕ) (src : List ℕ) → i < length src → line_ends (suc i) src ≡ line_ends i src + one_if (ends_line (drop i src))
one_byte i [] h = absurd (omega arith)
one_byte zero (b ∷ xs) h = omega arith
one_byte (suc i) (b ∷ xs) h = let e = one_byte i xs (omega arith) in omega arith

module _ (i : ℕ) (src : List ℕ) (h : i < length src) where
  pub byte_ends : ends_line (drop i src) ≡ true → line_ends (i + 1) src ≡ line_ends i src + 1
  byte_ends e = ap (λ n. line_ends n src) (add-one i) ∙ one_byte i src h ∙ ap (λ b. line_ends i src + one_if b) e

  pub byte_goes : ends_line (drop i src) ≡ false → line_ends (i + 1) src ≡ line_ends i src
  byte_goes e = ap (λ n. line_ends n src) (add-one i) ∙ one_byte i src h ∙ ap (λ b. line_ends i src + one_if b) e ∙ omega arith

pub row_within : (at end : ℕ) (ts : List t.Token) → IsRow at end ts → at ≤ end
row_within at end [] h = h
row_within at end (x ∷ xs) h = let w = row_within x.to end xs h.2 in omega (arith, h.0, h.1)

row_sooner : (at later end : ℕ) (ts : List t.Token) → at ≤ later → IsRow later end ts → IsRow at end ts
row_sooner at later end [] h q = omega arith
row_sooner at later end (x ∷ xs) h q = (omega (arith, q.0), q.1, q.2)

-- what a row says of its first token
pub record RowStep (at end : ℕ) (x : t.Token) (rest : List t.Token) : Type 0 where
  pub after : at ≤ x.from
  pub within : x.from ≤ end
  pub row : IsRow x.from end rest

pub row_step : (at end : ℕ) (ts : List t.Token) (x : t.Token) (rest : List t.Token) → IsRow at end ts → ts ≡ x ∷ rest → RowStep at end x rest
row_step at end ts x rest h e =
    let r : IsRow at end (x ∷ rest) = subst (IsRow at end) e h in
    let w = row_within x.to end rest r.2 in
    record { after = r.0; within = omega (arith, r.1); row = row_sooner x.from x.to end rest (omega (arith, r.1)) r.2 }

pub front : (i : ℕ) (ts : List t.Token) (x : t.Token) → i < length ts → x ≡ get_or ts i x → drop i ts ≡ x ∷ drop (i + 1) ts
front i ts x h e = rw (add-one, drop-cons ts i x) (ap (λ (v : t.Token). v ∷ drop (suc i) ts) (sym e))

pub mapped : (src : List ℕ) (i : ℕ) (ts : List t.Token) (x : t.Token) → i < length ts → x ≡ get_or ts i x → map (line_of_token src) (take (i + 1) ts) ≡ map (line_of_token src) (take i ts) ++ line_of_token src x ∷ []
mapped src i [] x h e = absurd (omega arith)
mapped src zero (y ∷ ts) x h e = ap (λ (v : t.Token). line_of_token src v ∷ []) (sym e)
mapped src (suc i) (y ∷ ts) x h e =
    let n : suc i + 1 ≡ suc (i + 1) = omega arith in
    ap (λ k. map (line_of_token src) (take k (y ∷ ts))) n ∙ ap (λ v. line_of_token src y ∷ v) (mapped src i ts x (omega arith) e)

-- how far the loop over tokens has come
pub record LinesSoFar (src : List ℕ) (ts : List t.Token) (i at line : ℕ) (lines : List ℕ) : Type 0 where
  pub row : IsRow at (length src) (drop i ts)
  pub line_is : line ≡ 1 + line_ends at src
  pub few : line ≤ 1 + at
  pub so_far : lines ≡ map (line_of_token src) (take i ts)
