-- What a step tells of the text that it looked at.
use Rattle.std.proofs.Common.{◌≡◌, ℕ, ◌+◌, ◌-◌, List, [], ◌++◌, take, drop, length, Option, Some, None, sym, ◌∙◌, ap, arith, append-nil, length-append}
use Rattle.resin_scan.proofs.Runs.{take_front, drop_front}
use Rattle.resin_lex.specs.declared.modes.Act.{Act}
use Rattle.resin_lex.specs.declared.modes.Shape.{Shape}
use Rattle.resin_lex.specs.declared.modes.Step.{Step}
use Rattle.resin_lex.specs.declared.modes.Step.TheVariants.{Token, Skip, Fault}
use Rattle.resin_lex.specs.declared.token.TokenKind.{TokenKind}
use Rattle.resin_lex.specs.Kinds.{kind_of, inside}

-- what stands there, how long it is, and what it opens or closes
abbrev pub Tale : Type 0
Tale = Option (Option TokenKind × ℕ × Act)

abbrev pub told : List ℕ → Step → Tale
told xs Fault = None
told xs (Skip n act) = Some (None, n, act)
told xs (Token shape n act) = Some (Some (kind_of shape (take n xs)), n, act)

pub told_token : (w rest : List ℕ) (s : Step) (shape : Shape) (kind : TokenKind) (act : Act) → s ≡ Token shape (length w) act → kind_of shape w ≡ kind → told (w ++ rest) s ≡ Some (Some kind, length w, act)
told_token w rest s shape kind act e m = ap (told (w ++ rest)) e ∙ ap (λ v. Some (Some (kind_of shape v), length w, act)) (take_front w rest) ∙ ap (λ k. Some (Some k, length w, act)) m

pub told_skip : (w rest : List ℕ) (s : Step) (act : Act) → s ≡ Skip (length w) act → told (w ++ rest) s ≡ Some (None, length w, act)
told_skip w rest s act e = ap (told (w ++ rest)) e

-- A step that tells of a token takes one.
pub record TakesToken (xs : List ℕ) (s : Step) (kind : TokenKind) (n : ℕ) (act : Act) : Type 0 where
  pub shape : Shape
  pub step : s ≡ Token shape n act
  pub spelled : kind_of shape (take n xs) ≡ kind

pub takes_token : (xs : List ℕ) (s : Step) (kind : TokenKind) (n : ℕ) (act : Act) → told xs s ≡ Some (Some kind, n, act) → TakesToken xs s kind n act
takes_token xs Fault kind n act e = absurd (cc)
takes_token xs (Skip m a) kind n act e = absurd (let f : ◌≡◌ {A = Option TokenKind × ℕ × Act} (None, m, a) (Some kind, n, act) = cc in let g : ◌≡◌ {A = Option TokenKind} None (Some kind) = ap (λ (t : Option TokenKind × ℕ × Act). t.0) f in cc)
takes_token xs (Token shape m a) kind n act e =
    let f : ◌≡◌ {A = Option TokenKind × ℕ × Act} (Some (kind_of shape (take m xs)), m, a) (Some kind, n, act) = cc in
    let f0 : ◌≡◌ {A = Option TokenKind} (Some (kind_of shape (take m xs))) (Some kind) = ap (λ (t : Option TokenKind × ℕ × Act). t.0) f in
    let f1 : m ≡ n = ap (λ (t : Option TokenKind × ℕ × Act). t.1) f in
    let f2 : a ≡ act = ap (λ (t : Option TokenKind × ℕ × Act). t.2) f in
    let g : kind_of shape (take m xs) ≡ kind = cc in
    record { shape = shape; step = cc; spelled = ap (λ k. kind_of shape (take k xs)) (sym f1) ∙ g }

pub takes_none : (xs : List ℕ) (s : Step) (n : ℕ) (act : Act) → told xs s ≡ Some (None, n, act) → s ≡ Skip n act
takes_none xs Fault n act e = absurd (cc)
takes_none xs (Token shape m a) n act e = absurd (let f : ◌≡◌ {A = Option TokenKind × ℕ × Act} (Some (kind_of shape (take m xs)), m, a) (None, n, act) = cc in let g : ◌≡◌ {A = Option TokenKind} (Some (kind_of shape (take m xs))) None = ap (λ (t : Option TokenKind × ℕ × Act). t.0) f in cc)
takes_none xs (Skip m a) n act e =
    let f : ◌≡◌ {A = Option TokenKind × ℕ × Act} (None, m, a) (None, n, act) = cc in
    let f1 : m ≡ n = ap (λ (t : Option TokenKind × ℕ × Act). t.1) f in
    let f2 : a ≡ act = ap (λ (t : Option TokenKind × ℕ × Act). t.2) f in
    cc

-- the bytes between those in front and those behind
pub inside_both : (a b c : List ℕ) → inside (length a) (length c) (a ++ (b ++ c)) ≡ b
inside_both a b c =
    let e : length (a ++ (b ++ c)) - (length a + length c) ≡ length b = omega (arith, length-append a (b ++ c), length-append b c) in
    ap (λ n. take n (drop (length a) (a ++ (b ++ c)))) e ∙ ap (take (length b)) (drop_front a (b ++ c)) ∙ take_front b c

pub inside_front : (a b : List ℕ) → inside (length a) 0 (a ++ b) ≡ b
inside_front a b = ap (inside (length a) 0) (ap (λ v. a ++ v) (sym (append-nil b))) ∙ inside_both a b []
