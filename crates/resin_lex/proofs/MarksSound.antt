-- What the function finds of a mark stands there.
use Rattle.std.proofs.Common.{◌≡◌, ℕ, false, List, ◌∷◌, take, drop, Option, Some, None, refl}
use Rattle.std.specs.Prelude.{◌==◌, if◌then◌else◌}
use Rattle.resin_scan.specs.Bytes.{byte, is_digit}
use Rattle.resin_scan.proofs.Runs.{choose}
use Rattle.resin_scan.proofs.Choices.{or_no, arm, begun}
use Rattle.resin_lex.specs.declared.modes.Act.{Act}
use Rattle.resin_lex.specs.declared.modes.Step.{Step}
use Rattle.resin_lex.specs.declared.modes.Step.TheVariants.{Token, Skip, Fault}
use Rattle.resin_lex.specs.declared.token.TokenKind.{TokenKind}
use Rattle.resin_lex.specs.declared.token.Mark.TheVariants as m
use Rattle.resin_lex.specs.Kinds.{kind_of}
use Rattle.resin_lex.specs.Grammar.{Newline, crlf, cr, lf, no_newline, InCode, TagBlank, Around, InQuotes, InIndex, InProperty, IsKey, Stands, arrow_name}
use Rattle.resin_lex.specs.Grammar as g
use Rattle.resin_lex.specs.First.{first_mark, first_operator, first_equals, first_bang, first_less, first_plus, first_minus, first_dot, first_and, first_question, mark_step}

-- what a step says of the text
abbrev pub Sound : (Option TokenKind → Act → List ℕ → List ℕ → Type 0) → List ℕ → Step → Type 0
Sound S xs Fault = Unit {0}
Sound S xs (Skip n act) = S None act (take n xs) (drop n xs)
Sound S xs (Token shape n act) = S (Some (kind_of shape (take n xs))) act (take n xs) (drop n xs)

-- a longer mark or a shorter one
either_mark : (P : List ℕ → Step → Type 0) (bs : List ℕ) (next : ℕ) (long : Step) (short : List ℕ → Step) → (0 == next) ≡ false → P (next ∷ drop 1 bs) long → ((byte bs 0 == next) ≡ false → P bs (short bs)) → P bs (if byte bs 0 == next then long else short bs)
either_mark P bs next long short z f g = choose (P bs) (byte bs 0 == next) (λ h. begun (λ v. P v long) bs next z h f) g

module _ (at : ℕ) where
  sound_equals : (bs : List ℕ) → Sound (InCode at) (61 ∷ bs) (first_equals (61 ∷ bs))
  unfolding first_equals
  sound_equals bs =
      choose (Sound (InCode at) (61 ∷ bs)) (byte bs 0 == 61)
      (λ h. begun (λ v. Sound (InCode at) (61 ∷ v) (if byte v 1 == 61 then mark_step m.Identical 3 else mark_step m.Equal 2)) bs 61 refl h
      (either_mark (λ v st. Sound (InCode at) (61 ∷ 61 ∷ v) st) (drop 1 bs) 61 (mark_step m.Identical 3) (λ _. mark_step m.Equal 2) refl (g.mark m.Identical refl) (λ j. g.mark m.Equal j)))
      (λ h. either_mark (λ v st. (byte v 0 == 61) ≡ false → Sound (InCode at) (61 ∷ v) st) bs 62 (mark_step m.FatArrow 2) (λ _. mark_step m.Assign 1) refl (λ _. g.mark m.FatArrow refl) (λ j i. g.mark m.Assign (or_no (byte bs 0 == 61) _ i j)) h)

  sound_bang : (bs : List ℕ) → Sound (InCode at) (33 ∷ bs) (first_bang (33 ∷ bs))
  unfolding first_bang
  sound_bang bs =
      choose (Sound (InCode at) (33 ∷ bs)) (byte bs 0 == 61)
      (λ h. begun (λ v. Sound (InCode at) (33 ∷ v) (if byte v 1 == 61 then mark_step m.NotIdentical 3 else mark_step m.NotEqual 2)) bs 61 refl h
      (either_mark (λ v st. Sound (InCode at) (33 ∷ 61 ∷ v) st) (drop 1 bs) 61 (mark_step m.NotIdentical 3) (λ _. mark_step m.NotEqual 2) refl (g.mark m.NotIdentical refl) (λ j. g.mark m.NotEqual j)))
      (λ h. g.mark m.Not h)

  sound_less : (bs : List ℕ) → Sound (InCode at) (60 ∷ bs) (first_less (60 ∷ bs))
  unfolding first_less
  sound_less bs =
      choose (Sound (InCode at) (60 ∷ bs)) (byte bs 0 == 61)
      (λ h. begun (λ v. Sound (InCode at) (60 ∷ v) (if byte v 1 == 62 then mark_step m.Compare 3 else mark_step m.LessOrEqual 2)) bs 61 refl h
      (either_mark (λ v st. Sound (InCode at) (60 ∷ 61 ∷ v) st) (drop 1 bs) 62 (mark_step m.Compare 3) (λ _. mark_step m.LessOrEqual 2) refl (g.mark m.Compare refl) (λ j. g.mark m.LessOrEqual j)))
      (λ h. either_mark (λ v st. (byte v 0 == 61) ≡ false → Sound (InCode at) (60 ∷ v) st) bs 62 (mark_step m.LessGreater 2) (λ _. mark_step m.Less 1) refl (λ _. g.mark m.LessGreater refl) (λ j i. g.mark m.Less (or_no (byte bs 0 == 61) _ i j)) h)

  sound_plus : (bs : List ℕ) → Sound (InCode at) (43 ∷ bs) (first_plus (43 ∷ bs))
  unfolding first_plus
  sound_plus bs =
      choose (Sound (InCode at) (43 ∷ bs)) (byte bs 0 == 43)
      (λ h. begun (λ v. Sound (InCode at) (43 ∷ v) (mark_step m.Increment 2)) bs 43 refl h (g.mark m.Increment refl))
      (λ h. either_mark (λ v st. (byte v 0 == 43) ≡ false → Sound (InCode at) (43 ∷ v) st) bs 61 (mark_step m.PlusAssign 2) (λ _. mark_step m.Plus 1) refl (λ _. g.mark m.PlusAssign refl) (λ j i. g.mark m.Plus (or_no (byte bs 0 == 43) _ i j)) h)

  sound_minus : (bs : List ℕ) → Sound (InCode at) (45 ∷ bs) (first_minus (45 ∷ bs))
  unfolding first_minus
  sound_minus bs =
      choose (Sound (InCode at) (45 ∷ bs)) (byte bs 0 == 45)
      (λ h. begun (λ v. Sound (InCode at) (45 ∷ v) (mark_step m.Decrement 2)) bs 45 refl h (g.mark m.Decrement refl))
      (λ h. choose (Sound (InCode at) (45 ∷ bs)) (byte bs 0 == 61)
      (λ j. begun (λ v. Sound (InCode at) (45 ∷ v) (mark_step m.MinusAssign 2)) bs 61 refl j (g.mark m.MinusAssign refl))
      (λ j. choose (Sound (InCode at) (45 ∷ bs)) (byte bs 0 == 62)
      (λ i. begun (λ v. Sound (InCode at) (45 ∷ v) (mark_step m.Arrow 2)) bs 62 refl i (g.mark m.Arrow refl))
      (λ i. g.mark m.Minus (or_no (byte bs 0 == 45) _ h (or_no (byte bs 0 == 61) _ j i)))))

  sound_dot : (bs : List ℕ) → Sound (InCode at) (46 ∷ bs) (first_dot (46 ∷ bs))
  unfolding first_dot
  sound_dot bs =
      choose (Sound (InCode at) (46 ∷ bs)) (is_digit (byte bs 0)) (λ h. tt)
      (λ h. either_mark (λ v st. is_digit (byte v 0) ≡ false → Sound (InCode at) (46 ∷ v) st) bs 61 (mark_step m.DotAssign 2) (λ _. mark_step m.Dot 1) refl (λ _. g.mark m.DotAssign refl) (λ j i. g.mark m.Dot (or_no (byte bs 0 == 61) _ j i)) h)

  sound_and : (bs : List ℕ) → Sound (InCode at) (38 ∷ bs) (first_and (38 ∷ bs))
  unfolding first_and
  sound_and bs = either_mark (λ v st. Sound (InCode at) (38 ∷ v) st) bs 38 (mark_step m.And 2) (λ _. Fault) refl (g.mark m.And refl) (λ _. tt)

  pub sound_question : (bs : List ℕ) → (byte bs 0 == 62) ≡ false → Sound (InCode at) (63 ∷ bs) (first_question (63 ∷ bs))
  unfolding first_question
  sound_question bs i =
      choose (Sound (InCode at) (63 ∷ bs)) (byte bs 0 == 63)
      (λ h. begun (λ v. Sound (InCode at) (63 ∷ v) (if byte v 1 == 61 then mark_step m.CoalesceAssign 3 else mark_step m.Coalesce 2)) bs 63 refl h
      (either_mark (λ v st. Sound (InCode at) (63 ∷ 63 ∷ v) st) (drop 1 bs) 61 (mark_step m.CoalesceAssign 3) (λ _. mark_step m.Coalesce 2) refl (g.mark m.CoalesceAssign refl) (λ j. g.mark m.Coalesce j)))
      (λ h. g.mark m.Question (or_no (byte bs 0 == 63) _ h i))

  sound_operator : (b : ℕ) (bs : List ℕ) → Sound (InCode at) (b ∷ bs) (first_operator (b ∷ bs))
  unfolding first_operator
  sound_operator b bs =
      let P = Sound (InCode at) (b ∷ bs) in
      choose P (b == 61) (λ h. arm (λ c. Sound (InCode at) (c ∷ bs) (first_equals (c ∷ bs))) b 61 h (sound_equals bs))
      (λ _. choose P (b == 33) (λ h. arm (λ c. Sound (InCode at) (c ∷ bs) (first_bang (c ∷ bs))) b 33 h (sound_bang bs))
      (λ _. choose P (b == 60) (λ h. arm (λ c. Sound (InCode at) (c ∷ bs) (first_less (c ∷ bs))) b 60 h (sound_less bs))
      (λ _. choose P (b == 62) (λ h. arm (λ c. Sound (InCode at) (c ∷ bs) (if byte bs 0 == 61 then mark_step m.GreaterOrEqual 2 else mark_step m.Greater 1)) b 62 h (either_mark (λ v st. Sound (InCode at) (62 ∷ v) st) bs 61 (mark_step m.GreaterOrEqual 2) (λ _. mark_step m.Greater 1) refl (g.mark m.GreaterOrEqual refl) (λ j. g.mark m.Greater j)))
      (λ _. choose P (b == 43) (λ h. arm (λ c. Sound (InCode at) (c ∷ bs) (first_plus (c ∷ bs))) b 43 h (sound_plus bs))
      (λ _. choose P (b == 45) (λ h. arm (λ c. Sound (InCode at) (c ∷ bs) (first_minus (c ∷ bs))) b 45 h (sound_minus bs))
      (λ _. choose P (b == 42) (λ h. arm (λ c. Sound (InCode at) (c ∷ bs) (if byte bs 0 == 61 then mark_step m.StarAssign 2 else mark_step m.Star 1)) b 42 h (either_mark (λ v st. Sound (InCode at) (42 ∷ v) st) bs 61 (mark_step m.StarAssign 2) (λ _. mark_step m.Star 1) refl (g.mark m.StarAssign refl) (λ j. g.mark m.Star j)))
      (λ _. choose P (b == 37) (λ h. arm (λ c. Sound (InCode at) (c ∷ bs) (if byte bs 0 == 61 then mark_step m.PercentAssign 2 else mark_step m.Percent 1)) b 37 h (either_mark (λ v st. Sound (InCode at) (37 ∷ v) st) bs 61 (mark_step m.PercentAssign 2) (λ _. mark_step m.Percent 1) refl (g.mark m.PercentAssign refl) (λ j. g.mark m.Percent j)))
      (λ _. choose P (b == 46) (λ h. arm (λ c. Sound (InCode at) (c ∷ bs) (first_dot (c ∷ bs))) b 46 h (sound_dot bs))
      (λ _. choose P (b == 38) (λ h. arm (λ c. Sound (InCode at) (c ∷ bs) (first_and (c ∷ bs))) b 38 h (sound_and bs))
      (λ _. choose P (b == 124) (λ h. arm (λ c. Sound (InCode at) (c ∷ bs) (if byte bs 0 == 124 then mark_step m.Or 2 else mark_step m.Bar 1)) b 124 h (either_mark (λ v st. Sound (InCode at) (124 ∷ v) st) bs 124 (mark_step m.Or 2) (λ _. mark_step m.Bar 1) refl (g.mark m.Or refl) (λ j. g.mark m.Bar j)))
      (λ _. choose P (b == 58) (λ h. arm (λ c. Sound (InCode at) (c ∷ bs) (if byte bs 0 == 58 then mark_step m.DoubleColon 2 else mark_step m.Colon 1)) b 58 h (either_mark (λ v st. Sound (InCode at) (58 ∷ v) st) bs 58 (mark_step m.DoubleColon 2) (λ _. mark_step m.Colon 1) refl (g.mark m.DoubleColon refl) (λ j. g.mark m.Colon j)))
      (λ _. tt))))))))))))

  pub sound_mark : (b : ℕ) (bs : List ℕ) → Sound (InCode at) (b ∷ bs) (first_mark (b ∷ bs))
  unfolding first_mark
  sound_mark b bs =
      let P = Sound (InCode at) (b ∷ bs) in
      choose P (b == 59) (λ h. arm (λ c. Sound (InCode at) (c ∷ bs) (mark_step m.Semicolon 1)) b 59 h (g.mark m.Semicolon refl))
      (λ _. choose P (b == 44) (λ h. arm (λ c. Sound (InCode at) (c ∷ bs) (mark_step m.Comma 1)) b 44 h (g.mark m.Comma refl))
      (λ _. choose P (b == 41) (λ h. arm (λ c. Sound (InCode at) (c ∷ bs) (mark_step m.RightRound 1)) b 41 h (g.mark m.RightRound refl))
      (λ _. choose P (b == 91) (λ h. arm (λ c. Sound (InCode at) (c ∷ bs) (mark_step m.LeftSquare 1)) b 91 h (g.mark m.LeftSquare refl))
      (λ _. choose P (b == 93) (λ h. arm (λ c. Sound (InCode at) (c ∷ bs) (mark_step m.RightSquare 1)) b 93 h (g.mark m.RightSquare refl))
      (λ _. sound_operator b bs)))))
