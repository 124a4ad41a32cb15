-- A step of a repetition from its first token on.
use Rattle.std.proofs.Common.{◌≡◌, ℕ, Bool, true, List, [], ◌∷◌, drop, Some, ◌∙◌, ap}
use Rattle.resin_form.specs.Form.{Own, Named, Form, andthen, next, followed, After}
use Rattle.resin_form.specs.Meaning.{allows_at, reading}
use Rattle.resin_form.specs.Reading.{Reader, and_then, read, read_after}
use Rattle.resin_form.specs.Reads.{first}
use Rattle.resin_form.proofs.Cases.{if_true}

pub first_tail : {Token : Type 0} (old : List Token) (t : Token) → first old ≡ Some t → old ≡ t ∷ drop 1 old
first_tail [] t e = cc
first_tail (x ∷ xs) t e = (let same : x ≡ t = cc in ap (λ y. y ∷ xs) same)

module _ {Token Name : Type 0} {Value : Name → Type 0} (rules : (n : Name) → After Token Name Value Own (Value n)) (allows : ℕ → Bool) (depth : ℕ) where
  abbrev under : {A : Type 0} → Form Token Name Value A → Reader Token A
  under F = read (allows_at allows depth) (reading rules allows depth) F

  abbrev behind : {A : Type 0} → After Token Name Value Named A → Reader Token A
  behind F = read_after (allows_at allows depth) (reading rules allows depth) F

  module _ {A B : Type 0} (p : Token → Bool) (F : Token → After Token Name Value Named B) (G : B → Form Token Name Value A) where
    step_at : (t : Token) (ts : List Token) → p t ≡ true → under (andthen (next p F) G) (t ∷ ts) ≡ behind (followed (F t) G) ts
    step_at t ts h = ap (λ o. and_then o (λ b rest. under (G b) rest)) (if_true (behind (F t) ts) _ h)

    pub step : (t : Token) (old : List Token) → first old ≡ Some t → p t ≡ true → under (andthen (next p F) G) old ≡ behind (followed (F t) G) (drop 1 old)
    step t old e h = ap (under (andthen (next p F) G)) (first_tail old t e) ∙ step_at t (drop 1 old) h
