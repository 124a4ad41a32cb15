-- What a form does with the first token that it meets: so a list of forms can go on as long as the next token begins one.
use Rattle.std.specs.Prelude.{Bool, true, false}
use Rattle.resin_form.specs.Form.{Begin, Named, Form, give, andthen, next, maybe, many, After, plain, limited, followed, call}

-- The form takes the token, and this follows it; or it is over before the token and gives this; or the token can't come next.
pub data Start (Token Name : Type 0) (Value : Name → Type 0) (A : Type 0) : Type 1 where
  Takes : After Token Name Value Named A → Start Token Name Value A
  Passes : A → Start Token Name Value A
  Refuses : Start Token Name Value A

module _ {Token Name : Type 0} {Value : Name → Type 0} where
  -- the same, where also a name may come first
  abbrev pub named : {b : Begin} {A : Type 0} → After Token Name Value b A → After Token Name Value Named A
  named (plain F) = plain F
  named (limited weight height F) = limited weight height (named F)
  named (followed F G) = followed (named F) G
  named (call n) = call n

  -- the second of two forms begins where the first is over
  abbrev pub then_start : {A B : Type 0} → Start Token Name Value B → (B → Start Token Name Value A) → (B → Form Token Name Value A)
      → Start Token Name Value A
  then_start (Takes F) second G = Takes (followed F G)
  then_start (Passes b) second G = second b
  then_start Refuses second G = Refuses

  abbrev pub takes_if : {A : Type 0} → Bool → After Token Name Value Named A → Start Token Name Value A → Start Token Name Value A
  takes_if true F other = Takes F
  takes_if false F other = other

  abbrev pub start : {A : Type 0} → Form Token Name Value A → Token → Start Token Name Value A
  start (give a) t = Passes a
  start (andthen F G) t = then_start (start F t) (λ b. start (G b) t) G
  start (next test F) t = takes_if (test t) (named (F t)) Refuses
  start (maybe test F a) t = takes_if (test t) (named (F t)) (Passes a)
  start (many test F a) t = takes_if (test a t) (followed (named (F a t)) (many test F)) (Passes a)

  abbrev pub is_taken : {A : Type 0} → Start Token Name Value A → Bool
  is_taken (Takes F) = true
  is_taken (Passes a) = false
  is_taken Refuses = false

  -- whether a form begins with this token
  unfoldable pub begins : {A : Type 0} → Form Token Name Value A → Token → Bool
  begins F t = is_taken (start F t)

  -- what follows the first token of F, and then G. The value stands for a token that doesn't begin F.
  abbrev pub goes_on : {A B : Type 0} → Start Token Name Value A → (A → Form Token Name Value B) → B → After Token Name Value Named B
  goes_on (Takes F) G other = followed F G
  goes_on (Passes a) G other = plain (G a)
  goes_on Refuses G other = plain (give other)

  unfoldable pub behind_first : {A B : Type 0} → Form Token Name Value A → (A → Form Token Name Value B) → B → Token → After Token Name Value Named B
  behind_first F G other t = goes_on (start F t) G other

  -- F and then G; or only this value, where the next token doesn't begin F
  abbrev pub optional : {A B : Type 0} → Form Token Name Value A → (A → Form Token Name Value B) → B → Form Token Name Value B
  optional F G other = maybe (begins F) (behind_first F G other) other
