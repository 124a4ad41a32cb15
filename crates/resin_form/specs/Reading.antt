-- Reading a form from the front of a list of tokens.
use Rattle.std.specs.Prelude.{ℕ, zero, suc, Bool, List, [], ◌∷◌, length, if◌then◌else◌}
use Rattle.resin_form.specs.Form.{Begin, Form, give, andthen, next, maybe, many, Weight, After, plain, limited, followed, call}

-- what reading comes to: a value, no token that can come next, or a limit; and the tokens that are left
pub data Outcome (Token A : Type 0) : Type 0 where
  Got : A → List Token → Outcome Token A
  Stop : List Token → Outcome Token A
  Deep : List Token → Outcome Token A

abbrev pub Reader : Type 0 → Type 0 → Type 0
Reader Token A = List Token → Outcome Token A

abbrev pub left : {Token A : Type 0} → Outcome Token A → List Token
left (Got a rest) = rest
left (Stop rest) = rest
left (Deep rest) = rest

abbrev pub and_then : {Token A B : Type 0} → Outcome Token B → (B → Reader Token A) → Outcome Token A
and_then (Got b rest) f = f b rest
and_then (Stop rest) f = Stop rest
and_then (Deep rest) f = Deep rest

-- The number bounds the turns.
abbrev pub loop : {Token A : Type 0} → (A → Token → Bool) → (A → Token → Reader Token A) → ℕ → A → Reader Token A
loop test step zero a ts = Got a ts
loop test step (suc n) a [] = Got a []
loop test step (suc n) a (t ∷ ts) = if test a t then and_then (step a t ts) (loop test step n) else Got a (t ∷ ts)

module _ {Token Name : Type 0} {Value : Name → Type 0} (allows : Weight → ℕ → Bool) (calls : (n : Name) → Reader Token (Value n)) where
  abbrev mutual
    pub read : {A : Type 0} → Form Token Name Value A → Reader Token A
    read (give a) ts = Got a ts
    read (andthen F G) ts = and_then (read F ts) (λ b rest. read (G b) rest)
    read (next test F) [] = Stop []
    read (next test F) (t ∷ ts) = if test t then read_after (F t) ts else Stop (t ∷ ts)
    read (maybe test F a) [] = Got a []
    read (maybe test F a) (t ∷ ts) = if test t then read_after (F t) ts else Got a (t ∷ ts)
    read (many test F a) ts = loop test (λ b t. read_after (F b t)) (length ts) a ts

    pub read_after : {b : Begin} {A : Type 0} → After Token Name Value b A → Reader Token A
    read_after (plain F) ts = read F ts
    read_after (limited weight height F) ts = if allows weight height then read_after F ts else Deep ts
    read_after (followed F G) ts = and_then (read_after F ts) (λ b rest. read (G b) rest)
    read_after (call n) ts = calls n ts
