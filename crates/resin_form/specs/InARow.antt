-- Forms in a row, and one of two forms, as grammars are written with them.
use Rattle.std.specs.Prelude.{Bool, true, false, Option, Some, None}
use Rattle.resin_form.specs.Form.{Begin, Form, give, andthen, After}

-- one form, and then another, which goes by the value of the first
infixl 10 ◌>>=◌
abbrev pub ◌>>=◌ : {Token Name : Type 0} {Value : Name → Type 0} {A B : Type 0}
    → Form Token Name Value B → (B → Form Token Name Value A) → Form Token Name Value A
F >>= G = andthen F G

-- one form, and then another
infixl 10 ◌>>◌
abbrev pub ◌>>◌ : {Token Name : Type 0} {Value : Name → Type 0} {A B : Type 0}
    → Form Token Name Value B → Form Token Name Value A → Form Token Name Value A
F >> G = andthen F (λ _. G)

-- one of two forms
abbrev pub either : {Token Name : Type 0} {Value : Name → Type 0} {A : Type 0}
    → Bool → Form Token Name Value A → Form Token Name Value A → Form Token Name Value A
either true F G = F
either false F G = G

-- one of two ways to go on behind a token
abbrev pub one_of : {Token Name : Type 0} {Value : Name → Type 0} {b : Begin} {A : Type 0}
    → Bool → After Token Name Value b A → After Token Name Value b A → After Token Name Value b A
one_of true F G = F
one_of false F G = G

-- what a form before gave, or else this form
abbrev pub or_else : {Token Name : Type 0} {Value : Name → Type 0} {A : Type 0}
    → Form Token Name Value A → Option A → Form Token Name Value A
or_else F (Some a) = give a
or_else F None = F
