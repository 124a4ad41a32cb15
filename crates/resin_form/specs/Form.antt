-- Forms of a grammar as data, and what it means that tokens are a form.
--
-- A form is read from the left and chooses by the next token alone. A repetition goes on as long as the next token
-- allows. What may hold itself has a name, which stands for what follows its first token.
-- (This project: a grammar in this shape has one tree for a text, and one place where a text stops being the front of one.)
use Rattle.std.specs.Prelude.{◌≡◌, ℕ, Bool, true, false, List, [], ◌∷◌, ◌⊎◌}

-- What follows a token begins with a form of its own, or it may be a name. What a name stands for begins with its own,
-- so that no name leads to itself before a token is taken.
pub data Begin : Type 0 where
  Own : Begin
  Named : Begin

-- What a token does. It opens a construct, which begins behind it; or it is the first token of a construct, which a name
-- behind the token before it has begun; or it only stands to the right of a tree.
pub data Weight : Type 0 where
  Opens : Weight
  Enters : Weight
  Stands : Weight

mutual
  -- A form gives a value of type A. `Value n` is the type of what the name n gives.
  pub data Form (Token Name : Type 0) (Value : Name → Type 0) : Type 0 → Type 1 where
    -- nothing, which gives this value
    give : {A : Type 0} → A → Form Token Name Value A
    -- one form, and then another, which may go by the value of the first
    andthen : {A B : Type 0} → Form Token Name Value B → (B → Form Token Name Value A) → Form Token Name Value A
    -- a token that passes the test, and then what follows it
    next : {begin : Begin} {A : Type 0} → (Token → Bool) → (Token → After Token Name Value begin A) → Form Token Name Value A
    -- the same, or nothing where the next token doesn't pass
    maybe : {begin : Begin} {A : Type 0} → (Token → Bool) → (Token → After Token Name Value begin A) → A → Form Token Name Value A
    -- the same again and again, as long as the next token passes
    many : {begin : Begin} {A : Type 0} → (A → Token → Bool) → (A → Token → After Token Name Value begin A) → A → Form Token Name Value A

  -- what follows a token
  pub data After (Token Name : Type 0) (Value : Name → Type 0) : Begin → Type 0 → Type 1 where
    plain : {b : Begin} {A : Type 0} → Form Token Name Value A → After Token Name Value b A
    -- the token opens or enters a construct, or only stands there, to the right of a tree of this height
    limited : {b : Begin} {A : Type 0} → Weight → ℕ → After Token Name Value b A → After Token Name Value b A
    -- this, and then another form, which may go by its value
    followed : {b : Begin} {A B : Type 0} → After Token Name Value b B → (B → Form Token Name Value A) → After Token Name Value b A
    -- What the name stands for, one construct deeper. The construct is opened by the token before, or it is entered by
    -- its own first token.
    call : (n : Name) → After Token Name Value Named (Value n)

-- the next token, if there is one, doesn't pass
abbrev pub EndsBefore : {Token : Type 0} → (Token → Bool) → List Token → Type 0
EndsBefore test [] = Unit {0}
EndsBefore test (t ∷ ts) = test t ≡ false

-- how a value and a token, and what the tokens behind it begin with, make the next value and what is left
abbrev pub Step : Type 0 → Type 0 → Type 1
Step Token A = A → Token → List Token → A → List Token → Type 0

-- a step again and again, as long as the next token passes
pub data Many {Token A : Type 0} (test : A → Token → Bool) (step : Step Token A) : A → List Token → A → List Token → Type 0 where
  done : {a : A} {ts : List Token} → EndsBefore (test a) ts → Many test step a ts a ts
  more : {a b v : A} {t : Token} {ts mid rest : List Token} → test a t ≡ true → step a t ts b mid → Many test step b mid v rest
      → Many test step a (t ∷ ts) v rest

-- the same, where the last step is begun and isn't whole
pub data ManyBegins {Token A : Type 0} (test : A → Token → Bool) (step : Step Token A) (begins : A → Token → List Token → Type 0)
    : A → List Token → Type 0 where
  inside : {a : A} {t : Token} {w : List Token} → test a t ≡ true → begins a t w → ManyBegins test step begins a (t ∷ w)
  after : {a b : A} {t : Token} {w mid : List Token} → test a t ≡ true → step a t w b mid → ManyBegins test step begins b mid
      → ManyBegins test step begins a (t ∷ w)

-- a token, and then this
abbrev pub taken : {Token Name : Type 0} {Value : Name → Type 0} {A : Type 0} → Form Token Name Value A → After Token Name Value Own A
taken F = plain F

-- the token opens a construct, to the right of a tree of this height
abbrev pub opens : {Token Name : Type 0} {Value : Name → Type 0} {b : Begin} {A : Type 0} → ℕ → After Token Name Value b A
    → After Token Name Value b A
opens height F = limited Opens height F

-- the token is the first of a construct, which the name for it has begun
abbrev pub enters : {Token Name : Type 0} {Value : Name → Type 0} {b : Begin} {A : Type 0} → After Token Name Value b A → After Token Name Value b A
enters F = limited Enters 0 F

-- the token opens nothing, and stands to the right of a tree of this height
abbrev pub stands : {Token Name : Type 0} {Value : Name → Type 0} {b : Begin} {A : Type 0} → ℕ → After Token Name Value b A
    → After Token Name Value b A
stands height F = limited Stands height F

-- `allows`: whether a construct may open or be entered, or a token stand, to the right of a tree of this height;
-- `Called`: what the names spell
module _ {Token Name : Type 0} {Value : Name → Type 0} (allows : Weight → ℕ → Bool)
    (Called : (n : Name) → List Token → Value n → List Token → Type 0) where
  abbrev mutual
    -- `Spells F ts v rest`: ts begin with the form F, which gives v, and go on with rest
    pub Spells : {A : Type 0} → Form Token Name Value A → List Token → A → List Token → Type 0
    Spells (give a) ts v rest = (v ≡ a) × (rest ≡ ts)
    Spells (andthen {B = B} F G) ts v rest = (b : B) × (mid : List Token) × Spells F ts b mid × Spells (G b) mid v rest
    Spells (next test F) [] v rest = ⊥
    Spells (next test F) (t ∷ ts) v rest = (test t ≡ true) × SpellsAfter (F t) ts v rest
    Spells (maybe test F a) [] v rest = (v ≡ a) × (rest ≡ [])
    Spells (maybe test F a) (t ∷ ts) v rest = ((test t ≡ true) × SpellsAfter (F t) ts v rest) ⊎ ((test t ≡ false) × (v ≡ a) × (rest ≡ t ∷ ts))
    Spells (many test F a) ts v rest = Many test (λ b t. SpellsAfter (F b t)) a ts v rest

    pub SpellsAfter : {b : Begin} {A : Type 0} → After Token Name Value b A → List Token → A → List Token → Type 0
    SpellsAfter (plain F) ts v rest = Spells F ts v rest
    SpellsAfter (limited weight height F) ts v rest = (allows weight height ≡ true) × SpellsAfter F ts v rest
    SpellsAfter (followed {B = B} F G) ts v rest = (b : B) × (mid : List Token) × SpellsAfter F ts b mid × Spells (G b) mid v rest
    SpellsAfter (call n) ts v rest = Called n ts v rest

  module _ (CalledBegins : Name → List Token → Type 0) where
    abbrev mutual
      -- `Begins F w`: w is begun as F asks and isn't a whole F yet
      pub Begins : {A : Type 0} → Form Token Name Value A → List Token → Type 0
      Begins (give a) w = ⊥
      Begins (andthen {B = B} F G) w = Begins F w ⊎ ((b : B) × (mid : List Token) × Spells F w b mid × Begins (G b) mid)
      Begins (next test F) [] = Unit {0}
      Begins (next test F) (t ∷ w) = (test t ≡ true) × BeginsAfter (F t) w
      Begins (maybe test F a) [] = ⊥
      Begins (maybe test F a) (t ∷ w) = (test t ≡ true) × BeginsAfter (F t) w
      Begins (many test F a) w = ManyBegins test (λ b t. SpellsAfter (F b t)) (λ b t. BeginsAfter (F b t)) a w

      pub BeginsAfter : {b : Begin} {A : Type 0} → After Token Name Value b A → List Token → Type 0
      BeginsAfter (plain F) w = Begins F w
      BeginsAfter (limited weight height F) w = (allows weight height ≡ true) × BeginsAfter F w
      BeginsAfter (followed {B = B} F G) w = BeginsAfter F w ⊎ ((b : B) × (mid : List Token) × SpellsAfter F w b mid × Begins (G b) mid)
      BeginsAfter (call n) w = CalledBegins n w
