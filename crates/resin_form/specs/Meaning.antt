-- Which tokens are a form, and which are the front of one, for any rules of the names.
use Rattle.std.specs.Prelude.{◌≡◌, ℕ, zero, suc, Bool, true, false, List, [], ◌∷◌, ◌++◌, ◌⊎◌}
use Rattle.resin_form.specs.Form.{Own, Weight, Opens, Enters, Stands, Form, After, Spells, SpellsAfter, Begins, BeginsAfter}
use Rattle.resin_form.specs.Reading.{Reader, Deep, read, read_after}

-- Whether a token may do this where the depth is one more than the constructs that may still open in one another. At 1
-- nothing may open. At 0 a name has begun a construct past the limit: its first token, which would enter it, may not.
-- `allows`: the heights of the trees that an operator may take on its left.
abbrev pub allows_at : (ℕ → Bool) → ℕ → Weight → ℕ → Bool
allows_at allows zero Opens height = false
allows_at allows zero Enters height = false
allows_at allows zero Stands height = allows height
allows_at allows (suc zero) Opens height = false
allows_at allows (suc zero) Enters height = allows height
allows_at allows (suc zero) Stands height = allows height
allows_at allows (suc (suc depth)) weight height = allows height

abbrev pub always : ℕ → Bool
always = λ _. true

module _ {Token Name : Type 0} {Value : Name → Type 0} (rules : (n : Name) → After Token Name Value Own (Value n)) where
  module _ (allows : ℕ → Bool) where
    -- `NameSpells depth n ts v rest`: ts begin with what the name n stands for and go on with rest; with the construct
    -- of the name itself, fewer than `depth` constructs are open in one another there
    unfoldable pub NameSpells : ℕ → (n : Name) → List Token → Value n → List Token → Type 0
    NameSpells zero n ts v rest = ⊥
    NameSpells (suc depth) n ts v rest = SpellsAfter (allows_at allows depth) (NameSpells depth) (rules n) ts v rest

    -- w is begun as such, and isn't whole
    unfoldable pub NameBegins : ℕ → Name → List Token → Type 0
    NameBegins zero n w = ⊥
    NameBegins (suc depth) n w = BeginsAfter (allows_at allows depth) (NameSpells depth) (NameBegins depth) (rules n) w

    unfoldable pub reading : ℕ → (n : Name) → Reader Token (Value n)
    reading zero n ts = Deep ts
    reading (suc depth) n ts = read_after (allows_at allows depth) (reading depth) (rules n) ts

    -- a form in which fewer than `depth` constructs are open in one another
    abbrev pub SpellsWithin : {A : Type 0} → ℕ → Form Token Name Value A → List Token → A → List Token → Type 0
    SpellsWithin depth F = Spells (allows_at allows depth) (NameSpells depth) F

    abbrev pub BeginsWithin : {A : Type 0} → ℕ → Form Token Name Value A → List Token → Type 0
    BeginsWithin depth F = Begins (allows_at allows depth) (NameSpells depth) (NameBegins depth) F

    abbrev pub IsFrontWithin : {A : Type 0} → ℕ → Form Token Name Value A → List Token → Type 0
    IsFrontWithin {A} depth F w = BeginsWithin depth F w ⊎ ((v : A) × SpellsWithin depth F w v [])

    abbrev pub reading_of : {A : Type 0} → ℕ → Form Token Name Value A → Reader Token A
    reading_of depth F = read (allows_at allows depth) (reading depth) F

  module _ {A : Type 0} (F : Form Token Name Value A) where
    -- a front of the form, without limits
    abbrev pub IsFront : List Token → Type 0
    IsFront w = (depth : ℕ) × IsFrontWithin always depth F w

    -- the tokens are the form and give this value, without limits
    abbrev pub IsTree : List Token → A → Type 0
    IsTree w v = (depth : ℕ) × SpellsWithin always depth F w v []

    -- ts are u and then rest, and no longer run of ts than u is a front of the form
    pub record EndsLongest (ts u rest : List Token) : Type 0 where
      pub text : ts ≡ u ++ rest
      pub longest : (t : Token) (more after : List Token) → rest ≡ (t ∷ more) ++ after → IsFront (u ++ t ∷ more) → ⊥

    module _ (allows : ℕ → Bool) (depth : ℕ) where
      -- the longest front is the form and gives this value, within the limits
      pub record IsRead (ts : List Token) (v : A) (rest : List Token) : Type 0 where
        pub front : List Token
        pub ends : EndsLongest ts front rest
        pub tree : SpellsWithin allows depth F front v []

      -- the longest front isn't the form, and it is begun within the limits
      pub record IsRefused (ts rest : List Token) : Type 0 where
        pub front : List Token
        pub ends : EndsLongest ts front rest
        pub begins : BeginsWithin allows depth F front
        pub no_tree : (v : A) → IsTree front v → ⊥

      -- what comes before rest is a front, not within the limits, though each shorter one is
      pub record IsTooDeep (ts rest : List Token) : Type 0 where
        pub front : List Token
        pub text : ts ≡ front ++ rest
        pub is_front : IsFront front
        pub too_deep : IsFrontWithin allows depth F front → ⊥
        pub first : (u more : List Token) (t : Token) → front ≡ u ++ t ∷ more → IsFrontWithin allows depth F u
