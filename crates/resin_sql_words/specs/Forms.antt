-- What the grammar of SQL is written in: forms over the bytes of a statement, each with its offset.
use Rattle.std.specs.Prelude.{ℕ, zero, suc, Bool, true, false}
use Rattle.resin_form.specs.Form.{Own, Form, give, andthen, next, After, taken, stands}
use Rattle.resin_form.specs.Reading.{Reader, read, read_after}
use Rattle.resin_form.specs.Meaning.{allows_at, reading}
use Rattle.resin_sql_words.specs.declared.cursor.Placed.{Placed}

-- The grammar has no names: brackets, which alone hold themselves, nest to a bound and are a recursion on it.
abbrev pub Value : ⊥ → Type 0
Value n = Unit {0}

abbrev pub Rule : Type 0 → Type 1
Rule A = Form Placed ⊥ Value A

abbrev pub Behind : Type 0 → Type 1
Behind A = After Placed ⊥ Value Own A

abbrev pub rules : (n : ⊥) → After Placed ⊥ Value Own (Value n)
rules n = absurd n

-- a form, and then another, which goes by the value of the first
infixl 10 ◌>>=◌
abbrev pub ◌>>=◌ : {A B : Type 0} → Rule B → (B → Rule A) → Rule A
F >>= G = andthen F G

-- a form, and then another
infixl 10 ◌>>◌
abbrev pub ◌>>◌ : {A B : Type 0} → Rule B → Rule A → Rule A
F >> G = andthen F (λ _. G)

abbrev pub either : {A : Type 0} → Bool → Rule A → Rule A → Rule A
either true F G = F
either false F G = G

-- No byte can come here. It stands only where a longer word, or one byte more, could have gone on.
abbrev pub never : {A : Type 0} → A → Rule A
never a = next (λ _. false) (λ _. taken (give a))

-- The limits of names and numbers: 0 is within them.
abbrev pub in_limits : ℕ → Bool
in_limits zero = true
in_limits (suc n) = false

-- what a byte does that keeps a name or a number within its limit, or not
abbrev pub within : {A : Type 0} → Bool → Rule A → Behind A
within true F = stands 0 (taken F)
within false F = stands 1 (taken F)

-- what the bytes begin with, by a form
abbrev pub under : {A : Type 0} → Rule A → Reader Placed A
under F = read (allows_at in_limits 1) (reading rules in_limits 1) F

-- the same behind a byte
abbrev pub behind : {A : Type 0} → Behind A → Reader Placed A
behind F = read_after (allows_at in_limits 1) (reading rules in_limits 1) F
