-- What a text is to a grammar of SQL: a statement, or none, and then where the fault is.
use Rattle.std.specs.Prelude.{◌≡◌, ℕ, suc, ◌+◌, ◌<◌, ◌≤◌, ◌==◌, List, [], ◌∷◌, length, take, Result, Ok, Err, ◌⊎◌, if◌then◌else◌}
use Rattle.resin_form.specs.Meaning.{SpellsWithin}
use Rattle.resin_form.specs.Meaning as forms
use Rattle.resin_scan.specs.Bytes.{is_word_byte}
use Rattle.resin_sql_words.specs.Places.{placed}
use Rattle.resin_sql_words.specs.Forms.{Rule, rules, in_limits}
use Rattle.resin_sql.specs.Statements.{statement}
use Rattle.resin_sql.specs.declared.fault.SqlFault.{SqlFault}
use Rattle.resin_sql.specs.declared.fault.SqlFault.TheVariants.{Bad, Memory}
use Rattle.resin_sql.specs.declared.tree.Stmt.{Stmt}

-- ---- by any grammar of statements

module _ {A : Type 0} (F : Rule A) where
  -- the bytes are this statement
  abbrev pub IsText : List ℕ → A → Type 0
  IsText bytes q = SpellsWithin rules in_limits 1 F (placed 0 bytes) q []

  -- a statement, or one begun, with names and numbers of any size
  abbrev pub IsFront : List ℕ → Type 0
  IsFront bytes = forms.IsFront rules F (placed 0 bytes)

  -- the same with names and numbers within their limits
  abbrev pub IsFrontWithin : List ℕ → Type 0
  IsFrontWithin bytes = forms.IsFrontWithin rules in_limits 1 F (placed 0 bytes)

  -- the first byte at which no continuation is a statement, or the length of a text that ends too early
  pub record IsFirstFault (bytes : List ℕ) (at : ℕ) : Type 0 where
    pub in_text : at ≤ length bytes
    pub before : IsFrontWithin (take at bytes)
    pub no_longer : at < length bytes → IsFront (take (at + 1) bytes) → ⊥

  -- a name or a number that begins here is the first beyond its limit; `start`: where the one begins that some bytes end with
  pub record IsBeyond (start : List ℕ → ℕ) (bytes : List ℕ) (at : ℕ) : Type 0 where
    -- the offset of the byte with which it is
    pub last : ℕ
    pub in_text : last < length bytes
    pub before : IsFrontWithin (take last bytes)
    pub front : IsFront (take (last + 1) bytes)
    pub beyond : IsFrontWithin (take (last + 1) bytes) → ⊥
    pub starts : at ≡ start (take (last + 1) bytes)

  -- the statement that the text is, or the place of the fault where it is none
  abbrev pub AnswersBy : (List ℕ → ℕ) → List ℕ → Result A SqlFault → Type 0
  AnswersBy start bytes (Ok q) = IsText bytes q
  AnswersBy start bytes (Err (Bad at)) = ((q : A) → IsText bytes q → ⊥) × (IsFirstFault bytes at ⊎ IsBeyond start bytes at)
  AnswersBy start bytes (Err Memory) = Unit {0}

-- ---- where a word or a number begins

-- Where the word or number that ends with this byte begins, or where the next one may begin. A `-` before a number is part
-- of it. `start`: where the one that is under way began; `at`: the offset of the byte.
abbrev pub next_start : ℕ → ℕ → ℕ → ℕ
next_start start at b = if is_word_byte b then start else (if b == 45 then at else at + 1)

-- the same at the end of these bytes, of which the first has the offset `at`
abbrev pub last_start : ℕ → ℕ → List ℕ → ℕ
last_start start at [] = start
last_start start at (b ∷ bs) = last_start (next_start start at b) (suc at) bs

-- ---- by the grammar of this crate

abbrev pub IsStatement : List ℕ → Stmt → Type 0
IsStatement bytes q = IsText statement bytes q

abbrev pub Answers : List ℕ → Result Stmt SqlFault → Type 0
Answers bytes r = AnswersBy statement (last_start 0 0) bytes r
