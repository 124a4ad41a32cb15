-- Queries with other texts between their quotes, and statements but for what their text literals hold.
use Rattle.std.specs.Prelude.{◌≡◌, ℕ, suc, ◌+◌, false, ◌==◌, List, [], ◌∷◌, ◌++◌, length, map, Option, Some, None, if◌then◌else◌}
use Rattle.std.specs.List.{flat_map}
use Rattle.resin_scan.specs.Lists.{NotBefore}
use Rattle.resin_sql_words.specs.declared.literals.Literal.{Literal}
use Rattle.resin_sql_words.specs.declared.literals.Literal.TheVariants as l
use Rattle.resin_sql_words.specs.declared.literals.Span.{Span}
use Rattle.resin_sql.specs.Literals.{literals}
use Rattle.resin_sql.specs.declared.tree.Change.{Change}
use Rattle.resin_sql.specs.declared.tree.Condition.{Condition, Condition-F, fold-Condition}
use Rattle.resin_sql.specs.declared.tree.Condition.TheVariants as c
use Rattle.resin_sql.specs.declared.tree.Stmt.{Stmt}
use Rattle.resin_sql.specs.declared.tree.Stmt.TheVariants as s
use Rattle.resin_sql.specs.declared.tree.Test.{Test}
use Rattle.resin_sql.specs.declared.tree.Test.TheVariants as t
use Rattle.resin_guard.specs.Pages.{Places}

-- bytes with every quote doubled
abbrev pub doubled : List ℕ → List ℕ
doubled [] = []
doubled (b ∷ w) = if b == 39 then 39 ∷ 39 ∷ doubled w else b ∷ doubled w

-- The second text is the first with other bytes between its quotes: any bytes, with every quote doubled.
pub data Requoted : List ℕ → List ℕ → Type 0 where
  done : Requoted [] []
  same : {b : ℕ} {r s : List ℕ} → (b == 39) ≡ false → Requoted r s → Requoted (b ∷ r) (b ∷ s)
  other : (w v : List ℕ) {r s bs cs : List ℕ} → bs ≡ doubled w ++ 39 ∷ r → cs ≡ doubled v ++ 39 ∷ s → NotBefore (λ b. b == 39) r
      → Requoted r s → Requoted (39 ∷ bs) (39 ∷ cs)

-- where the bytes between its quotes stand, in the first text, which begins at the offset n
abbrev pub stretches : ℕ → {bs cs : List ℕ} → Requoted bs cs → Places
stretches n done = []
stretches n (same ne q) = stretches (suc n) q
stretches n (other w v e f z q) = (suc n, suc n + length (doubled w)) ∷ stretches (suc (suc n + length (doubled w))) q

-- where a text literal stands, without its quotes
abbrev pub of_text : Literal → Places
of_text l.Null = []
of_text (l.Integer value span) = []
of_text (l.Text span) = (span.from, span.to) ∷ []

-- what other texts take the place of in a statement are its text literals, and no more
abbrev pub RequotesTexts : (List ℕ → Stmt → Type 0) → Type 0
RequotesTexts IsStatement =
    (bytes others : List ℕ) (q : Stmt) → IsStatement bytes q → (r : Requoted bytes others)
    → stretches 0 r ≡ flat_map of_text (literals q)

-- ---- a statement without what its text literals hold, and without where its literals stand

abbrev pub nowhere : Span
nowhere = record { from = 0; to = 0 }

abbrev pub shape_of_literal : Literal → Literal
shape_of_literal l.Null = l.Null
shape_of_literal (l.Integer value span) = l.Integer value nowhere
shape_of_literal (l.Text span) = l.Text nowhere

abbrev pub shape_of_test : Test → Test
shape_of_test (t.Compare column op literal) = t.Compare column op (shape_of_literal literal)
shape_of_test (t.Null column negated) = t.Null column negated

-- one level, with the shapes of its parts
abbrev pub shape_of_level : Condition-F Condition → Condition
shape_of_level (Condition-F.Test test) = c.Test (shape_of_test test)
shape_of_level (Condition-F.All parts) = c.All parts
shape_of_level (Condition-F.Any parts) = c.Any parts

unfoldable pub shape_of_condition : Condition → Condition
shape_of_condition = fold-Condition Condition shape_of_level

abbrev pub shape_of_where : Option Condition → Option Condition
shape_of_where None = None
shape_of_where (Some condition) = Some (shape_of_condition condition)

abbrev pub shape_of_change : Change → Change
shape_of_change x = record { column = x.column; literal = shape_of_literal x.literal }

abbrev pub shape_of_rows : List (List Literal) → List (List Literal)
shape_of_rows rows = map (λ row. map shape_of_literal row) rows

abbrev pub shape_of : Stmt → Stmt
shape_of (s.Create x) = s.Create x
shape_of (s.Insert x) = s.Insert (record { table = x.table; columns = x.columns; rows = shape_of_rows x.rows })
shape_of (s.Select x) =
    s.Select (record { columns = x.columns; table = x.table; condition = shape_of_where x.condition; order = x.order; limit = x.limit })
shape_of (s.Update x) = s.Update (record { table = x.table; changes = map shape_of_change x.changes; condition = shape_of_where x.condition })
shape_of (s.Delete x) = s.Delete (record { table = x.table; condition = shape_of_where x.condition })

-- a statement with other texts between its quotes is a statement that differs in text literals alone
abbrev pub KeepsStatement : (List ℕ → Stmt → Type 0) → Type 0
KeepsStatement IsStatement =
    (bytes others : List ℕ) (q : Stmt) → IsStatement bytes q → Requoted bytes others
    → (p : Stmt) × IsStatement others p × (shape_of p ≡ shape_of q)
