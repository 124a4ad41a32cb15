-- `SELECT q, .. FROM t JOIN u ON q = q`, then optionally WHERE and LIMIT, as a form over bytes. A column q is named with its table, `t.c`.
use Rattle.std.specs.Prelude.{ℕ, Bool, true, false, not, ◌&&◌, ◌||◌, ◌==◌, List, [], ◌∷◌, ◌++◌, codes}
use Rattle.std.specs.List.{before_first}
use Rattle.std.specs.Str.{bytes_eq}
use Rattle.resin_form.specs.Form.{give, next, many, taken}
use Rattle.resin_scan.specs.Bytes.{is_letter}
use Rattle.resin_sql_words.specs.Forms.{Rule, Behind, ◌>>=◌, ◌>>◌, within}
use Rattle.resin_sql_words.specs.Words.{Ended, gap, keyword, sign, name, named}
use Rattle.resin_sql.specs.Conditions.{column_of, with_table}
use Rattle.resin_sql.specs.Statements.{Columns, is_comma, source, chosen, limit}
use Rattle.resin_joint.specs.declared.tree.JoinStmt.{JoinStmt}

abbrev pub is_dot : ℕ → Bool
is_dot b = b == 46

-- the table in `t.c`: a name has no `.`
abbrev pub table_of : List ℕ → List ℕ
table_of name = before_first is_dot name

-- a column with its table, where a word may begin
unfoldable pub place : Bool → Rule (Ended (List ℕ))
place free = next (λ t. is_letter t.byte && free) (λ t. taken (with_table t.byte))

unfoldable pub one_more_place : List (List ℕ) → Rule Columns
one_more_place names = gap >> place true >>= λ n. give (names ++ n.0 ∷ [], n.1)

unfoldable pub more_places : Columns → Rule Columns
more_places s = many (λ _ t. is_comma t.byte) (λ s _. taken (one_more_place s.0)) s

-- the columns, behind the table of the first and its `.`
unfoldable pub places_from : List ℕ → Rule Columns
places_from t = column_of t >>= λ n. more_places (n.0 ∷ [], n.1)

-- ---- ON

-- Whether a second column of the table y is on the side of the first, p, in a join of t with u. A join of a table with itself has no sides.
abbrev pub is_one_sided : List ℕ → List ℕ → List ℕ → List ℕ → Bool
is_one_sided t u p y = bytes_eq (table_of p) y && (bytes_eq (table_of p) t || bytes_eq (table_of p) u) && not (bytes_eq t u)

-- Behind the `.` of the second column. One on the first's side is beyond a limit, with this `.`: it goes before any later fault.
abbrev pub other_side : List ℕ → List ℕ → List ℕ → List ℕ → Behind (Ended (List ℕ))
other_side t u p y = within (not (is_one_sided t u p y)) (column_of y)

-- the second column, from its first byte on
unfoldable pub other_from : List ℕ → List ℕ → List ℕ → ℕ → Rule (Ended (List ℕ))
other_from t u p b = name b >>= λ y. next (λ d. d.byte == 46) (λ _. other_side t u p y)

unfoldable pub other_place : List ℕ → List ℕ → List ℕ → Rule (Ended (List ℕ))
other_place t u p = next (λ b. is_letter b.byte) (λ b. taken (other_from t u p b.byte))

-- behind ON: its two columns
unfoldable pub equated : List ℕ → List ℕ → Bool → Rule (Ended (List ℕ × List ℕ))
equated t u free = place free >>= λ p. sign 61 >> other_place t u p.0 >>= λ q. give ((p.0, q.0), q.1)

-- ---- the whole

-- JOIN, the other table and ON, behind the table t
unfoldable pub other_table : Ended (List ℕ) → Rule (List ℕ × Ended (List ℕ × List ℕ))
other_table t = keyword t.1 106 (codes "oin") >>= named >>= λ u. keyword u.1 111 (codes "n") >>= equated t.0 u.0 >>= λ o. give (u.0, o)

-- behind the columns
unfoldable pub join_of : Columns → Rule JoinStmt
join_of cs = source cs.1 >>= λ t. other_table t >>= λ u. chosen with_table false u.1.1 >>= λ w. limit w.1.0 >>= λ l.
    give (record { columns = cs.0; table = t.0; joined = u.0; on = u.1.0; condition = w.0; limit = l })

-- behind the table of the first column and its `.`
unfoldable pub join : List ℕ → Rule JoinStmt
join t = places_from t >>= join_of
