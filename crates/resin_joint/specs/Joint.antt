-- The joint grammar: the statements of resin_sql, joins and totals. A SELECT is one of the three by its first item: a column with its table
-- is a join's, a function of cells with its bracket a total's, any other a plain SELECT's.
use Rattle.std.specs.Prelude.{ℕ, Bool, true, false, ◌&&◌, ◌||◌, ◌==◌, List, [], ◌∷◌, codes, Option, Some, None, is_some}
use Rattle.resin_form.specs.Form.{give, next, maybe, taken}
use Rattle.resin_scan.specs.Bytes.{is_letter, lower}
use Rattle.resin_sql_words.specs.Forms.{Rule, ◌>>=◌, ◌>>◌, either, never}
use Rattle.resin_sql_words.specs.Words.{Ended, gap, word, name, name_from}
use Rattle.resin_sql.specs.Statements.{begins_statement, begun_by, more_names, star, source, chosen, ordering, limit, ending}
use Rattle.resin_sql.specs.declared.tree.Stmt.TheVariants as s
use Rattle.resin_joint.specs.Joins.{join}
use Rattle.resin_joint.specs.Totals.{function_of, total}
use Rattle.resin_joint.specs.declared.tree.Function.{Function}
use Rattle.resin_joint.specs.declared.tree.MoreStmt.{MoreStmt}
use Rattle.resin_joint.specs.declared.tree.MoreStmt.TheVariants as m

-- ---- a plain SELECT

-- behind its columns; `*` gives none
unfoldable pub plain_of : Ended (Option (List (List ℕ))) → Rule MoreStmt
plain_of cs = source cs.1 >>= λ n. chosen name_from true n.1 >>= λ w. ordering w.1 >>= λ o. limit o.1 >>= λ l.
    give (m.Plain (s.Select (record { columns = cs.0; table = n.0; condition = w.0; order = o.0; limit = l })))

-- behind its first column
unfoldable pub plain : List ℕ → Rule MoreStmt
plain w = gap >>= λ g. more_names (w ∷ [], g) >>= λ ns. plain_of (Some ns.0, ns.1)

-- ---- the first item of a SELECT, which is a word

-- what stands directly behind the word makes it the table of a column, or a function
abbrev pub goes_on : Option Function → ℕ → Bool
goes_on g b = b == 46 || (b == 40 && is_some g)

unfoldable pub joined : List ℕ → Rule (Option MoreStmt)
joined w = join w >>= λ q. give (Some (m.Join q))

unfoldable pub totalled : Option Function → Rule (Option MoreStmt)
totalled None = never None
totalled (Some g) = total g >>= λ q. give (Some (m.Total q))

unfoldable pub more_than_column : List ℕ → Rule (Option MoreStmt)
more_than_column w = maybe (λ t. goes_on (function_of w) t.byte) (λ t. taken (either (t.byte == 46) (joined w) (totalled (function_of w)))) None

abbrev pub or_plain : List ℕ → Option MoreStmt → Rule MoreStmt
or_plain w None = plain w
or_plain w (Some q) = give q

unfoldable pub from_word : ℕ → Rule MoreStmt
from_word b = name b >>= λ w. more_than_column w >>= or_plain w

-- ---- statements

-- behind SELECT
unfoldable pub selected : Bool → Rule MoreStmt
selected free = next (λ t. t.byte == 42 || (is_letter t.byte && free)) (λ t. taken (either (t.byte == 42) (star >>= plain_of) (from_word t.byte)))

unfoldable pub select : Rule MoreStmt
select = word (codes "elect") >>= selected

-- a statement by its first letter, in lower case
unfoldable pub joint_by : ℕ → Rule MoreStmt
joint_by b = either (b == 115) select (begun_by b >>= λ q. give (m.Plain q))

unfoldable pub opening : Rule MoreStmt
opening = next (λ t. begins_statement (lower t.byte)) (λ t. taken (joint_by (lower t.byte)))

unfoldable pub joint : Rule MoreStmt
joint = gap >> opening >>= λ q. ending >> give q
