-- The grammar of statements, as forms over bytes.
use Rattle.std.specs.Prelude.{ℕ, Bool, true, false, ◌&&◌, ◌||◌, ◌==◌, nat_lt, List, [], ◌∷◌, ◌++◌, length, codes, Option, Some, None}
use Rattle.resin_base.specs.declared.cell.Column.{Column}
use Rattle.resin_base.specs.declared.cell.Kind.{Kind}
use Rattle.resin_base.specs.declared.cell.Kind.TheVariants as kinds
use Rattle.resin_form.specs.Form.{give, next, maybe, many, taken}
use Rattle.resin_scan.specs.Bytes.{is_digit, is_letter, lower}
use Rattle.resin_sql_words.specs.Forms.{Rule, ◌>>=◌, ◌>>◌, either}
use Rattle.resin_sql_words.specs.Words.{Ended, gap, word, keyword, sign, name_from, named}
use Rattle.resin_sql_words.specs.Literals.{literal, digits}
use Rattle.resin_sql_words.specs.declared.cursor.Placed.{Placed}
use Rattle.resin_sql_words.specs.declared.literals.Literal.{Literal}
use Rattle.resin_sql.specs.Conditions.{Behind, Tested, any_of, atom}
use Rattle.resin_sql.specs.declared.tree.Change.{Change}
use Rattle.resin_sql.specs.declared.tree.Condition.{Condition}
use Rattle.resin_sql.specs.declared.tree.Order.{Order}
use Rattle.resin_sql.specs.declared.tree.Stmt.{Stmt}
use Rattle.resin_sql.specs.declared.tree.Stmt.TheVariants as s

abbrev pub is_comma : ℕ → Bool
is_comma b = b == 44

-- ---- CREATE TABLE t (c INTEGER, d TEXT, ..)

unfoldable pub kind : Bool → Rule Kind
kind free = next (λ t. (lower t.byte == 105 || lower t.byte == 116) && free)
    (λ t. taken (either (lower t.byte == 105) (word (codes "nteger") >> give kinds.Integer) (word (codes "ext") >> give kinds.Text)))

unfoldable pub definition : List Column → Rule (List Column)
definition done = named true >>= λ n. kind n.1 >>= λ k. give (done ++ record { name = n.0; kind = k } ∷ [])

-- behind the 64th column no comma can come
abbrev pub is_next_column : ℕ → ℕ → Bool
is_next_column count b = b == 44 && nat_lt count 64

unfoldable pub one_more_definition : List Column → Rule (List Column)
one_more_definition done = gap >> definition done

unfoldable pub more_definitions : List Column → Rule (List Column)
more_definitions done = many (λ cs t. is_next_column (length cs) t.byte) (λ cs _. taken (one_more_definition cs)) done

unfoldable pub definitions : Rule (List Column)
definitions = sign 40 >> definition [] >>= more_definitions >>= λ cs. sign 41 >> give cs

unfoldable pub create : Rule Stmt
create =
    word (codes "reate") >>= λ g. keyword g 116 (codes "able") >>= named >>= λ n. definitions >>= λ cs.
    give (s.Create (record { table = n.0; columns = cs }))

-- ---- names and literals with commas between

abbrev pub Columns : Type 0
Columns = Ended (List (List ℕ))

-- one more name behind a comma
unfoldable pub one_more_name : List (List ℕ) → Rule Columns
one_more_name names = gap >> named true >>= λ n. give (names ++ n.0 ∷ [], n.1)

unfoldable pub more_names : Columns → Rule Columns
more_names s = many (λ _ t. is_comma t.byte) (λ s _. taken (one_more_name s.0)) s

-- names, of which the first begins with this byte
unfoldable pub names_from : ℕ → Rule Columns
names_from b = name_from b >>= λ n. more_names (n.0 ∷ [], n.1)

unfoldable pub cell : List Literal → Rule (List Literal)
cell done = gap >> literal >>= λ v. give (done ++ v.0 ∷ [])

unfoldable pub more_cells : List Literal → Rule (List Literal)
more_cells done = many (λ _ t. is_comma t.byte) (λ ls _. taken (cell ls)) done

-- the literals in brackets
unfoldable pub row : List (List Literal) → Rule (List (List Literal))
row done = sign 40 >> cell [] >>= more_cells >>= λ ls. sign 41 >> give (done ++ ls ∷ [])

unfoldable pub one_more_row : List (List Literal) → Rule (List (List Literal))
one_more_row done = gap >> row done

unfoldable pub more_rows : List (List Literal) → Rule (List (List Literal))
more_rows done = many (λ _ t. is_comma t.byte) (λ rs _. taken (one_more_row rs)) done

-- the rows behind VALUES
unfoldable pub rows : Rule (List (List Literal))
rows = row [] >>= more_rows

-- ---- INSERT INTO t VALUES (l, ..), ..  and  INSERT INTO t (c, ..) VALUES (l, ..), ..

-- names, whose first begins here
unfoldable pub first_names : Rule (List (List ℕ))
first_names = next (λ t. is_letter t.byte) (λ t. taken (names_from t.byte >>= λ ns. give ns.0))

-- the columns behind an opening bracket, and VALUES behind them
unfoldable pub listed : Rule (Option (List (List ℕ)))
listed = gap >> first_names >>= λ ns. sign 41 >> keyword true 118 (codes "alues") >> give (Some ns)

-- the other letters of VALUES
unfoldable pub unlisted : Rule (Option (List (List ℕ)))
unlisted = word (codes "alues") >> give None

-- behind the table: the columns, if they are listed, and VALUES
unfoldable pub targets : Bool → Rule (Option (List (List ℕ)))
targets free = next (λ t. t.byte == 40 || (lower t.byte == 118 && free)) (λ t. taken (either (t.byte == 40) listed unlisted))

unfoldable pub insert : Rule Stmt
insert =
    word (codes "nsert") >>= λ g. keyword g 105 (codes "nto") >>= named >>= λ n. targets n.1 >>= λ cs. rows >>= λ rs.
    give (s.Insert (record { table = n.0; columns = cs; rows = rs }))

-- ---- SELECT * FROM t  and  SELECT c, .. FROM t, with WHERE, ORDER BY and LIMIT

unfoldable pub star : Rule (Ended (Option (List (List ℕ))))
star = gap >> give (None, true)

unfoldable pub some_names : ℕ → Rule (Ended (Option (List (List ℕ))))
some_names b = names_from b >>= λ ns. give (Some ns.0, ns.1)

unfoldable pub items : Bool → Rule (Ended (Option (List (List ℕ))))
items free = next (λ t. t.byte == 42 || (is_letter t.byte && free)) (λ t. taken (either (t.byte == 42) star (some_names t.byte)))

unfoldable pub source : Bool → Rule (Ended (List ℕ))
source free = keyword free 102 (codes "rom") >>= named

-- what must hold, and what stands behind it
abbrev pub Chosen : Type 0
Chosen = Option Condition × Behind

-- behind the `W` of WHERE; `C`: what its tests are of
unfoldable pub behind_where : Tested → Bool → Rule Chosen
behind_where C orders = word (codes "here") >>= λ g. any_of (atom C 50) orders g >>= λ w. give (Some w.0, w.1)

-- WHERE and its condition, which may be left out; `orders`: ORDER may stand behind it
unfoldable pub chosen : Tested → Bool → Bool → Rule Chosen
chosen C orders free = maybe (λ t. lower t.byte == 119 && free) (λ _. taken (behind_where C orders)) (None, (free, false))

unfoldable pub ascending : Rule (Ended Bool)
ascending = word (codes "sc") >>= λ g. give (false, g)

unfoldable pub descending : Rule (Ended Bool)
descending = word (codes "esc") >>= λ g. give (true, g)

-- whether it is DESC
unfoldable pub direction : Bool → Rule (Ended Bool)
direction free =
    maybe (λ t. (lower t.byte == 97 || lower t.byte == 100) && free) (λ t.
    taken (either (lower t.byte == 97) ascending descending)) (false, free)

-- behind ORDER
unfoldable pub order_column : Bool → Rule (Ended (Option Order))
order_column free = keyword free 98 (codes "y") >>= named >>= λ n. direction n.1 >>= λ d. give (Some (record { column = n.0; descending = d.0 }), d.1)

-- behind the `O` of ORDER
unfoldable pub behind_order : Rule (Ended (Option Order))
behind_order = word (codes "rder") >>= order_column

-- ORDER BY, which may be left out, where its ORDER may have been read
unfoldable pub ordering : Behind → Rule (Ended (Option Order))
ordering behind = either behind.1 (order_column behind.0) (maybe (λ t. lower t.byte == 111 && behind.0) (λ _. taken behind_order) (None, behind.0))

unfoldable pub counted : Placed → Rule (Option ℕ)
counted t = digits 9223372036854775807 t >>= λ v. gap >> give (Some v.0)

-- a number, where a word may begin
unfoldable pub limit_number : Bool → Rule (Option ℕ)
limit_number free = next (λ t. is_digit t.byte && free) (λ t. taken (counted t))

-- behind the `L` of LIMIT
unfoldable pub behind_limit : Rule (Option ℕ)
behind_limit = word (codes "imit") >>= limit_number

unfoldable pub limit : Bool → Rule (Option ℕ)
limit free = maybe (λ t. lower t.byte == 108 && free) (λ _. taken behind_limit) None

unfoldable pub select : Rule Stmt
select = word (codes "elect") >>= items >>= λ cs. source cs.1 >>= λ n. chosen name_from true n.1 >>= λ w. ordering w.1 >>= λ o. limit o.1 >>= λ l.
    give (s.Select (record { columns = cs.0; table = n.0; condition = w.0; order = o.0; limit = l }))

-- ---- UPDATE t SET c = l, .. WHERE w  and  DELETE FROM t WHERE w

unfoldable pub change : Bool → List Change → Rule (Ended (List Change))
change free done = named free >>= λ n. sign 61 >> literal >>= λ v. give (done ++ record { column = n.0; literal = v.0 } ∷ [], v.1)

unfoldable pub one_more_change : List Change → Rule (Ended (List Change))
one_more_change done = gap >> change true done

unfoldable pub more_changes : Ended (List Change) → Rule (Ended (List Change))
more_changes s = many (λ _ t. is_comma t.byte) (λ s _. taken (one_more_change s.0)) s

unfoldable pub changes : Bool → Rule (Ended (List Change))
changes free = change free [] >>= more_changes

unfoldable pub update : Rule Stmt
update =
    word (codes "pdate") >>= named >>= λ n. keyword n.1 115 (codes "et") >>= changes >>= λ cs. chosen name_from false cs.1 >>= λ w.
    give (s.Update (record { table = n.0; changes = cs.0; condition = w.0 }))

unfoldable pub delete : Rule Stmt
delete = word (codes "elete") >>= source >>= λ n. chosen name_from false n.1 >>= λ w. give (s.Delete (record { table = n.0; condition = w.0 }))

-- ---- statements

abbrev pub begins_statement : ℕ → Bool
begins_statement b = b == 99 || b == 105 || b == 115 || b == 117 || b == 100

-- a statement by its first letter, in lower case
unfoldable pub begun_by : ℕ → Rule Stmt
begun_by b = either (b == 99) create (either (b == 105) insert (either (b == 115) select (either (b == 117) update delete)))

-- one `;` may end the text
unfoldable pub ending : Rule Bool
ending = maybe (λ t. t.byte == 59) (λ _. taken gap) false

unfoldable pub opening : Rule Stmt
opening = next (λ t. begins_statement (lower t.byte)) (λ t. taken (begun_by (lower t.byte)))

unfoldable pub statement : Rule Stmt
statement = gap >> opening >>= λ q. ending >> give q
