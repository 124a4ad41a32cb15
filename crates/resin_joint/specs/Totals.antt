-- `SELECT f, .. FROM t`, then optionally WHERE, as a form over bytes. An f is `COUNT(*)`, `SUM(c)`, `MIN(c)`, `MAX(c)` or
-- `GROUP_CONCAT(c)`; its bracket stands without a blank behind the word, which is read in any case.
use Rattle.std.specs.Prelude.{ℕ, Bool, true, false, ◌||◌, ◌==◌, List, [], ◌∷◌, ◌++◌, codes, Option, Some, None, if◌then◌else◌}
use Rattle.resin_form.specs.Form.{give, next, many, taken}
use Rattle.resin_scan.specs.Bytes.{lower}
use Rattle.resin_scan.specs.Words.{spells}
use Rattle.resin_sql_words.specs.Forms.{Rule, ◌>>=◌, ◌>>◌, either}
use Rattle.resin_sql_words.specs.Words.{gap, letters, sign, name_from, named}
use Rattle.resin_sql.specs.Statements.{is_comma, source, chosen}
use Rattle.resin_joint.specs.declared.tree.Function.{Function}
use Rattle.resin_joint.specs.declared.tree.Function.TheVariants as f
use Rattle.resin_joint.specs.declared.tree.TotalItem.{TotalItem}
use Rattle.resin_joint.specs.declared.tree.TotalItem.TheVariants as i
use Rattle.resin_joint.specs.declared.tree.TotalStmt.{TotalStmt}

-- the function of this name. None is a keyword: each may be a column, too.
abbrev pub function_of : List ℕ → Option Function
function_of w =
    if spells (codes "count") w then Some f.Count else
    if spells (codes "sum") w then Some f.Sum else
    if spells (codes "min") w then Some f.Min else
    if spells (codes "max") w then Some f.Max else
    if spells (codes "group_concat") w then Some f.GroupConcat else None

-- a function of the cells of a column; COUNT counts rows
abbrev pub item_of : Function → List ℕ → TotalItem
item_of f.Count column = i.Count
item_of f.Sum column = i.Sum column
item_of f.Min column = i.Min column
item_of f.Max column = i.Max column
item_of f.GroupConcat column = i.GroupConcat column

-- ---- in brackets

unfoldable pub every : Rule TotalItem
every = sign 42 >> give i.Count

unfoldable pub column_in : Function → Rule TotalItem
column_in g = named true >>= λ c. give (item_of g c.0)

abbrev pub is_count : Function → Bool
is_count f.Count = true
is_count g = false

unfoldable pub inside : Function → Rule TotalItem
inside g = either (is_count g) every (column_in g)

-- behind an opening bracket
unfoldable pub bracket : Function → Rule TotalItem
bracket g = gap >> inside g >>= λ it. sign 41 >> give it

-- ---- an item behind a comma

unfoldable pub min_or_max : Rule Function
min_or_max =
    next (λ t. lower t.byte == 105 || lower t.byte == 97) (λ t.
    taken (either (lower t.byte == 105) (letters (codes "n") >> give f.Min) (letters (codes "x") >> give f.Max)))

abbrev pub begins_function : ℕ → Bool
begins_function b = b == 99 || b == 115 || b == 109 || b == 103

-- a function by its first letter, in lower case
unfoldable pub function_by : ℕ → Rule Function
function_by b =
    either (b == 99) (letters (codes "ount") >> give f.Count)
    (either (b == 115) (letters (codes "um") >> give f.Sum)
    (either (b == 109) min_or_max (letters (codes "roup_concat") >> give f.GroupConcat)))

unfoldable pub function : Rule Function
function = next (λ t. begins_function (lower t.byte)) (λ t. taken (function_by (lower t.byte)))

unfoldable pub opened : Function → Rule TotalItem
opened g = next (λ t. t.byte == 40) (λ _. taken (bracket g))

unfoldable pub one_more_item : List TotalItem → Rule (List TotalItem)
one_more_item done = gap >> function >>= opened >>= λ it. give (done ++ it ∷ [])

unfoldable pub more_items : List TotalItem → Rule (List TotalItem)
more_items done = many (λ _ t. is_comma t.byte) (λ its _. taken (one_more_item its)) done

-- ---- the whole

-- behind the items
unfoldable pub total_of : List TotalItem → Rule TotalStmt
total_of its = source true >>= λ t. chosen name_from false t.1 >>= λ w. give (record { items = its; table = t.0; condition = w.0 })

-- behind the opening bracket of the first item
unfoldable pub total : Function → Rule TotalStmt
total g = bracket g >>= λ it. more_items (it ∷ []) >>= total_of
