-- Statements in a text with other bytes between its quotes.
use Rattle.std.proofs.Common.{◌≡◌, ℕ, Bool, true, false, List, [], ◌∷◌, ◌++◌, Option, Some, length, map, refl, sym, ap, subst, ◌∙◌}
use Rattle.std.specs.Prelude.{◌==◌, codes}
use Rattle.resin_base.specs.declared.cell.Column.{Column}
use Rattle.resin_form.specs.Form.{give}
use Rattle.resin_scan.specs.Bytes.{lower}
use Rattle.resin_sql_words.specs.declared.literals.Literal.{Literal}
use Rattle.resin_sql_words.specs.Places.{placed}
use Rattle.resin_sql_words.specs.Forms.{◌>>=◌}
use Rattle.resin_sql_words.specs.Words.{Ended, name_from}
use Rattle.resin_sql.specs.Answers.{IsStatement}
use Rattle.resin_sql.specs.Conditions.{Behind, atom}
use Rattle.resin_sql.specs.Statements as f
use Rattle.resin_sql.specs.Statements.{Chosen, Columns, is_comma, is_next_column, begins_statement}
use Rattle.resin_sql.specs.declared.tree.Change.{Change}
use Rattle.resin_sql.specs.declared.tree.Condition.{Condition}
use Rattle.resin_sql.specs.declared.tree.Order.{Order}
use Rattle.resin_sql.specs.declared.tree.Stmt.TheVariants as s
use Rattle.resin_guard.specs.Requoted as q
use Rattle.resin_guard.specs.Requoted.{Requoted, shape_of_literal, shape_of_condition, shape_of_where, shape_of_change, shape_of_rows, shape_of, KeepsStatement}
use Rattle.resin_guard.proofs.Follows.{Spells, Follows, whole, behind_taken, gives, followed_by, and_then, nexts, maybes, manys, choices, weaken}
use Rattle.resin_guard.proofs.FollowWords.{gap_follows, word_follows, keyword_follows, sign_follows, named_follows, name_from_follows, digits_follow, literal_follows}
use Rattle.resin_guard.proofs.FollowConditions.{pair, pushed, any_of_follows, atom_follows}

-- ---- CREATE

kind_follows : (free : Bool) → Follows whole (f.kind free) (f.kind free)
unfolding f.kind
kind_follows free = nexts (λ n m b. refl) (λ n. refl) (λ n m b. choices (lower b == 105) (and_then (word_follows (codes "nteger") refl) (λ g. gives refl)) (and_then (word_follows (codes "ext") refl) (λ g. gives refl)))

definition_follows : (xs : List Column) → Follows whole (f.definition xs) (f.definition xs)
unfolding f.definition
definition_follows xs = and_then (named_follows true) (λ x. and_then (kind_follows x.1) (λ k. gives refl))

one_more_definition_follows : (xs : List Column) → Follows whole (f.one_more_definition xs) (f.one_more_definition xs)
unfolding f.one_more_definition
one_more_definition_follows xs = and_then gap_follows (λ g. definition_follows xs)

more_definitions_follow : (xs : List Column) → Follows whole (f.more_definitions xs) (f.more_definitions xs)
unfolding f.more_definitions
more_definitions_follow xs = manys (λ a b e n m c. ap (λ (xs : List Column). is_next_column (length xs) c) (sym e)) (λ a n. refl)
    (λ a b e n m c. behind_taken (subst (λ (x : List Column). Follows whole (f.one_more_definition a) (f.one_more_definition x)) (sym e) (one_more_definition_follows a))) refl

definitions_follow : Follows whole f.definitions f.definitions
unfolding f.definitions
definitions_follow = and_then (and_then (and_then (sign_follows 40 refl) (λ g. definition_follows [])) (λ xs. more_definitions_follow xs)) (λ xs. and_then (sign_follows 41 refl) (λ g. gives refl))

create_follows : Follows whole f.create f.create
unfolding f.create
create_follows = and_then (word_follows (codes "reate") refl) (λ g. and_then (and_then (keyword_follows g 116 (codes "able") refl refl) (λ h. named_follows h)) (λ x. and_then definitions_follow (λ xs. gives refl)))

-- ---- names and literals with commas between

one_more_name_follows : (xs : List (List ℕ)) → Follows whole (f.one_more_name xs) (f.one_more_name xs)
unfolding f.one_more_name
one_more_name_follows xs = and_then (and_then gap_follows (λ g. named_follows true)) (λ x. gives refl)

more_names_follow : (x : Columns) → Follows whole (f.more_names x) (f.more_names x)
unfolding f.more_names
more_names_follow x = manys (λ a b e n m c. refl) (λ a n. refl) (λ a b e n m c. behind_taken (subst (λ (y : Columns). Follows whole (f.one_more_name a.0) (f.one_more_name y.0)) (sym e) (one_more_name_follows a.0))) refl

names_from_follows : (b : ℕ) → Follows whole (f.names_from b) (f.names_from b)
unfolding f.names_from
names_from_follows b = and_then (name_from_follows b) (λ x. more_names_follow (x.0 ∷ [], x.1))

abbrev literals_shape : List Literal → List Literal
literals_shape xs = map shape_of_literal xs

cell_follows : (xs ys : List Literal) → literals_shape ys ≡ literals_shape xs → Follows literals_shape (f.cell xs) (f.cell ys)
unfolding f.cell
cell_follows xs ys e = followed_by (and_then gap_follows (λ g. literal_follows)) (λ v u k. gives (pushed shape_of_literal xs ys v.0 u.0 e (ap (λ (s : Ended Literal). s.0) k)))

more_cells_follow : (xs ys : List Literal) → literals_shape ys ≡ literals_shape xs → Follows literals_shape (f.more_cells xs) (f.more_cells ys)
unfolding f.more_cells
more_cells_follow xs ys e = manys (λ a b k n m c. refl) (λ a n. refl) (λ a b k n m c. behind_taken (cell_follows a b k)) e

row_follows : (xs ys : List (List Literal)) → shape_of_rows ys ≡ shape_of_rows xs → Follows shape_of_rows (f.row xs) (f.row ys)
unfolding f.row
row_follows xs ys e = followed_by (followed_by (and_then (sign_follows 40 refl) (λ g. cell_follows [] [] refl)) (λ a b k. more_cells_follow a b k)) (λ a b k. and_then (sign_follows 41 refl) (λ g. gives (pushed literals_shape xs ys a b e k)))

one_more_row_follows : (xs ys : List (List Literal)) → shape_of_rows ys ≡ shape_of_rows xs → Follows shape_of_rows (f.one_more_row xs) (f.one_more_row ys)
unfolding f.one_more_row
one_more_row_follows xs ys e = and_then gap_follows (λ g. row_follows xs ys e)

more_rows_follow : (xs ys : List (List Literal)) → shape_of_rows ys ≡ shape_of_rows xs → Follows shape_of_rows (f.more_rows xs) (f.more_rows ys)
unfolding f.more_rows
more_rows_follow xs ys e = manys (λ a b k n m c. refl) (λ a n. refl) (λ a b k n m c. behind_taken (one_more_row_follows a b k)) e

rows_follow : Follows shape_of_rows f.rows f.rows
unfolding f.rows
rows_follow = followed_by (row_follows [] [] refl) (λ a b k. more_rows_follow a b k)

-- ---- INSERT

first_names_follow : Follows whole f.first_names f.first_names
unfolding f.first_names
first_names_follow = nexts (λ n m b. refl) (λ n. refl) (λ n m b. and_then (names_from_follows b) (λ x. gives refl))

listed_follows : Follows whole f.listed f.listed
unfolding f.listed
listed_follows = and_then (and_then gap_follows (λ g. first_names_follow)) (λ x. and_then (and_then (sign_follows 41 refl) (λ g. keyword_follows true 118 (codes "alues") refl refl)) (λ g. gives refl))

unlisted_follows : Follows whole f.unlisted f.unlisted
unfolding f.unlisted
unlisted_follows = and_then (word_follows (codes "alues") refl) (λ g. gives refl)

targets_follow : (free : Bool) → Follows whole (f.targets free) (f.targets free)
unfolding f.targets
targets_follow free = nexts (λ n m b. refl) (λ n. refl) (λ n m b. choices (b == 40) listed_follows unlisted_follows)

insert_alike : (table : List ℕ) (columns : Option (List (List ℕ))) (xs ys : List (List Literal)) → shape_of_rows ys ≡ shape_of_rows xs → shape_of (s.Insert (record { table = table; columns = columns; rows = ys })) ≡ shape_of (s.Insert (record { table = table; columns = columns; rows = xs }))
insert_alike table columns xs ys e = ap (λ (rs : List (List Literal)). s.Insert (record { table = table; columns = columns; rows = rs })) e

insert_follows : Follows shape_of f.insert f.insert
unfolding f.insert
insert_follows = and_then (word_follows (codes "nsert") refl) (λ g. and_then (and_then (keyword_follows g 105 (codes "nto") refl refl) (λ h. named_follows h)) (λ x. and_then (targets_follow x.1) (λ cs. followed_by rows_follow (λ a b k. gives (insert_alike x.0 cs a b k)))))

-- ---- WHERE, ORDER BY and LIMIT

abbrev chosen_shape : Chosen → Chosen
chosen_shape x = (shape_of_where x.0, x.1)

behind_where_follows : (orders : Bool) → Follows chosen_shape (f.behind_where name_from orders) (f.behind_where name_from orders)
unfolding f.behind_where
behind_where_follows orders = and_then (word_follows (codes "here") refl) (λ g. followed_by (any_of_follows (atom name_from 50) (λ free. atom_follows name_from name_from_follows 50 free) orders g)
    (λ a b k. gives (pair (chosen_shape (Some b.0, b.1)) (chosen_shape (Some a.0, a.1)) (ap (λ (x : Condition). Some x) (ap (λ (x : Condition × Behind). x.0) k)) (ap (λ (x : Condition × Behind). x.1) k))))

chosen_follows : (orders free : Bool) → Follows chosen_shape (f.chosen name_from orders free) (f.chosen name_from orders free)
unfolding f.chosen
chosen_follows orders free = maybes (λ n m b. refl) (λ n. refl) (λ n m b. behind_where_follows orders) refl

star_follows : Follows whole f.star f.star
unfolding f.star
star_follows = and_then gap_follows (λ g. gives refl)

some_names_follow : (b : ℕ) → Follows whole (f.some_names b) (f.some_names b)
unfolding f.some_names
some_names_follow b = and_then (names_from_follows b) (λ x. gives refl)

items_follow : (free : Bool) → Follows whole (f.items free) (f.items free)
unfolding f.items
items_follow free = nexts (λ n m b. refl) (λ n. refl) (λ n m b. choices (b == 42) star_follows (some_names_follow b))

source_follows : (free : Bool) → Follows whole (f.source free) (f.source free)
unfolding f.source
source_follows free = and_then (keyword_follows free 102 (codes "rom") refl refl) (λ g. named_follows g)

ascending_follows : Follows whole f.ascending f.ascending
unfolding f.ascending
ascending_follows = and_then (word_follows (codes "sc") refl) (λ g. gives refl)

descending_follows : Follows whole f.descending f.descending
unfolding f.descending
descending_follows = and_then (word_follows (codes "esc") refl) (λ g. gives refl)

direction_follows : (free : Bool) → Follows whole (f.direction free) (f.direction free)
unfolding f.direction
direction_follows free = maybes (λ n m b. refl) (λ n. refl) (λ n m b. choices (lower b == 97) ascending_follows descending_follows) refl

order_column_follows : (free : Bool) → Follows whole (f.order_column free) (f.order_column free)
unfolding f.order_column
order_column_follows free = and_then (and_then (keyword_follows free 98 (codes "y") refl refl) (λ g. named_follows g)) (λ x. and_then (direction_follows x.1) (λ d. gives refl))

behind_order_follows : Follows whole f.behind_order f.behind_order
unfolding f.behind_order
behind_order_follows = and_then (word_follows (codes "rder") refl) (λ g. order_column_follows g)

ordering_follows : (behind : Behind) → Follows whole (f.ordering behind) (f.ordering behind)
unfolding f.ordering
ordering_follows behind = choices behind.1 (order_column_follows behind.0) (maybes (λ n m b. refl) (λ n. refl) (λ n m b. behind_order_follows) refl)

counted_follows : (n m b : ℕ) → Follows whole (f.counted (record { at = n; byte = b })) (f.counted (record { at = m; byte = b }))
unfolding f.counted
counted_follows n m b = followed_by (digits_follow 9223372036854775807 n m b) (λ u v e. and_then gap_follows (λ g. gives (ap (λ x. Some x) e)))

limit_number_follows : (free : Bool) → Follows whole (f.limit_number free) (f.limit_number free)
unfolding f.limit_number
limit_number_follows free = nexts (λ n m b. refl) (λ n. refl) (λ n m b. counted_follows n m b)

behind_limit_follows : Follows whole f.behind_limit f.behind_limit
unfolding f.behind_limit
behind_limit_follows = and_then (word_follows (codes "imit") refl) (λ g. limit_number_follows g)

limit_follows : (free : Bool) → Follows whole (f.limit free) (f.limit free)
unfolding f.limit
limit_follows free = maybes (λ n m b. refl) (λ n. refl) (λ n m b. behind_limit_follows) refl

select_alike : (columns : Option (List (List ℕ))) (table : List ℕ) (order : Option Order) (limit : Option ℕ) (x y : Option Condition) → shape_of_where y ≡ shape_of_where x
    → shape_of (s.Select (record { columns = columns; table = table; condition = y; order = order; limit = limit })) ≡ shape_of (s.Select (record { columns = columns; table = table; condition = x; order = order; limit = limit }))
select_alike columns table order limit x y e = ap (λ (w : Option Condition). s.Select (record { columns = columns; table = table; condition = w; order = order; limit = limit })) e

select_behind : (cs : Option (List (List ℕ))) (x : List ℕ) (a b : Chosen) → chosen_shape b ≡ chosen_shape a
    → Follows shape_of (f.ordering a.1 >>= λ o. f.limit o.1 >>= λ l. give (s.Select (record { columns = cs; table = x; condition = a.0; order = o.0; limit = l })))
    (f.ordering b.1 >>= λ o. f.limit o.1 >>= λ l. give (s.Select (record { columns = cs; table = x; condition = b.0; order = o.0; limit = l })))
select_behind cs x a b k =
    let same : b.1 ≡ a.1 = ap (λ (x : Chosen). x.1) k in
    and_then (subst (λ (z : Behind). Follows whole (f.ordering a.1) (f.ordering z)) (sym same) (ordering_follows a.1))
    (λ o. and_then (limit_follows o.1) (λ l. gives (select_alike cs x o.0 l a.0 b.0 (ap (λ (x : Chosen). x.0) k))))

select_follows : Follows shape_of f.select f.select
unfolding f.select
select_follows = and_then (and_then (word_follows (codes "elect") refl) (λ g. items_follow g)) (λ cs. and_then (source_follows cs.1) (λ x. followed_by (chosen_follows true x.1) (λ a b k. select_behind cs.0 x.0 a b k)))

-- ---- UPDATE and DELETE

abbrev changes_shape : Ended (List Change) → Ended (List Change)
changes_shape x = (map shape_of_change x.0, x.1)

change_follows : (free : Bool) (xs ys : List Change) → map shape_of_change ys ≡ map shape_of_change xs → Follows changes_shape (f.change free xs) (f.change free ys)
unfolding f.change
change_follows free xs ys e = and_then (named_follows free) (λ x. followed_by (and_then (sign_follows 61 refl) (λ g. literal_follows)) (λ v u k. gives (pair
    (changes_shape (ys ++ record { column = x.0; literal = u.0 } ∷ [], u.1)) (changes_shape (xs ++ record { column = x.0; literal = v.0 } ∷ [], v.1))
    (pushed shape_of_change xs ys (record { column = x.0; literal = v.0 }) (record { column = x.0; literal = u.0 }) e (ap (λ (y : Literal). let z : Change = record { column = x.0; literal = y } in z) (ap (λ (s : Ended Literal). s.0) k)))
    (ap (λ (s : Ended Literal). s.1) k))))

one_more_change_follows : (xs ys : List Change) → map shape_of_change ys ≡ map shape_of_change xs → Follows changes_shape (f.one_more_change xs) (f.one_more_change ys)
unfolding f.one_more_change
one_more_change_follows xs ys e = and_then gap_follows (λ g. change_follows true xs ys e)

more_changes_follow : (x y : Ended (List Change)) → changes_shape y ≡ changes_shape x → Follows changes_shape (f.more_changes x) (f.more_changes y)
unfolding f.more_changes
more_changes_follow x y e = manys (λ a b k n m c. refl) (λ a n. refl) (λ a b k n m c. behind_taken (one_more_change_follows a.0 b.0 (ap (λ (x : Ended (List Change)). x.0) k))) e

changes_follow : (free : Bool) → Follows changes_shape (f.changes free) (f.changes free)
unfolding f.changes
changes_follow free = followed_by (change_follows free [] [] refl) (λ a b k. more_changes_follow a b k)

update_alike : (table : List ℕ) (xs ys : List Change) (v w : Option Condition) → map shape_of_change ys ≡ map shape_of_change xs → shape_of_where w ≡ shape_of_where v
    → shape_of (s.Update (record { table = table; changes = ys; condition = w })) ≡ shape_of (s.Update (record { table = table; changes = xs; condition = v }))
update_alike table xs ys v w e k = ap (λ (zs : List Change). s.Update (record { table = table; changes = zs; condition = shape_of_where w })) e ∙ ap (λ (z : Option Condition). s.Update (record { table = table; changes = map shape_of_change xs; condition = z })) k

update_behind : (table : List ℕ) (a b : Ended (List Change)) → changes_shape b ≡ changes_shape a → Follows shape_of (f.chosen name_from false a.1 >>= λ w. give (s.Update (record { table = table; changes = a.0; condition = w.0 }))) (f.chosen name_from false b.1 >>= λ w. give (s.Update (record { table = table; changes = b.0; condition = w.0 })))
update_behind table a b k =
    let same : b.1 ≡ a.1 = ap (λ (x : Ended (List Change)). x.1) k in
    followed_by (subst (λ free. Follows chosen_shape (f.chosen name_from false a.1) (f.chosen name_from false free)) (sym same) (chosen_follows false a.1))
    (λ v w e. gives (update_alike table a.0 b.0 v.0 w.0 (ap (λ (x : Ended (List Change)). x.0) k) (ap (λ (x : Chosen). x.0) e)))

update_follows : Follows shape_of f.update f.update
unfolding f.update
update_follows = and_then (and_then (word_follows (codes "pdate") refl) (λ g. named_follows g)) (λ x. followed_by (and_then (keyword_follows x.1 115 (codes "et") refl refl) (λ g. changes_follow g)) (λ a b k. update_behind x.0 a b k))

delete_alike : (table : List ℕ) (v w : Option Condition) → shape_of_where w ≡ shape_of_where v → shape_of (s.Delete (record { table = table; condition = w })) ≡ shape_of (s.Delete (record { table = table; condition = v }))
delete_alike table v w k = ap (λ (z : Option Condition). s.Delete (record { table = table; condition = z })) k

delete_follows : Follows shape_of f.delete f.delete
unfolding f.delete
delete_follows = and_then (and_then (word_follows (codes "elete") refl) (λ g. source_follows g)) (λ x. followed_by (chosen_follows false x.1) (λ v w e. gives (delete_alike x.0 v.0 w.0 (ap (λ (x : Chosen). x.0) e))))

-- ---- statements

begun_by_follows : (b : ℕ) → Follows shape_of (f.begun_by b) (f.begun_by b)
unfolding f.begun_by
begun_by_follows b = choices (b == 99) (weaken create_follows) (choices (b == 105) insert_follows (choices (b == 115) select_follows (choices (b == 117) update_follows delete_follows)))

ending_follows : Follows whole f.ending f.ending
unfolding f.ending
ending_follows = maybes (λ n m b. refl) (λ n. refl) (λ n m b. gap_follows) refl

opening_follows : Follows shape_of f.opening f.opening
unfolding f.opening
opening_follows = nexts (λ n m b. refl) (λ n. refl) (λ n m b. begun_by_follows (lower b))

statement_follows : Follows shape_of f.statement f.statement
unfolding f.statement
statement_follows = followed_by (and_then gap_follows (λ g. opening_follows)) (λ a b k. and_then ending_follows (λ e. gives k))

nothing_after : (m : ℕ) (r s : List ℕ) → Requoted r s → [] ≡ placed m r → s ≡ []
nothing_after m [] s q.done e = refl
nothing_after m (c ∷ r) s x e = cc

pub keeps_statement : KeepsStatement IsStatement
keeps_statement bytes others q s x =
    let k = statement_follows.follow 0 0 bytes others q [] x s in
    let z = nothing_after k.there k.others k.others_too k.requoted k.at in
    (k.value, subst (λ r. Spells f.statement (placed 0 others) k.value (placed k.there_too r)) z k.spelt, k.alike)
