-- Plans of statements, turn by turn.
use Rattle.std.proofs.Common.{◌≡◌, ℕ, zero, suc, ◌+◌, ◌<◌, List, [], ◌∷◌, length, map, filter, drop, take, get_or, Bool, true, false, cond, Option, Some, None, Err, refl, sym, ap, subst, ◌∙◌, is_some, not}
use Rattle.resin_base.specs.declared.cell.Cell.{Cell}
use Rattle.resin_base.specs.declared.cell.Column.{Column}
use Rattle.resin_base.specs.declared.cell.Row.{Row}
use Rattle.resin_base.specs.declared.stored.StoredCell.{StoredCell}
use Rattle.resin_sql.specs.declared.fault.SqlRefusal.TheVariants.{DuplicateColumn, Full}
use Rattle.resin_sql.specs.declared.fault.SqlStop.TheVariants.{Refused}
use Rattle.resin_sql.specs.declared.tree.Create.{Create}
use Rattle.resin_sql.specs.declared.tree.Select.{Select}
use Rattle.resin_plan.specs.declared.answer.SqlAnswer.{SqlAnswer}
use Rattle.resin_plan.specs.declared.answer.SqlResult.TheVariants.{Rows}
use Rattle.resin_plan.specs.TableCalls.{Keeping, MakeTable, AddRow}
use Rattle.resin_plan.specs.Plans.{Plan, Ask, refuse, Leads, Ends}
use Rattle.resin_rows.specs.Columns.{names_of, is_repeated, first_named, paired}
use Rattle.resin_rows.specs.Conditions.{where_holds}
use Rattle.resin_rows.specs.Rows.{changed, blank, inserted, cells_of, row_at, ordered, limited, answered_row}
use Rattle.resin_plan.specs.Statements.{create, created, insert_rows, added, selection}
use Rattle.resin_rows.proofs.Lists.{front}
use Rattle.resin_plan.proofs.Runs.{refuses}

-- ---- CREATE

pub create_repeated : {u : Keeping} (c : Create) → is_repeated (names_of c.columns) ≡ true → Ends (create c) u (Err (Refused DuplicateColumn)) u
unfolding create
create_repeated c e = refuses DuplicateColumn (sym (ap (λ b. cond b (refuse DuplicateColumn) (Ask (MakeTable c.table (paired c.columns)) created)) e))

pub create_call : (c : Create) → is_repeated (names_of c.columns) ≡ false → create c ≡ Ask (MakeTable c.table (paired c.columns)) created
unfolding create
create_call c e = ap (λ b. cond b (refuse DuplicateColumn) (Ask (MakeTable c.table (paired c.columns)) created)) e

-- ---- INSERT

pub added_none : (rest : Plan) (number : Option ℕ) (b : Bool) → is_some number ≡ not b → b ≡ true → refuse Full ≡ added rest number
added_none rest None b e f = refl
added_none rest (Some n) b e f = absurd (cc)

pub added_some : (rest : Plan) (number : Option ℕ) (b : Bool) → is_some number ≡ not b → b ≡ false → added rest number ≡ rest
added_some rest None b e f = absurd (cc)
added_some rest (Some n) b e f = refl

-- the next row
pub insert_turn : {A : Type 0} {p : Plan} {u v : Keeping} (table : List ℕ) (columns : List Column) (names : List (List ℕ)) (rows : List (List A)) (i : ℕ) (r : List A) (left own others : List StoredCell) (old : List Cell) (cells : List Cell) (n : ℕ)
    → i < length rows → r ≡ get_or rows i r → own ≡ take (length r) left → others ≡ drop (length r) left → old ≡ blank columns → cells ≡ changed columns names own old
    → Leads p u (insert_rows table (inserted columns names (drop i rows) left) n) v
    → Leads p u (Ask (AddRow table cells) (added (insert_rows table (inserted columns names (drop (i + 1) rows) others) (n + 1)))) v
insert_turn {p = p} {u = u} {v = v} table columns names rows i r left own others old cells n lt is e f b k l =
    let l' : Leads p u (Ask (AddRow table (changed columns names (take (length r) left) (blank columns))) (added (insert_rows table (inserted columns names (drop (i + 1) rows) (drop (length r) left)) (n + 1)))) v
    = subst (λ rs. Leads p u (insert_rows table (inserted columns names rs left) n) v) (front rows i r lt is) l in
    let same : changed columns names (take (length r) left) (blank columns) ≡ cells = sym (k ∙ (λ j. changed columns names (e j) (b j))) in
    subst (λ (x : Plan). Leads p u x v) (λ j. Ask (AddRow table (same j)) (added (insert_rows table (inserted columns names (drop (i + 1) rows) (sym f j)) (n + 1)))) l'

-- ---- SELECT

pub map-limited : {A B : Type 0} (f : A → B) (l : Option ℕ) (xs : List A) → map f (limited l xs) ≡ limited l (map f xs)
map-limited f None xs = refl
map-limited {A = A} f (Some n) xs = map-take n xs
  where
    map-take : (n : ℕ) (ys : List A) → map f (take n ys) ≡ take n (map f ys)
    map-take zero ys = refl
    map-take (suc n) [] = refl
    map-take (suc n) (y ∷ ys) = ap (λ zs. f y ∷ zs) (map-take n ys)

pub map-map : {A B C : Type 0} (f : A → B) (g : B → C) (xs : List A) → map g (map f xs) ≡ map (λ x. g (f x)) xs
map-map f g [] = refl
map-map f g (x ∷ xs) = ap (λ ys. g (f x) ∷ ys) (map-map f g xs)

pub select_made : (s : Select) (vs : List StoredCell) (columns : List Column) (names firsts : List (List ℕ)) (rows : List Row) (answer : List (List StoredCell)) (one two three : List ℕ)
    → firsts ≡ first_named names
    → map (row_at (cells_of rows)) one ≡ filter (where_holds columns s.condition vs) (cells_of rows)
    → map (row_at (cells_of rows)) two ≡ ordered columns s.order (map (row_at (cells_of rows)) one)
    → three ≡ limited s.limit two
    → answer ≡ map (λ i. answered_row columns firsts (row_at (cells_of rows) i)) three
    → (let a : SqlAnswer = record { scanned = length rows; result = Rows firsts answer } in a) ≡ selection s vs columns names rows
unfolding selection
select_made s vs columns names firsts rows answer one two three f c o l a =
    let f_at = row_at (cells_of rows) in
    let chosen : map f_at three ≡ limited s.limit (ordered columns s.order (filter (where_holds columns s.condition vs) (cells_of rows)))
    = ap (map f_at) l ∙ (map-limited f_at s.limit two ∙ ap (limited s.limit) (o ∙ ap (ordered columns s.order) c)) in
    let rows_are : answer ≡ map (answered_row columns firsts) (limited s.limit (ordered columns s.order (filter (where_holds columns s.condition vs) (cells_of rows))))
    = a ∙ (sym (map-map f_at (answered_row columns firsts) three) ∙ ap (map (answered_row columns firsts)) chosen) in
    (λ i. record { scanned = length rows; result = Rows firsts (rows_are i) })
    ∙ (λ i. record { scanned = length rows; result = Rows (f i) (map (answered_row columns (f i)) (limited s.limit (ordered columns s.order (filter (where_holds columns s.condition vs) (cells_of rows))))) })
