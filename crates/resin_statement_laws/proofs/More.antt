-- The plans of joins and totals are followed with what they answer of tables whose cells carry their policies.
use Rattle.std.proofs.Common.{◌≡◌, ℕ, zero, suc, ◌*◌, nat_lt, not, Bool, true, false, cond, List, [], ◌∷◌, ◌++◌, length, map, filter, take, Option, Some, None, Result, refl, sym, ap, subst, ◌∙◌, arith}
use Rattle.std.specs.FinMap.{get}
use Rattle.std.specs.Option.{option_map}
use Rattle.std.specs.Str.{bytes_eq}
use Rattle.resin_base.specs.TableStore.{TableStore, EachWhole, columns_of, rows_of}
use Rattle.resin_base.specs.declared.cell.Cell.{Cell}
use Rattle.resin_base.specs.declared.cell.Column.{Column}
use Rattle.resin_base.specs.declared.cell.Row.{Row}
use Rattle.resin_base.specs.declared.cell.Table.{Table}
use Rattle.resin_base.specs.declared.faults.KeepFault.TheVariants as fault
use Rattle.resin_base.specs.declared.stored.StoredCell.{StoredCell}
use Rattle.resin_store.specs.Cells.{LabelledCell, plain_cell}
use Rattle.resin_meaning_forms.specs.Under.meaning_tables.Under.joint.declared.tree.JoinStmt.{JoinStmt}
use Rattle.resin_meaning_forms.specs.Under.meaning_tables.Under.joint.declared.tree.TotalItem.{TotalItem}
use Rattle.resin_meaning_forms.specs.Under.meaning_tables.Under.joint.declared.tree.TotalStmt.{TotalStmt}
use Rattle.resin_meaning_forms.specs.Under.meaning_tables.Under.plan.Plans.{Done, Ask}
use Rattle.resin_meaning_forms.specs.Under.meaning_tables.Under.plan.TableCalls.{AskColumns, AskRows, Keeping}
use Rattle.resin_meaning_forms.specs.Under.meaning_tables.Under.rows.Cells.{fitted, beside}
use Rattle.resin_meaning_forms.specs.Under.meaning_tables.Under.rows.Columns.{first_named, found, shape}
use Rattle.resin_meaning_forms.specs.Under.meaning_tables.Under.rows.Conditions.{where_holds}
use Rattle.resin_meaning_forms.specs.Under.meaning_tables.Under.rows.Rows.{cells_of, limited, answered_at, answered_row}
use Rattle.resin_meaning_forms.specs.Under.meaning_tables.Under.sql.declared.fault.SqlRefusal.{SqlRefusal}
use Rattle.resin_meaning_forms.specs.Under.meaning_tables.Under.sql.declared.fault.SqlRefusal.TheVariants.{SameTable}
use Rattle.resin_meaning_forms.specs.Under.meaning_tables.Under.sql.declared.fault.SqlStop.{SqlStop}
use Rattle.resin_meaning_forms.specs.Under.meaning_tables.Under.sql_more.Joins as j
use Rattle.resin_meaning_forms.specs.Under.meaning_tables.Under.sql_more.Joins.{both_columns, join_cause, pair_holds, cost, chosen_pairs, join_answer, join_end, join_rows, shape_of, join_on, join_plan}
use Rattle.resin_meaning_forms.specs.Under.meaning_tables.Under.sql_more.Plans as m
use Rattle.resin_meaning_forms.specs.Under.meaning_tables.Under.sql_more.Plans.{End}
use Rattle.resin_meaning_forms.specs.Under.meaning_tables.Under.sql_more.Totals.{item_name, first_items, item_column, total_cause, chosen_rows, is_null, column_cells, total_answer, total_end, total_rows, total_on, total_plan}
use Rattle.resin_meaning_forms.specs.Under.meaning_tables.Under.sql_more.declared.answer.MoreAnswer.{MoreAnswer}
use Rattle.resin_frame.specs.LabelledTables.{LabelledRow, LabelledTable, Rows, Odd, plain_cells, plain_row, plain_tables, lift_row, lifted_table, lift_table, lift_tables}
use Rattle.resin_frame.proofs.LabelledTables.{keeps_table_stores}
use Rattle.resin_statement_laws.specs.Effects.{all_stepped, plain_values, cell_told, cells_told, rows_chosen}
use Rattle.resin_statement_laws.specs.More as own
use Rattle.resin_statement_laws.specs.More.{LabelledMore, LabelledMoreEnd, plain_more, plain_more_end, paid, unless, pairs, is_chosen_pair, pairs_chosen, joined, join_over, join_of, join_effect, item_cells, totalled, total_over, total_of, total_effect, ComesTo}
use Rattle.resin_statement_laws.specs.Laws.{JoinsAreEffects, TotalsAreEffects, JoinRunsAreEffects, TotalRunsAreEffects}
use Rattle.resin_statement_laws.specs.Runs.{IsFront, followed}
use Rattle.resin_statement_laws.proofs.Calls.{lift_get, lift_whole, whole_at, length-plain}
use Rattle.resin_statement_laws.proofs.Cells.{told_plain, cells_told_plain, read_length}
use Rattle.resin_statement_laws.proofs.Following.{Follows, followed_by}
use Rattle.resin_statement_laws.proofs.Stores.{RowsRead, Stands, stands, stood_rows}
use Rattle.resin_statement_laws.proofs.Statements.{cells_held, cells_of_plain, filter_map, limited_map, length_map}
use Rattle.resin_statement_laws.proofs.Runs.{reached, all_made, one_failed, so_far}

-- ---- what stands at a name

data Stood (s : TableStore) (name : List ℕ) : Type 0 where
  absent : shape_of (columns_of s name) ≡ None → get (lift_tables s) name ≡ None → Stood s name
  odd : (table : Table) → shape_of (columns_of s name) ≡ None → get (lift_tables s) name ≡ Some (Odd table) → Stood s name
  there : (columns : List Column) (rows : List LabelledRow) → Stands s name columns rows → shape_of (columns_of s name) ≡ Some columns
      → get (lift_tables s) name ≡ Some (Rows columns rows) → Stood s name

abbrev some_of : LabelledTable → Option LabelledTable
some_of table = Some table

stood : (s : TableStore) (name : List ℕ) → EachWhole s → Stood s name
stood s name whole = by (get s name) refl
  where
    inner : (table : Table) → get s name ≡ Some table → (o : Option (List Column)) → shape table.columns ≡ o → Stood s name
    inner table e None is =
        odd table (ap (λ o. shape_of (option_map (λ (t : Table). t.columns) o)) e ∙ is)
        (lift_get s name ∙ ap (option_map lift_table) e ∙ ap some_of (lift_whole table (whole_at s name table whole e) ∙ ap (lifted_table table) is))
    inner table e (Some columns) is =
        there columns (map (lift_row columns) table.rows) (stands s name table columns whole e is) (ap (λ o. shape_of (option_map (λ (t : Table). t.columns) o)) e ∙ is)
        (lift_get s name ∙ ap (option_map lift_table) e ∙ ap some_of (lift_whole table (whole_at s name table whole e) ∙ ap (lifted_table table) is))

    by : (o : Option Table) → get s name ≡ o → Stood s name
    by None e = absent (ap (λ o. shape_of (option_map (λ (t : Table). t.columns) o)) e) (lift_get s name ∙ ap (option_map lift_table) e)
    by (Some table) e = inner table e (shape table.columns) refl

-- ---- pairs

fitted_all : (n : ℕ) (cells : List Cell) → n ≡ length cells → fitted n cells ≡ cells
fitted_all zero [] e = refl
fitted_all zero (c ∷ cells) e = absurd (omega arith)
fitted_all (suc n) [] e = absurd (omega arith)
fitted_all (suc n) (c ∷ cells) e = ap (λ cs. c ∷ cs) (fitted_all n cells (omega arith))

plain-append : (a b : List LabelledCell) → plain_cells (a ++ b) ≡ plain_cells a ++ plain_cells b
plain-append [] b = refl
plain-append (c ∷ a) b = ap (λ cs. (plain_cell c).value ∷ (plain_cell c).shadow ∷ cs) (plain-append a b)

pair_plain : (width : ℕ) (a b : List LabelledCell) → length a ≡ width → beside width (plain_cells a) (plain_cells b) ≡ plain_cells (a ++ b)
pair_plain width a b e =
    ap (λ cs. cs ++ plain_cells b) (fitted_all (2 * width) (plain_cells a) (omega (arith, e, length-plain a))) ∙ sym (plain-append a b)

one_row : (width : ℕ) (a : LabelledRow) (lasts : List LabelledRow) → length a.cells ≡ width
    → map (beside width (cells_held a)) (map cells_held lasts) ≡ map plain_cells (map (λ (b : LabelledRow). a.cells ++ b.cells) lasts)
one_row width a [] e = refl
one_row width a (b ∷ lasts) e =
    ap (λ cs. cs ∷ map (beside width (cells_held a)) (map cells_held lasts)) (pair_plain width a.cells b.cells e)
    ∙ ap (λ rs. plain_cells (a.cells ++ b.cells) ∷ rs) (one_row width a lasts e)

map_append : {A B : Type 0} (f : A → B) (xs ys : List A) → map f (xs ++ ys) ≡ map f xs ++ map f ys
map_append f [] ys = refl
map_append f (x ∷ xs) ys = ap (λ zs. f x ∷ zs) (map_append f xs ys)

pairs_plain : (columns : List Column) (firsts lasts : List LabelledRow) → RowsRead columns firsts
    → j.pairs (length columns) (map cells_held firsts) (map cells_held lasts) ≡ map plain_cells (pairs firsts lasts)
pairs_plain columns [] lasts r = refl
pairs_plain columns (a ∷ firsts) lasts r =
    ap (λ rs. rs ++ j.pairs (length columns) (map cells_held firsts) (map cells_held lasts)) (one_row (length columns) a lasts (read_length columns a.cells r.0))
    ∙ ap (λ rs. map plain_cells (map (λ (b : LabelledRow). a.cells ++ b.cells) lasts) ++ rs) (pairs_plain columns firsts lasts r.1)
    ∙ sym (map_append plain_cells (map (λ (b : LabelledRow). a.cells ++ b.cells) lasts) (pairs firsts lasts))

chosen_plain_pairs : (s : JoinStmt) (vs : List LabelledCell) (columns ts : List Column) (firsts lasts : List LabelledRow) → RowsRead ts firsts
    → chosen_pairs s (plain_values vs) columns (length ts) (map plain_row firsts) (map plain_row lasts) ≡ map plain_cells (pairs_chosen s vs columns firsts lasts)
chosen_plain_pairs s vs columns ts firsts lasts r =
    ap (λ cs. limited s.limit (filter (pair_holds s (plain_values vs) columns) (j.pairs (length ts) cs (cells_of (map plain_row lasts))))) (cells_of_plain firsts)
    ∙ ap (λ cs. limited s.limit (filter (pair_holds s (plain_values vs) columns) (j.pairs (length ts) (map cells_held firsts) cs))) (cells_of_plain lasts)
    ∙ ap (λ cs. limited s.limit (filter (pair_holds s (plain_values vs) columns) cs)) (pairs_plain ts firsts lasts r)
    ∙ ap (limited s.limit) (filter_map plain_cells (pair_holds s (plain_values vs) columns) (pairs firsts lasts))
    ∙ limited_map plain_cells s.limit (filter (is_chosen_pair s vs columns) (pairs firsts lasts))

told_rows : (columns : List Column) (names : List (List ℕ)) (rows : List (List LabelledCell))
    → map (answered_row columns names) (map plain_cells rows) ≡ map plain_values (map (cells_told columns names) rows)
told_rows columns names [] = refl
told_rows columns names (cells ∷ rows) =
    ap (λ cs. cs ∷ map (answered_row columns names) (map plain_cells rows)) (sym (cells_told_plain columns names cells))
    ∙ ap (λ rs. plain_values (cells_told columns names cells) ∷ rs) (told_rows columns names rows)

abbrev more_of : ℕ → List (List ℕ) → List (List StoredCell) → ℕ → MoreAnswer
more_of scanned names rows chosen = record { scanned = scanned; names = names; rows = rows; chosen = chosen }

joined_plain : (s : JoinStmt) (vs : List LabelledCell) (columns ts : List Column) (firsts lasts : List LabelledRow) → RowsRead ts firsts
    → join_answer s (plain_values vs) columns (length ts) (map plain_row firsts) (map plain_row lasts) ≡ plain_more (joined s vs columns firsts lasts)
unfolding join_answer joined
joined_plain s vs columns ts firsts lasts r =
    let names = first_named s.columns in
    let chosen = pairs_chosen s vs columns firsts lasts in
    let price : cost (length (map plain_row firsts)) (length (map plain_row lasts)) ≡ cost (length firsts) (length lasts)
    = ap (λ n. cost n (length (map plain_row lasts))) (length_map plain_row firsts) ∙ ap (cost (length firsts)) (length_map plain_row lasts) in
    ap (λ cs. more_of (cost (length (map plain_row firsts)) (length (map plain_row lasts))) names (map (answered_row columns names) cs) (length cs))
    (chosen_plain_pairs s vs columns ts firsts lasts r)
    ∙ ap (λ n. more_of n names (map (answered_row columns names) (map plain_cells chosen)) (length (map plain_cells chosen))) price
    ∙ ap (λ rs. more_of (cost (length firsts) (length lasts)) names rs (length (map plain_cells chosen))) (told_rows columns names chosen)
    ∙ ap (more_of (cost (length firsts) (length lasts)) names (map plain_values (map (cells_told columns names) chosen))) (length_map plain_cells chosen)

paid_plain : (left price : ℕ) (answer : LabelledMore) → m.paid left price (plain_more answer) ≡ plain_more_end (paid left price answer)
paid_plain left price answer = by (nat_lt left price)
  where
    by : (b : Bool) → cond b m.Costs (m.Answers (plain_more answer)) ≡ plain_more_end (cond b own.Costs (own.Answers answer))
    by true = refl
    by false = refl

join_ends : (s : JoinStmt) (vs : List LabelledCell) (left : ℕ) (columns ts : List Column) (firsts lasts : List LabelledRow) (f l : List Row) → RowsRead ts firsts
    → f ≡ map plain_row firsts → l ≡ map plain_row lasts
    → join_end s (plain_values vs) left columns (length ts) f l ≡ plain_more_end (paid left (cost (length firsts) (length lasts)) (joined s vs columns firsts lasts))
unfolding join_end
join_ends s vs left columns ts firsts lasts f l r e g =
    let price : cost (length (map plain_row firsts)) (length (map plain_row lasts)) ≡ cost (length firsts) (length lasts)
    = ap (λ n. cost n (length (map plain_row lasts))) (length_map plain_row firsts) ∙ ap (cost (length firsts)) (length_map plain_row lasts) in
    ap (λ x. m.paid left (cost (length x) (length l)) (join_answer s (plain_values vs) columns (length ts) x l)) e
    ∙ ap (λ x. m.paid left (cost (length (map plain_row firsts)) (length x)) (join_answer s (plain_values vs) columns (length ts) (map plain_row firsts) x)) g
    ∙ ap (m.paid left (cost (length (map plain_row firsts)) (length (map plain_row lasts)))) (joined_plain s vs columns ts firsts lasts r)
    ∙ ap (λ n. m.paid left n (plain_more (joined s vs columns firsts lasts))) price
    ∙ paid_plain left (cost (length firsts) (length lasts)) (joined s vs columns firsts lasts)

-- ---- a join

abbrev Ends : m.Plan → TableStore → LabelledMoreEnd → Type 0
Ends p tables e = Follows p tables [] (plain_more_end e)

ends_unless : (x : Option SqlRefusal) (p : m.Plan) (tables : TableStore) (e : LabelledMoreEnd) → Ends p tables e → Ends (m.unless x p) tables (unless x e)
ends_unless None p tables e f = f
ends_unless (Some x) p tables e f = (refl, refl)

pub join_with : (s : JoinStmt) (vs : List LabelledCell) (left : ℕ) (tables : TableStore) → EachWhole tables
    → Ends (join_plan s (plain_values vs) left) tables (join_effect s vs left (lift_tables tables))
unfolding join_plan join_rows join_effect join_over
join_with s vs left tables whole = by (bytes_eq s.table s.joined)
  where
    at : (a b : Option (List Column)) (o p : Option LabelledTable) → shape_of (columns_of tables s.table) ≡ a → shape_of (columns_of tables s.joined) ≡ b
        → get (lift_tables tables) s.table ≡ o → get (lift_tables tables) s.joined ≡ p → Ends (join_on s (plain_values vs) left a b) tables (join_of s vs left o p)
        → Ends (join_on s (plain_values vs) left (shape_of (columns_of tables s.table)) (shape_of (columns_of tables s.joined))) tables
        (join_of s vs left (get (lift_tables tables) s.table) (get (lift_tables tables) s.joined))
    at a b o p e f g h x =
        subst (λ y. Ends (join_on s (plain_values vs) left y (shape_of (columns_of tables s.joined))) tables (join_of s vs left (get (lift_tables tables) s.table) (get (lift_tables tables) s.joined))) (sym e)
        (subst (λ y. Ends (join_on s (plain_values vs) left a y) tables (join_of s vs left (get (lift_tables tables) s.table) (get (lift_tables tables) s.joined))) (sym f)
        (subst (λ y. Ends (join_on s (plain_values vs) left a b) tables (join_of s vs left y (get (lift_tables tables) s.joined))) (sym g)
        (subst (λ y. Ends (join_on s (plain_values vs) left a b) tables (join_of s vs left o y)) (sym h) x)))

    both : Stood tables s.table → Stood tables s.joined
        → Ends (join_on s (plain_values vs) left (shape_of (columns_of tables s.table)) (shape_of (columns_of tables s.joined))) tables
        (join_of s vs left (get (lift_tables tables) s.table) (get (lift_tables tables) s.joined))
    both (absent e g) other = at None (shape_of (columns_of tables s.joined)) None (get (lift_tables tables) s.joined) e refl g refl (refl, refl)
    both (odd table e g) other = at None (shape_of (columns_of tables s.joined)) (Some (Odd table)) (get (lift_tables tables) s.joined) e refl g refl (refl, refl)
    both (there ts firsts st e g) (absent f h) = at (Some ts) None (Some (Rows ts firsts)) None e f g h (refl, refl)
    both (there ts firsts st e g) (odd table f h) = at (Some ts) None (Some (Rows ts firsts)) (Some (Odd table)) e f g h (refl, refl)
    both (there ts firsts st e g) (there us lasts st' f h) =
        let columns = both_columns s ts us in
        at (Some ts) (Some us) (Some (Rows ts firsts)) (Some (Rows us lasts)) e f g h
        (ends_unless (join_cause s (plain_values vs) columns)
        (Ask (AskRows s.table) (λ fs. Ask (AskRows s.joined) (λ ls. Done (join_end s (plain_values vs) left columns (length ts) fs ls)))) tables
        (paid left (cost (length firsts) (length lasts)) (joined s vs columns firsts lasts))
        ([], [], refl, refl, ([], [], refl, refl, (refl, join_ends s vs left columns ts firsts lasts (rows_of tables s.table) (rows_of tables s.joined) st.read (stood_rows st) (stood_rows st')))))

    by : (b : Bool)
        → Ends (cond b (Done (m.Refuses SameTable)) (Ask (AskColumns s.table) (λ ts. Ask (AskColumns s.joined) (λ us. join_on s (plain_values vs) left (shape_of ts) (shape_of us))))) tables
        (cond b (own.Refuses SameTable) (join_of s vs left (get (lift_tables tables) s.table) (get (lift_tables tables) s.joined)))
    by true = (refl, refl)
    by false = ([], [], refl, refl, ([], [], refl, refl, both (stood tables s.table whole) (stood tables s.joined whole)))

-- ---- a total

item_plain : (columns : List Column) (rows : List LabelledRow) (column : Option (List ℕ)) → column_cells columns (map cells_held rows) column ≡ plain_values (item_cells columns rows column)
item_plain columns rows None = refl
item_plain columns rows (Some column) =
    ap (filter (λ v. not (is_null v))) (again rows)
    ∙ filter_map plain_cell (λ v. not (is_null v)) (map (λ (row : LabelledRow). cell_told row.cells (found columns column)) rows)
  where
    again : (rs : List LabelledRow) → map (λ cells. answered_at cells (found columns column)) (map cells_held rs) ≡ map plain_cell (map (λ (row : LabelledRow). cell_told row.cells (found columns column)) rs)
    again [] = refl
    again (r ∷ rs) =
        ap (λ c. c ∷ map (λ cells. answered_at cells (found columns column)) (map cells_held rs)) (sym (told_plain r.cells (found columns column)))
        ∙ ap (λ cs. plain_cell (cell_told r.cells (found columns column)) ∷ cs) (again rs)

total_chosen : (s : TotalStmt) (vs : List LabelledCell) (columns : List Column) (rows : List LabelledRow)
    → chosen_rows s (plain_values vs) columns (map plain_row rows) ≡ map cells_held (rows_chosen columns s.condition vs rows)
total_chosen s vs columns rows =
    ap (filter (where_holds columns s.condition (plain_values vs))) (cells_of_plain rows) ∙ filter_map cells_held (where_holds columns s.condition (plain_values vs)) rows

all_items : (columns : List Column) (rows : List LabelledRow) (items : List TotalItem)
    → map (λ it. column_cells columns (map cells_held rows) (item_column it)) items ≡ map plain_values (map (λ it. item_cells columns rows (item_column it)) items)
all_items columns rows [] = refl
all_items columns rows (it ∷ items) =
    ap (λ cs. cs ∷ map (λ i. column_cells columns (map cells_held rows) (item_column i)) items) (item_plain columns rows (item_column it))
    ∙ ap (λ rs. plain_values (item_cells columns rows (item_column it)) ∷ rs) (all_items columns rows items)

totalled_plain : (s : TotalStmt) (vs : List LabelledCell) (columns : List Column) (rows : List LabelledRow)
    → total_answer s (plain_values vs) columns (map plain_row rows) ≡ plain_more (totalled s vs columns rows)
unfolding total_answer totalled
totalled_plain s vs columns rows =
    let names = map item_name (first_items s.items) in
    let chosen = rows_chosen columns s.condition vs rows in
    ap (λ cs. more_of (length (map plain_row rows)) names (map (λ it. column_cells columns cs (item_column it)) (first_items s.items)) (length cs)) (total_chosen s vs columns rows)
    ∙ ap (λ n. more_of n names (map (λ it. column_cells columns (map cells_held chosen) (item_column it)) (first_items s.items)) (length (map cells_held chosen))) (length_map plain_row rows)
    ∙ ap (λ rs. more_of (length rows) names rs (length (map cells_held chosen))) (all_items columns chosen (first_items s.items))
    ∙ ap (more_of (length rows) names (map plain_values (map (λ it. item_cells columns chosen (item_column it)) (first_items s.items)))) (length_map cells_held chosen)

total_ends : (s : TotalStmt) (vs : List LabelledCell) (left : ℕ) (columns : List Column) (rows : List LabelledRow) (held : List Row) → held ≡ map plain_row rows
    → total_end s (plain_values vs) left columns held ≡ plain_more_end (paid left (length rows) (totalled s vs columns rows))
unfolding total_end
total_ends s vs left columns rows held e =
    ap (λ x. m.paid left (length x) (total_answer s (plain_values vs) columns x)) e
    ∙ ap (m.paid left (length (map plain_row rows))) (totalled_plain s vs columns rows)
    ∙ ap (λ n. m.paid left n (plain_more (totalled s vs columns rows))) (length_map plain_row rows)
    ∙ paid_plain left (length rows) (totalled s vs columns rows)

pub total_with : (s : TotalStmt) (vs : List LabelledCell) (left : ℕ) (tables : TableStore) → EachWhole tables
    → Ends (total_plan s (plain_values vs) left) tables (total_effect s vs left (lift_tables tables))
unfolding total_plan total_rows total_over
total_with s vs left tables whole = ([], [], refl, refl, by (stood tables s.table whole))
  where
    at : (a : Option (List Column)) (o : Option LabelledTable) → shape_of (columns_of tables s.table) ≡ a → get (lift_tables tables) s.table ≡ o
        → Ends (total_on s (plain_values vs) left a) tables (total_of s vs left o)
        → Ends (total_on s (plain_values vs) left (shape_of (columns_of tables s.table))) tables (total_of s vs left (get (lift_tables tables) s.table))
    at a o e g x =
        subst (λ y. Ends (total_on s (plain_values vs) left y) tables (total_of s vs left (get (lift_tables tables) s.table))) (sym e)
        (subst (λ y. Ends (total_on s (plain_values vs) left a) tables (total_of s vs left y)) (sym g) x)

    by : Stood tables s.table → Ends (total_on s (plain_values vs) left (shape_of (columns_of tables s.table))) tables (total_of s vs left (get (lift_tables tables) s.table))
    by (absent e g) = at None None e g (refl, refl)
    by (odd table e g) = at None (Some (Odd table)) e g (refl, refl)
    by (there columns rows st e g) =
        at (Some columns) (Some (Rows columns rows)) e g
        (ends_unless (total_cause s (plain_values vs) columns)
        (Ask (AskRows s.table) (λ rs. Done (total_end s (plain_values vs) left columns rs))) tables
        (paid left (length rows) (totalled s vs columns rows))
        ([], [], refl, refl, (refl, total_ends s vs left columns rows (rows_of tables s.table) (stood_rows st))))

-- ---- the laws

-- tables that are lifted to the same are the same
pub same_tables : (s t : TableStore) → lift_tables t ≡ lift_tables s → t ≡ s
same_tables s t e = sym (keeps_table_stores t) ∙ ap plain_tables e ∙ keeps_table_stores s

pub joins_are_effects : JoinsAreEffects
joins_are_effects s vs left tables whole =
    let f = followed_by (join_plan s (plain_values vs) left) tables [] (plain_more_end (join_effect s vs left (lift_tables tables))) (join_with s vs left tables whole) in
    (same_tables tables (followed (join_plan s (plain_values vs) left) tables).0 f.0, f.1)

pub totals_are_effects : TotalsAreEffects
totals_are_effects s vs left tables whole =
    let f = followed_by (total_plan s (plain_values vs) left) tables [] (plain_more_end (total_effect s vs left (lift_tables tables))) (total_with s vs left tables whole) in
    (same_tables tables (followed (total_plan s (plain_values vs) left) tables).0 f.0, f.1)

-- no step was taken
none_taken : (tables : TableStore) (w : Keeping) → (t : TableStore) × (w.stored ≡ Some t) × EachWhole t × IsFront (lift_tables tables) [] (lift_tables t) → w.stored ≡ Some tables
none_taken tables w h = h.1 ∙ ap (λ (x : TableStore). let o : Option TableStore = Some x in o) (same_tables tables h.0 (h.3.1 ∙ by h.3.0))
  where
    by : (k : ℕ) → all_stepped (lift_tables tables) (take k []) ≡ lift_tables tables
    by zero = refl
    by (suc k) = refl

comes_to : {p : m.Plan} {u w : Keeping} {r : Result MoreAnswer SqlStop} (tables : TableStore) (e : LabelledMoreEnd) → u.stored ≡ Some tables → EachWhole tables
    → Follows p tables [] (plain_more_end e) → m.Ends p u r w → (w.stored ≡ Some tables) × ComesTo e r
comes_to {w = w} tables e told whole f (m.answered l) =
    let h = reached tables [] (plain_more_end e) told whole f l in (none_taken tables w (so_far h), (all_made h).0)
comes_to {w = w} tables e told whole f (m.refused l) =
    let h = reached tables [] (plain_more_end e) told whole f l in (none_taken tables w (so_far h), (all_made h).0)
comes_to {w = w} tables e told whole f (m.dear l) = (none_taken tables w (so_far (reached tables [] (plain_more_end e) told whole f l)), tt)
comes_to tables e told whole f (m.failed {call = call} {next = next} {v = v} {w = w} l c) =
    (none_taken tables w (one_failed call next fault.Failed v w tables [] (plain_more_end e) (reached tables [] (plain_more_end e) told whole f l) c), tt)
comes_to {w = w} tables e told whole f (m.spent l le) = (none_taken tables w (so_far (reached tables [] (plain_more_end e) told whole f l)), tt)
comes_to {w = w} tables e told whole f (m.wanting l) = (none_taken tables w (so_far (reached tables [] (plain_more_end e) told whole f l)), tt)
comes_to tables e told whole f (m.wanting_in_call {call = call} {next = next} {v = v} {w = w} l c) =
    (none_taken tables w (one_failed call next fault.Memory v w tables [] (plain_more_end e) (reached tables [] (plain_more_end e) told whole f l) c), tt)

pub join_runs_are_effects : JoinRunsAreEffects
join_runs_are_effects s vs left u w r tables told whole ends = comes_to tables (join_effect s vs left (lift_tables tables)) told whole (join_with s vs left tables whole) ends

pub total_runs_are_effects : TotalRunsAreEffects
total_runs_are_effects s vs left u w r tables told whole ends = comes_to tables (total_effect s vs left (lift_tables tables)) told whole (total_with s vs left tables whole) ends
