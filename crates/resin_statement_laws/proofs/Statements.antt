-- The plan of each statement is followed with its effect.
use Rattle.std.proofs.Common.{◌≡◌, ℕ, zero, suc, ◌+◌, ◌-◌, ◌<◌, ◌≤◌, ◌==◌, nat_lt, nat_le, ◌&&◌, not, Bool, true, false, cond, List, [], ◌∷◌, ◌++◌, length, map, filter, take, drop, Option, Some, None, Result, Ok, Err, refl, sym, ap, subst, ◌∙◌, arith}
use Rattle.std.specs.Prelude.{⊤}
use Rattle.std.specs.FinMap.{get, contains_key}
use Rattle.std.specs.FinMap.{insert as insert_table}
use Rattle.std.specs.Option.{option_map, option_map_or}
use Rattle.std.proofs.lemmas.Bool.{and_parts, and_from, eq-eqb, leb-true, le-leb, lt-ltb, leb-false, or_left, or_right}
use Rattle.std.proofs.lemmas.Bool.Decides.{nat_tests}
use Rattle.std.proofs.lemmas.List.{take-map, drop-map}
use Rattle.resin_base.specs.TableStore.{TableStore, table_of, EachWhole, rise_from, rows_of, with_rows, fits, has_number, has_row, largest_number, last_row_number}
use Rattle.resin_base.specs.TableStore.{next_number, after_create, after_insert, can_update, after_update, after_delete}
use Rattle.resin_base.specs.declared.cell.Cell.{Cell}
use Rattle.resin_base.specs.declared.cell.Column.{Column}
use Rattle.resin_base.specs.declared.cell.Row.{Row}
use Rattle.resin_base.specs.declared.cell.Table.{Table}
use Rattle.resin_store.specs.Cells.{LabelledCell, plain_cell}
use Rattle.resin_meaning_forms.specs.Under.meaning_tables.Under.sql.declared.fault.SqlRefusal.{SqlRefusal}
use Rattle.resin_meaning_forms.specs.Under.meaning_tables.Under.sql.declared.fault.SqlRefusal.TheVariants.{TableExists, DuplicateColumn, Full}
use Rattle.resin_meaning_forms.specs.Under.meaning_tables.Under.sql.declared.tree.Condition.{Condition}
use Rattle.resin_meaning_forms.specs.Under.meaning_tables.Under.sql.declared.tree.Create.{Create}
use Rattle.resin_meaning_forms.specs.Under.meaning_tables.Under.sql.declared.tree.Delete.{Delete}
use Rattle.resin_meaning_forms.specs.Under.meaning_tables.Under.sql.declared.tree.Insert.{Insert}
use Rattle.resin_meaning_forms.specs.Under.meaning_tables.Under.sql.declared.tree.Order.{Order}
use Rattle.resin_meaning_forms.specs.Under.meaning_tables.Under.sql.declared.tree.Select.{Select}
use Rattle.resin_meaning_forms.specs.Under.meaning_tables.Under.sql.declared.tree.Stmt.{Stmt}
use Rattle.resin_meaning_forms.specs.Under.meaning_tables.Under.sql.declared.tree.Stmt.TheVariants as statement
use Rattle.resin_meaning_forms.specs.Under.meaning_tables.Under.sql.declared.tree.Update.{Update}
use Rattle.resin_meaning_forms.specs.Under.meaning_tables.Under.rows.Columns.{names_of, is_repeated, first_named, found, paired, shape}
use Rattle.resin_meaning_forms.specs.Under.meaning_tables.Under.rows.Conditions.{where_holds, where_cause}
use Rattle.resin_meaning_forms.specs.Under.meaning_tables.Under.rows.Refusals.{earlier, once_cause, values_cause, rows_cause}
use Rattle.resin_meaning_forms.specs.Under.meaning_tables.Under.rows.Rows.{changed, inserted, cells_of, in_order, put_in_order, comes_before, by_place, ordered, limited, answered_row}
use Rattle.resin_meaning_forms.specs.Under.meaning_tables.Under.rows.declared.columns.Place.{Place}
use Rattle.resin_meaning_forms.specs.Under.meaning_tables.Under.plan.Plans.{Ask, Plan, give, refuse}
use Rattle.resin_meaning_forms.specs.Under.meaning_tables.Under.plan.Plans.{unless as unless_plan}
use Rattle.resin_meaning_forms.specs.Under.meaning_tables.Under.plan.TableCalls.{MakeTable, AskRows}
use Rattle.resin_meaning_forms.specs.Under.meaning_tables.Under.plan.Statements.{with_shape, with_columns, on_table, create, named, insert_cause, added, insert_rows, insert_into, insert, select_cause, selected, selection, select_from, select}
use Rattle.resin_meaning_forms.specs.Under.meaning_tables.Under.plan.Statements.{chosen, one_more, changed_names, update_cause, changed_row, changed_rows, update_rows, update_in, update, chosen_numbers, delete_rows, delete_in, delete, plan}
use Rattle.resin_meaning_forms.specs.Under.meaning_tables.Under.plan.Statements.{created as created_plan}
use Rattle.resin_meaning_forms.specs.Under.meaning_tables.Under.plan.declared.answer.SqlAnswer.{SqlAnswer}
use Rattle.resin_meaning_forms.specs.Under.meaning_tables.Under.plan.declared.answer.SqlResult.TheVariants as result
use Rattle.resin_frame.specs.LabelledTables.{LabelledRow, plain_cells, plain_row, lift_row, lifted_table, lift_table, lift_tables}
use Rattle.resin_statement_laws.specs.Effects.{Step, MakesTable, PutsRow, SetsRow, TakesRow, all_stepped, Effect, LabelledEnd, plain_values, plain_end, Counts, Tells, counted, refused, unless, on_rows, cells_with, cells_told}
use Rattle.resin_statement_laws.specs.Effects.{is_chosen, rows_chosen, rows_by, rows_ordered, created, rows_given, numbers_left, rows_put, inserted_into, selected_rows, selected_of, row_set, updated_in, row_taken, deleted_in, effect}
use Rattle.resin_statement_laws.specs.Runs.{followed}
use Rattle.resin_statement_laws.specs.Laws.{AreReadable, StatementsAreEffects}
use Rattle.resin_statement_laws.proofs.Calls.{lift_get, holds_of, lift_whole, whole_at, makes, puts_last, sets_cells, takes_out}
use Rattle.resin_statement_laws.proofs.Cells.{map_again, cells_told_plain, changed_plain, given_rows_plain, EachRead, read_length, with_read, no_cause, columns_take, readable_take, AllRead, given_read}
use Rattle.resin_statement_laws.proofs.Following.{Follows, followed_by}
use Rattle.resin_statement_laws.proofs.Stores.{RowsRead, Stands, stands, AtWork, at_work, stood_rows, read_there, fits_there, work_inserted, work_updated, work_deleted, updated_numbers, deleted_numbers, inserted_largest}

-- a plan is followed with an effect
abbrev pub With : Plan → TableStore → Effect LabelledEnd → Type 0
With p s e = Follows p s e.steps (plain_end e.end)

-- ---- the parts that statements share

pub with_unless : (x : Option SqlRefusal) (p : Plan) (s : TableStore) (e : Effect LabelledEnd) → (x ≡ None → With p s e) → With (unless_plan x p) s (unless x e)
with_unless None p s e f = f refl
with_unless (Some x) p s e f = (refl, refl)

pub with_table : (name : List ℕ) (rest : List Column → Plan) (eff : List Column → List LabelledRow → Effect LabelledEnd) (s : TableStore) → EachWhole s
    → ((columns : List Column) (rows : List LabelledRow) → Stands s name columns rows → With (rest columns) s (eff columns rows))
    → With (on_table name rest) s (on_rows eff (get (lift_tables s) name))
with_table name rest eff s whole each =
    subst (λ g. With (on_table name rest) s (on_rows eff g)) (sym (lift_get s name)) ([], (on_rows eff (option_map lift_table (get s name))).steps, refl, refl, by (get s name) refl)
  where
    inner : (table : Table) → get s name ≡ Some table → (o : Option (List Column)) → shape table.columns ≡ o
        → With (with_shape rest o) s (on_rows eff (Some (lifted_table table o)))
    inner table there None is = (refl, refl)
    inner table there (Some columns) is = each columns (map (lift_row columns) table.rows) (stands s name table columns whole there is)

    by : (o : Option Table) → get s name ≡ o → With (with_columns rest (option_map (λ (table : Table). table.columns) o)) s (on_rows eff (option_map lift_table o))
    by None e = (refl, refl)
    by (Some table) e =
        subst (λ t. With (with_shape rest (shape table.columns)) s (on_rows eff (Some t))) (sym (lift_whole table (whole_at s name table whole e)))
        (inner table e (shape table.columns) refl)

-- the rows are asked for
with_rows_asked : (name : List ℕ) (columns : List Column) (rows : List LabelledRow) (next : List Row → Plan) (s : TableStore) (e : Effect LabelledEnd) → Stands s name columns rows
    → With (next (map plain_row rows)) s e → With (Ask (AskRows name) next) s e
with_rows_asked name columns rows next s e st f = ([], e.steps, refl, refl, subst (λ rs. With (next rs) s e) (sym (stood_rows st)) f)

-- ---- rows of cells, and what a keeper holds of them

abbrev pub cells_held : LabelledRow → List Cell
cells_held row = plain_cells row.cells

pub cells_of_plain : (rows : List LabelledRow) → cells_of (map plain_row rows) ≡ map cells_held rows
cells_of_plain rows = map_again (λ (r : Row). r.cells) plain_row cells_held (λ row. refl) rows

pub filter_map : {A B : Type 0} (f : A → B) (test : B → Bool) (xs : List A) → filter test (map f xs) ≡ map f (filter (λ x. test (f x)) xs)
filter_map f test [] = refl
filter_map {A = A} f test (x ∷ xs) = by (test (f x)) (filter_map f test xs)
  where
    rest : List A
    rest = filter (λ y. test (f y)) xs

    by : (b : Bool) → filter test (map f xs) ≡ map f rest → cond b (f x ∷ filter test (map f xs)) (filter test (map f xs)) ≡ map f (cond b (x ∷ rest) rest)
    by true h = ap (λ ys. f x ∷ ys) h
    by false h = h

put_map : {A B : Type 0} (f : A → B) (before : B → B → Bool) (x : A) (ys : List A)
    → put_in_order before (f x) (map f ys) ≡ map f (put_in_order (λ a b. before (f a) (f b)) x ys)
put_map f before x [] = refl
put_map f before x (y ∷ ys) = by (before (f y) (f x)) (put_map f before x ys)
  where
    by : (b : Bool) → put_in_order before (f x) (map f ys) ≡ map f (put_in_order (λ a b. before (f a) (f b)) x ys)
        → cond b (f y ∷ put_in_order before (f x) (map f ys)) (f x ∷ f y ∷ map f ys) ≡ map f (cond b (y ∷ put_in_order (λ a b. before (f a) (f b)) x ys) (x ∷ y ∷ ys))
    by true h = ap (λ zs. f y ∷ zs) h
    by false h = refl

order_map : {A B : Type 0} (f : A → B) (before : B → B → Bool) (xs : List A) → in_order before (map f xs) ≡ map f (in_order (λ a b. before (f a) (f b)) xs)
order_map f before [] = refl
order_map f before (x ∷ xs) = ap (put_in_order before (f x)) (order_map f before xs) ∙ put_map f before x (in_order (λ a b. before (f a) (f b)) xs)

ordered_map : (columns : List Column) (order : Option Order) (rows : List LabelledRow) → ordered columns order (map cells_held rows) ≡ map cells_held (rows_ordered columns order rows)
ordered_map columns None rows = refl
ordered_map columns (Some order) rows = by (found columns order.column)
  where
    by : (o : Option Place) → by_place order.descending o (map cells_held rows) ≡ map cells_held (rows_by order.descending o rows)
    by None = refl
    by (Some p) = order_map cells_held (comes_before p order.descending) rows

pub limited_map : {A B : Type 0} (f : A → B) (limit : Option ℕ) (xs : List A) → limited limit (map f xs) ≡ map f (limited limit xs)
limited_map f None xs = refl
limited_map f (Some n) xs = take-map f n xs

pub length_map : {A B : Type 0} (f : A → B) (xs : List A) → length (map f xs) ≡ length xs
length_map f [] = refl
length_map f (x ∷ xs) = ap suc (length_map f xs)

pub chosen_plain : (columns : List Column) (condition : Option Condition) (vs : List LabelledCell) (rows : List LabelledRow)
    → chosen columns condition (plain_values vs) (map plain_row rows) ≡ map plain_row (rows_chosen columns condition vs rows)
chosen_plain columns condition vs rows = filter_map plain_row (λ (r : Row). where_holds columns condition (plain_values vs) r.cells) rows

-- ---- CREATE

with_created : (c : Create) (s : TableStore) → With (create c) s (created c (lift_tables s))
unfolding create created
with_created c s = by (is_repeated (names_of c.columns))
  where
    there : (b : Bool) → contains_key s c.table ≡ b
        → With (Ask (MakeTable c.table (paired c.columns)) created_plan) s (cond b (refused TableExists) (record { steps = MakesTable c.table c.columns ∷ []; end = Ok (record { scanned = 0; result = Counts 0 }) }))
    there true e =
        let left : after_create s c.table (paired c.columns) ≡ s
        = ap (λ b. cond b s (insert_table s c.table (table_of (paired c.columns) []))) e in
        ([], [], refl, ap lift_tables left, subst (λ b. With (created_plan (not b)) (after_create s c.table (paired c.columns)) (refused TableExists)) (sym e) (refl, refl))
    there false e =
        (MakesTable c.table c.columns ∷ [], [], refl, (makes s c.table c.columns).1.lifted, subst (λ b. Follows (created_plan (not b)) (after_create s c.table (paired c.columns)) [] (Ok (record { scanned = 0; result = result.Count 0 }))) (sym e) (refl, refl))

    by : (b : Bool) → With (cond b (refuse DuplicateColumn) (Ask (MakeTable c.table (paired c.columns)) created_plan)) s
        (cond b (refused DuplicateColumn) (cond (contains_key (lift_tables s) c.table) (refused TableExists) (record { steps = MakesTable c.table c.columns ∷ []; end = Ok (record { scanned = 0; result = Counts 0 }) })))
    by true = (refl, refl)
    by false =
        subst (λ b. With (Ask (MakeTable c.table (paired c.columns)) created_plan) s (cond b (refused TableExists) (record { steps = MakesTable c.table c.columns ∷ []; end = Ok (record { scanned = 0; result = Counts 0 }) })))
        ((makes s c.table c.columns).0) (there (contains_key s c.table) refl)

-- ---- INSERT

abbrev insert_end : List (List LabelledCell) → ℕ → ℕ → Result SqlAnswer SqlRefusal
insert_end given left n = cond (nat_le (length given) left) (Ok (record { scanned = 0; result = result.Count (n + length given) })) (Err Full)

insert_none : (left n : ℕ) → insert_end [] left n ≡ Ok (record { scanned = 0; result = result.Count n })
insert_none left n =
    ap (λ b. cond b (Ok (record { scanned = 0; result = result.Count (n + 0) })) (Err Full)) (le-leb 0 left (omega arith))
    ∙ ap (λ m. let o : Result SqlAnswer SqlRefusal = Ok (record { scanned = 0; result = result.Count m }) in o) (let e : n + 0 ≡ n = omega arith in e)

pub lt_no : (a b : ℕ) → b ≤ a → nat_lt a b ≡ false
lt_no a b h = grind (arith, nat_tests)

le_no : (a b : ℕ) → b < a → nat_le a b ≡ false
le_no a b h = grind (arith, nat_tests)

le_more : (a b : ℕ) → nat_le a b ≡ nat_le (suc a) (suc b)
le_more a b = by (nat_le a b) refl
  where
    by : (t : Bool) → nat_le a b ≡ t → t ≡ nat_le (suc a) (suc b)
    by true e = sym (le-leb (suc a) (suc b) (omega (arith, leb-true a b e)))
    by false e = sym (le_no (suc a) (suc b) (omega (arith, leb-false a b e)))

insert_more : (cells : List LabelledCell) (given : List (List LabelledCell)) (left n : ℕ) → insert_end given left (n + 1) ≡ insert_end (cells ∷ given) (suc left) n
insert_more cells given left n =
    ap (λ b. cond b (Ok (record { scanned = 0; result = result.Count (n + 1 + length given) })) (Err Full)) (le_more (length given) left)
    ∙ ap (λ m. cond (nat_le (suc (length given)) (suc left)) (Ok (record { scanned = 0; result = result.Count m })) (Err Full))
    (let e : n + 1 + length given ≡ n + suc (length given) = omega arith in e)

insert_comes : (given : List (List LabelledCell)) (left : ℕ) → insert_end given left 0 ≡ plain_end (cond (nat_le (length given) left) (counted 0 (length given)) (Err Full))
insert_comes given left = by (nat_le (length given) left)
  where
    by : (b : Bool) → cond b (Ok (record { scanned = 0; result = result.Count (0 + length given) })) (Err Full) ≡ plain_end (cond b (counted 0 (length given)) (Err Full))
    by true = ap (λ m. let o : Result SqlAnswer SqlRefusal = Ok (record { scanned = 0; result = result.Count m }) in o) (let e : 0 + length given ≡ length given = omega arith in e)
    by false = refl

-- where numbers are left, the next is given, and else none
number_left : (s : TableStore) (name : List ℕ) (columns : List Column) (cells : List LabelledCell) → AtWork s name columns → EachRead columns cells
    → largest_number (rows_of s name) < last_row_number → next_number s name (plain_cells cells) ≡ Some (largest_number (rows_of s name) + 1)
number_left s name columns cells w r h =
    ap (λ b. cond b (Some (largest_number (rows_of s name) + 1)) None)
    (and_from (fits s name (plain_cells cells)) (nat_lt (largest_number (rows_of s name)) last_row_number) (fits_there s name columns cells w r) (lt-ltb _ _ h))

no_number_left : (s : TableStore) (name : List ℕ) (columns : List Column) (cells : List LabelledCell) → AtWork s name columns → EachRead columns cells
    → last_row_number ≤ largest_number (rows_of s name) → next_number s name (plain_cells cells) ≡ None
no_number_left s name columns cells w r h =
    ap (λ b. cond b (Some (largest_number (rows_of s name) + 1)) None)
    (ap (λ b. b && nat_lt (largest_number (rows_of s name)) last_row_number) (fits_there s name columns cells w r) ∙ lt_no (largest_number (rows_of s name)) last_row_number h)

-- a row that gets no number changes nothing
not_inserted : (s : TableStore) (name : List ℕ) (cells : List Cell) → next_number s name cells ≡ None → after_insert s name cells ≡ s
not_inserted s name cells e =
    ap (λ o. option_map_or (λ (number : ℕ). with_rows s name (λ rows. rows ++ record { number = number; cells = cells } ∷ [])) o s) e

pub with_inserted : (name : List ℕ) (columns : List Column) (given : List (List LabelledCell)) (s : TableStore) (left n : ℕ) → AtWork s name columns → AllRead columns given
    → left ≡ last_row_number - largest_number (rows_of s name)
    → Follows (insert_rows name (map plain_cells given) n) s (map (PutsRow name) (take left given)) (insert_end given left n)
with_inserted name columns [] s zero n w r is = (refl, sym (insert_none zero n))
with_inserted name columns [] s (suc left) n w r is = (refl, sym (insert_none (suc left) n))
with_inserted name columns (cells ∷ given) s zero n w r is =
    let none = no_number_left s name columns cells w r.0 (omega (arith, is)) in
    let full : insert_end (cells ∷ given) zero n ≡ Err Full
    = ap (λ b. cond b (Ok (record { scanned = 0; result = result.Count (n + length (cells ∷ given)) })) (Err Full)) (le_no (suc (length given)) 0 (omega arith)) in (
      [],
      [],
      refl,
      ap lift_tables (not_inserted s name (plain_cells cells) none),
      subst (λ o. Follows (added (insert_rows name (map plain_cells given) (n + 1)) o) (after_insert s name (plain_cells cells)) [] (insert_end (cells ∷ given) zero n)) (sym none)
          (refl, sym full),
    )
with_inserted name columns (cells ∷ given) s (suc left) n w r is =
    let some = number_left s name columns cells w r.0 (omega (arith, is)) in
    let s' = after_insert s name (plain_cells cells) in
    let rest : Follows (insert_rows name (map plain_cells given) (n + 1)) s' (map (PutsRow name) (take left given)) (insert_end given left (n + 1))
    = with_inserted name columns given s' left (n + 1) (work_inserted s name columns (plain_cells cells) w) r.1 (omega (arith, is, inserted_largest s name (plain_cells cells) _ some)) in (
      PutsRow name cells ∷ [],
      map (PutsRow name) (take left given),
      refl,
      (puts_last s w.whole name cells (read_there s name columns cells w r.0)).1.lifted,
      subst (λ o. Follows (added (insert_rows name (map plain_cells given) (n + 1)) o) s' (map (PutsRow name) (take left given)) (insert_end (cells ∷ given) (suc left) n)) (sym some)
          (subst (λ e. Follows (insert_rows name (map plain_cells given) (n + 1)) s' (map (PutsRow name) (take left given)) e) (insert_more cells given left n) rest),
    )

insert_with : (i : Insert) (vs : List LabelledCell) (s : TableStore) → EachWhole s → AreReadable vs
    → With (insert i (plain_values vs)) s (on_rows (inserted_into i vs) (get (lift_tables s) i.table))
unfolding insert insert_into inserted_into
insert_with i vs s whole readable =
    with_table i.table (λ columns. insert_into i (plain_values vs) columns (named i.columns columns)) (inserted_into i vs) s whole (λ columns rows st.
    let names = named i.columns columns in
    with_unless (insert_cause i (plain_values vs) columns names) (insert_rows i.table (inserted columns names i.rows (plain_values vs)) 0) s
    (rows_put i.table (rows_given columns names i.rows vs) (numbers_left rows)) (λ none.
    let fine = no_cause (once_cause columns names) (rows_cause columns names i.rows (plain_values vs)) none in
    let given = rows_given columns names i.rows vs in
    let left : numbers_left rows ≡ last_row_number - largest_number (rows_of s i.table)
    = ap (λ rs. last_row_number - largest_number rs) (sym (stood_rows st)) in
    let f : Follows (insert_rows i.table (map plain_cells given) 0) s (map (PutsRow i.table) (take (numbers_left rows) given)) (insert_end given (numbers_left rows) 0)
    = with_inserted i.table columns given s (numbers_left rows) 0 (at_work st) (given_read columns names i.rows vs st.is readable fine.1) left in
    subst (λ cs. With (insert_rows i.table cs 0) s (rows_put i.table given (numbers_left rows))) (sym (given_rows_plain columns names i.rows vs))
    (subst (λ e. Follows (insert_rows i.table (map plain_cells given) 0) s (map (PutsRow i.table) (take (numbers_left rows) given)) e)
    (insert_comes given (numbers_left rows)) f)))

-- ---- SELECT

answered_rows : (columns : List Column) (names : List (List ℕ)) (rows : List LabelledRow)
    → map (answered_row columns names) (map cells_held rows) ≡ map plain_values (map (λ (row : LabelledRow). cells_told columns names row.cells) rows)
answered_rows columns names [] = refl
answered_rows columns names (row ∷ rows) =
    ap (λ cs. cs ∷ map (answered_row columns names) (map cells_held rows)) (sym (cells_told_plain columns names row.cells))
    ∙ ap (λ rs. plain_values (cells_told columns names row.cells) ∷ rs) (answered_rows columns names rows)

selected_plain : (q : Select) (vs : List LabelledCell) (columns : List Column) (rows : List LabelledRow)
    → selected q (plain_values vs) columns (map plain_row rows) ≡ map cells_held (selected_rows q vs columns rows)
selected_plain q vs columns rows =
    ap (λ cs. limited q.limit (ordered columns q.order (filter (where_holds columns q.condition (plain_values vs)) cs))) (cells_of_plain rows)
    ∙ ap (λ cs. limited q.limit (ordered columns q.order cs)) (filter_map cells_held (where_holds columns q.condition (plain_values vs)) rows)
    ∙ ap (limited q.limit) (ordered_map columns q.order (rows_chosen columns q.condition vs rows))
    ∙ limited_map cells_held q.limit (rows_ordered columns q.order (rows_chosen columns q.condition vs rows))

select_with : (q : Select) (vs : List LabelledCell) (s : TableStore) → EachWhole s
    → With (select q (plain_values vs)) s (on_rows (selected_of q vs) (get (lift_tables s) q.table))
unfolding select select_from selection selected_of
select_with q vs s whole =
    with_table q.table (λ columns. select_from q (plain_values vs) columns (named q.columns columns)) (selected_of q vs) s whole (λ columns rows st.
    let names = named q.columns columns in
    let told = map (λ (row : LabelledRow). cells_told columns (first_named names) row.cells) (selected_rows q vs columns rows) in
    with_unless (select_cause q (plain_values vs) columns names) (Ask (AskRows q.table) (λ rs. give (selection q (plain_values vs) columns names rs))) s
    (record { steps = []; end = Ok (record { scanned = length rows; result = Tells (first_named names) told }) }) (λ none.
    with_rows_asked q.table columns rows (λ rs. give (selection q (plain_values vs) columns names rs)) s
    (record { steps = []; end = Ok (record { scanned = length rows; result = Tells (first_named names) told }) }) st (
      refl,
      ap (λ n. let o : Result SqlAnswer SqlRefusal = Ok (record { scanned = n; result = result.Rows (first_named names) (map (answered_row columns (first_named names)) (selected q (plain_values vs) columns (map plain_row rows))) }) in o) (length_map plain_row rows)
          ∙ ap (λ rs. let o : Result SqlAnswer SqlRefusal = Ok (record { scanned = length rows; result = result.Rows (first_named names) rs }) in o)
          (ap (map (answered_row columns (first_named names))) (selected_plain q vs columns rows) ∙ answered_rows columns (first_named names) (selected_rows q vs columns rows)),
    )))

-- ---- UPDATE

-- each row is there, and its new cells are read as they are
abbrev AllThere : TableStore → List ℕ → List Column → List LabelledRow → Type 0
AllThere s name columns [] = ⊤
AllThere s name columns (row ∷ rows) = (EachRead columns row.cells × (has_row s name row.number ≡ true)) × AllThere s name columns rows

there_updated : (s : TableStore) (name : List ℕ) (columns : List Column) (number : ℕ) (cells : List Cell) (rows : List LabelledRow) → AllThere s name columns rows
    → AllThere (after_update s name number cells) name columns rows
there_updated s name columns number cells [] t = tt
there_updated s name columns number cells (row ∷ rows) t =
    ((t.0.0, updated_numbers s name number cells row.number ∙ t.0.1), there_updated s name columns number cells rows t.1)

abbrev count_end : ℕ → ℕ → Result SqlAnswer SqlRefusal
count_end scanned n = Ok (record { scanned = scanned; result = result.Count n })

abbrev sets : List ℕ → LabelledRow → Step
sets name row = SetsRow name row.number row.cells

with_updated : (name : List ℕ) (columns : List Column) (scanned : ℕ) (rows : List LabelledRow) (s : TableStore) (n : ℕ) → AtWork s name columns → AllThere s name columns rows
    → Follows (update_rows scanned name (map plain_row rows) n) s (map (sets name) rows) (count_end scanned (n + length rows))
with_updated name columns scanned [] s n w t = (refl, ap (count_end scanned) (let e : n ≡ n + 0 = omega arith in e))
with_updated name columns scanned (row ∷ rows) s n w t =
    let s' = after_update s name row.number (plain_cells row.cells) in
    let can : can_update s name row.number (plain_cells row.cells) ≡ true
    = and_from (fits s name (plain_cells row.cells)) (has_row s name row.number) (fits_there s name columns row.cells w t.0.0) t.0.1 in
    let rest : Follows (update_rows scanned name (map plain_row rows) (n + 1)) s' (map (sets name) rows) (count_end scanned (n + 1 + length rows))
    = with_updated name columns scanned rows s' (n + 1) (work_updated s name columns row.number (plain_cells row.cells) w) (there_updated s name columns row.number (plain_cells row.cells) rows t.1) in
    let sum : n + 1 + length rows ≡ n + suc (length rows) = omega arith in (
      sets name row ∷ [],
      map (sets name) rows,
      refl,
      (sets_cells s w.whole name row.number row.cells (read_there s name columns row.cells w t.0.0)).1.lifted,
      subst (λ b. Follows (update_rows scanned name (map plain_row rows) (one_more n b)) s' (map (sets name) rows) (count_end scanned (n + suc (length rows)))) (sym can)
          (subst (λ m. Follows (update_rows scanned name (map plain_row rows) (n + 1)) s' (map (sets name) rows) (count_end scanned m)) sum rest),
    )

-- a row of the table with its new cells
abbrev new_row : Update → List LabelledCell → List Column → LabelledRow → LabelledRow
new_row u vs columns row = record { number = row.number; cells = cells_with columns (changed_names u) (take (length u.changes) vs) row.cells }

chosen_there : (columns : List Column) (test : LabelledRow → Bool) (rows : List LabelledRow) (all : List Row) → ((row : LabelledRow) → has_number (map plain_row rows) row.number ≡ true → has_number all row.number ≡ true)
    → RowsRead columns rows → (new : LabelledRow → LabelledRow) → ((row : LabelledRow) → EachRead columns row.cells → EachRead columns (new row).cells × ((new row).number ≡ row.number))
    → (s : TableStore) (name : List ℕ) → rows_of s name ≡ all → AllThere s name columns (map new (filter test rows))
chosen_there columns test [] all sub read new news s name is = tt
chosen_there columns test (row ∷ rows) all sub read new news s name is =
    by (test row) (chosen_there columns test rows all (λ r e. sub r (or_right (row.number == r.number) (has_number (map plain_row rows) r.number) e)) read.1 new news s name is)
  where
    here : has_row s name (new row).number ≡ true
    here =
        ap (λ rs. has_number rs (new row).number) is ∙ ap (has_number all) (news row read.0).1
        ∙ sub row (or_left (row.number == row.number) (has_number (map plain_row rows) row.number) (eq-eqb row.number row.number refl))

    by : (b : Bool) → AllThere s name columns (map new (filter test rows)) → AllThere s name columns (map new (cond b (row ∷ filter test rows) (filter test rows)))
    by true rest = (((news row read.0).0, here), rest)
    by false rest = rest

changed_plain_rows : (u : Update) (vs : List LabelledCell) (columns : List Column) (rows : List LabelledRow) → RowsRead columns rows
    → map (changed_row columns (changed_names u) (take (length u.changes) (plain_values vs))) (map plain_row rows) ≡ map plain_row (map (new_row u vs columns) rows)
changed_plain_rows u vs columns [] r = refl
changed_plain_rows u vs columns (row ∷ rows) r =
    let own : changed columns (changed_names u) (take (length u.changes) (plain_values vs)) (plain_cells row.cells) ≡ plain_cells (cells_with columns (changed_names u) (take (length u.changes) vs) row.cells)
    = ap (λ ws. changed columns (changed_names u) ws (plain_cells row.cells)) (take-map plain_cell (length u.changes) vs)
    ∙ changed_plain columns (changed_names u) (take (length u.changes) vs) row.cells (read_length columns row.cells r.0) in
    ap (λ cs. let new : Row = record { number = row.number; cells = cs } in new ∷ map (changed_row columns (changed_names u) (take (length u.changes) (plain_values vs))) (map plain_row rows)) own
    ∙ ap (λ rs. plain_row (new_row u vs columns row) ∷ rs) (changed_plain_rows u vs columns rows r.1)

rows_read_filter : (columns : List Column) (test : LabelledRow → Bool) (rows : List LabelledRow) → RowsRead columns rows → RowsRead columns (filter test rows)
rows_read_filter columns test [] r = tt
rows_read_filter columns test (row ∷ rows) r = by (test row) (rows_read_filter columns test rows r.1)
  where
    by : (b : Bool) → RowsRead columns (filter test rows) → RowsRead columns (cond b (row ∷ filter test rows) (filter test rows))
    by true rest = (r.0, rest)
    by false rest = rest

update_with : (u : Update) (vs : List LabelledCell) (s : TableStore) → EachWhole s → AreReadable vs
    → With (update u (plain_values vs)) s (on_rows (updated_in u vs) (get (lift_tables s) u.table))
unfolding update update_in changed_rows updated_in
update_with u vs s whole readable =
    with_table u.table (λ columns. update_in u (plain_values vs) columns (changed_names u)) (updated_in u vs) s whole (λ columns rows st.
    let names = changed_names u in
    let n = length u.changes in
    let kept = rows_chosen columns u.condition (drop n vs) rows in
    let e : Effect LabelledEnd = record { steps = map (row_set u vs columns) kept; end = counted (length rows) (length kept) } in
    let next = λ (rs : List Row). update_rows (length rs) u.table (changed_rows u (plain_values vs) columns names rs) 0 in
    with_unless (update_cause u (plain_values vs) columns names) (Ask (AskRows u.table) next) s e (λ none.
    let first = no_cause (once_cause columns names) (earlier (values_cause columns names (take n (plain_values vs))) (where_cause columns u.condition (drop n (plain_values vs)))) none in
    let second = no_cause (values_cause columns names (take n (plain_values vs))) (where_cause columns u.condition (drop n (plain_values vs))) first.1 in
    let fit : values_cause columns names (plain_values (take n vs)) ≡ None = sym (ap (values_cause columns names) (take-map plain_cell n vs)) ∙ second.0 in
    let taken = columns_take columns names (take n vs) st.is (readable_take n vs readable) fit in
    let new = map (new_row u vs columns) kept in
    let there : AllThere s u.table columns new
    = chosen_there columns (is_chosen columns u.condition (drop n vs)) rows (map plain_row rows) (λ row h. h) st.read (new_row u vs columns)
    (λ row r. (with_read names (take n vs) columns row.cells taken r, refl)) s u.table (stood_rows st) in
    let f : Follows (update_rows (length rows) u.table (map plain_row new) 0) s (map (sets u.table) new) (count_end (length rows) (0 + length new))
    = with_updated u.table columns (length rows) new s 0 (at_work st) there in
    let same : changed_rows u (plain_values vs) columns names (map plain_row rows) ≡ map plain_row new
    = ap (λ ws. map (changed_row columns names (take n (plain_values vs))) (chosen columns u.condition ws (map plain_row rows))) (drop-map plain_cell n vs)
    ∙ ap (map (changed_row columns names (take n (plain_values vs)))) (chosen_plain columns u.condition (drop n vs) rows)
    ∙ changed_plain_rows u vs columns kept (rows_read_filter columns (is_chosen columns u.condition (drop n vs)) rows st.read) in
    let steps : map (sets u.table) new ≡ map (row_set u vs columns) kept = map_again (sets u.table) (new_row u vs columns) (row_set u vs columns) (λ row. refl) kept in
    let size : 0 + length new ≡ length kept = omega (arith, length_map (new_row u vs columns) kept) in
    with_rows_asked u.table columns rows next s e st
    (subst (λ m. Follows (update_rows m u.table (changed_rows u (plain_values vs) columns names (map plain_row rows)) 0) s (map (row_set u vs columns) kept) (count_end (length rows) (length kept)))
    (sym (length_map plain_row rows))
    (subst (λ rs. Follows (update_rows (length rows) u.table rs 0) s (map (row_set u vs columns) kept) (count_end (length rows) (length kept))) (sym same)
    (subst (λ es. Follows (update_rows (length rows) u.table (map plain_row new) 0) s es (count_end (length rows) (length kept))) steps
    (subst (λ m. Follows (update_rows (length rows) u.table (map plain_row new) 0) s (map (sets u.table) new) (count_end (length rows) m)) size f))))))

-- ---- DELETE

-- each number is that of a row that is there, and they rise
abbrev AllHere : TableStore → List ℕ → ℕ → List ℕ → Type 0
AllHere s name least [] = ⊤
AllHere s name least (number ∷ numbers) = ((least ≤ number) × (has_row s name number ≡ true)) × AllHere s name (number + 1) numbers

here_deleted : (s : TableStore) (name : List ℕ) (number least : ℕ) (numbers : List ℕ) → number < least → AllHere s name least numbers → AllHere (after_delete s name number) name least numbers
here_deleted s name number least [] lt h = tt
here_deleted s name number least (n ∷ numbers) lt h =
    ((h.0.0, deleted_numbers s name number n (λ e. omega (arith, e, lt, h.0.0)) ∙ h.0.1), here_deleted s name number (n + 1) numbers (omega (arith, lt, h.0.0)) h.1)

with_deleted : (name : List ℕ) (columns : List Column) (scanned : ℕ) (numbers : List ℕ) (s : TableStore) (n least : ℕ) → AtWork s name columns → AllHere s name least numbers
    → Follows (delete_rows scanned name numbers n) s (map (TakesRow name) numbers) (count_end scanned (n + length numbers))
with_deleted name columns scanned [] s n least w h = (refl, ap (count_end scanned) (let e : n ≡ n + 0 = omega arith in e))
with_deleted name columns scanned (number ∷ numbers) s n least w h =
    let s' = after_delete s name number in
    let rest : Follows (delete_rows scanned name numbers (n + 1)) s' (map (TakesRow name) numbers) (count_end scanned (n + 1 + length numbers))
    = with_deleted name columns scanned numbers s' (n + 1) (number + 1) (work_deleted s name columns number w) (here_deleted s name number (number + 1) numbers (omega arith) h.1) in
    let sum : n + 1 + length numbers ≡ n + suc (length numbers) = omega arith in (
      TakesRow name number ∷ [],
      map (TakesRow name) numbers,
      refl,
      (takes_out s w.whole name number).1.lifted,
      subst (λ b. Follows (delete_rows scanned name numbers (one_more n b)) s' (map (TakesRow name) numbers) (count_end scanned (n + suc (length numbers)))) (sym h.0.1)
          (subst (λ m. Follows (delete_rows scanned name numbers (n + 1)) s' (map (TakesRow name) numbers) (count_end scanned m)) sum rest),
    )

abbrev number_of : LabelledRow → ℕ
number_of row = row.number

here_less : (s : TableStore) (name : List ℕ) (least most : ℕ) (numbers : List ℕ) → least ≤ most → AllHere s name most numbers → AllHere s name least numbers
here_less s name least most [] le h = tt
here_less s name least most (n ∷ numbers) le h = ((omega (arith, le, h.0.0), h.0.1), h.1)

chosen_here : (test : LabelledRow → Bool) (rows : List LabelledRow) (all : List Row) (least : ℕ) → ((n : ℕ) → has_number (map plain_row rows) n ≡ true → has_number all n ≡ true)
    → rise_from least (map plain_row rows) ≡ true → (s : TableStore) (name : List ℕ) → rows_of s name ≡ all → AllHere s name least (map number_of (filter test rows))
chosen_here test [] all least sub rise s name is = tt
chosen_here test (row ∷ rows) all least sub rise s name is =
    by (test row) (chosen_here test rows all (row.number + 1) (λ n e. sub n (or_right (row.number == n) (has_number (map plain_row rows) n) e)) parts.1 s name is)
  where
    parts : (nat_le least row.number ≡ true) × (rise_from (row.number + 1) (map plain_row rows) ≡ true)
    parts = and_parts (nat_le least row.number) (rise_from (row.number + 1) (map plain_row rows)) rise

    here : has_row s name row.number ≡ true
    here =
        ap (λ rs. has_number rs row.number) is
        ∙ sub row.number (or_left (row.number == row.number) (has_number (map plain_row rows) row.number) (eq-eqb row.number row.number refl))

    by : (b : Bool) → AllHere s name (row.number + 1) (map number_of (filter test rows)) → AllHere s name least (map number_of (cond b (row ∷ filter test rows) (filter test rows)))
    by true rest = ((leb-true least row.number parts.0, here), rest)
    by false rest = here_less s name least (row.number + 1) (map number_of (filter test rows)) (omega (arith, leb-true least row.number parts.0)) rest

delete_with : (d : Delete) (vs : List LabelledCell) (s : TableStore) → EachWhole s
    → With (delete d (plain_values vs)) s (on_rows (deleted_in d vs) (get (lift_tables s) d.table))
unfolding delete delete_in chosen_numbers deleted_in
delete_with d vs s whole =
    with_table d.table (λ columns. delete_in d (plain_values vs) columns) (deleted_in d vs) s whole (λ columns rows st.
    let kept = rows_chosen columns d.condition vs rows in
    let numbers = map number_of kept in
    let e : Effect LabelledEnd = record { steps = map (row_taken d) kept; end = counted (length rows) (length kept) } in
    let next = λ (rs : List Row). delete_rows (length rs) d.table (chosen_numbers columns d.condition (plain_values vs) rs) 0 in
    with_unless (where_cause columns d.condition (plain_values vs)) (Ask (AskRows d.table) next) s e (λ none.
    let there : AllHere s d.table 0 numbers = chosen_here (is_chosen columns d.condition vs) rows (map plain_row rows) 0 (λ n h. h) st.rise s d.table (stood_rows st) in
    let f : Follows (delete_rows (length rows) d.table numbers 0) s (map (TakesRow d.table) numbers) (count_end (length rows) (0 + length numbers))
    = with_deleted d.table columns (length rows) numbers s 0 0 (at_work st) there in
    let same : chosen_numbers columns d.condition (plain_values vs) (map plain_row rows) ≡ numbers
    = ap (map (λ (r : Row). r.number)) (chosen_plain columns d.condition vs rows) ∙ map_again (λ (r : Row). r.number) plain_row number_of (λ row. refl) kept in
    let steps : map (TakesRow d.table) numbers ≡ map (row_taken d) kept = map_again (TakesRow d.table) number_of (row_taken d) (λ row. refl) kept in
    let size : 0 + length numbers ≡ length kept = omega (arith, length_map number_of kept) in
    with_rows_asked d.table columns rows next s e st
    (subst (λ m. Follows (delete_rows m d.table (chosen_numbers columns d.condition (plain_values vs) (map plain_row rows)) 0) s (map (row_taken d) kept) (count_end (length rows) (length kept)))
    (sym (length_map plain_row rows))
    (subst (λ ns. Follows (delete_rows (length rows) d.table ns 0) s (map (row_taken d) kept) (count_end (length rows) (length kept))) (sym same)
    (subst (λ es. Follows (delete_rows (length rows) d.table numbers 0) s es (count_end (length rows) (length kept))) steps
    (subst (λ m. Follows (delete_rows (length rows) d.table numbers 0) s (map (TakesRow d.table) numbers) (count_end (length rows) m)) size f))))))

-- ---- each statement

pub with_effect : (q : Stmt) (vs : List LabelledCell) (s : TableStore) → EachWhole s → AreReadable vs → With (plan q (plain_values vs)) s (effect q vs (lift_tables s))
unfolding plan effect
with_effect (statement.Create c) vs s whole readable = with_created c s
with_effect (statement.Insert i) vs s whole readable = insert_with i vs s whole readable
with_effect (statement.Select q) vs s whole readable = select_with q vs s whole
with_effect (statement.Update u) vs s whole readable = update_with u vs s whole readable
with_effect (statement.Delete d) vs s whole readable = delete_with d vs s whole

pub statements_are_effects : StatementsAreEffects
statements_are_effects q vs s whole readable =
    let e = effect q vs (lift_tables s) in
    let f = followed_by (plan q (plain_values vs)) s e.steps (plain_end e.end) (with_effect q vs s whole readable) in
    (holds_of (followed (plan q (plain_values vs)) s).0 (all_stepped (lift_tables s) e.steps) f.0, f.1)
