-- What stands in the tables after the first steps of a statement.
use Rattle.std.proofs.Common.{◌≡◌, ◌⊎◌, inl, inr, ℕ, zero, suc, ◌+◌, ◌-◌, ◌<◌, ◌≤◌, ◌==◌, nat_lt, nat_le, not, Bool, true, false, cond, List, [], ◌∷◌, ◌++◌, length, map, filter, take, drop, Option, Some, None, is_some, Ok, Decides, refl, sym, ap, subst, ◌∙◌, arith, append_assoc}
use Rattle.std.specs.Prelude.{⊤}
use Rattle.std.specs.FinMap.{get, insert, contains_key, get-insert}
use Rattle.std.specs.Ordering.{eq_by_cmp}
use Rattle.std.specs.Option.{option_map, option_map_or}
use Rattle.std.specs.Cmp.Lexicographic.{nat_list_cmp_total}
use Rattle.std.proofs.lemmas.Bool.{false≢true, and_parts, and_from, eq-eqb, ne_eqb, leb-true, lt-ltb, or_left, or_right}
use Rattle.std.proofs.lemmas.List.{append-nil}
use Rattle.std.proofs.lemmas.Map.Text.{is_eq-slice_cmp}
use Rattle.std.proofs.lemmas.Slice.Eq.{bytes_eq-Decides}
use Rattle.resin_base.specs.Contents.{byte_order}
use Rattle.resin_base.specs.TableStore.{TableStore, table_of, EachWhole, rise_from, has_number, has_row, largest_number, last_row_number, with_cells, without_number}
use Rattle.resin_base.specs.declared.cell.Column.{Column}
use Rattle.resin_base.specs.declared.cell.Row.{Row}
use Rattle.resin_base.specs.declared.cell.Table.{Table}
use Rattle.resin_store.specs.Cells.{LabelledCell}
use Rattle.resin_store.proofs.Maps.{get-mapped}
use Rattle.resin_meaning_forms.specs.Under.meaning_tables.Under.sql.declared.fault.SqlRefusal.{SqlRefusal}
use Rattle.resin_meaning_forms.specs.Under.meaning_tables.Under.sql.declared.fault.SqlRefusal.TheVariants.{TableExists, DuplicateColumn}
use Rattle.resin_meaning_forms.specs.Under.meaning_tables.Under.sql.declared.tree.Create.{Create}
use Rattle.resin_meaning_forms.specs.Under.meaning_tables.Under.sql.declared.tree.Stmt.{Stmt}
use Rattle.resin_meaning_forms.specs.Under.meaning_tables.Under.sql.declared.tree.Stmt.TheVariants as statement
use Rattle.resin_meaning_forms.specs.Under.meaning_tables.Under.rows.Columns.{names_of, is_repeated, first_named, paired, shape}
use Rattle.resin_meaning_forms.specs.Under.meaning_tables.Under.rows.Conditions.{where_cause}
use Rattle.resin_meaning_forms.specs.Under.meaning_tables.Under.plan.Statements.{named, insert_cause, select_cause, changed_names, update_cause}
use Rattle.resin_frame.specs.LabelledTables.{LabelledRow, LabelledTable, Rows, Odd, LabelledTables, plain_cells, plain_row, plain_table, plain_tables, lift_row, lifted_table, lift_table, lift_tables}
use Rattle.resin_statement_laws.specs.Calls.{columns_in, rows_in, changed_table, with_changed, new_table, made, row_of, put_last, with_labelled, set_cells, others_than, taken_out, number_given, can_set, can_take}
use Rattle.resin_statement_laws.specs.Effects.{Step, MakesTable, PutsRow, SetsRow, TakesRow, stepped, all_stepped, Effect, LabelledEnd, LabelledAnswer, plain_values, Counts, Tells, counted, cells_told, selected_rows, refused, unless, on_rows, cells_with, nulls, is_chosen, rows_chosen}
use Rattle.resin_statement_laws.specs.Effects.{created, rows_given, numbers_left, rows_put, inserted_into, selected_of, row_set, updated_in, row_taken, deleted_in, effect}
use Rattle.resin_statement_laws.specs.Fronts.{first_changed, first_gone, numbered_after, row_changed, unless_refused, rows_after, table_named, table_after, tables_after, FrontsLeave}
use Rattle.resin_statement_laws.proofs.Calls.{lift_get, lift_whole, whole_at, length-plain, length-paired, fits_in, held_rows, next_in}
use Rattle.resin_statement_laws.proofs.Cells.{read_length}
use Rattle.resin_statement_laws.proofs.Stores.{RowsRead, Stands, stands}

-- ---- what stands at a name

name_test : (q k : List ℕ) → Decides (eq_by_cmp byte_order q k) (q ≡ k)
name_test q k = subst (λ b. Decides b (q ≡ k)) (sym (is_eq-slice_cmp q k)) (bytes_eq-Decides q k)

pub is_name : (q k : List ℕ) → (q ≡ k) ⊎ (q ≡ k → ⊥)
is_name q k = by (eq_by_cmp byte_order q k) (name_test q k)
  where
    by : (b : Bool) → Decides b (q ≡ k) → (q ≡ k) ⊎ (q ≡ k → ⊥)
    by true d = inl (d.0 refl)
    by false d = inr (λ e. false≢true (d.1 e))

other_test : (q k : List ℕ) → (q ≡ k → ⊥) → eq_by_cmp byte_order q k ≡ false
other_test q k h = by (eq_by_cmp byte_order q k) (name_test q k)
  where
    by : (b : Bool) → Decides b (q ≡ k) → b ≡ false
    by true d = absurd (h (d.0 refl))
    by false d = refl

get_same : (s : LabelledTables) (name : List ℕ) (table : LabelledTable) → get (insert s name table) name ≡ Some table
get_same s name table = get-insert nat_list_cmp_total s name table name ∙ ap (λ b. cond b (Some table) (get s name)) ((name_test name name).1 refl)

get_other : (s : LabelledTables) (name : List ℕ) (table : LabelledTable) (other : List ℕ) → (other ≡ name → ⊥) → get (insert s name table) other ≡ get s other
get_other s name table other h = get-insert nat_list_cmp_total s name table other ∙ ap (λ b. cond b (Some table) (get s other)) (other_test other name h)

-- ---- a step changes no table of another name

abbrev step_name : Step → List ℕ
step_name (MakesTable name columns) = name
step_name (PutsRow name cells) = name
step_name (SetsRow name number cells) = name
step_name (TakesRow name number) = name

changed_other : (s : LabelledTables) (name : List ℕ) (change : List LabelledRow → List LabelledRow) (held : List Row → List Row) (other : List ℕ) → (other ≡ name → ⊥)
    → get (with_changed s name change held) other ≡ get s other
changed_other s name change held other h = by (get s name)
  where
    by : (o : Option LabelledTable) → get (option_map_or (λ (table : LabelledTable). insert s name (changed_table change held table)) o s) other ≡ get s other
    by None = refl
    by (Some table) = get_other s name (changed_table change held table) other h

step_other : (s : LabelledTables) (step : Step) (other : List ℕ) → (other ≡ step_name step → ⊥) → get (stepped s step) other ≡ get s other
step_other s (MakesTable name columns) other h = by (contains_key s name)
  where
    by : (b : Bool) → get (cond b s (insert s name (new_table columns))) other ≡ get s other
    by true = refl
    by false = get_other s name (new_table columns) other h
step_other s (PutsRow name cells) other h = by (number_given s name cells)
  where
    by : (o : Option ℕ) → get (option_map_or (λ (number : ℕ). with_changed s name (λ rows. rows ++ row_of number cells ∷ []) (λ rows. rows ++ plain_row (row_of number cells) ∷ [])) o s) other ≡ get s other
    by None = refl
    by (Some number) = changed_other s name (λ rows. rows ++ row_of number cells ∷ []) (λ rows. rows ++ plain_row (row_of number cells) ∷ []) other h
step_other s (SetsRow name number cells) other h = by (can_set s name number cells)
  where
    by : (b : Bool) → get (cond b (with_changed s name (map (with_labelled number cells)) (map (with_cells number (plain_cells cells)))) s) other ≡ get s other
    by true = changed_other s name (map (with_labelled number cells)) (map (with_cells number (plain_cells cells))) other h
    by false = refl
step_other s (TakesRow name number) other h = by (can_take s name number)
  where
    by : (b : Bool) → get (cond b (with_changed s name (others_than number) (without_number number)) s) other ≡ get s other
    by true = changed_other s name (others_than number) (without_number number) other h
    by false = refl

-- all steps are on the table of this name
abbrev AllOn : List ℕ → List Step → Type 0
AllOn name [] = ⊤
AllOn name (step ∷ steps) = (step_name step ≡ name) × AllOn name steps

on_front : (name : List ℕ) (k : ℕ) (steps : List Step) → AllOn name steps → AllOn name (take k steps)
on_front name zero steps on = tt
on_front name (suc k) [] on = tt
on_front name (suc k) (step ∷ steps) on = (on.0, on_front name k steps on.1)

on_map : {A : Type 0} (name : List ℕ) (f : A → Step) (xs : List A) → ((x : A) → step_name (f x) ≡ name) → AllOn name (map f xs)
on_map name f [] h = tt
on_map name f (x ∷ xs) h = (h x, on_map name f xs h)

all_other : (s : LabelledTables) (name : List ℕ) (steps : List Step) (other : List ℕ) → AllOn name steps → (other ≡ name → ⊥) → get (all_stepped s steps) other ≡ get s other
all_other s name [] other on h = refl
all_other s name (step ∷ steps) other on h = all_other (stepped s step) name steps other on.1 h ∙ step_other s step other (λ e. h (e ∙ on.0))

on_unless : (name : List ℕ) (x : Option SqlRefusal) (e : Effect LabelledEnd) → AllOn name e.steps → AllOn name (unless x e).steps
on_unless name None e on = on
on_unless name (Some x) e on = tt

on_table : (name : List ℕ) (eff : List Column → List LabelledRow → Effect LabelledEnd) (o : Option LabelledTable)
    → ((columns : List Column) (rows : List LabelledRow) → AllOn name (eff columns rows).steps) → AllOn name (on_rows eff o).steps
on_table name eff None on = tt
on_table name eff (Some (Rows columns rows)) on = on columns rows
on_table name eff (Some (Odd table)) on = tt

effect_on : (q : Stmt) (vs : List LabelledCell) (s : LabelledTables) → AllOn (table_named q) (effect q vs s).steps
unfolding effect created inserted_into selected_of updated_in deleted_in
effect_on (statement.Create c) vs s = by (is_repeated (names_of c.columns)) (contains_key s c.table)
  where
    by : (a b : Bool) → AllOn c.table (cond a (refused {A = LabelledAnswer} DuplicateColumn) (cond b (refused TableExists) (record { steps = MakesTable c.table c.columns ∷ []; end = Ok (record { scanned = 0; result = Counts 0 }) }))).steps
    by true b = tt
    by false true = tt
    by false false = (refl, tt)
effect_on (statement.Insert i) vs s =
    on_table i.table (inserted_into i vs) (get s i.table) (λ columns rows.
    let names = named i.columns columns in
    let given = rows_given columns names i.rows vs in
    on_unless i.table (insert_cause i (plain_values vs) columns names) (rows_put i.table given (numbers_left rows)) (on_map i.table (PutsRow i.table) (take (numbers_left rows) given) (λ cells. refl)))
effect_on (statement.Select q) vs s =
    on_table q.table (selected_of q vs) (get s q.table) (λ columns rows.
    let names = named q.columns columns in
    let told = map (λ (row : LabelledRow). cells_told columns (first_named names) row.cells) (selected_rows q vs columns rows) in
    on_unless q.table (select_cause q (plain_values vs) columns names) (record { steps = []; end = Ok (record { scanned = length rows; result = Tells (first_named names) told }) }) tt)
effect_on (statement.Update u) vs s =
    on_table u.table (updated_in u vs) (get s u.table) (λ columns rows.
    let kept = rows_chosen columns u.condition (drop (length u.changes) vs) rows in
    on_unless u.table (update_cause u (plain_values vs) columns (changed_names u)) (record { steps = map (row_set u vs columns) kept; end = counted (length rows) (length kept) })
    (on_map u.table (row_set u vs columns) kept (λ row. refl)))
effect_on (statement.Delete d) vs s =
    on_table d.table (deleted_in d vs) (get s d.table) (λ columns rows.
    let kept = rows_chosen columns d.condition vs rows in
    on_unless d.table (where_cause columns d.condition (plain_values vs)) (record { steps = map (row_taken d) kept; end = counted (length rows) (length kept) })
    (on_map d.table (row_taken d) kept (λ row. refl)))

-- ---- a step changes the rows of its table

abbrev Here : LabelledTables → List ℕ → List Column → List LabelledRow → Type 0
Here s name columns rows = get s name ≡ Some (Rows columns rows)

plain_here : (s : LabelledTables) (name : List ℕ) (columns : List Column) (rows : List LabelledRow) → Here s name columns rows
    → get (plain_tables s) name ≡ Some (table_of (paired columns) (map plain_row rows))
plain_here s name columns rows e = get-mapped byte_order plain_table s name ∙ ap (option_map plain_table) e

changed_here : (s : LabelledTables) (name : List ℕ) (columns : List Column) (rows : List LabelledRow) (change : List LabelledRow → List LabelledRow) (held : List Row → List Row)
    → Here s name columns rows → Here (with_changed s name change held) name columns (change rows)
changed_here s name columns rows change held e =
    ap (λ o. get (option_map_or (λ (table : LabelledTable). insert s name (changed_table change held table)) o s) name) e ∙ get_same s name (Rows columns (change rows))

wide : (columns : List Column) (cells : List LabelledCell) → length cells ≡ length columns → (length (plain_cells cells) == length (paired columns)) ≡ true
wide columns cells e = eq-eqb _ _ (omega (arith, e, length-plain cells, length-paired columns))

put_here : (s : LabelledTables) (name : List ℕ) (columns : List Column) (rows : List LabelledRow) (cells : List LabelledCell) → Here s name columns rows
    → length cells ≡ length columns → largest_number (map plain_row rows) < last_row_number
    → Here (put_last s name cells) name columns (rows ++ row_of (largest_number (map plain_row rows) + 1) cells ∷ [])
put_here s name columns rows cells e len lt =
    ap (λ o. get (option_map_or (λ (number : ℕ). with_changed s name (change number) (held number)) o s) name) told
    ∙ changed_here s name columns rows (change (large + 1)) (held (large + 1)) e
  where
    large : ℕ
    large = largest_number (map plain_row rows)

    change : ℕ → List LabelledRow → List LabelledRow
    change number rs = rs ++ row_of number cells ∷ []

    held : ℕ → List Row → List Row
    held number rs = rs ++ plain_row (row_of number cells) ∷ []

    told : number_given s name cells ≡ Some (largest_number (map plain_row rows) + 1)
    told =
        ap (λ o. next_in o (plain_cells cells)) (plain_here s name columns rows e)
        ∙ ap (λ b. cond b (Some (largest_number (map plain_row rows) + 1)) None)
        (and_from _ (nat_lt (largest_number (map plain_row rows)) last_row_number) (wide columns cells len) (lt-ltb _ _ lt))

row_there : (s : LabelledTables) (name : List ℕ) (columns : List Column) (rows : List LabelledRow) (number : ℕ) → Here s name columns rows
    → has_number (map plain_row rows) number ≡ true → has_row (plain_tables s) name number ≡ true
row_there s name columns rows number e has = ap (λ o. has_number (held_rows o) number) (plain_here s name columns rows e) ∙ has

set_here : (s : LabelledTables) (name : List ℕ) (columns : List Column) (rows : List LabelledRow) (number : ℕ) (cells : List LabelledCell) → Here s name columns rows
    → length cells ≡ length columns → has_number (map plain_row rows) number ≡ true → Here (set_cells s name number cells) name columns (map (with_labelled number cells) rows)
set_here s name columns rows number cells e len has =
    ap (λ b. get (cond b (with_changed s name (map (with_labelled number cells)) (map (with_cells number (plain_cells cells)))) s) name)
    (and_from (fits_in (get (plain_tables s) name) (plain_cells cells)) (has_row (plain_tables s) name number)
    (ap (λ o. fits_in o (plain_cells cells)) (plain_here s name columns rows e) ∙ wide columns cells len) (row_there s name columns rows number e has))
    ∙ changed_here s name columns rows (map (with_labelled number cells)) (map (with_cells number (plain_cells cells))) e

take_here : (s : LabelledTables) (name : List ℕ) (columns : List Column) (rows : List LabelledRow) (number : ℕ) → Here s name columns rows
    → has_number (map plain_row rows) number ≡ true → Here (taken_out s name number) name columns (others_than number rows)
take_here s name columns rows number e has =
    ap (λ b. get (cond b (with_changed s name (others_than number) (without_number number)) s) name) (row_there s name columns rows number e has)
    ∙ changed_here s name columns rows (others_than number) (without_number number) e

-- ---- numbers that rise

abbrev Below : ℕ → List LabelledRow → Type 0
Below most [] = ⊤
Below most (row ∷ rows) = (row.number < most) × Below most rows

abbrev Apart : ℕ → List LabelledRow → Type 0
Apart number [] = ⊤
Apart number (row ∷ rows) = (row.number ≡ number → ⊥) × Apart number rows

abbrev Rise : ℕ → List LabelledRow → Type 0
Rise least rows = rise_from least (map plain_row rows) ≡ true

rise_parts : (least : ℕ) (row : LabelledRow) (rows : List LabelledRow) → Rise least (row ∷ rows) → (least ≤ row.number) × Rise (row.number + 1) rows
rise_parts least row rows rise =
    let parts = and_parts (nat_le least row.number) (rise_from (row.number + 1) (map plain_row rows)) rise in
    (leb-true _ _ parts.0, parts.1)

below_more : (least most : ℕ) (rows : List LabelledRow) → least ≤ most → Below least rows → Below most rows
below_more least most [] le b = tt
below_more least most (row ∷ rows) le b = (omega (arith, le, b.0), below_more least most rows le b.1)

below_push : (most : ℕ) (rows : List LabelledRow) (row : LabelledRow) → Below most rows → row.number < most → Below most (rows ++ row ∷ [])
below_push most [] row b lt = (lt, tt)
below_push most (r ∷ rows) row b lt = (b.0, below_push most rows row b.1 lt)

below_apart : (most number : ℕ) (rows : List LabelledRow) → most ≤ number → Below most rows → Apart number rows
below_apart most number [] le b = tt
below_apart most number (row ∷ rows) le b = ((λ e. omega (arith, le, b.0, e)), below_apart most number rows le b.1)

rise_apart : (least number : ℕ) (rows : List LabelledRow) → number < least → Rise least rows → Apart number rows
rise_apart least number [] lt rise = tt
rise_apart least number (row ∷ rows) lt rise =
    let parts = rise_parts least row rows rise in
    ((λ e. omega (arith, lt, parts.0, e)), rise_apart (row.number + 1) number rows (omega (arith, lt, parts.0)) parts.1)

has_mid : (before rows : List LabelledRow) (row : LabelledRow) → has_number (map plain_row (before ++ row ∷ rows)) row.number ≡ true
has_mid [] rows row = or_left (row.number == row.number) (has_number (map plain_row rows) row.number) (eq-eqb row.number row.number refl)
has_mid (r ∷ before) rows row = or_right (r.number == row.number) (has_number (map plain_row (before ++ row ∷ rows)) row.number) (has_mid before rows row)

set_apart : (number : ℕ) (cells : List LabelledCell) (rows : List LabelledRow) → Apart number rows → map (with_labelled number cells) rows ≡ rows
set_apart number cells [] a = refl
set_apart number cells (row ∷ rows) a =
    ap (λ b. cond b (row_of row.number cells) row ∷ map (with_labelled number cells) rows) (ne_eqb row.number number a.0)
    ∙ ap (λ rs. row ∷ rs) (set_apart number cells rows a.1)

set_mid : (cells : List LabelledCell) (before rows : List LabelledRow) (row : LabelledRow) → Apart row.number before → Apart row.number rows
    → map (with_labelled row.number cells) (before ++ row ∷ rows) ≡ before ++ row_of row.number cells ∷ rows
set_mid cells [] rows row a b =
    ap (λ t. cond t (row_of row.number cells) row ∷ map (with_labelled row.number cells) rows) (eq-eqb row.number row.number refl)
    ∙ ap (λ rs. row_of row.number cells ∷ rs) (set_apart row.number cells rows b)
set_mid cells (r ∷ before) rows row a b =
    ap (λ t. cond t (row_of r.number cells) r ∷ map (with_labelled row.number cells) (before ++ row ∷ rows)) (ne_eqb r.number row.number a.0)
    ∙ ap (λ rs. r ∷ rs) (set_mid cells before rows row a.1 b)

out_apart : (number : ℕ) (rows : List LabelledRow) → Apart number rows → others_than number rows ≡ rows
out_apart number [] a = refl
out_apart number (row ∷ rows) a =
    ap (λ b. cond (not b) (row ∷ others_than number rows) (others_than number rows)) (ne_eqb row.number number a.0) ∙ ap (λ rs. row ∷ rs) (out_apart number rows a.1)

out_mid : (before rows : List LabelledRow) (row : LabelledRow) → Apart row.number before → Apart row.number rows → others_than row.number (before ++ row ∷ rows) ≡ before ++ rows
out_mid [] rows row a b =
    ap (λ t. cond (not t) (row ∷ others_than row.number rows) (others_than row.number rows)) (eq-eqb row.number row.number refl) ∙ out_apart row.number rows b
out_mid (r ∷ before) rows row a b =
    ap (λ t. cond (not t) (r ∷ others_than row.number (before ++ row ∷ rows)) (others_than row.number (before ++ row ∷ rows))) (ne_eqb r.number row.number a.0)
    ∙ ap (λ rs. r ∷ rs) (out_mid before rows row a.1 b)

-- ---- UPDATE

abbrev AllWide : (LabelledRow → List LabelledCell) → List Column → List LabelledRow → Type 0
AllWide new columns [] = ⊤
AllWide new columns (row ∷ rows) = (length (new row) ≡ length columns) × AllWide new columns rows

abbrev sets_row : List ℕ → (LabelledRow → List LabelledCell) → LabelledRow → Step
sets_row name new row = SetsRow name row.number (new row)

abbrev renewed : (LabelledRow → List LabelledCell) → LabelledRow → LabelledRow
renewed new row = row_of row.number (new row)

front_set : (name : List ℕ) (columns : List Column) (test : LabelledRow → Bool) (new : LabelledRow → List LabelledCell) (k : ℕ) (before rows : List LabelledRow)
    (s : LabelledTables) (least : ℕ) → Here s name columns (before ++ rows) → Below least before → Rise least rows → AllWide new columns rows
    → Here (all_stepped s (take k (map (sets_row name new) (filter test rows)))) name columns (before ++ first_changed k test (renewed new) rows)
front_set name columns test new zero before rows s least e below rise wides = e
front_set name columns test new (suc k) before [] s least e below rise wides = e
front_set name columns test new (suc k) before (row ∷ rows) s least e below rise wides =
    by (test row)
    (λ h. front_set name columns test new k (before ++ renewed new row ∷ []) rows (stepped s (sets_row name new row)) (row.number + 1) h
    (below_push (row.number + 1) before (renewed new row) more (omega arith)) parts.1 wides.1)
    (λ h. front_set name columns test new (suc k) (before ++ row ∷ []) rows s (row.number + 1) h (below_push (row.number + 1) before row more (omega arith)) parts.1 wides.1)
  where
    parts : (least ≤ row.number) × Rise (row.number + 1) rows
    parts = rise_parts least row rows rise

    more : Below (row.number + 1) before
    more = below_more least (row.number + 1) before (omega (arith, parts.0)) below

    steps : List Step
    steps = map (sets_row name new) (filter test rows)

    done : Here (stepped s (sets_row name new row)) name columns (before ++ renewed new row ∷ rows)
    done =
        set_here s name columns (before ++ row ∷ rows) row.number (new row) e wides.0 (has_mid before rows row)
        ∙ ap (λ rs. let t : Option LabelledTable = Some (Rows columns rs) in t)
        (set_mid (new row) before rows row (below_apart least row.number before parts.0 below) (rise_apart (row.number + 1) row.number rows (omega arith) parts.1))

    over : (r : LabelledRow) (rs : List LabelledRow) → (before ++ r ∷ []) ++ rs ≡ before ++ r ∷ rs
    over r rs = append_assoc before (r ∷ []) rs

    by : (b : Bool)
        → (Here (stepped s (sets_row name new row)) name columns ((before ++ renewed new row ∷ []) ++ rows)
        → Here (all_stepped (stepped s (sets_row name new row)) (take k steps)) name columns ((before ++ renewed new row ∷ []) ++ first_changed k test (renewed new) rows))
        → (Here s name columns ((before ++ row ∷ []) ++ rows) → Here (all_stepped s (take (suc k) steps)) name columns ((before ++ row ∷ []) ++ first_changed (suc k) test (renewed new) rows))
        → Here (all_stepped s (take (suc k) (map (sets_row name new) (cond b (row ∷ filter test rows) (filter test rows))))) name columns
        (before ++ cond b (renewed new row ∷ first_changed k test (renewed new) rows) (row ∷ first_changed (suc k) test (renewed new) rows))
    by true taken passed =
        taken (done ∙ ap (λ rs. let t : Option LabelledTable = Some (Rows columns rs) in t) (sym (over (renewed new row) rows)))
        ∙ ap (λ rs. let t : Option LabelledTable = Some (Rows columns rs) in t) (over (renewed new row) (first_changed k test (renewed new) rows))
    by false taken passed =
        passed (e ∙ ap (λ rs. let t : Option LabelledTable = Some (Rows columns rs) in t) (sym (over row rows)))
        ∙ ap (λ rs. let t : Option LabelledTable = Some (Rows columns rs) in t) (over row (first_changed (suc k) test (renewed new) rows))

-- ---- DELETE

abbrev takes_row : List ℕ → LabelledRow → Step
takes_row name row = TakesRow name row.number

front_gone : (name : List ℕ) (columns : List Column) (test : LabelledRow → Bool) (k : ℕ) (before rows : List LabelledRow) (s : LabelledTables) (least : ℕ)
    → Here s name columns (before ++ rows) → Below least before → Rise least rows
    → Here (all_stepped s (take k (map (takes_row name) (filter test rows)))) name columns (before ++ first_gone k test rows)
front_gone name columns test zero before rows s least e below rise = e
front_gone name columns test (suc k) before [] s least e below rise = e
front_gone name columns test (suc k) before (row ∷ rows) s least e below rise =
    by (test row)
    (λ h. front_gone name columns test k before rows (stepped s (takes_row name row)) (row.number + 1) h more parts.1)
    (λ h. front_gone name columns test (suc k) (before ++ row ∷ []) rows s (row.number + 1) h (below_push (row.number + 1) before row more (omega arith)) parts.1)
  where
    parts : (least ≤ row.number) × Rise (row.number + 1) rows
    parts = rise_parts least row rows rise

    more : Below (row.number + 1) before
    more = below_more least (row.number + 1) before (omega (arith, parts.0)) below

    steps : List Step
    steps = map (takes_row name) (filter test rows)

    done : Here (stepped s (takes_row name row)) name columns (before ++ rows)
    done =
        take_here s name columns (before ++ row ∷ rows) row.number e (has_mid before rows row)
        ∙ ap (λ rs. let t : Option LabelledTable = Some (Rows columns rs) in t)
        (out_mid before rows row (below_apart least row.number before parts.0 below) (rise_apart (row.number + 1) row.number rows (omega arith) parts.1))

    over : (rs : List LabelledRow) → (before ++ row ∷ []) ++ rs ≡ before ++ row ∷ rs
    over rs = append_assoc before (row ∷ []) rs

    by : (b : Bool)
        → (Here (stepped s (takes_row name row)) name columns (before ++ rows)
        → Here (all_stepped (stepped s (takes_row name row)) (take k steps)) name columns (before ++ first_gone k test rows))
        → (Here s name columns ((before ++ row ∷ []) ++ rows) → Here (all_stepped s (take (suc k) steps)) name columns ((before ++ row ∷ []) ++ first_gone (suc k) test rows))
        → Here (all_stepped s (take (suc k) (map (takes_row name) (cond b (row ∷ filter test rows) (filter test rows))))) name columns
        (before ++ cond b (first_gone k test rows) (row ∷ first_gone (suc k) test rows))
    by true taken passed = taken done
    by false taken passed =
        passed (e ∙ ap (λ rs. let t : Option LabelledTable = Some (Rows columns rs) in t) (sym (over rows)))
        ∙ ap (λ rs. let t : Option LabelledTable = Some (Rows columns rs) in t) (over (first_gone (suc k) test rows))

-- ---- INSERT

abbrev AllFit : List Column → List (List LabelledCell) → Type 0
AllFit columns [] = ⊤
AllFit columns (cells ∷ given) = (length cells ≡ length columns) × AllFit columns given

pub largest_last : (rows : List LabelledRow) (row : LabelledRow) → largest_number (map plain_row rows) < row.number → largest_number (map plain_row (rows ++ row ∷ [])) ≡ row.number
largest_last [] row h = omega arith
largest_last (r ∷ rows) row h = omega (arith, largest_last rows row (omega arith))

none_more : (s : LabelledTables) (name : List ℕ) (columns : List Column) (rows : List LabelledRow) → Here s name columns rows → Here s name columns (rows ++ [])
none_more s name columns rows e = e ∙ ap (λ rs. let t : Option LabelledTable = Some (Rows columns rs) in t) (sym (append-nil rows))

pub front_put : (name : List ℕ) (columns : List Column) (given : List (List LabelledCell)) (k left large : ℕ) (rows : List LabelledRow) (s : LabelledTables)
    → Here s name columns rows → AllFit columns given → large ≡ largest_number (map plain_row rows) → left ≡ last_row_number - large
    → Here (all_stepped s (take k (map (PutsRow name) (take left given)))) name columns (rows ++ numbered_after large (take k (take left given)))
front_put name columns given zero left large rows s e fit is much = none_more s name columns rows e
front_put name columns given (suc k) zero large rows s e fit is much = none_more s name columns rows e
front_put name columns [] (suc k) (suc left) large rows s e fit is much = none_more s name columns rows e
front_put name columns (cells ∷ given) (suc k) (suc left) large rows s e fit is much =
    let row = row_of (large + 1) cells in
    let put : Here (put_last s name cells) name columns (rows ++ row ∷ [])
    = put_here s name columns rows cells e fit.0 (omega (arith, is, much))
    ∙ ap (λ n. let t : Option LabelledTable = Some (Rows columns (rows ++ row_of (n + 1) cells ∷ [])) in t) (sym is) in
    front_put name columns given k left (large + 1) (rows ++ row ∷ []) (put_last s name cells) put fit.1
    (sym (largest_last rows row (omega (arith, is)))) (omega (arith, much))
    ∙ ap (λ rs. let t : Option LabelledTable = Some (Rows columns rs) in t) (append_assoc rows (row ∷ []) (numbered_after (large + 1) (take k (take left given))))

-- ---- each statement

abbrev some_rows : List Column → List LabelledRow → Option LabelledTable
some_rows columns rows = Some (Rows columns rows)

-- a table that stands in the lifted store, as a keeper holds it
pub stands_here : (s : TableStore) (name : List ℕ) (columns : List Column) (rows : List LabelledRow) → EachWhole s → Here (lift_tables s) name columns rows
    → Stands s name columns rows
stands_here s name columns rows whole e = by (get s name) refl (sym (lift_get s name) ∙ e)
  where
    inner : (table : Table) → get s name ≡ Some table → (o : Option (List Column)) → shape table.columns ≡ o → lifted_table table o ≡ Rows columns rows → Stands s name columns rows
    inner table there None is f = absurd (let x : Odd table ≡ Rows columns rows = f in cc)
    inner table there (Some cs) is f =
        let one : cs ≡ columns = ap (λ t. columns_or (columns_in (Some t))) f in
        let two : map (lift_row cs) table.rows ≡ rows = ap (λ t. rows_in (Some t)) f in
        subst (λ (c : List Column). Stands s name c rows) one (subst (λ (rs : List LabelledRow). Stands s name cs rs) two (stands s name table cs whole there is))
      where
        columns_or : Option (List Column) → List Column
        columns_or None = []
        columns_or (Some c) = c

    by : (o : Option Table) → get s name ≡ o → option_map lift_table o ≡ Some (Rows columns rows) → Stands s name columns rows
    by None there f = absurd (let x : None ≡ some_rows columns rows = f in cc)
    by (Some table) there f =
        let same : lift_table table ≡ Rows columns rows = cc in
        inner table there (shape table.columns) refl (sym (lift_whole table (whole_at s name table whole there)) ∙ same)

nothing_taken : (s : LabelledTables) (k : ℕ) → all_stepped s (take k []) ≡ s
nothing_taken s zero = refl
nothing_taken s (suc k) = refl

pub length-with : (columns : List Column) (names : List (List ℕ)) (vs cells : List LabelledCell) → length cells ≡ length columns → length (cells_with columns names vs cells) ≡ length columns
length-with [] names vs cells len = refl
length-with (column ∷ columns) names vs [] len = absurd (omega arith)
length-with (column ∷ columns) names vs (c ∷ cells) len = ap suc (length-with columns names vs cells (omega arith))

all_wide : (columns : List Column) (names : List (List ℕ)) (vs : List LabelledCell) (rows : List LabelledRow) → RowsRead columns rows
    → AllWide (λ row. cells_with columns names vs row.cells) columns rows
all_wide columns names vs [] r = tt
all_wide columns names vs (row ∷ rows) r = (length-with columns names vs row.cells (read_length columns row.cells r.0), all_wide columns names vs rows r.1)

length-nulls : (columns : List Column) → length (nulls columns) ≡ length columns
length-nulls [] = refl
length-nulls (column ∷ columns) = ap suc (length-nulls columns)

all_fit : {A : Type 0} (columns : List Column) (names : List (List ℕ)) (rows : List (List A)) (vs : List LabelledCell) → AllFit columns (rows_given columns names rows vs)
all_fit columns names [] vs = tt
all_fit columns names (row ∷ rows) vs =
    (length-with columns names (take (length row) vs) (nulls columns) (length-nulls columns), all_fit columns names rows (drop (length row) vs))

front_unless : (s : LabelledTables) (name : List ℕ) (columns : List Column) (k : ℕ) (x : Option SqlRefusal) (e : Effect LabelledEnd) (rows now : List LabelledRow)
    → Here s name columns rows → Here (all_stepped s (take k e.steps)) name columns now
    → Here (all_stepped s (take k (unless x e).steps)) name columns (unless_refused x rows now)
front_unless s name columns k None e rows now there f = f
front_unless s name columns k (Some x) e rows now there f = ap (λ t. get t name) (nothing_taken s k) ∙ there

front_rows : (s : LabelledTables) (name : List ℕ) (columns : List Column) (rows now : List LabelledRow) (k : ℕ) (eff : List Column → List LabelledRow → Effect LabelledEnd)
    → Here s name columns rows → Here (all_stepped s (take k (eff columns rows).steps)) name columns now
    → Here (all_stepped s (take k (on_rows eff (get s name)).steps)) name columns now
front_rows s name columns rows now k eff there f = ap (λ o. get (all_stepped s (take k (on_rows eff o).steps)) name) there ∙ f

-- CREATE takes no step where a table is
created_there : (c : Create) (s : LabelledTables) → is_some (get s c.table) ≡ true → (created c s).steps ≡ []
unfolding created
created_there c s there = by (is_repeated (names_of c.columns)) ∙ ap (λ b. (when false b).steps) there
  where
    when : Bool → Bool → Effect LabelledEnd
    when a b =
        cond a (refused {A = LabelledAnswer} DuplicateColumn) (cond b (refused {A = LabelledAnswer} TableExists)
        (record { steps = MakesTable c.table c.columns ∷ []; end = Ok (record { scanned = 0; result = Counts 0 }) }))

    by : (a : Bool) → (when a (contains_key s c.table)).steps ≡ (when false (contains_key s c.table)).steps
    by true = sym (ap (λ b. (when false b).steps) there)
    by false = refl

front_none : (s : LabelledTables) (name : List ℕ) (k : ℕ) (steps : List Step) (o : Option LabelledTable) → get s name ≡ o → steps ≡ [] → get (all_stepped s (take k steps)) name ≡ o
front_none s name k steps o there none = ap (λ es. get (all_stepped s (take k es)) name) none ∙ ap (λ t. get t name) (nothing_taken s k) ∙ there

leaves_rows : (q : Stmt) (vs : List LabelledCell) (s : TableStore) (k : ℕ) (columns : List Column) (rows : List LabelledRow) → EachWhole s
    → Here (lift_tables s) (table_named q) columns rows → Here (tables_after q vs k s) (table_named q) columns (rows_after q vs k columns rows)
unfolding effect inserted_into selected_of updated_in deleted_in
leaves_rows (statement.Create c) vs s k columns rows whole e =
    front_none (lift_tables s) c.table k (created c (lift_tables s)).steps (some_rows columns rows) e (created_there c (lift_tables s) (ap is_some e))
leaves_rows (statement.Insert i) vs s k columns rows whole e =
    let L = lift_tables s in
    let names = named i.columns columns in
    let given = rows_given columns names i.rows vs in
    let large = largest_number (map plain_row rows) in
    front_rows L i.table columns rows _ k (inserted_into i vs) e
    (front_unless L i.table columns k (insert_cause i (plain_values vs) columns names) (rows_put i.table given (numbers_left rows)) rows
    (rows ++ numbered_after large (take k (take (numbers_left rows) given))) e
    (front_put i.table columns given k (numbers_left rows) large rows L e (all_fit columns names i.rows vs) refl refl))
leaves_rows (statement.Select q) vs s k columns rows whole e =
    let L = lift_tables s in
    front_none L q.table k (on_rows (selected_of q vs) (get L q.table)).steps (some_rows columns rows) e
    (ap (λ o. (on_rows (selected_of q vs) o).steps) e
    ∙ none (Ok (record { scanned = length rows; result = Tells (first_named (named q.columns columns)) (map (λ (row : LabelledRow). cells_told columns (first_named (named q.columns columns)) row.cells) (selected_rows q vs columns rows)) }))
    (select_cause q (plain_values vs) columns (named q.columns columns)))
  where
    none : (end : LabelledEnd) (x : Option SqlRefusal) → (unless x (record { steps = []; end = end })).steps ≡ []
    none end None = refl
    none end (Some x) = refl
leaves_rows (statement.Update u) vs s k columns rows whole e =
    let L = lift_tables s in
    let st = stands_here s u.table columns rows whole e in
    let n = length u.changes in
    let test = is_chosen columns u.condition (drop n vs) in
    let new = λ (row : LabelledRow). cells_with columns (changed_names u) (take n vs) row.cells in
    let kept = rows_chosen columns u.condition (drop n vs) rows in
    front_rows L u.table columns rows _ k (updated_in u vs) e
    (front_unless L u.table columns k (update_cause u (plain_values vs) columns (changed_names u)) (record { steps = map (row_set u vs columns) kept; end = counted (length rows) (length kept) }) rows
    (first_changed k test (row_changed u vs columns) rows) e
    (front_set u.table columns test new k [] rows L 0 e tt st.rise (all_wide columns (changed_names u) (take n vs) rows st.read)))
leaves_rows (statement.Delete d) vs s k columns rows whole e =
    let L = lift_tables s in
    let st = stands_here s d.table columns rows whole e in
    let test = is_chosen columns d.condition vs in
    let kept = rows_chosen columns d.condition vs rows in
    front_rows L d.table columns rows _ k (deleted_in d vs) e
    (front_unless L d.table columns k (where_cause columns d.condition (plain_values vs)) (record { steps = map (row_taken d) kept; end = counted (length rows) (length kept) }) rows
    (first_gone k test rows) e
    (front_gone d.table columns test k [] rows L 0 e tt st.rise))

leaves_odd : (q : Stmt) (vs : List LabelledCell) (s : TableStore) (k : ℕ) (table : Table) → get (lift_tables s) (table_named q) ≡ Some (Odd table)
    → get (tables_after q vs k s) (table_named q) ≡ Some (Odd table)
unfolding effect
leaves_odd (statement.Create c) vs s k table e =
    front_none (lift_tables s) c.table k (created c (lift_tables s)).steps (Some (Odd table)) e (created_there c (lift_tables s) (ap is_some e))
leaves_odd (statement.Insert i) vs s k table e =
    front_none (lift_tables s) i.table k (on_rows (inserted_into i vs) (get (lift_tables s) i.table)).steps (Some (Odd table)) e (ap (λ o. (on_rows (inserted_into i vs) o).steps) e)
leaves_odd (statement.Select q) vs s k table e =
    front_none (lift_tables s) q.table k (on_rows (selected_of q vs) (get (lift_tables s) q.table)).steps (Some (Odd table)) e (ap (λ o. (on_rows (selected_of q vs) o).steps) e)
leaves_odd (statement.Update u) vs s k table e =
    front_none (lift_tables s) u.table k (on_rows (updated_in u vs) (get (lift_tables s) u.table)).steps (Some (Odd table)) e (ap (λ o. (on_rows (updated_in u vs) o).steps) e)
leaves_odd (statement.Delete d) vs s k table e =
    front_none (lift_tables s) d.table k (on_rows (deleted_in d vs) (get (lift_tables s) d.table)).steps (Some (Odd table)) e (ap (λ o. (on_rows (deleted_in d vs) o).steps) e)

created_none : (c : Create) (s : LabelledTables) (k : ℕ) → get s c.table ≡ None → get (all_stepped s (take k (created c s).steps)) c.table ≡ table_after (statement.Create c) k
unfolding created
created_none c s k e = by k (is_repeated (names_of c.columns)) ∙ after k
  where
    when : Bool → Bool → Effect LabelledEnd
    when a b =
        cond a (refused {A = LabelledAnswer} DuplicateColumn) (cond b (refused {A = LabelledAnswer} TableExists)
        (record { steps = MakesTable c.table c.columns ∷ []; end = Ok (record { scanned = 0; result = Counts 0 }) }))

    result : ℕ → Bool → Option LabelledTable
    result zero a = None
    result (suc k) a = cond a None (Some (new_table c.columns))

    absent : contains_key s c.table ≡ false
    absent = ap is_some e

    new : get (cond (contains_key s c.table) s (insert s c.table (new_table c.columns))) c.table ≡ Some (new_table c.columns)
    new = ap (λ b. get (cond b s (insert s c.table (new_table c.columns))) c.table) absent ∙ get_same s c.table (new_table c.columns)

    by : (k : ℕ) (a : Bool) → get (all_stepped s (take k (when a (contains_key s c.table)).steps)) c.table ≡ result k a
    by zero a = e
    by (suc k) true = e
    by (suc k) false = ap (λ b. get (all_stepped s (take (suc k) (when false b).steps)) c.table) absent ∙ ap (λ t. get t c.table) (nothing_taken (made s c.table c.columns) k) ∙ new

    after : (k : ℕ) → result k (is_repeated (names_of c.columns)) ≡ table_after (statement.Create c) k
    after zero = refl
    after (suc k) = refl

leaves_none : (q : Stmt) (vs : List LabelledCell) (s : TableStore) (k : ℕ) → get (lift_tables s) (table_named q) ≡ None
    → get (tables_after q vs k s) (table_named q) ≡ table_after q k
unfolding effect
leaves_none (statement.Create c) vs s k e = created_none c (lift_tables s) k e
leaves_none (statement.Insert i) vs s k e =
    front_none (lift_tables s) i.table k (on_rows (inserted_into i vs) (get (lift_tables s) i.table)).steps None e (ap (λ o. (on_rows (inserted_into i vs) o).steps) e)
leaves_none (statement.Select q) vs s k e =
    front_none (lift_tables s) q.table k (on_rows (selected_of q vs) (get (lift_tables s) q.table)).steps None e (ap (λ o. (on_rows (selected_of q vs) o).steps) e)
leaves_none (statement.Update u) vs s k e =
    front_none (lift_tables s) u.table k (on_rows (updated_in u vs) (get (lift_tables s) u.table)).steps None e (ap (λ o. (on_rows (updated_in u vs) o).steps) e)
leaves_none (statement.Delete d) vs s k e =
    front_none (lift_tables s) d.table k (on_rows (deleted_in d vs) (get (lift_tables s) d.table)).steps None e (ap (λ o. (on_rows (deleted_in d vs) o).steps) e)

pub fronts_leave : FrontsLeave
fronts_leave q vs s whole k = record {
  others = λ other h. all_other (lift_tables s) (table_named q) (take k (effect q vs (lift_tables s)).steps) other (on_front (table_named q) k (effect q vs (lift_tables s)).steps (effect_on q vs (lift_tables s))) h;
  rows = λ columns rows e. leaves_rows q vs s k columns rows whole e;
  odd = λ table e. leaves_odd q vs s k table e;
  none = λ e. leaves_none q vs s k e;
}
