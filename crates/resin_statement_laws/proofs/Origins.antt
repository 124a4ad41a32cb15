-- Where the cells come from that stand after the first steps of a statement.
use Rattle.std.proofs.Common.{◌≡◌, ◌⊎◌, inl, inr, ℕ, zero, suc, ◌+◌, ◌<◌, ◌≤◌, Bool, true, false, cond, List, [], ◌∷◌, ◌++◌, length, map, take, drop, Option, Some, None, refl, sym, ap, subst, ◌∙◌, arith}
use Rattle.std.specs.Prelude.{⊤}
use Rattle.std.specs.FinMap.{get}
use Rattle.std.specs.Str.{bytes_eq}
use Rattle.resin_base.specs.TableStore.{table_of, largest_number}
use Rattle.resin_base.specs.declared.cell.Column.{Column}
use Rattle.resin_store.specs.Cells.{LabelledCell, Null}
use Rattle.resin_meaning_forms.specs.Under.meaning_tables.Under.sql.declared.fault.SqlRefusal.{SqlRefusal}
use Rattle.resin_meaning_forms.specs.Under.meaning_tables.Under.sql.declared.tree.Stmt.{Stmt}
use Rattle.resin_meaning_forms.specs.Under.meaning_tables.Under.sql.declared.tree.Stmt.TheVariants as statement
use Rattle.resin_meaning_forms.specs.Under.meaning_tables.Under.rows.Columns.{names_of, is_repeated, paired}
use Rattle.resin_meaning_forms.specs.Under.meaning_tables.Under.rows.Conditions.{where_cause}
use Rattle.resin_meaning_forms.specs.Under.meaning_tables.Under.plan.Statements.{named, insert_cause, changed_names, update_cause}
use Rattle.resin_frame.specs.LabelledTables.{LabelledRow, LabelledTable, Rows, Odd, plain_row, lift_tables}
use Rattle.resin_statement_laws.specs.Calls.{rows_in, are_apart, row_of}
use Rattle.resin_statement_laws.specs.Effects.{plain_values, cell_or, cell_given, cells_with, nulls, is_chosen, rows_given, numbers_left}
use Rattle.resin_statement_laws.specs.Fronts.{first_changed, first_gone, numbered_after, row_changed, unless_refused, rows_after, table_named, table_after, tables_after, IsOneOf, CellsStem, AllOneOf, RowStems, CellsKeep}
use Rattle.resin_statement_laws.proofs.Cells.{read_length}
use Rattle.resin_statement_laws.proofs.Stores.{RowsRead}
use Rattle.resin_statement_laws.proofs.Fronts.{is_name, stands_here, fronts_leave}

-- ---- lists

one_take : {A : Type 0} (x : A) (n : ℕ) (xs : List A) → IsOneOf x (take n xs) → IsOneOf x xs
one_take x zero xs h = elim h [ ]
one_take x (suc n) [] h = elim h [ ]
one_take x (suc n) (y ∷ xs) (inl e) = inl e
one_take x (suc n) (y ∷ xs) (inr h) = inr (one_take x n xs h)

one_drop : {A : Type 0} (x : A) (n : ℕ) (xs : List A) → IsOneOf x (drop n xs) → IsOneOf x xs
one_drop x zero xs h = h
one_drop x (suc n) [] h = elim h [ ]
one_drop x (suc n) (y ∷ xs) h = inr (one_drop x n xs h)

one_append : {A : Type 0} (x : A) (xs ys : List A) → IsOneOf x (xs ++ ys) → IsOneOf x xs ⊎ IsOneOf x ys
one_append x [] ys h = inr h
one_append x (z ∷ xs) ys (inl e) = inl (inl e)
one_append {A = A} x (z ∷ xs) ys (inr h) = by (one_append x xs ys h)
  where
    by : IsOneOf x xs ⊎ IsOneOf x ys → IsOneOf x (z ∷ xs) ⊎ IsOneOf x ys
    by (inl i) = inl (inr i)
    by (inr i) = inr i

-- ---- cells

-- a cell that is given is one of the values
given_one : (names : List (List ℕ)) (vs : List LabelledCell) (name : List ℕ) (v : LabelledCell) → cell_given names vs name ≡ Some v → IsOneOf v vs
given_one [] vs name v e = absurd (let n : None ≡ Some v = e in cc)
given_one (n ∷ names) [] name v e = absurd (let x : None ≡ Some v = e in cc)
given_one (n ∷ names) (w ∷ vs) name v e = by (bytes_eq n name) e (λ f. given_one names vs name v f)
  where
    by : (b : Bool) → cond b (Some w) (cell_given names vs name) ≡ Some v → (cell_given names vs name ≡ Some v → IsOneOf v vs) → IsOneOf v (w ∷ vs)
    by true f rest = inl (let same : w ≡ v = cc in same)
    by false f rest = inr (rest f)

same_cells : (vs cells : List LabelledCell) → CellsStem vs cells cells
same_cells vs [] = tt
same_cells vs (c ∷ cells) = (inl refl, same_cells vs cells)

with_stems : (vs : List LabelledCell) (columns : List Column) (names : List (List ℕ)) (some cells : List LabelledCell) → ((v : LabelledCell) → IsOneOf v some → IsOneOf v vs)
    → length cells ≡ length columns → CellsStem vs cells (cells_with columns names some cells)
with_stems vs [] names some [] sub len = tt
with_stems vs [] names some (c ∷ cells) sub len = absurd (omega arith)
with_stems vs (column ∷ columns) names some [] sub len = absurd (omega arith)
with_stems vs (column ∷ columns) names some (c ∷ cells) sub len = (by (cell_given names some column.name) refl, with_stems vs columns names some cells sub (omega arith))
  where
    by : (o : Option LabelledCell) → cell_given names some column.name ≡ o → (c ≡ cell_or o c) ⊎ IsOneOf (cell_or o c) vs
    by None e = inl refl
    by (Some v) e = inr (sub v (given_one names some column.name v e))

-- NULL, or one of the values
new_cells : (vs : List LabelledCell) (columns : List Column) (names : List (List ℕ)) (some : List LabelledCell) (others : List Column) → ((v : LabelledCell) → IsOneOf v some → IsOneOf v vs)
    → AllOneOf (Null ∷ vs) (cells_with columns names some (nulls others))
new_cells vs [] names some others sub = tt
new_cells vs (column ∷ columns) names some [] sub = tt
new_cells vs (column ∷ columns) names some (o ∷ others) sub = (by (cell_given names some column.name) refl, new_cells vs columns names some others sub)
  where
    by : (g : Option LabelledCell) → cell_given names some column.name ≡ g → IsOneOf (cell_or g Null) (Null ∷ vs)
    by None e = inl refl
    by (Some v) e = inr (sub v (given_one names some column.name v e))

abbrev EachOf : List LabelledCell → List (List LabelledCell) → Type 0
EachOf vs [] = ⊤
EachOf vs (cells ∷ rows) = AllOneOf vs cells × EachOf vs rows

given_rows : {A : Type 0} (vs : List LabelledCell) (columns : List Column) (names : List (List ℕ)) (rows : List (List A)) (some : List LabelledCell)
    → ((v : LabelledCell) → IsOneOf v some → IsOneOf v vs) → EachOf (Null ∷ vs) (rows_given columns names rows some)
given_rows vs columns names [] some sub = tt
given_rows vs columns names (row ∷ rows) some sub = (
  new_cells vs columns names (take (length row) some) columns (λ v h. sub v (one_take v (length row) some h)),
  given_rows vs columns names rows (drop (length row) some) (λ v h. sub v (one_drop v (length row) some h)),
)

each_take : (vs : List LabelledCell) (k : ℕ) (rows : List (List LabelledCell)) → EachOf vs rows → EachOf vs (take k rows)
each_take vs zero rows h = tt
each_take vs (suc k) [] h = tt
each_take vs (suc k) (cells ∷ rows) h = (h.0, each_take vs k rows h.1)

-- ---- rows

stays : (vs : List LabelledCell) (rows : List LabelledRow) (row : LabelledRow) → IsOneOf row rows → RowStems vs rows row
stays vs rows row h = inl (row, h, refl, same_cells vs row.cells)

more_rows : (vs : List LabelledCell) (r : LabelledRow) (rows : List LabelledRow) (row : LabelledRow)
    → ((old : LabelledRow) × IsOneOf old rows × (old.number ≡ row.number) × CellsStem vs old.cells row.cells)
    → ((old : LabelledRow) × IsOneOf old (r ∷ rows) × (old.number ≡ row.number) × CellsStem vs old.cells row.cells)
more_rows vs r rows row h = (h.0, inr h.1, h.2, h.3)

abbrev Stem : List LabelledCell → List LabelledRow → LabelledRow → Type 0
Stem vs rows row = (old : LabelledRow) × IsOneOf old rows × (old.number ≡ row.number) × CellsStem vs old.cells row.cells

changed_stem : (vs : List LabelledCell) (test : LabelledRow → Bool) (new : LabelledRow → List LabelledCell) (k : ℕ) (columns : List Column) (rows : List LabelledRow) (row : LabelledRow)
    → RowsRead columns rows → ((r : LabelledRow) → length r.cells ≡ length columns → CellsStem vs r.cells (new r))
    → IsOneOf row (first_changed k test (λ r. row_of r.number (new r)) rows) → Stem vs rows row
changed_stem vs test new zero columns rows row r stem h = (row, h, refl, same_cells vs row.cells)
changed_stem vs test new (suc k) columns [] row r stem h = elim h [ ]
changed_stem vs test new (suc k) columns (x ∷ rows) row r stem h =
    by (test x) (λ i. changed_stem vs test new k columns rows row r.1 stem i) (λ i. changed_stem vs test new (suc k) columns rows row r.1 stem i) h
  where
    renewed : LabelledRow → LabelledRow
    renewed y = row_of y.number (new y)

    yes_case : (IsOneOf row (first_changed k test (λ r. row_of r.number (new r)) rows) → Stem vs rows row)
        → IsOneOf row (row_of x.number (new x) ∷ first_changed k test (λ r. row_of r.number (new r)) rows) → Stem vs (x ∷ rows) row
    yes_case f (inl e) =
        subst (λ (y : LabelledRow). Stem vs (x ∷ rows) y) e (x, inl refl, refl, stem x (read_length columns x.cells r.0))
    yes_case f (inr i) = more_rows vs x rows row (f i)

    no_case : (IsOneOf row (first_changed (suc k) test (λ r. row_of r.number (new r)) rows) → Stem vs rows row)
        → IsOneOf row (x ∷ first_changed (suc k) test (λ r. row_of r.number (new r)) rows) → Stem vs (x ∷ rows) row
    no_case f (inl e) = subst (λ (y : LabelledRow). Stem vs (x ∷ rows) y) e (x, inl refl, refl, same_cells vs x.cells)
    no_case f (inr i) = more_rows vs x rows row (f i)

    by : (b : Bool) → (IsOneOf row (first_changed k test (λ r. row_of r.number (new r)) rows) → Stem vs rows row)
        → (IsOneOf row (first_changed (suc k) test (λ r. row_of r.number (new r)) rows) → Stem vs rows row)
        → IsOneOf row (cond b (row_of x.number (new x) ∷ first_changed k test (λ r. row_of r.number (new r)) rows) (x ∷ first_changed (suc k) test (λ r. row_of r.number (new r)) rows))
        → Stem vs (x ∷ rows) row
    by true f g i = yes_case f i
    by false f g i = no_case g i

gone_one : (test : LabelledRow → Bool) (k : ℕ) (rows : List LabelledRow) (row : LabelledRow) → IsOneOf row (first_gone k test rows) → IsOneOf row rows
gone_one test zero rows row h = h
gone_one test (suc k) [] row h = h
gone_one test (suc k) (x ∷ rows) row h = by (test x) (λ i. gone_one test k rows row i) (λ i. gone_one test (suc k) rows row i) h
  where
    other : (IsOneOf row (first_gone (suc k) test rows) → IsOneOf row rows) → IsOneOf row (x ∷ first_gone (suc k) test rows) → IsOneOf row (x ∷ rows)
    other g (inl e) = inl e
    other g (inr i) = inr (g i)

    by : (b : Bool) → (IsOneOf row (first_gone k test rows) → IsOneOf row rows) → (IsOneOf row (first_gone (suc k) test rows) → IsOneOf row rows)
        → IsOneOf row (cond b (first_gone k test rows) (x ∷ first_gone (suc k) test rows)) → IsOneOf row (x ∷ rows)
    by true f g i = inr (f i)
    by false f g i = other g i

numbered_stem : (vs : List LabelledCell) (large : ℕ) (given : List (List LabelledCell)) (row : LabelledRow) → EachOf vs given → IsOneOf row (numbered_after large given)
    → (large < row.number) × AllOneOf vs row.cells
numbered_stem vs large [] row h i = elim i [ ]
numbered_stem vs large (cells ∷ given) row h (inl e) = subst (λ (y : LabelledRow). (large < y.number) × AllOneOf vs y.cells) e (omega arith, h.0)
numbered_stem vs large (cells ∷ given) row h (inr i) = let rest = numbered_stem vs (large + 1) given row h.1 i in (omega (arith, rest.0), rest.1)

number_within : (rows : List LabelledRow) (old : LabelledRow) → IsOneOf old rows → old.number ≤ largest_number (map plain_row rows)
number_within [] old h = elim h [ ]
number_within (x ∷ rows) old (inl e) = let same : x.number ≡ old.number = ap (λ (r : LabelledRow). r.number) e in omega (arith, same)
number_within (x ∷ rows) old (inr i) = omega (arith, number_within rows old i)

-- ---- each statement

rows_stem : (q : Stmt) (vs : List LabelledCell) (k : ℕ) (columns : List Column) (rows : List LabelledRow) (row : LabelledRow) → RowsRead columns rows
    → IsOneOf row (rows_after q vs k columns rows) → RowStems vs rows row
rows_stem (statement.Create c) vs k columns rows row r h = stays vs rows row h
rows_stem (statement.Select q) vs k columns rows row r h = stays vs rows row h
rows_stem (statement.Insert i) vs k columns rows row r h = by (insert_cause i (plain_values vs) columns (named i.columns columns)) h
  where
    given : List (List LabelledCell)
    given = take k (take (numbers_left rows) (rows_given columns (named i.columns columns) i.rows vs))

    each : EachOf (Null ∷ vs) (take k (take (numbers_left rows) (rows_given columns (named i.columns columns) i.rows vs)))
    each =
        each_take (Null ∷ vs) k (take (numbers_left rows) (rows_given columns (named i.columns columns) i.rows vs))
        (each_take (Null ∷ vs) (numbers_left rows) (rows_given columns (named i.columns columns) i.rows vs) (given_rows vs columns (named i.columns columns) i.rows vs (λ v g. g)))

    either : IsOneOf row rows ⊎ IsOneOf row (numbered_after (largest_number (map plain_row rows)) given) → RowStems vs rows row
    either (inl g) = stays vs rows row g
    either (inr g) =
        let new = numbered_stem (Null ∷ vs) (largest_number (map plain_row rows)) given row each g in
        inr ((λ old among e. absurd (omega (arith, number_within rows old among, new.0, e))), new.1)

    by : (x : Option SqlRefusal) → IsOneOf row (unless_refused x rows (rows ++ numbered_after (largest_number (map plain_row rows)) given)) → RowStems vs rows row
    by None g = either (one_append row rows (numbered_after (largest_number (map plain_row rows)) given) g)
    by (Some x) g = stays vs rows row g
rows_stem (statement.Update u) vs k columns rows row r h = by (update_cause u (plain_values vs) columns (changed_names u)) h
  where
    test : LabelledRow → Bool
    test = is_chosen columns u.condition (drop (length u.changes) vs)

    new : LabelledRow → List LabelledCell
    new x = cells_with columns (changed_names u) (take (length u.changes) vs) x.cells

    by : (x : Option SqlRefusal) → IsOneOf row (unless_refused x rows (first_changed k (is_chosen columns u.condition (drop (length u.changes) vs)) (row_changed u vs columns) rows)) → RowStems vs rows row
    by None g =
        inl (changed_stem vs (is_chosen columns u.condition (drop (length u.changes) vs)) (λ x. cells_with columns (changed_names u) (take (length u.changes) vs) x.cells) k columns rows row r
        (λ x len. with_stems vs columns (changed_names u) (take (length u.changes) vs) x.cells (λ v o. one_take v (length u.changes) vs o) len) g)
    by (Some x) g = stays vs rows row g
rows_stem (statement.Delete d) vs k columns rows row r h = by (where_cause columns d.condition (plain_values vs)) h
  where
    by : (x : Option SqlRefusal) → IsOneOf row (unless_refused x rows (first_gone k (is_chosen columns d.condition vs) rows)) → RowStems vs rows row
    by None g = stays vs rows row (gone_one (is_chosen columns d.condition vs) k rows row g)
    by (Some x) g = stays vs rows row g

no_rows : (q : Stmt) (k : ℕ) → rows_in (table_after q k) ≡ []
no_rows (statement.Create c) zero = refl
no_rows (statement.Create c) (suc k) = by (is_repeated (names_of c.columns)) (are_apart c.columns)
  where
    by : (a b : Bool) → rows_in (cond a None (Some (cond b (Rows c.columns []) (Odd (table_of (paired c.columns) []))))) ≡ []
    by true b = refl
    by false true = refl
    by false false = refl
no_rows (statement.Insert i) k = refl
no_rows (statement.Select q) k = refl
no_rows (statement.Update u) k = refl
no_rows (statement.Delete d) k = refl

pub cells_keep : CellsKeep
cells_keep q vs s whole k name row h = by (is_name name (table_named q))
  where
    at : (o : Option LabelledTable) → get (lift_tables s) (table_named q) ≡ o → IsOneOf row (rows_in (get (tables_after q vs k s) (table_named q))) → RowStems vs (rows_in o) row
    at None e i = absurd (let none : IsOneOf row [] = subst (λ rs. IsOneOf row rs) (ap rows_in ((fronts_leave q vs s whole k).none e) ∙ no_rows q k) i in none)
    at (Some (Odd table)) e i = absurd (let none : IsOneOf row [] = subst (λ rs. IsOneOf row rs) (ap rows_in ((fronts_leave q vs s whole k).odd table e)) i in none)
    at (Some (Rows columns rows)) e i =
        let st = stands_here s (table_named q) columns rows whole e in
        rows_stem q vs k columns rows row st.read (subst (λ rs. IsOneOf row rs) (ap rows_in ((fronts_leave q vs s whole k).rows columns rows e)) i)

    by : (name ≡ table_named q) ⊎ (name ≡ table_named q → ⊥) → RowStems vs (rows_in (get (lift_tables s) name)) row
    by (inl e) =
        subst (λ n. RowStems vs (rows_in (get (lift_tables s) n)) row) (sym e)
        (at (get (lift_tables s) (table_named q)) refl (subst (λ n. IsOneOf row (rows_in (get (tables_after q vs k s) n))) e h))
    by (inr other) = stays vs (rows_in (get (lift_tables s) name)) row (subst (λ o. IsOneOf row (rows_in o)) ((fronts_leave q vs s whole k).others name other) h)
