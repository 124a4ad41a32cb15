-- What calls on tables leave alone.
use Rattle.std.proofs.Common.{◌≡◌, ◌⊎◌, inl, inr, ℕ, ◌+◌, ◌<◌, ◌==◌, nat_lt, Bool, true, false, cond, not, ◌&&◌, List, [], ◌∷◌, ◌++◌, length, map, Option, Some, None, is_some, Result, Ok, Err, Decides, refl, sym, ap, subst, ◌∙◌, arith}
use Rattle.std.specs.FinMap.{get, insert, contains_key, get-insert}
use Rattle.std.specs.Option.{option_map, option_map_or}
use Rattle.std.specs.Ordering.{eq_by_cmp}
use Rattle.std.specs.Cmp.Lexicographic.{nat_list_cmp_total}
use Rattle.std.proofs.lemmas.Bool.{true≢false, false≢true, ne_eqb}
use Rattle.std.proofs.lemmas.Bool.Decides.{Decides-eqb}
use Rattle.std.proofs.lemmas.Map.Text.{is_eq-slice_cmp}
use Rattle.std.proofs.lemmas.Slice.Eq.{bytes_eq-Decides}
use Rattle.resin_meaning_forms.specs.Under.base.Contents.{byte_order}
use Rattle.resin_meaning_forms.specs.Under.base.TableStore.{TableStore, table_of, columns_of, rows_of, with_rows, has_number, has_row, largest_number, last_row_number}
use Rattle.resin_meaning_forms.specs.Under.base.TableStore.{after_create, next_number, after_insert, can_update, with_cells, after_update, without_number, after_delete}
use Rattle.resin_meaning_forms.specs.Under.base.declared.cell.Cell.{Cell}
use Rattle.resin_meaning_forms.specs.Under.base.declared.cell.Column.{Column}
use Rattle.resin_meaning_forms.specs.Under.base.declared.cell.Row.{Row}
use Rattle.resin_meaning_forms.specs.Under.base.declared.cell.Table.{Table}
use Rattle.resin_meaning_forms.specs.Under.base.declared.faults.KeepFault.{KeepFault}
use Rattle.resin_meaning_forms.specs.Under.meaning_tables.Under.plan.TableCalls.{TableCall, MakeTable, AskColumns, AskRows, AddRow, SetRow, TakeRow, Answer, Changes}
use Rattle.resin_frame.specs.Rows.{KeepsOthers, IsCreated, numbered, IsInserted, IsSet, AreSet, IsUpdated, AreWithout, ends, gone, stays, IsDeleted}
use Rattle.resin_frame.specs.Rows.{CreateKeeps, InsertKeeps, UpdateKeeps, DeleteKeeps, IsAmong, NamesRow, RowsStay}

-- ---- names, and what stands at them

name_test : (q k : List ℕ) → Decides (eq_by_cmp byte_order q k) (q ≡ k)
name_test q k = subst (λ b. Decides b (q ≡ k)) (sym (is_eq-slice_cmp q k)) (bytes_eq-Decides q k)

-- one name is the other, or it isn't
is_name : (q k : List ℕ) → (q ≡ k) ⊎ (q ≡ k → ⊥)
is_name q k = by (eq_by_cmp byte_order q k) (name_test q k)
  where
    by : (b : Bool) → Decides b (q ≡ k) → (q ≡ k) ⊎ (q ≡ k → ⊥)
    by true d = inl (d.0 refl)
    by false d = inr (λ e. false≢true (d.1 e))

other_test : (q k : List ℕ) → (q ≡ k → ⊥) → eq_by_cmp byte_order q k ≡ false
other_test q k h = by (eq_by_cmp byte_order q k) (name_test q k)
  where
    by : (b : Bool) → Decides b (q ≡ k) → b ≡ false
    by true d = absurd (h (d.0 refl))
    by false d = refl

get_same : (s : TableStore) (name : List ℕ) (table : Table) → get (insert s name table) name ≡ Some table
get_same s name table =
    get-insert nat_list_cmp_total s name table name ∙ ap (λ b. cond b (Some table) (get s name)) ((name_test name name).1 refl)

get_other : (s : TableStore) (name : List ℕ) (table : Table) → KeepsOthers name s (insert s name table)
get_other s name table other h =
    get-insert nat_list_cmp_total s name table other ∙ ap (λ b. cond b (Some table) (get s other)) (other_test other name h)

-- ---- other rows in a table

abbrev rows_in : Option Table → List Row
rows_in o = option_map_or (λ (table : Table). table.rows) o []

abbrev columns_in : Option Table → Option (List Column)
columns_in o = option_map (λ (table : Table). table.columns) o

-- the store by what stands at the name
abbrev rows_set : TableStore → List ℕ → (List Row → List Row) → Option Table → TableStore
rows_set s name change o = option_map_or (λ (table : Table). insert s name (table_of table.columns (change table.rows))) o s

with_others : (s : TableStore) (name : List ℕ) (change : List Row → List Row) → KeepsOthers name s (with_rows s name change)
with_others s name change other h = by (get s name)
  where
    by : (o : Option Table) → get (rows_set s name change o) other ≡ get s other
    by None = refl
    by (Some table) = get_other s name (table_of table.columns (change table.rows)) other h

with_columns : (s : TableStore) (name : List ℕ) (change : List Row → List Row) → columns_of (with_rows s name change) name ≡ columns_of s name
with_columns s name change = by (get s name) refl
  where
    by : (o : Option Table) → get s name ≡ o → columns_of (rows_set s name change o) name ≡ columns_of s name
    by None e = refl
    by (Some table) e = ap columns_in (get_same s name (table_of table.columns (change table.rows))) ∙ sym (ap columns_in e)

with_rows_of : (s : TableStore) (name : List ℕ) (change : List Row → List Row) (table : Table) → get s name ≡ Some table
    → rows_of (with_rows s name change) name ≡ change (rows_of s name)
with_rows_of s name change table e =
    ap (λ o. rows_of (rows_set s name change o) name) e ∙ ap rows_in (get_same s name (table_of table.columns (change table.rows)))
    ∙ ap (λ o. change (rows_in o)) (sym e)

-- a change that makes no rows of none
with_rows_made : (s : TableStore) (name : List ℕ) (change : List Row → List Row) → change [] ≡ [] → rows_of (with_rows s name change) name ≡ change (rows_of s name)
with_rows_made s name change none = by (get s name) refl
  where
    by : (o : Option Table) → get s name ≡ o → rows_of (with_rows s name change) name ≡ change (rows_of s name)
    by None e = ap (λ o. rows_of (rows_set s name change o) name) e ∙ ap rows_in e ∙ sym none ∙ ap (λ o. change (rows_in o)) (sym e)
    by (Some table) e = with_rows_of s name change table e

-- ---- create

none_is : (o : Option Table) → is_some o ≡ false → o ≡ None
none_is None e = refl
none_is (Some table) e = absurd (true≢false e)

pub create_keeps : CreateKeeps
create_keeps s name columns = by (contains_key s name) refl
  where
    by : (b : Bool) → contains_key s name ≡ b → IsCreated s name columns (not b) (cond b s (insert s name (table_of columns [])))
    by true e = record {
      others = λ other h. refl;
      was_not = λ x. absurd (false≢true x);
      is = λ x. absurd (false≢true x);
      refused = λ x. refl;
    }
    by false e = record {
      others = get_other s name (table_of columns []);
      was_not = λ x. none_is (get s name) e;
      is = λ x. get_same s name (table_of columns []);
      refused = λ x. absurd (true≢false x);
    }

-- ---- insert

-- the definitions of an insert, over what stands at its name
abbrev fits_in : Option Table → List Cell → Bool
fits_in o cells = option_map_or (λ (columns : List Column). length cells == length columns) (columns_in o) false

abbrev next_in : Option Table → List Cell → Option ℕ
next_in o cells = cond (fits_in o cells && nat_lt (largest_number (rows_in o)) last_row_number) (Some (largest_number (rows_in o) + 1)) None

above_absent : (rows : List Row) (number : ℕ) → largest_number rows < number → has_number rows number ≡ false
above_absent [] number h = refl
above_absent (row ∷ rows) number h = rw (ne_eqb row.number number (λ e. omega (arith, e))) (above_absent rows number (omega arith))

-- a number that is told is above all
told_above : (b : Bool) (large number : ℕ) → cond b (Some (large + 1)) None ≡ Some number → large < number
told_above true large number e = let same : large + 1 ≡ number = cc in omega arith
told_above false large number e = absurd (let none : is_some (Some number) ≡ false = ap is_some (sym e) in true≢false none)

pub insert_keeps : InsertKeeps
insert_keeps s name cells = by (next_number s name cells) refl
  where
    last : ℕ → List Row → List Row
    last number rows = rows ++ numbered number cells ∷ []

    there : (number : ℕ) (o : Option Table) → get s name ≡ o → next_in o cells ≡ Some number → rows_of (with_rows s name (last number)) name ≡ last number (rows_of s name)
    there number None e n = absurd (let none : is_some (Some number) ≡ false = ap is_some (sym n) in true≢false none)
    there number (Some table) e n = with_rows_of s name (last number) table e

    by : (told : Option ℕ) → next_number s name cells ≡ told → IsInserted s name cells told (option_map_or (λ (number : ℕ). with_rows s name (last number)) told s)
    by None e = record {
      others = λ other h. refl;
      columns = refl;
      rows = λ n x. absurd (let none : is_some (Some n) ≡ false = ap is_some (sym x) in true≢false none);
      unused = λ n x. absurd (let none : is_some (Some n) ≡ false = ap is_some (sym x) in true≢false none);
      refused = λ x. refl;
    }
    by (Some number) e = record {
      others = with_others s name (last number);
      columns = with_columns s name (last number);
      rows = λ n x. there number (get s name) refl e ∙ (let same : number ≡ n = cc in ap (λ m. last m (rows_of s name)) same);
      unused = λ n x. above_absent (rows_of s name) n (told_above _ (largest_number (rows_of s name)) n (e ∙ x));
      refused = λ x. absurd (let none : is_some (Some number) ≡ false = ap is_some x in true≢false none);
    }

-- ---- update

is_set : (number : ℕ) (cells : List Cell) (row : Row) → IsSet number cells row (with_cells number cells row)
is_set number cells row = by (row.number == number) (Decides-eqb row.number number)
  where
    by : (b : Bool) → Decides b (row.number ≡ number) → IsSet number cells row (cond b (record { number = row.number; cells = cells }) row)
    by true d = record { number_stays = refl; cells_stay = λ h. absurd (h (d.0 refl)); cells_are = λ e. refl }
    by false d = record { number_stays = refl; cells_stay = λ h. refl; cells_are = λ e. absurd (false≢true (d.1 e)) }

are_set : (number : ℕ) (cells : List Cell) (rows : List Row) → AreSet number cells rows (map (with_cells number cells) rows)
are_set number cells [] = tt
are_set number cells (row ∷ rows) = (is_set number cells row, are_set number cells rows)

pub update_keeps : UpdateKeeps
update_keeps s name number cells = by (can_update s name number cells)
  where
    by : (b : Bool) → IsUpdated s name number cells b (cond b (with_rows s name (map (with_cells number cells))) s)
    by true = record {
      others = with_others s name (map (with_cells number cells));
      columns = with_columns s name (map (with_cells number cells));
      rows = λ x. subst (AreSet number cells (rows_of s name)) (sym (with_rows_made s name (map (with_cells number cells)) refl)) (are_set number cells (rows_of s name));
      refused = λ x. absurd (true≢false x);
    }
    by false = record {
      others = λ other h. refl;
      columns = refl;
      rows = λ x. absurd (false≢true x);
      refused = λ x. refl;
    }

-- ---- delete

are_without : (number : ℕ) (rows : List Row) → AreWithout number rows (without_number number rows)
are_without number [] = ends
are_without number (row ∷ rows) = by (row.number == number) (Decides-eqb row.number number) (are_without number rows)
  where
    by : (b : Bool) → Decides b (row.number ≡ number) → AreWithout number rows (without_number number rows)
        → AreWithout number (row ∷ rows) (cond (not b) (row ∷ without_number number rows) (without_number number rows))
    by true d w = gone (d.0 refl) w
    by false d w = stays (λ e. false≢true (d.1 e)) w

pub delete_keeps : DeleteKeeps
delete_keeps s name number = by (has_row s name number)
  where
    by : (b : Bool) → IsDeleted s name number b (cond b (with_rows s name (without_number number)) s)
    by true = record {
      others = with_others s name (without_number number);
      columns = with_columns s name (without_number number);
      rows = λ x. subst (AreWithout number (rows_of s name)) (sym (with_rows_made s name (without_number number) refl)) (are_without number (rows_of s name));
      refused = λ x. absurd (true≢false x);
    }
    by false = record {
      others = λ other h. refl;
      columns = refl;
      rows = λ x. absurd (false≢true x);
      refused = λ x. refl;
    }

-- ---- a row that isn't named

among_front : (row : Row) (rows more : List Row) → IsAmong row rows → IsAmong row (rows ++ more)
among_front row [] more h = elim h [ ]
among_front row (r ∷ rows) more (inl e) = inl e
among_front row (r ∷ rows) more (inr h) = inr (among_front row rows more h)

row_same : (a b : Row) → a.number ≡ b.number → a.cells ≡ b.cells → a ≡ b
row_same a b e f = ap (λ n. numbered n a.cells) e ∙ ap (numbered b.number) f

among_set : (number : ℕ) (cells : List Cell) (row : Row) (rows afters : List Row) → (number ≡ row.number → ⊥) → AreSet number cells rows afters
    → IsAmong row rows → IsAmong row afters
among_set number cells row [] afters other h k = elim k [ ]
among_set number cells row (r ∷ rows) [] other h k = elim h [ ]
among_set number cells row (r ∷ rows) (a ∷ afters) other h (inl e) =
    inl (row_same a r h.0.number_stays (h.0.cells_stay (λ n. other (sym n ∙ ap (λ (x : Row). x.number) e))) ∙ e)
among_set number cells row (r ∷ rows) (a ∷ afters) other h (inr k) = inr (among_set number cells row rows afters other h.1 k)

among_without : {number : ℕ} {rows left : List Row} (row : Row) → (number ≡ row.number → ⊥) → AreWithout number rows left → IsAmong row rows → IsAmong row left
among_without row other ends h = elim h [ ]
among_without row other (gone is w) (inl e) = absurd (other (sym is ∙ ap (λ (x : Row). x.number) e))
among_without row other (gone is w) (inr h) = among_without row other w h
among_without row other (stays is w) (inl e) = inl e
among_without row other (stays is w) (inr h) = inr (among_without row other w h)

-- rows of a store that is the same, or has the same table there
among_same : (s t : TableStore) (name : List ℕ) (row : Row) → t ≡ s → IsAmong row (rows_of s name) → IsAmong row (rows_of t name)
among_same s t name row e h = subst (λ x. IsAmong row (rows_of x name)) (sym e) h

among_others : (s t : TableStore) (table name : List ℕ) (row : Row) → KeepsOthers table s t → (name ≡ table → IsAmong row (rows_of t table)) → IsAmong row (rows_of s name)
    → IsAmong row (rows_of t name)
among_others s t table name row keeps here h = by (is_name name table)
  where
    by : (name ≡ table) ⊎ (name ≡ table → ⊥) → IsAmong row (rows_of t name)
    by (inl e) = subst (λ n. IsAmong row (rows_of t n)) (sym e) (here e)
    by (inr other) = subst (λ o. IsAmong row (rows_in o)) (sym (keeps name other)) h

among_created : (s : TableStore) (table name : List ℕ) (columns : List Column) (row : Row) → IsAmong row (rows_of s name) → IsAmong row (rows_of (after_create s table columns) name)
among_created s table name columns row h = by (not (contains_key s table)) (create_keeps s table columns)
  where
    by : (made : Bool) → IsCreated s table columns made (after_create s table columns) → IsAmong row (rows_of (after_create s table columns) name)
    by false k = among_same s _ name row (k.refused refl) h
    by true k = among_others s _ table name row k.others (λ e. absurd (none e)) h
      where
        none : name ≡ table → ⊥
        none e = subst (λ o. IsAmong row (rows_in o)) (ap (get s) e ∙ k.was_not refl) h

among_inserted : (s : TableStore) (table name : List ℕ) (cells : List Cell) (row : Row) → IsAmong row (rows_of s name) → IsAmong row (rows_of (after_insert s table cells) name)
among_inserted s table name cells row h = by (next_number s table cells) (insert_keeps s table cells)
  where
    by : (told : Option ℕ) → IsInserted s table cells told (after_insert s table cells) → IsAmong row (rows_of (after_insert s table cells) name)
    by None k = among_same s _ name row (k.refused refl) h
    by (Some n) k =
        among_others s _ table name row k.others
        (λ e. subst (IsAmong row) (sym (k.rows n refl)) (among_front row (rows_of s table) _ (subst (λ x. IsAmong row (rows_of s x)) e h))) h

among_updated : (s : TableStore) (table name : List ℕ) (number : ℕ) (cells : List Cell) (row : Row) → (NamesRow name row.number (SetRow table number cells) → ⊥)
    → IsAmong row (rows_of s name) → IsAmong row (rows_of (after_update s table number cells) name)
among_updated s table name number cells row other h = by (can_update s table number cells) (update_keeps s table number cells)
  where
    by : (made : Bool) → IsUpdated s table number cells made (after_update s table number cells) → IsAmong row (rows_of (after_update s table number cells) name)
    by false k = among_same s _ name row (k.refused refl) h
    by true k =
        among_others s _ table name row k.others
        (λ e. among_set number cells row (rows_of s table) _ (λ n. other (sym e, n)) (k.rows refl) (subst (λ x. IsAmong row (rows_of s x)) e h)) h

among_deleted : (s : TableStore) (table name : List ℕ) (number : ℕ) (row : Row) → (NamesRow name row.number (TakeRow table number) → ⊥)
    → IsAmong row (rows_of s name) → IsAmong row (rows_of (after_delete s table number) name)
among_deleted s table name number row other h = by (has_row s table number) (delete_keeps s table number)
  where
    by : (made : Bool) → IsDeleted s table number made (after_delete s table number) → IsAmong row (rows_of (after_delete s table number) name)
    by false k = among_same s _ name row (k.refused refl) h
    by true k =
        among_others s _ table name row k.others
        (λ e. among_without row (λ n. other (sym e, n)) (k.rows refl) (subst (λ x. IsAmong row (rows_of s x)) e h)) h

-- after one call
among_after : (call : TableCall) (s u : TableStore) (r : Result (Answer call) KeepFault) (name : List ℕ) (row : Row) → Changes call s r u
    → (NamesRow name row.number call → ⊥) → IsAmong row (rows_of s name) → IsAmong row (rows_of u name)
among_after (MakeTable table columns) s u (Ok made) name row c other h = among_same _ u name row c.1 (among_created s table name columns row h)
among_after (MakeTable table columns) s u (Err fault) name row c other h = among_same s u name row c h
among_after (AskColumns table) s u r name row c other h = among_same s u name row c.0 h
among_after (AskRows table) s u r name row c other h = among_same s u name row c.0 h
among_after (AddRow table cells) s u (Ok told) name row c other h = among_same _ u name row c.1 (among_inserted s table name cells row h)
among_after (AddRow table cells) s u (Err fault) name row c other h = among_same s u name row c h
among_after (SetRow table number cells) s u (Ok made) name row c other h = among_same _ u name row c.1 (among_updated s table name number cells row other h)
among_after (SetRow table number cells) s u (Err fault) name row c other h = among_same s u name row c h
among_after (TakeRow table number) s u (Ok made) name row c other h = among_same _ u name row c.1 (among_deleted s table name number row other h)
among_after (TakeRow table number) s u (Err fault) name row c other h = among_same s u name row c h

pub rows_stay : RowsStay
rows_stay [] s t name row lead others h = among_same s t name row lead h
rows_stay (call ∷ calls) s t name row (r, u, c, lead) others h = rows_stay calls u t name row lead others.1 (among_after call s u r name row c others.0 h)
