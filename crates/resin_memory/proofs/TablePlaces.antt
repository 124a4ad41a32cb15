-- How a change of the rows at a place changes the map of tables.
use Rattle.std.proofs.Common.{rules, ◌≡◌, ℕ, List, Some, None, Result, Ok, Err, sym, ap, ◌∙◌, OnOk}
use Rattle.std.specs.Prelude.{slice_index_or, slice_set}
use Rattle.std.specs.FinMap.{find, get, from_entries, insert, get-from_entries}
use Rattle.std.specs.Option.{option_map_or}
use Rattle.std.specs.Cmp.Lexicographic.{nat_list_cmp_total}
use Rattle.resin_base.specs.Contents.{byte_order}
use Rattle.resin_base.specs.Places.{IsPlace}
use Rattle.resin_base.specs.TableStore.{TableStore, table_of, with_rows}
use Rattle.resin_base.specs.declared.cell.Table.{Table}
use Rattle.resin_base.specs.declared.cell.Row.{Row}
use Rattle.resin_memory.proofs.Find.{find-here, from_entries-place}

abbrev Entries : Type 0
Entries = List (List ℕ × Table)

-- what the map holds at a key
pub get-find : (es : Entries) (k : List ℕ) → get (from_entries {R = byte_order} es) k ≡ find byte_order k es
get-find es k = get-from_entries nat_list_cmp_total es k

-- the table at a place
pub get-place : (k : List ℕ) (es : Entries) (i : ℕ) (x : List ℕ × Table) → IsPlace k es i → x ≡ slice_index_or es i x → get (from_entries {R = byte_order} es) k ≡ Some x.1
get-place k es i x p is = get-find es k ∙ find-here k es i x p.within p.none (p.here x) ∙ ap (λ y. Some y.1) (sym is)

-- other rows at a place
pub with_rows-place : (k : List ℕ) (es : Entries) (i : ℕ) (x : List ℕ × Table) (change : List Row → List Row) → IsPlace k es i → x ≡ slice_index_or es i x
    → from_entries {R = byte_order} (slice_set es i (x.0, table_of x.1.columns (change x.1.rows))) ≡ with_rows (from_entries es) k change
with_rows-place k es i x change p is =
    let s : TableStore = from_entries es in
    let new = table_of x.1.columns (change x.1.rows) in
    from_entries-place k es i x new p is
    ∙ ap (λ o. option_map_or (λ (t : Table). insert s k (table_of t.columns (change t.rows))) o s) (sym (get-place k es i x p is))

-- a table that isn't there
pub with_rows-absent : (k : List ℕ) (es : Entries) (change : List Row → List Row) → find byte_order k es ≡ None → from_entries {R = byte_order} es ≡ with_rows (from_entries es) k change
with_rows-absent k es change none =
    let s : TableStore = from_entries es in
    ap (λ o. option_map_or (λ (t : Table). insert s k (table_of t.columns (change t.rows))) o s) (sym (get-find es k ∙ none))

-- what follows where a call succeeded
pub on_ok : {T E : Type 0} (r : Result T E) (P Q : Type 0) → (P → Q) → OnOk r P → OnOk r Q
on_ok (Ok x) P Q f p = f p
on_ok (Err e) P Q f p = search rules
