-- Cells that carry their policies, and what a keeper holds of them.
use Rattle.std.proofs.Common.{◌≡◌, ℕ, zero, suc, ◌+◌, ◌*◌, nat_le, Bool, true, false, cond, List, [], ◌∷◌, length, map, take, drop, Option, Some, None, refl, sym, ap, subst, ◌∙◌, arith}
use Rattle.std.specs.Prelude.{slice_get, ⊤}
use Rattle.std.specs.List.{position_from}
use Rattle.std.specs.Option.{option_map, option_map_or}
use Rattle.std.specs.Str.{bytes_eq}
use Rattle.std.proofs.lemmas.Bool.{true≢false, or_parts, or_from, false_from_ne_true}
use Rattle.std.proofs.lemmas.List.{take-map, drop-map}
use Rattle.std.proofs.lemmas.Slice.Eq.{bytes_eq-Decides}
use Rattle.resin_base.specs.declared.cell.Cell.{Cell}
use Rattle.resin_base.specs.declared.cell.Cell.TheVariants as cell
use Rattle.resin_base.specs.declared.cell.Column.{Column}
use Rattle.resin_base.specs.declared.cell.Kind.{Kind}
use Rattle.resin_base.specs.declared.cell.Kind.TheVariants as kind
use Rattle.resin_base.specs.declared.stored.StoredCell.{StoredCell}
use Rattle.resin_store.specs.Cells.{LabelledCell, Null, stored, plain_cell, lift_cell}
use Rattle.resin_store.proofs.CellLifts.{keeps_cells}
use Rattle.resin_meaning_forms.specs.Under.meaning_tables.Under.rows.Cells.{fits, cell_at, value_at, shadow_at}
use Rattle.resin_meaning_forms.specs.Under.meaning_tables.Under.rows.Columns.{names_of, is_among, is_repeated, paired, shape, found_from, found, unpaired}
use Rattle.resin_meaning_forms.specs.Under.meaning_tables.Under.rows.Refusals.{rank, earlier, value_cause, values_cause, count_cause, rows_cause}
use Rattle.resin_meaning_forms.specs.Under.meaning_tables.Under.rows.Rows.{value_of_place, given, stored_or, stored_at, changed_from, changed, blank, inserted, answered_at, answered_row}
use Rattle.resin_meaning_forms.specs.Under.meaning_tables.Under.rows.declared.columns.Place.{Place}
use Rattle.resin_meaning_forms.specs.Under.meaning_tables.Under.sql.declared.fault.SqlRefusal.{SqlRefusal}
use Rattle.resin_meaning_forms.specs.Under.meaning_tables.Under.sql.declared.fault.SqlRefusal.TheVariants.{WrongKind}
use Rattle.resin_frame.specs.LabelledTables.{plain_cells, lift_cells}
use Rattle.resin_statement_laws.specs.Calls.{AreRead}
use Rattle.resin_statement_laws.specs.Effects.{plain_values, cell_given, cell_or, cells_with, nothing_told, told_in, cell_told, cells_told, nulls, rows_given}
use Rattle.resin_statement_laws.specs.Laws.{IsReadable, AreReadable}

-- ---- what a keeper holds at a place

abbrev held : List LabelledCell → ℕ → StoredCell
held cells i = option_map_or plain_cell (slice_get cells i) (stored cell.Null cell.Null)

pub place_plain : (cells : List LabelledCell) (i : ℕ) → stored_at (plain_cells cells) i ≡ held cells i
place_plain [] i = refl
place_plain (c ∷ cells) zero = refl
place_plain (c ∷ cells) (suc i) =
    let first : 2 * suc i ≡ suc (suc (2 * i)) = omega arith in
    let second : 2 * suc i + 1 ≡ suc (suc (2 * i + 1)) = omega arith in
    let all = plain_cells (c ∷ cells) in
    ap (λ j. stored (cell_at all j) (shadow_at all (suc i))) first
    ∙ ap (λ j. stored (value_at (plain_cells cells) i) (cell_at all j)) second
    ∙ place_plain cells i

-- a cell as it is answered
pub told_plain : (cells : List LabelledCell) (place : Option Place) → plain_cell (cell_told cells place) ≡ answered_at (plain_cells cells) place
told_plain cells None = refl
told_plain cells (Some p) = by (slice_get cells p.at) ∙ sym (ap answer (place_plain cells p.at))
  where
    answer : StoredCell → StoredCell
    answer c = cond (fits p.kind c.value) c (stored cell.Null cell.Null)

    one : (c : LabelledCell) (b : Bool) → plain_cell (cond b c nothing_told) ≡ cond b (plain_cell c) (stored cell.Null cell.Null)
    one c true = refl
    one c false = refl

    by : (o : Option LabelledCell) → plain_cell (option_map_or (told_in p.kind) o nothing_told) ≡ answer (option_map_or plain_cell o (stored cell.Null cell.Null))
    by None = refl
    by (Some c) = one c (fits p.kind (plain_cell c).value)

-- ---- lists

pub map_again : {A B C : Type 0} (h : B → C) (f : A → B) (g : A → C) → ((x : A) → h (f x) ≡ g x) → (xs : List A) → map h (map f xs) ≡ map g xs
map_again h f g same [] = refl
map_again h f g same (x ∷ xs) = ap (λ y. y ∷ map h (map f xs)) (same x) ∙ ap (λ ys. g x ∷ ys) (map_again h f g same xs)

pub cells_told_plain : (columns : List Column) (names : List (List ℕ)) (cells : List LabelledCell)
    → plain_values (cells_told columns names cells) ≡ answered_row columns names (plain_cells cells)
cells_told_plain columns names cells =
    map_again plain_cell (λ n. cell_told cells (found columns n)) (λ n. answered_at (plain_cells cells) (found columns n)) (λ n. told_plain cells (found columns n)) names

-- ---- cells that are given

place_later : (test : List ℕ → Bool) (k : ℕ) (names : List (List ℕ)) → position_from test (k + 1) names ≡ option_map suc (position_from test k names)
place_later test k [] = refl
place_later test k (n ∷ names) = by (test n) (place_later test (k + 1) names)
  where
    by : (b : Bool) → position_from test (k + 1 + 1) names ≡ option_map suc (position_from test (k + 1) names)
        → cond b (Some (k + 1)) (position_from test (k + 1 + 1) names) ≡ option_map suc (cond b (Some k) (position_from test (k + 1) names))
    by true h = let e : k + 1 ≡ suc k = omega arith in ap (λ i. let o : Option ℕ = Some i in o) e
    by false h = h

nothing_there : (o : Option ℕ) → value_of_place [] o ≡ None
nothing_there None = refl
nothing_there (Some i) = refl

one_behind : (v : StoredCell) (vs : List StoredCell) (o : Option ℕ) → value_of_place (v ∷ vs) (option_map suc o) ≡ value_of_place vs o
one_behind v vs None = refl
one_behind v vs (Some i) = refl

pub given_plain : (names : List (List ℕ)) (vs : List LabelledCell) (name : List ℕ) → given names (plain_values vs) name ≡ option_map plain_cell (cell_given names vs name)
given_plain [] vs name = refl
given_plain (n ∷ names) [] name = nothing_there (position_from (λ m. bytes_eq m name) 0 (n ∷ names))
given_plain (n ∷ names) (c ∷ vs) name = by (bytes_eq n name) (given_plain names vs name)
  where
    by : (b : Bool) → given names (plain_values vs) name ≡ option_map plain_cell (cell_given names vs name)
        → value_of_place (plain_values (c ∷ vs)) (cond b (Some 0) (position_from (λ m. bytes_eq m name) 1 names))
        ≡ option_map plain_cell (cond b (Some c) (cell_given names vs name))
    by true h = refl
    by false h =
        ap (value_of_place (plain_values (c ∷ vs))) (place_later (λ m. bytes_eq m name) 0 names)
        ∙ one_behind (plain_cell c) (plain_values vs) (position_from (λ m. bytes_eq m name) 0 names)
        ∙ h

or_plain : (o : Option LabelledCell) (c : LabelledCell) → stored_or (option_map plain_cell o) (plain_cell c) ≡ plain_cell (cell_or o c)
or_plain None c = refl
or_plain (Some v) c = refl

changed_plain_from : (at : ℕ) (columns : List Column) (names : List (List ℕ)) (vs : List LabelledCell) (old : List Cell) (cells : List LabelledCell)
    → length cells ≡ length columns → ((i : ℕ) → stored_at old (at + i) ≡ held cells i)
    → changed_from at columns names (plain_values vs) old ≡ plain_cells (cells_with columns names vs cells)
changed_plain_from at [] names vs old cells len same = refl
changed_plain_from at (column ∷ columns) names vs old [] len same = absurd (omega arith)
changed_plain_from at (column ∷ columns) names vs old (c ∷ cells) len same =
    let first : at ≡ at + 0 = omega arith in
    let here : stored_at old at ≡ plain_cell c = ap (stored_at old) first ∙ same 0 in
    let put : stored_or (given names (plain_values vs) column.name) (stored_at old at) ≡ plain_cell (cell_or (cell_given names vs column.name) c)
    = ap (λ o. stored_or o (stored_at old at)) (given_plain names vs column.name)
    ∙ ap (stored_or (option_map plain_cell (cell_given names vs column.name))) here
    ∙ or_plain (cell_given names vs column.name) c in
    let new = plain_cell (cell_or (cell_given names vs column.name) c) in
    ap (λ (v : StoredCell). v.value ∷ v.shadow ∷ changed_from (at + 1) columns names (plain_values vs) old) put
    ∙ ap (λ cs. new.value ∷ new.shadow ∷ cs)
    (changed_plain_from (at + 1) columns names vs old cells (omega arith)
    (λ i. let next : at + 1 + i ≡ at + suc i = omega arith in ap (stored_at old) next ∙ same (suc i)))

pub changed_plain : (columns : List Column) (names : List (List ℕ)) (vs cells : List LabelledCell) → length cells ≡ length columns
    → changed columns names (plain_values vs) (plain_cells cells) ≡ plain_cells (cells_with columns names vs cells)
changed_plain columns names vs cells len =
    changed_plain_from 0 columns names vs (plain_cells cells) cells len (λ i. let same : 0 + i ≡ i = omega arith in ap (stored_at (plain_cells cells)) same ∙ place_plain cells i)

nulls_plain : (columns : List Column) → plain_cells (nulls columns) ≡ blank columns
nulls_plain [] = refl
nulls_plain (column ∷ columns) = ap (λ cs. cell.Null ∷ cell.Text [] ∷ cs) (nulls_plain columns)

length-nulls : (columns : List Column) → length (nulls columns) ≡ length columns
length-nulls [] = refl
length-nulls (column ∷ columns) = ap suc (length-nulls columns)

pub given_rows_plain : {A : Type 0} (columns : List Column) (names : List (List ℕ)) (rows : List (List A)) (vs : List LabelledCell)
    → inserted columns names rows (plain_values vs) ≡ map plain_cells (rows_given columns names rows vs)
given_rows_plain columns names [] vs = refl
given_rows_plain columns names (row ∷ rows) vs =
    let own : changed columns names (take (length row) (plain_values vs)) (blank columns) ≡ plain_cells (cells_with columns names (take (length row) vs) (nulls columns))
    = ap (λ ws. changed columns names ws (blank columns)) (take-map plain_cell (length row) vs)
    ∙ ap (changed columns names (plain_values (take (length row) vs))) (sym (nulls_plain columns))
    ∙ changed_plain columns names (take (length row) vs) (nulls columns) (length-nulls columns) in
    ap (λ cs. cs ∷ inserted columns names rows (drop (length row) (plain_values vs))) own
    ∙ ap (λ cs. plain_cells (cells_with columns names (take (length row) vs) (nulls columns)) ∷ cs)
    (ap (inserted columns names rows) (drop-map plain_cell (length row) vs) ∙ given_rows_plain columns names rows (drop (length row) vs))

-- ---- cells that their columns read as they are

abbrev pub EachRead : List Column → List LabelledCell → Type 0
EachRead [] [] = ⊤
EachRead (column ∷ columns) (c ∷ cells) = (lift_cell column.kind (plain_cell c) ≡ c) × EachRead columns cells
EachRead [] (c ∷ cells) = ⊥
EachRead (column ∷ columns) [] = ⊥

pub read_all : (columns : List Column) (cells : List LabelledCell) → EachRead columns cells → AreRead columns cells
read_all [] [] r = refl
read_all [] (c ∷ cells) r = elim r [ ]
read_all (column ∷ columns) [] r = elim r [ ]
read_all (column ∷ columns) (c ∷ cells) r = ap (λ x. x ∷ lift_cells columns (plain_cells cells)) r.0 ∙ ap (λ cs. c ∷ cs) (read_all columns cells r.1)

pub read_length : (columns : List Column) (cells : List LabelledCell) → EachRead columns cells → length cells ≡ length columns
read_length [] [] r = refl
read_length [] (c ∷ cells) r = elim r [ ]
read_length (column ∷ columns) [] r = elim r [ ]
read_length (column ∷ columns) (c ∷ cells) r = ap suc (read_length columns cells r.1)

pub lifted_read : (columns : List Column) (cells : List Cell) → length cells ≡ length (paired columns) → EachRead columns (lift_cells columns cells)
lifted_read [] [] len = tt
lifted_read [] (value ∷ cells) len = absurd (omega arith)
lifted_read (column ∷ columns) [] len = absurd (omega arith)
lifted_read (column ∷ columns) (value ∷ []) len = absurd (omega arith)
lifted_read (column ∷ columns) (value ∷ shadow ∷ cells) len =
    (ap (lift_cell column.kind) (keeps_cells column.kind (stored value shadow)), lifted_read columns cells (omega arith))

null_read : (k : Kind) → lift_cell k (plain_cell Null) ≡ Null
null_read kind.Integer = refl
null_read kind.Text = refl

pub nulls_read : (columns : List Column) → EachRead columns (nulls columns)
nulls_read [] = tt
nulls_read (column ∷ columns) = (null_read column.kind, nulls_read columns)

-- each column reads what is given for it as it is
abbrev pub TakesGiven : List (List ℕ) → List LabelledCell → Column → Type 0
TakesGiven names vs column = (v : LabelledCell) → cell_given names vs column.name ≡ Some v → lift_cell column.kind (plain_cell v) ≡ v

abbrev pub AllTake : List (List ℕ) → List LabelledCell → List Column → Type 0
AllTake names vs [] = ⊤
AllTake names vs (column ∷ columns) = TakesGiven names vs column × AllTake names vs columns

pub with_read : (names : List (List ℕ)) (vs : List LabelledCell) (columns : List Column) (cells : List LabelledCell) → AllTake names vs columns → EachRead columns cells
    → EachRead columns (cells_with columns names vs cells)
with_read names vs [] [] t r = tt
with_read names vs [] (c ∷ cells) t r = elim r [ ]
with_read names vs (column ∷ columns) [] t r = elim r [ ]
with_read names vs (column ∷ columns) (c ∷ cells) t r = (by (cell_given names vs column.name) refl, with_read names vs columns cells t.1 r.1)
  where
    by : (o : Option LabelledCell) → cell_given names vs column.name ≡ o → lift_cell column.kind (plain_cell (cell_or o c)) ≡ cell_or o c
    by None e = r.0
    by (Some v) e = t.0 v e

-- ---- why it is so: the values fit, or the statement is refused

pub no_cause : (x y : Option SqlRefusal) → earlier x y ≡ None → (x ≡ None) × (y ≡ None)
no_cause None y e = (refl, e)
no_cause (Some x) None e = absurd (let n : Some x ≡ None = e in cc)
no_cause (Some x) (Some y) e = by (nat_le (rank x) (rank y)) e
  where
    by : (b : Bool) → cond b (Some x) (Some y) ≡ None → (Some x ≡ None) × (Some y ≡ None)
    by true f = absurd (let n : Some x ≡ None = f in cc)
    by false f = absurd (let n : Some y ≡ None = f in cc)

-- a column's name is found, and its kind is the column's
record IsFoundAs (all : List Column) (at : ℕ) (column : Column) : Type 0 where
  place : Place
  is : found_from at all column.name ≡ Some place
  kind_is : place.kind ≡ column.kind

abbrev FoundFrom : List Column → ℕ → List Column → Type 0
FoundFrom all at [] = ⊤
FoundFrom all at (column ∷ columns) = IsFoundAs all at column × FoundFrom all at columns

name_other : (a b : List ℕ) → bytes_eq a b ≡ false → bytes_eq b a ≡ false
name_other a b e = false_from_ne_true (bytes_eq b a) (λ f. true≢false (sym ((bytes_eq-Decides a b).1 (sym ((bytes_eq-Decides b a).0 f))) ∙ e))

found_wider : (c : Column) (all : List Column) (at : ℕ) (columns : List Column) → is_among c.name (names_of columns) ≡ false → FoundFrom all (at + 1) columns
    → FoundFrom (c ∷ all) at columns
found_wider c all at [] none f = tt
found_wider c all at (column ∷ columns) none f =
    let parts = or_parts (bytes_eq column.name c.name) (is_among c.name (names_of columns)) none in (
      record {
        place = f.0.place;
        is =
            ap (λ b. cond b (Some (record { at = at; kind = c.kind })) (found_from (at + 1) all column.name)) (name_other column.name c.name parts.0)
            ∙ f.0.is;
        kind_is = f.0.kind_is;
      },
      found_wider c all at columns parts.1 f.1,
    )

all_found : (at : ℕ) (columns : List Column) → is_repeated (names_of columns) ≡ false → FoundFrom columns at columns
all_found at [] once = tt
all_found at (column ∷ columns) once =
    let parts = or_parts (is_among column.name (names_of columns)) (is_repeated (names_of columns)) once in
    let here : Place = record { at = at; kind = column.kind } in (
      record {
        place = here;
        is = ap (λ b. cond b (Some here) (found_from (at + 1) columns column.name)) ((bytes_eq-Decides column.name column.name).1 refl);
        kind_is = refl;
      },
      found_wider column columns at columns parts.0 (all_found (at + 1) columns parts.1),
    )

among_paired : (name : List ℕ) (columns : List Column) → is_among name (names_of (paired columns)) ≡ false → is_among name (names_of columns) ≡ false
among_paired name [] none = refl
among_paired name (column ∷ columns) none =
    let first = or_parts (bytes_eq column.name name) _ none in
    let second = or_parts _ (is_among name (names_of (paired columns))) first.1 in
    or_from _ _ first.0 (among_paired name columns second.1)

once_unpaired : (columns : List Column) → is_repeated (names_of (paired columns)) ≡ false → is_repeated (names_of columns) ≡ false
once_unpaired [] once = refl
once_unpaired (column ∷ columns) once =
    let first = or_parts _ _ once in
    let others = or_parts _ (is_among column.name (names_of (paired columns))) first.0 in
    let second = or_parts _ (is_repeated (names_of (paired columns))) first.1 in
    or_from _ _ (among_paired column.name columns others.1) (once_unpaired columns second.1)

once_shaped : (columns : List Column) → shape (paired columns) ≡ Some columns → is_repeated (names_of (paired columns)) ≡ false
once_shaped [] e = refl
once_shaped (column ∷ columns) e = by (is_repeated (names_of (paired (column ∷ columns)))) e
  where
    by : (b : Bool) → cond b None (unpaired (paired (column ∷ columns))) ≡ Some (column ∷ columns) → b ≡ false
    by true f = absurd (let n : None ≡ Some (column ∷ columns) = f in cc)
    by false f = refl

-- a value that is given for a column that is there fits its kind
given_fits : (all : List Column) (names : List (List ℕ)) (vs : List LabelledCell) (name : List ℕ) (v : LabelledCell) (place : Place)
    → values_cause all names (plain_values vs) ≡ None → found all name ≡ Some place → cell_given names vs name ≡ Some v → fits place.kind (plain_cell v).value ≡ true
given_fits all [] vs name v place none there e = absurd (let n : None ≡ Some v = e in cc)
given_fits all (n ∷ names) [] name v place none there e = absurd (let x : None ≡ Some v = e in cc)
given_fits all (n ∷ names) (w ∷ vs) name v place none there e =
    let parts = no_cause (value_cause (found all n) (plain_cell w)) (values_cause all names (plain_values vs)) none in
    by parts.0 (bytes_eq n name) refl e (λ f. given_fits all names vs name v place parts.1 there f)
  where
    fit : (k : Kind) (c : StoredCell) (b : Bool) → cond b None (Some WrongKind) ≡ None → b ≡ true
    fit k c true f = refl
    fit k c false f = absurd (let n : Some WrongKind ≡ None = f in cc)

    by : value_cause (found all n) (plain_cell w) ≡ None → (b : Bool) → bytes_eq n name ≡ b → cond b (Some w) (cell_given names vs name) ≡ Some v
        → (cell_given names vs name ≡ Some v → fits place.kind (plain_cell v).value ≡ true) → fits place.kind (plain_cell v).value ≡ true
    by here true is f rest =
        let same : w ≡ v = cc in
        let named : n ≡ name = (bytes_eq-Decides n name).0 is in
        let at : value_cause (Some place) (plain_cell v) ≡ None
        = sym (ap (λ c. value_cause (Some place) (plain_cell c)) same) ∙ sym (ap (λ o. value_cause o (plain_cell w)) (ap (found all) named ∙ there)) ∙ here in
        fit place.kind (plain_cell v) (fits place.kind (plain_cell v).value) at
    by here false is f rest = rest f

readable_given : (names : List (List ℕ)) (vs : List LabelledCell) (name : List ℕ) (v : LabelledCell) → AreReadable vs → cell_given names vs name ≡ Some v → IsReadable v
readable_given [] vs name v r e = absurd (let n : None ≡ Some v = e in cc)
readable_given (n ∷ names) [] name v r e = absurd (let x : None ≡ Some v = e in cc)
readable_given (n ∷ names) (w ∷ vs) name v r e = by (bytes_eq n name) e (λ f. readable_given names vs name v r.1 f)
  where
    by : (b : Bool) → cond b (Some w) (cell_given names vs name) ≡ Some v → (cell_given names vs name ≡ Some v → IsReadable v) → IsReadable v
    by true f rest = let same : w ≡ v = cc in subst IsReadable same r.0
    by false f rest = rest f

all_take : (all : List Column) (names : List (List ℕ)) (vs : List LabelledCell) (columns : List Column) → AreReadable vs → values_cause all names (plain_values vs) ≡ None
    → FoundFrom all 0 columns → AllTake names vs columns
all_take all names vs [] r none f = tt
all_take all names vs (column ∷ columns) r none f = (
  λ v e. readable_given names vs column.name v r e column.kind
      (subst (λ k. fits k (plain_cell v).value ≡ true) f.0.kind_is (given_fits all names vs column.name v f.0.place none f.0.is e)),
  all_take all names vs columns r none f.1,
)

-- the columns of a table take the values that aren't refused
pub columns_take : (columns : List Column) (names : List (List ℕ)) (vs : List LabelledCell) → shape (paired columns) ≡ Some columns → AreReadable vs
    → values_cause columns names (plain_values vs) ≡ None → AllTake names vs columns
columns_take columns names vs is r none = all_take columns names vs columns r none (all_found 0 columns (once_unpaired columns (once_shaped columns is)))

-- ---- parts of the values

pub readable_take : (n : ℕ) (vs : List LabelledCell) → AreReadable vs → AreReadable (take n vs)
readable_take zero vs r = tt
readable_take (suc n) [] r = tt
readable_take (suc n) (v ∷ vs) r = (r.0, readable_take n vs r.1)

pub readable_drop : (n : ℕ) (vs : List LabelledCell) → AreReadable vs → AreReadable (drop n vs)
readable_drop zero vs r = r
readable_drop (suc n) [] r = tt
readable_drop (suc n) (v ∷ vs) r = readable_drop n vs r.1

-- the rows of an INSERT
abbrev pub AllRead : List Column → List (List LabelledCell) → Type 0
AllRead columns [] = ⊤
AllRead columns (cells ∷ rows) = EachRead columns cells × AllRead columns rows

pub given_read : {A : Type 0} (columns : List Column) (names : List (List ℕ)) (rows : List (List A)) (vs : List LabelledCell) → shape (paired columns) ≡ Some columns → AreReadable vs
    → rows_cause columns names rows (plain_values vs) ≡ None → AllRead columns (rows_given columns names rows vs)
given_read columns names [] vs is r none = tt
given_read columns names (row ∷ rows) vs is r none =
    let parts = no_cause (earlier (count_cause (length row) (length names)) (values_cause columns names (take (length row) (plain_values vs)))) (rows_cause columns names rows (drop (length row) (plain_values vs))) none in
    let own = no_cause (count_cause (length row) (length names)) (values_cause columns names (take (length row) (plain_values vs))) parts.0 in
    let here : values_cause columns names (plain_values (take (length row) vs)) ≡ None = sym (ap (values_cause columns names) (take-map plain_cell (length row) vs)) ∙ own.1 in
    let there : rows_cause columns names rows (plain_values (drop (length row) vs)) ≡ None = sym (ap (rows_cause columns names rows) (drop-map plain_cell (length row) vs)) ∙ parts.1 in (
      with_read names (take (length row) vs) columns (nulls columns) (columns_take columns names (take (length row) vs) is (readable_take (length row) vs r) here) (nulls_read columns),
      given_read columns names rows (drop (length row) vs) is (readable_drop (length row) vs r) there,
    )
