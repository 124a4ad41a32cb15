-- Keeper calls are framed: each looks at what stands at its own name alone, and changes no other.
use Rattle.std.proofs.Common.{◌⊎◌, ◌≡◌, ℕ, ◌+◌, ◌<◌, ◌≤◌, Bool, true, false, cond, not, ◌&&◌, ◌==◌, nat_lt, List, [], ◌∷◌, ◌++◌, length, map, Option, Some, None, is_some, Result, Ok, Err, inl, inr, refl, sym, ap, subst, ◌∙◌, arith}
use Rattle.std.proofs.lemmas.Bool.Decides.{nat_tests}
use Rattle.std.specs.Ordering.{nat_cmp, eq_by_cmp, is_eq}
use Rattle.std.specs.declared.cmp.Ordering.{Ordering}
use Rattle.std.specs.declared.cmp.Ordering.TheVariants.{Less, Equal, Greater}
use Rattle.std.specs.Cmp.Lexicographic.{slice_cmp, nat_list_cmp_total}
use Rattle.std.specs.Option.{option_map, option_map_or}
use Rattle.std.specs.FinMap.{FinMap, get, insert, remove, get-insert, get-remove, slice_cmp-IsAntisymmetric, nat_cmp-IsAntisymmetric}
use Rattle.resin_meaning_forms.specs.Under.base.Contents.{byte_order}
use Rattle.resin_meaning_forms.specs.Under.base.Causes.{is_listed, last_count}
use Rattle.resin_meaning_forms.specs.Under.base.TableStore.{TableStore, table_of, largest_number, last_row_number, has_number, with_cells, without_number}
use Rattle.resin_meaning_forms.specs.Under.base.declared.cell.Cell.{Cell}
use Rattle.resin_meaning_forms.specs.Under.base.declared.cell.Column.{Column}
use Rattle.resin_meaning_forms.specs.Under.base.declared.cell.Row.{Row}
use Rattle.resin_meaning_forms.specs.Under.base.declared.cell.Table.{Table}
use Rattle.resin_meaning_forms.specs.Under.scalar.declared.faults.ScriptFault.TheVariants.{FuelSpent}
use Rattle.resin_meaning_forms.specs.Under.machine.declared.stop.Stop.{Stop}
use Rattle.resin_meaning_forms.specs.Under.machine.declared.stop.Stop.TheVariants.{Fault}
use Rattle.resin_meaning_forms.specs.Under.machine.State.{State}
use Rattle.resin_meaning_forms.specs.Under.meaning.Programs.{Store, Whole, KeeperCall, Out, Prog, stop, called, keep, on_files, on_tables, file_call, table_call}
use Rattle.resin_meaning_forms.specs.Under.meaning.KeeperCalls.{read_file, write_file, remove_file, file_exists, create_table, table_columns, table_rows, insert_row, update_row, delete_row}
use Rattle.resin_meaning_forms.specs.Under.store.Entries.{Marked, LabelledEntry, Good, Second}
use Rattle.resin_meaning_forms.specs.Sessions.{is_of_other}
use Rattle.resin_frame.specs.Frames.{SameAt, AgreeOn, MayChange, IsChanged, IsOfOwn, AreOfOwn, HasNumbers, HaveNumbers, renumbered, Alike, IsFramed}
use Rattle.resin_frame.proofs.Composition.{same_refl}

-- a change that looks at one key alone, and changes no other, nor this one where it says so
record IsLocal {A X : Type 0} (key : List ℕ) (changes : Bool) (change : FinMap byte_order X → A × FinMap byte_order X) : Type 0 where
  pub answer : (s t : FinMap byte_order X) → get s key ≡ get t key → (change s).0 ≡ (change t).0
  pub after : (s t : FinMap byte_order X) (n : List ℕ) → get s key ≡ get t key → get s n ≡ get t n → get (change s).1 n ≡ get (change t).1 n
  pub others : (s : FinMap byte_order X) (n : List ℕ) → ((changes ≡ true) → (key ≡ n) → ⊥) → get s n ≡ get (change s).1 n

-- the same of a change of the store
record IsLocalCall {A : Type 0} (call : KeeperCall) (change : Store → A × Store) : Type 0 where
  pub answer : (s t : Store) → SameAt call.on_tables call.name s t → (change s).0 ≡ (change t).0
  pub after : (s t : Store) (b : Bool) (n : List ℕ) → SameAt call.on_tables call.name s t → SameAt b n s t → SameAt b n (change s).1 (change t).1
  pub others : (s : Store) (b : Bool) (n : List ℕ) → (MayChange call b n → ⊥) → SameAt b n s (change s).1

local_files : {A : Type 0} (path : List ℕ) (changes : Bool) (change : FinMap byte_order LabelledEntry → A × FinMap byte_order LabelledEntry) → IsLocal path changes change
    → IsLocalCall (file_call path changes) (on_files change)
local_files {A = A} path changes change l = record {
  answer = λ s t h. l.answer s.files t.files h;
  after = after;
  others = others;
}
  where
    after : (s t : Store) (b : Bool) (n : List ℕ) → SameAt false path s t → SameAt b n s t → SameAt b n (on_files change s).1 (on_files change t).1
    after s t true n h k = k
    after s t false n h k = l.after s.files t.files n h k

    others : (s : Store) (b : Bool) (n : List ℕ) → (MayChange (file_call path changes) b n → ⊥) → SameAt b n s (on_files change s).1
    others s true n h = refl
    others s false n h = l.others s.files n (λ c e. h (record { changes = c; kind = refl; names = e }))

local_tables : {A : Type 0} (name : List ℕ) (changes : Bool) (change : TableStore → A × TableStore) → IsLocal name changes change
    → IsLocalCall (table_call name changes) (on_tables change)
local_tables {A = A} name changes change l = record {
  answer = λ s t h. l.answer s.tables t.tables h;
  after = after;
  others = others;
}
  where
    after : (s t : Store) (b : Bool) (n : List ℕ) → SameAt true name s t → SameAt b n s t → SameAt b n (on_tables change s).1 (on_tables change t).1
    after s t false n h k = k
    after s t true n h k = l.after s.tables t.tables n h k

    others : (s : Store) (b : Bool) (n : List ℕ) → (MayChange (table_call name changes) b n → ⊥) → SameAt b n s (on_tables change s).1
    others s false n h = refl
    others s true n h = l.others s.tables n (λ c e. h (record { changes = c; kind = refl; names = e }))

-- what a keeper call leaves, by whether a number is left and whether it fails
abbrev kept_out : {A : Type 0} → KeeperCall → (Store → A × Store) → Bool → Bool → Whole → Out A
kept_out call change room fails at = cond room (called call (change at.store) fails at) (stop (Fault FuelSpent at.state.line) [] at)

true_false : true ≡ false → ⊥
true_false e = cc

framed_keep : {own : Option (List ℕ)} {A : Type 0} (call : KeeperCall) (change : Store → A × Store) → IsOfOwn own call → IsLocalCall call change → IsFramed own (keep call change)
unfolding keep
framed_keep {own = own} {A = A} call change seen l = record {
  counts = λ failing at. counts (nat_lt at.made last_count) (is_listed failing (at.made + 1)) at;
  names = λ failing at. names (nat_lt at.made last_count) (is_listed failing (at.made + 1)) at;
  keeps = λ failing at b n. keeps (nat_lt at.made last_count) (is_listed failing (at.made + 1)) at b n;
  frames = λ number failing failing' at at' near.
      frames number (nat_lt at.made last_count) (nat_lt at'.made last_count) (is_listed failing (at.made + 1)) (is_listed failing' (at'.made + 1)) at at' refl refl
      near.state near.numbers near.agree
      (λ lt. ap (is_listed failing) (omega arith) ∙ near.fail 0 lt ∙ ap (is_listed failing') (omega arith));
}
  where
    counts : (b f : Bool) (at : Whole) → (kept_out call change b f at).whole.made ≡ at.made + length (kept_out call change b f at).calls
    counts true f at = omega arith
    counts false f at = omega arith

    names : (b f : Bool) (at : Whole) → AreOfOwn own (kept_out call change b f at).calls
    names true f at = (seen, tt)
    names false f at = tt

    keeps : (b f : Bool) (at : Whole) (t : Bool) (n : List ℕ) → (IsChanged (kept_out call change b f at).calls t n → ⊥) → SameAt t n at.store (kept_out call change b f at).whole.store
    keeps false f at t n h = same_refl t n at.store
    keeps true true at t n h = same_refl t n at.store
    keeps true false at t n h = l.others at.store t n (λ k. h (inl k))

    made : (number : ℕ) (f : Bool) (at at' : Whole) → at'.state ≡ renumbered number at.state → SameAt call.on_tables call.name at.store at'.store
        → Alike number at.store at'.store (kept_out call change true f at) (kept_out call change true f at')
    made number true at at' st h = record { end = refl; state = st; calls = refl; stores = λ t n k. k }
    made number false at at' st h = record { end = ap Ok (sym (l.answer at.store at'.store h)); state = st; calls = refl; stores = λ t n k. l.after at.store at'.store t n h k }

    refused : (number : ℕ) (f f' : Bool) (at at' : Whole) → at'.state ≡ renumbered number at.state → Alike number at.store at'.store (kept_out call change false f at) (kept_out call change false f' at')
    refused number f f' at at' st = record { end = ap (λ (m : State). let r : Result A Stop = Err (Fault FuelSpent m.line) in r) st; state = st; calls = refl; stores = λ t n k. k }

    frames : (number : ℕ) (b b' f f' : Bool) (at at' : Whole) → nat_lt at.made last_count ≡ b → nat_lt at'.made last_count ≡ b' → at'.state ≡ renumbered number at.state
        → HaveNumbers at.made at'.made (kept_out call change b f at)
        → AgreeOn (kept_out call change b f at).calls at.store at'.store → (0 < length (kept_out call change b f at).calls → f ≡ f')
        → Alike number at.store at'.store (kept_out call change b f at) (kept_out call change b' f' at')
    frames number false false f f' at at' e e' st h ag ff = refused number f f' at at' st
    frames number false true f f' at at' e e' st (inl h) ag ff = absurd (true_false (sym e' ∙ ap (λ n. nat_lt n last_count) h ∙ e))
    frames number false true f f' at at' e e' st (inr h) ag ff = let lt = h.0.spare at.state.line refl in absurd (grind (arith, nat_tests, e, lt))
    frames number true false f f' at at' e e' st (inl h) ag ff = absurd (true_false (sym e ∙ ap (λ n. nat_lt n last_count) (sym h) ∙ e'))
    frames number true false f f' at at' e e' st (inr h) ag ff = let le = h.1 in absurd (grind (arith, nat_tests, e', le))
    frames number true true f f' at at' e e' st h ag ff =
        subst (λ g. Alike number at.store at'.store (kept_out call change true f at) (kept_out call change true g at')) (ff (omega arith)) (made number f at at' st ag.0)

-- ---- changes of one key

local_read : {A X : Type 0} (key : List ℕ) (f : Option X → A) → IsLocal {X = X} key false (λ s. (f (get s key), s))
local_read key f = record {
  answer = λ s t h. ap f h;
  after = λ s t n h k. k;
  others = λ s n h. refl;
}

tests_apart : (q k : List ℕ) → (q ≡ k → ⊥) → eq_by_cmp byte_order q k ≡ false
tests_apart q k h = by (slice_cmp nat_cmp q k) refl
  where
    by : (r : Ordering) → slice_cmp nat_cmp q k ≡ r → is_eq r ≡ false
    by Less e = refl
    by Equal e = absurd (h (slice_cmp-IsAntisymmetric nat_cmp-IsAntisymmetric q k e))
    by Greater e = refl

local_insert : {A X : Type 0} (key : List ℕ) (f : Option X → A) (v : X) → IsLocal key true (λ s. (f (get s key), insert s key v))
local_insert key f v = record {
  answer = λ s t h. ap f h;
  after = λ s t n h k. get-insert nat_list_cmp_total s key v n ∙ ap (cond (eq_by_cmp byte_order n key) (Some v)) k ∙ sym (get-insert nat_list_cmp_total t key v n);
  others = λ s n h. sym (get-insert nat_list_cmp_total s key v n ∙ ap (λ b. cond b (Some v) (get s n)) (tests_apart n key (λ e. h refl (sym e))));
}

local_remove : {A X : Type 0} (key : List ℕ) (f : Option X → A) → IsLocal {X = X} key true (λ s. (f (get s key), remove s key))
local_remove key f = record {
  answer = λ s t h. ap f h;
  after = λ s t n h k. get-remove nat_list_cmp_total s key n ∙ ap (cond (eq_by_cmp byte_order n key) None) k ∙ sym (get-remove nat_list_cmp_total t key n);
  others = λ s n h. sym (get-remove nat_list_cmp_total s key n ∙ ap (λ b. cond b None (get s n)) (tests_apart n key (λ e. h refl (sym e))));
}

-- what a body does with a map, by what stands at the key: the map is left as it is, or a value is put there
abbrev Sets : {X : Type 0} → List ℕ → (FinMap byte_order X → FinMap byte_order X) → Type 0
Sets {X = X} key body = ((s : FinMap byte_order X) → body s ≡ s) ⊎ ((x : X) × ((s : FinMap byte_order X) → body s ≡ insert s key x))

local_by : {A X : Type 0} (key : List ℕ) (f : Option X → A) (body : FinMap byte_order X → Option X → FinMap byte_order X) → ((o : Option X) → Sets key (λ s. body s o))
    → IsLocal key true (λ s. (f (get s key), body s (get s key)))
local_by {A = A} {X = X} key f body kind = record {
  answer = λ s t h. ap f h;
  after = λ s t n h k. subst (λ o. get (body s (get s key)) n ≡ get (body t o) n) h (after s t n h k (get s key) (kind (get s key)));
  others = λ s n h. others s n h (get s key) (kind (get s key));
}
  where
    after : (s t : FinMap byte_order X) (n : List ℕ) → get s key ≡ get t key → get s n ≡ get t n → (o : Option X) → Sets key (λ s. body s o) → get (body s o) n ≡ get (body t o) n
    after s t n h k o (inl e) = ap (λ m. get m n) (e s) ∙ k ∙ sym (ap (λ m. get m n) (e t))
    after s t n h k o (inr e) = ap (λ m. get m n) (e.1 s) ∙ (local_insert {A = Unit {0}} key (λ _. tt) e.0).after s t n h k ∙ sym (ap (λ m. get m n) (e.1 t))

    others : (s : FinMap byte_order X) (n : List ℕ) → ((true ≡ true) → (key ≡ n) → ⊥) → (o : Option X) → Sets key (λ s. body s o) → get s n ≡ get (body s o) n
    others s n h o (inl e) = sym (ap (λ m. get m n) (e s))
    others s n h o (inr e) = (local_insert {A = Unit {0}} key (λ _. tt) e.0).others s n h ∙ sym (ap (λ m. get m n) (e.1 s))

-- ---- changes of one table

-- the definitions of a table's calls, over what stands at its name
abbrev rows_in : Option Table → List Row
rows_in o = option_map_or (λ (table : Table). table.rows) o []

abbrev fits_in : Option Table → List Cell → Bool
fits_in o cells = option_map_or (λ (columns : List Column). length cells == length columns) (option_map (λ (table : Table). table.columns) o) false

abbrev next_in : Option Table → List Cell → Option ℕ
next_in o cells =
    cond (fits_in o cells && nat_lt (largest_number (rows_in o)) last_row_number) (Some (largest_number (rows_in o) + 1)) None

abbrev rows_set : TableStore → List ℕ → (List Row → List Row) → Option Table → TableStore
rows_set s name change o = option_map_or (λ (table : Table). insert s name (table_of table.columns (change table.rows))) o s

set_rows : (name : List ℕ) (change : List Row → List Row) (o : Option Table) → Sets name (λ s. rows_set s name change o)
set_rows name change None = inl (λ s. refl)
set_rows name change (Some table) = inr (table_of table.columns (change table.rows), λ s. refl)

set_where : (name : List ℕ) (b : Bool) (change : List Row → List Row) (o : Option Table) → Sets name (λ s. cond b (rows_set s name change o) s)
set_where name true change o = set_rows name change o
set_where name false change o = inl (λ s. refl)

set_new : (name : List ℕ) (columns : List Column) (o : Option Table) → Sets name (λ s. cond (is_some o) s (insert s name (table_of columns [])))
set_new name columns None = inr (table_of columns [], λ s. refl)
set_new name columns (Some table) = inl (λ s. refl)

set_numbered : (name : List ℕ) (change : ℕ → List Row → List Row) (r : Option ℕ) (o : Option Table)
    → Sets name (λ s. option_map_or (λ (number : ℕ). rows_set s name (change number) o) r s)
set_numbered name change None o = inl (λ s. refl)
set_numbered name change (Some number) o = set_rows name (change number) o

-- ---- the calls

pub framed_read : {own : Option (List ℕ)} (path : List ℕ) → is_of_other own path ≡ false → IsFramed own (read_file path)
framed_read path h = framed_keep _ _ (λ e. h) (local_files path false _ (local_read path (λ o. o)))

pub framed_write : {own : Option (List ℕ)} (path : List ℕ) (d : Marked) → is_of_other own path ≡ false → IsFramed own (write_file path d)
framed_write path d h = framed_keep _ _ (λ e. h) (local_files path true _ (local_insert path (λ o. tt) (Good d Second)))

pub framed_remove : {own : Option (List ℕ)} (path : List ℕ) → is_of_other own path ≡ false → IsFramed own (remove_file path)
framed_remove path h = framed_keep _ _ (λ e. h) (local_files path true _ (local_remove path is_some))

pub framed_exists : {own : Option (List ℕ)} (path : List ℕ) → is_of_other own path ≡ false → IsFramed own (file_exists path)
framed_exists path h = framed_keep _ _ (λ e. h) (local_files path false _ (local_read path is_some))

-- a call on the tables names no session
on_tables_own : (own : Option (List ℕ)) (name : List ℕ) (changes : Bool) → IsOfOwn own (table_call name changes)
on_tables_own own name changes e = absurd (true_false e)

pub framed_create : {own : Option (List ℕ)} (name : List ℕ) (columns : List Column) → IsFramed own (create_table name columns)
framed_create name columns =
    framed_keep _ _ (on_tables_own _ name true)
    (local_tables name true _ (local_by name (λ o. not (is_some o)) (λ s o. cond (is_some o) s (insert s name (table_of columns []))) (set_new name columns)))

pub framed_columns : {own : Option (List ℕ)} (name : List ℕ) → IsFramed own (table_columns name)
framed_columns name =
    framed_keep _ _ (on_tables_own _ name false) (local_tables name false _ (local_read name (λ o. option_map (λ (table : Table). table.columns) o)))

pub framed_rows : {own : Option (List ℕ)} (name : List ℕ) → IsFramed own (table_rows name)
framed_rows name = framed_keep _ _ (on_tables_own _ name false) (local_tables name false _ (local_read name rows_in))

pub framed_insert : {own : Option (List ℕ)} (name : List ℕ) (cells : List Cell) → IsFramed own (insert_row name cells)
framed_insert name cells =
    framed_keep _ _ (on_tables_own _ name true)
    (local_tables name true _ (local_by name (λ o. next_in o cells)
    (λ s o. option_map_or (λ (number : ℕ). rows_set s name (λ rows. rows ++ record { number = number; cells = cells } ∷ []) o) (next_in o cells) s)
    (λ o. set_numbered name (λ number rows. rows ++ record { number = number; cells = cells } ∷ []) (next_in o cells) o)))

pub framed_update : {own : Option (List ℕ)} (name : List ℕ) (number : ℕ) (cells : List Cell) → IsFramed own (update_row name number cells)
framed_update name number cells =
    framed_keep _ _ (on_tables_own _ name true)
    (local_tables name true _ (local_by name (λ o. fits_in o cells && has_number (rows_in o) number)
    (λ s o. cond (fits_in o cells && has_number (rows_in o) number) (rows_set s name (map (with_cells number cells)) o) s)
    (λ o. set_where name (fits_in o cells && has_number (rows_in o) number) (map (with_cells number cells)) o)))

pub framed_delete : {own : Option (List ℕ)} (name : List ℕ) (number : ℕ) → IsFramed own (delete_row name number)
framed_delete name number =
    framed_keep _ _ (on_tables_own _ name true)
    (local_tables name true _ (local_by name (λ o. has_number (rows_in o) number) (λ s o. cond (has_number (rows_in o) number) (rows_set s name (without_number number) o) s)
    (λ o. set_where name (has_number (rows_in o) number) (without_number number) o)))
