-- One keeper call.
use Rattle.std.proofs.Common.{◌≡◌, ℕ, ◌+◌, ◌≤◌, ◌<◌, List, [], ◌∷◌, ◌++◌, Bool, true, false, cond, not, nat_lt, Option, Some, None, Result, Ok, Err, inl, inr, refl, sym, ap, subst, ◌∙◌, arith, IsErrAnd}
use Rattle.std.proofs.lemmas.Result.{err_from_is_err_and}
use Rattle.std.proofs.lemmas.Bool.Decides.{nat_tests}
use Rattle.std.specs.Option.{option_map}
use Rattle.std.specs.FinMap.{get, insert, remove, contains_key}
use Rattle.resin_base.specs.Causes.{last_count, HasCause, outcome, TellsMore, is_listed}
use Rattle.resin_base.specs.Contents.{Told}
use Rattle.resin_base.specs.FileStore.{FileStore, Reads, Writes, Removes, Tests}
use Rattle.resin_base.specs.TableStore.{TableStore, columns_of, rows_of, next_number, after_create, after_insert, can_update, after_update, has_row, after_delete, Creates, ShowsColumns, ShowsRows, Inserts, Updates, Deletes}
use Rattle.resin_base.specs.Numbering.{AreNumbered, Lists}
use Rattle.resin_base.specs.declared.calls.Calls.{Calls}
use Rattle.resin_base.specs.declared.cell.Cell.{Cell}
use Rattle.resin_base.specs.declared.cell.Column.{Column}
use Rattle.resin_base.specs.declared.cell.Row.{Row}
use Rattle.resin_base.specs.declared.faults.KeepFault.{KeepFault}
use Rattle.resin_base.specs.declared.faults.KeepFault.TheVariants.{Failed, Memory}
use Rattle.resin_base.specs.declared.files.Entry.{Entry}
use Rattle.resin_machine.specs.Under.scalar.declared.faults.ScriptFault.TheVariants.{FuelSpent}
use Rattle.resin_machine.specs.declared.stop.Stop.{Stop}
use Rattle.resin_machine.specs.declared.stop.Stop.TheVariants.{Fault, Keeper}
use Rattle.resin_machine.specs.declared.stop.Stop.TheVariants.{Memory as NoMemory}
use Rattle.resin_machine.specs.State.{State}
use Rattle.resin_machine.specs.Keeping.{Tied}
use Rattle.resin_machine.proofs.Kept.{keeps_same}
use Rattle.resin_store.specs.Entries.{Marked, Second, AreWritten, Good, plain, lift}
use Rattle.resin_store.specs.Files.{LabelledFiles, lift_files, plain_files}
use Rattle.resin_store.proofs.Lifts.{keeps_entries}
use Rattle.resin_store.proofs.Stores.{keeps_files, lift_get, lift_contains, lift_remove, lift_written}
use Rattle.resin_meaning.specs.Programs.{Store, Whole, KeeperCall, moment, stop, keep, called, on_files, on_tables, file_call, table_call}
use Rattle.resin_meaning.specs.Runs.{Seen, files_seen, World, world, IsAt, Goes, NoneFailed, LastFailed, Agrees, Reached, Does, does}
use Rattle.resin_meaning.specs.KeeperCalls.{read_file, answered_by, lifted, kept, Asks, Follows}
use Rattle.resin_meaning.proofs.Parts.{told_nothing, listed_last, listed_beyond}
use Rattle.resin_meaning.proofs.Composition.{goes_nowhere, none_here}

lt_true : (a b : ℕ) → a < b → nat_lt a b ≡ true
lt_true a b h = grind (arith, nat_tests)

lt_false : (a b : ℕ) → b ≤ a → nat_lt a b ≡ false
lt_false a b h = grind (arith, nat_tests)

-- where a number is left, a call is made
keep_called : {A : Type 0} (call : KeeperCall) (change : Store → A × Store) (failing : List ℕ) (at : Whole) (b : Bool) → at.made < last_count → is_listed failing (at.made + 1) ≡ b → keep call change failing at ≡ called call (change at.store) b at
keep_called {A = A} call change failing at b lt e = unfold keep in
    ap (λ x. cond x (called call (change at.store) (is_listed failing (at.made + 1)) at) (stop {A = A} (Fault FuelSpent at.state.line) failing at)) (lt_true at.made last_count lt)
    ∙ ap (λ x. called call (change at.store) x at) e

-- and else none
keep_spent : {A : Type 0} (call : KeeperCall) (change : Store → A × Store) (failing : List ℕ) (at : Whole) → last_count ≤ at.made → keep call change failing at ≡ stop (Fault FuelSpent at.state.line) failing at
keep_spent {A = A} call change failing at le = unfold keep in
    ap (λ x. cond x (called call (change at.store) (is_listed failing (at.made + 1)) at) (stop {A = A} (Fault FuelSpent at.state.line) failing at)) (lt_false at.made last_count le)

-- what is told of what a keeper holds
record ToldAt {S : Type 0} (P : S → S → Type 0) (s : S) (y : Option S) : Type 0 where
  t : S
  is : Some t ≡ y
  fact : P s t

told_at : {S : Type 0} (x y : Option S) (P : S → S → Type 0) (s : S) → Some s ≡ x → Told x y P → ToldAt P s y
told_at None y P s e h = absurd (cc)
told_at (Some r) None P s e h = absurd h
told_at {S = S} (Some r) (Some t) P s e h = let f : r ≡ s = cc in record { t = t; is = refl; fact = subst (λ (x : S). P x t) f h }

-- the number of a call that didn't fail isn't listed, and that of one that failed is
flag_ok : (c c' : Calls) → c'.failed ≡ c.failed → AreNumbered c → is_listed c'.failed (c.made + 1) ≡ false
flag_ok c c' e n = ap (λ ns. is_listed ns (c.made + 1)) e ∙ listed_beyond 0 c.made c.failed (c.made + 1) n (omega arith)

flag_failed : (c c' : Calls) → c'.failed ≡ c.failed ++ (c.made + 1) ∷ [] → is_listed c'.failed (c.made + 1) ≡ true
flag_failed c c' e = ap (λ ns. is_listed ns (c.made + 1)) e ∙ listed_last c.failed (c.made + 1)

-- where the whole stands after a call
abbrev after_call : Whole → Store → Whole
after_call at store = record { state = at.state; store = store; made = at.made + 1 }

-- what a list of failing calls says of the next call
next_flag : (failing : List ℕ) (at : Whole) (w w' : World) (b : Bool) → IsAt at w → w'.calls.made ≡ w.calls.made + 1 → Agrees failing w' → is_listed w'.calls.failed (w.calls.made + 1) ≡ b → is_listed failing (at.made + 1) ≡ b
next_flag failing at w w' b is made a flag =
    ap (λ k. is_listed failing (k + 1)) is.made ∙ (a (w.calls.made + 1) (omega (arith, made)) ∙ flag)

-- a call that was answered
does_answered : {A : Type 0} (call : KeeperCall) (change : Store → A × Store) (v : A) (w w' : World) (g : Goes w w') → g.calls ≡ call ∷ [] → w.calls.made < last_count → w'.calls.made ≡ w.calls.made + 1 → NoneFailed w w' → (Tied w.state → Tied w'.state)
    → ((at : Whole) → IsAt at w → ((change at.store).0 ≡ v) × IsAt (after_call at (change at.store).1) w') → Does (keep call change) w (Ok v) w'
does_answered {A = A} call change v w w' g e lt made none tie effect = does (record {
  goes = g;
  blames = none;
  ties = λ ne t. tie t;
  means = λ n at is failing a.
      let room : at.made < last_count = omega (arith, is.made, lt) in
      let k = keep_called call change failing at false room (next_flag failing at w w' false is made a (flag_ok w.calls w'.calls none.failed n)) in
      let f = effect at is in
      rw k (record {
        same = λ ne. (ap (λ (x : A). let r : Result A Stop = Ok x in r) f.0, f.1, sym e);
        front = λ h. absurd (cc);
      });
})

-- a call that failed
does_failed : {A : Type 0} (call : KeeperCall) (change : Store → A × Store) (w w' : World) (g : Goes w w') → g.calls ≡ call ∷ [] → w.calls.made < last_count → w'.calls.made ≡ w.calls.made + 1 → LastFailed w w' → (Tied w.state → Tied w'.state)
    → ((at : Whole) → IsAt at w → IsAt (after_call at at.store) w') → Does (keep call change) w (Err Keeper) w'
does_failed {A = A} call change w w' g e lt made last tie effect = does (record {
  goes = g;
  blames = last;
  ties = λ ne t. tie t;
  means = λ n at is failing a.
      let room : at.made < last_count = omega (arith, is.made, lt) in
      let listed : w'.calls.failed ≡ w.calls.failed ++ (w.calls.made + 1) ∷ [] = last.failed ∙ ap (λ k. w.calls.failed ++ k ∷ []) made in
      let k = keep_called call change failing at true room (next_flag failing at w w' true is made a (flag_failed w.calls w'.calls listed)) in
      rw k (record {
        same = λ ne. (refl, effect at is, sym e);
        front = λ h. absurd (cc);
      });
})

-- want of memory before the call, or in it
does_wanting : {A : Type 0} (call : KeeperCall) (change : Store → A × Store) (w w' : World) (g : Goes w w') → g.calls ≡ [] → NoneFailed w w' → (Tied w.state → Tied w'.state) → ((at : Whole) → IsAt at w → IsAt at w') → Does (keep call change) w (Err NoMemory) w'
does_wanting {A = A} call change w w' g e none tie effect = does (record {
  goes = g;
  blames = none;
  ties = λ ne t. tie t;
  means = λ n at is failing a. record {
    same = λ ne. absurd (ne refl);
    front = λ h.
        let f = effect at is in
        record {
          at = moment [] at;
          reached = starts failing at;
          journal = ap (λ (m : State). m.stage.journal) f.state;
          files = f.files;
          tables = f.tables;
          so_far = sym e;
        };
  };
})
  where
    starts : (failing : List ℕ) (at : Whole) → Reached (moment [] at) (keep call change failing at).moments
    starts failing at = unfold keep in
        elim (nat_lt at.made last_count) as (λ b. Reached (moment [] at) (cond b (called call (change at.store) (is_listed failing (at.made + 1)) at) (stop {A = A} (Fault FuelSpent at.state.line) failing at)).moments)
        [ true ↦ inl refl | false ↦ inl refl ]

-- no number is left
does_spent : {A : Type 0} (call : KeeperCall) (change : Store → A × Store) (w : World) → last_count ≤ w.calls.made → Does (keep call change) w (Err (Fault FuelSpent w.state.line)) w
does_spent {A = A} call change w le = does (record {
  goes = goes_nowhere w;
  blames = none_here w;
  ties = λ ne t. t;
  means = λ n at is failing a.
      let full : last_count ≤ at.made = omega (arith, is.made, le) in
      rw (keep_spent call change failing at full) (record {
        same = λ ne. (ap (λ (m : State). let r : Result A Stop = Err (Fault FuelSpent m.line) in r) is.state, is, refl);
        front = λ h. absurd (cc);
      });
})

-- where the number of the next call wasn't listed
pub does_unasked : {A : Type 0} (call : KeeperCall) (change : Store → A × Store) (m : State) (f : Seen LabelledFiles) (t : Seen TableStore) (c c' : Calls) (s : Stop) (r : Result A Stop) → IsErrAnd r (λ e. e ≡ s) → Asks m c (Err s) c' → Does (keep call change) (world m f t c) r (world m f t c')
does_unasked {A = A} call change m f t c c' s r h (inl x, same) =
    let e = err_from_is_err_and r h in
    rw (e.1, e.2, x.0, same) (does_spent call change (world m f t c) x.1)
does_unasked {A = A} call change m f t c c' s r h (inr x, same) =
    let e = err_from_is_err_and r h in
    rw (e.1, e.2, x, same) (does_wanting call change (world m f t c) (world m f t c) (goes_nowhere (world m f t c)) refl (none_here (world m f t c)) (λ h. h) (λ at is. is))

-- ---- calls on the files

abbrev file_goes : (name : List ℕ) (ch : Bool) (m : State) (f f' : Seen LabelledFiles) (t : Seen TableStore) (c c' : Calls) (b : Bool) → c'.made ≡ c.made + 1 → TellsMore f.answers f'.answers (b ∷ []) → (AreNumbered c → is_listed c'.failed (c.made + 1) ≡ b) → Goes (world m f t c) (world m f' t c')
file_goes name ch m f f' t c c' b made told flag = record {
  calls = file_call name ch ∷ [];
  made = omega (arith, made);
  files = λ n. subst (λ x. TellsMore f.answers f'.answers (x ∷ [])) (sym (flag n)) told;
  tables = λ n. told_nothing t.answers;
  ticks = omega arith;
  keeps = keeps_same m;
}

pub does_file_call : {A : Type 0} (name : List ℕ) (ch : Bool) (change : LabelledFiles → A × LabelledFiles) (m : State) (f f' : Seen LabelledFiles) (t : Seen TableStore) (c c' : Calls) (answer : Result A KeepFault)
    → c.made < last_count → Lists c answer c' → Told f.stored f'.stored (λ s s'. Follows change s answer s') → HasCause f.faults f'.faults answer → TellsMore f.answers f'.answers (outcome answer)
    → Does (keep (file_call name ch) (on_files change)) (world m f t c) (kept answer) (world m f' t c')
does_file_call name ch change m f f' t c c' (Ok v) lt l told cause tells =
    does_answered (file_call name ch) (on_files change) v (world m f t c) (world m f' t c') (file_goes name ch m f f' t c c' false l.0 tells (flag_ok c c' l.1)) refl lt l.0
    (record { failed = l.1; files = cause; tables = refl }) (λ h. h)
    (λ at is.
    let x = told_at f.stored f'.stored _ at.store.files is.files told in
    (sym x.fact.0, record { state = is.state; files = ap Some (sym x.fact.1) ∙ x.is; tables = is.tables; made = ap (λ k. k + 1) is.made ∙ sym l.0 }))
does_file_call name ch change m f f' t c c' (Err Failed) lt l told cause tells =
    does_failed (file_call name ch) (on_files change) (world m f t c) (world m f' t c') (file_goes name ch m f f' t c c' true l.0 tells (λ n. flag_failed c c' l.1)) refl lt l.0
    (record { failed = l.1 ∙ ap (λ k. c.failed ++ k ∷ []) (sym l.0); made = omega (arith, l.0); rose = inl (cause, refl) }) (λ h. h)
    (λ at is.
    let x = told_at f.stored f'.stored _ at.store.files is.files told in
    record { state = is.state; files = ap Some (sym x.fact) ∙ x.is; tables = is.tables; made = ap (λ k. k + 1) is.made ∙ sym l.0 })
does_file_call name ch change m f f' t c c' (Err Memory) lt l told cause tells =
    rw l (does_wanting (file_call name ch) (on_files change) (world m f t c) (world m f' t c)
    (record { calls = []; made = omega arith; files = λ n. tells; tables = λ n. told_nothing t.answers; ticks = omega arith; keeps = keeps_same m }) refl
    (record { failed = refl; files = cause; tables = refl }) (λ h. h)
    (λ at is.
    let x = told_at f.stored f'.stored _ at.store.files is.files told in
    record { state = is.state; files = ap Some (sym x.fact) ∙ x.is; tables = is.tables; made = is.made }))

-- ---- an answer that is changed where there is one
pub lists_by : {A B : Type 0} (f : A → B) (c c' : Calls) (answer : Result A KeepFault) → Lists c answer c' → Lists c (answered_by f answer) c'
lists_by f c c' (Ok v) h = h
lists_by f c c' (Err Failed) h = h
lists_by f c c' (Err Memory) h = h

pub cause_by : {A B : Type 0} (f : A → B) (before now : ℕ) (answer : Result A KeepFault) → HasCause before now answer → HasCause before now (answered_by f answer)
cause_by f before now (Ok v) h = h
cause_by f before now (Err Failed) h = h
cause_by f before now (Err Memory) h = h

pub outcome_by : {A B : Type 0} (f : A → B) (old new : Option (List Bool)) (answer : Result A KeepFault) → TellsMore old new (outcome answer) → TellsMore old new (outcome (answered_by f answer))
outcome_by f old new (Ok v) h = h
outcome_by f old new (Err Failed) h = h
outcome_by f old new (Err Memory) h = h

pub kept_by : {A B : Type 0} (f : A → B) (answer : Result A KeepFault) → kept (answered_by f answer) ≡ answered_by f (kept answer)
kept_by f (Ok v) = refl
kept_by f (Err Failed) = refl
kept_by f (Err Memory) = refl

pub stopped_by : {A B : Type 0} (f : A → B) (r : Result A Stop) (s : Stop) → IsErrAnd r (λ e. e ≡ s) → IsErrAnd (answered_by f r) (λ e. e ≡ s)
stopped_by f (Ok v) s h = absurd h
stopped_by f (Err e) s h = h

-- ---- calls on the tables

abbrev table_goes : (name : List ℕ) (ch : Bool) (m : State) (f : Seen LabelledFiles) (t t' : Seen TableStore) (c c' : Calls) (b : Bool) → c'.made ≡ c.made + 1 → TellsMore t.answers t'.answers (b ∷ []) → (AreNumbered c → is_listed c'.failed (c.made + 1) ≡ b) → Goes (world m f t c) (world m f t' c')
table_goes name ch m f t t' c c' b made told flag = record {
  calls = table_call name ch ∷ [];
  made = omega (arith, made);
  files = λ n. told_nothing f.answers;
  tables = λ n. subst (λ x. TellsMore t.answers t'.answers (x ∷ [])) (sym (flag n)) told;
  ticks = omega arith;
  keeps = keeps_same m;
}

pub does_table_call : {A : Type 0} (name : List ℕ) (ch : Bool) (change : TableStore → A × TableStore) (m : State) (f : Seen LabelledFiles) (t t' : Seen TableStore) (c c' : Calls) (answer : Result A KeepFault)
    → c.made < last_count → Lists c answer c' → Told t.stored t'.stored (λ s s'. Follows change s answer s') → HasCause t.faults t'.faults answer → TellsMore t.answers t'.answers (outcome answer)
    → Does (keep (table_call name ch) (on_tables change)) (world m f t c) (kept answer) (world m f t' c')
does_table_call name ch change m f t t' c c' (Ok v) lt l told cause tells =
    does_answered (table_call name ch) (on_tables change) v (world m f t c) (world m f t' c') (table_goes name ch m f t t' c c' false l.0 tells (flag_ok c c' l.1)) refl lt l.0
    (record { failed = l.1; files = refl; tables = cause }) (λ h. h)
    (λ at is.
    let x = told_at t.stored t'.stored _ at.store.tables is.tables told in
    (sym x.fact.0, record { state = is.state; files = is.files; tables = ap Some (sym x.fact.1) ∙ x.is; made = ap (λ k. k + 1) is.made ∙ sym l.0 }))
does_table_call name ch change m f t t' c c' (Err Failed) lt l told cause tells =
    does_failed (table_call name ch) (on_tables change) (world m f t c) (world m f t' c') (table_goes name ch m f t t' c c' true l.0 tells (λ n. flag_failed c c' l.1)) refl lt l.0
    (record { failed = l.1 ∙ ap (λ k. c.failed ++ k ∷ []) (sym l.0); made = omega (arith, l.0); rose = inr (refl, cause) }) (λ h. h)
    (λ at is.
    let x = told_at t.stored t'.stored _ at.store.tables is.tables told in
    record { state = is.state; files = is.files; tables = ap Some (sym x.fact) ∙ x.is; made = ap (λ k. k + 1) is.made ∙ sym l.0 })
does_table_call name ch change m f t t' c c' (Err Memory) lt l told cause tells =
    rw l (does_wanting (table_call name ch) (on_tables change) (world m f t c) (world m f t' c)
    (record { calls = []; made = omega arith; files = λ n. told_nothing f.answers; tables = λ n. tells; ticks = omega arith; keeps = keeps_same m }) refl
    (record { failed = refl; files = refl; tables = cause }) (λ h. h)
    (λ at is.
    let x = told_at t.stored t'.stored _ at.store.tables is.tables told in
    record { state = is.state; files = is.files; tables = ap Some (sym x.fact) ∙ x.is; made = is.made }))

-- ---- what the calls of the keepers say, as changes

told_map : {S : Type 0} (x y : Option S) (P Q : S → S → Type 0) → ((s t : S) → P s t → Q s t) → Told x y P → Told x y Q
told_map None y P Q k h = tt
told_map (Some s) None P Q k h = absurd h
told_map (Some s) (Some t) P Q k h = k s t h

-- the same of the files with their policies
told_lift : (x y : Option FileStore) (P : FileStore → FileStore → Type 0) (Q : LabelledFiles → LabelledFiles → Type 0) → ((s t : FileStore) → P s t → Q (lift_files s) (lift_files t)) → Told x y P
    → Told (option_map lift_files x) (option_map lift_files y) Q
told_lift None y P Q k h = tt
told_lift (Some s) None P Q k h = absurd h
told_lift (Some s) (Some t) P Q k h = k s t h

-- what a keeper holds of an entry that it answered
pub kept_entry : (e : Entry) → plain (lift e) ≡ e
kept_entry e = keeps_entries e

-- and of all files
pub kept_files : (s : FileStore) → plain_files (lift_files s) ≡ s
kept_files s = keeps_files s

pub read_follows : (path : List ℕ) (x y : Option FileStore) (r : Result (Option Entry) KeepFault) → Told x y (λ s t. Reads s path r t)
    → Told (option_map lift_files x) (option_map lift_files y) (λ s t. Follows (λ s. (get s path, s)) s (lifted r) t)
read_follows path x y r h = told_lift x y (λ s t. Reads s path r t) (λ s t. Follows (λ s. (get s path, s)) s (lifted r) t) (cases r) h
  where
    cases : (r : Result (Option Entry) KeepFault) (s t : FileStore) → Reads s path r t → Follows (λ s. (get s path, s)) (lift_files s) (lifted r) (lift_files t)
    cases (Ok v) s t k = (ap (option_map lift) k.1 ∙ sym (lift_get s path), ap lift_files k.0)
    cases (Err e) s t k = ap lift_files k.0

pub does_read_call : (path : List ℕ) (m : State) (x x' : Option FileStore) (n n' : ℕ) (a a' : Option (List Bool)) (t : Seen TableStore) (c c' : Calls) (answer : Result (Option Entry) KeepFault)
    → c.made < last_count → Lists c answer c' → Told x x' (λ s t. Reads s path answer t) → HasCause n n' answer → TellsMore a a' (outcome answer)
    → Does (read_file path) (world m (files_seen x n a) t c) (lifted (kept answer)) (world m (files_seen x' n' a') t c')
does_read_call path m x x' n n' a a' t c c' answer lt l told cause tells =
    subst (λ r. Does (read_file path) (world m (files_seen x n a) t c) r (world m (files_seen x' n' a') t c')) (kept_by (option_map lift) answer)
    (does_file_call path false (λ s. (get s path, s)) m (files_seen x n a) (files_seen x' n' a') t c c' (lifted answer) lt (lists_by (option_map lift) c c' answer l) (read_follows path x x' answer told)
    (cause_by (option_map lift) n n' answer cause) (outcome_by (option_map lift) a a' answer tells))

pub write_follows : (path bytes shadow : List ℕ) (d : Marked) (x y : Option FileStore) (r : Result (Unit {0}) KeepFault) → AreWritten bytes shadow d
    → Told x y (λ s t. Writes s path bytes shadow r t) → Told (option_map lift_files x) (option_map lift_files y) (λ s t. Follows (λ s. (tt, insert s path (Good d Second))) s r t)
write_follows path bytes shadow d x y r w h = told_lift x y (λ s t. Writes s path bytes shadow r t) (λ s t. Follows (λ s. (tt, insert s path (Good d Second))) s r t) (cases r) h
  where
    cases : (r : Result (Unit {0}) KeepFault) (s t : FileStore) → Writes s path bytes shadow r t → Follows (λ s. (tt, insert s path (Good d Second))) (lift_files s) r (lift_files t)
    cases (Ok v) s t k = (refl, ap lift_files k ∙ lift_written s path bytes shadow d w)
    cases (Err e) s t k = ap lift_files k

pub remove_follows : (path : List ℕ) (x y : Option FileStore) (r : Result (Bool) KeepFault) → Told x y (λ s t. Removes s path r t)
    → Told (option_map lift_files x) (option_map lift_files y) (λ s t. Follows (λ s. (contains_key s path, remove s path)) s r t)
remove_follows path x y r h = told_lift x y (λ s t. Removes s path r t) (λ s t. Follows (λ s. (contains_key s path, remove s path)) s r t) (cases r) h
  where
    cases : (r : Result (Bool) KeepFault) (s t : FileStore) → Removes s path r t → Follows (λ s. (contains_key s path, remove s path)) (lift_files s) r (lift_files t)
    cases (Ok v) s t k = (k.0 ∙ sym (lift_contains s path), ap lift_files k.1 ∙ lift_remove s path)
    cases (Err e) s t k = ap lift_files k

pub exists_follows : (path : List ℕ) (x y : Option FileStore) (r : Result (Bool) KeepFault) → Told x y (λ s t. Tests s path r t)
    → Told (option_map lift_files x) (option_map lift_files y) (λ s t. Follows (λ s. (contains_key s path, s)) s r t)
exists_follows path x y r h = told_lift x y (λ s t. Tests s path r t) (λ s t. Follows (λ s. (contains_key s path, s)) s r t) (cases r) h
  where
    cases : (r : Result (Bool) KeepFault) (s t : FileStore) → Tests s path r t → Follows (λ s. (contains_key s path, s)) (lift_files s) r (lift_files t)
    cases (Ok v) s t k = (k.1 ∙ sym (lift_contains s path), ap lift_files k.0)
    cases (Err e) s t k = ap lift_files k.0

pub create_follows : (name : List ℕ) (columns : List Column) (x y : Option TableStore) (r : Result (Bool) KeepFault) → Told x y (λ s t. Creates s name columns r t) → Told x y (λ s t. Follows (λ s. (not (contains_key s name), after_create s name columns)) s r t)
create_follows name columns x y r h = told_map x y (λ s t. Creates s name columns r t) (λ s t. Follows (λ s. (not (contains_key s name), after_create s name columns)) s r t) (cases r) h
  where
    cases : (r : Result (Bool) KeepFault) (s t : TableStore) → Creates s name columns r t → Follows (λ s. (not (contains_key s name), after_create s name columns)) s r t
    cases (Ok v) s t k = k
    cases (Err e) s t k = k

pub columns_follows : (name : List ℕ) (x y : Option TableStore) (r : Result (Option (List Column)) KeepFault) → Told x y (λ s t. ShowsColumns s name r t) → Told x y (λ s t. Follows (λ s. (columns_of s name, s)) s r t)
columns_follows name x y r h = told_map x y (λ s t. ShowsColumns s name r t) (λ s t. Follows (λ s. (columns_of s name, s)) s r t) (cases r) h
  where
    cases : (r : Result (Option (List Column)) KeepFault) (s t : TableStore) → ShowsColumns s name r t → Follows (λ s. (columns_of s name, s)) s r t
    cases (Ok v) s t k = (k.1, k.0)
    cases (Err e) s t k = k.0

pub rows_follows : (name : List ℕ) (x y : Option TableStore) (r : Result (List Row) KeepFault) → Told x y (λ s t. ShowsRows s name r t) → Told x y (λ s t. Follows (λ s. (rows_of s name, s)) s r t)
rows_follows name x y r h = told_map x y (λ s t. ShowsRows s name r t) (λ s t. Follows (λ s. (rows_of s name, s)) s r t) (cases r) h
  where
    cases : (r : Result (List Row) KeepFault) (s t : TableStore) → ShowsRows s name r t → Follows (λ s. (rows_of s name, s)) s r t
    cases (Ok v) s t k = (k.1, k.0)
    cases (Err e) s t k = k.0

pub insert_follows : (name : List ℕ) (cells : List Cell) (x y : Option TableStore) (r : Result (Option ℕ) KeepFault) → Told x y (λ s t. Inserts s name cells r t) → Told x y (λ s t. Follows (λ s. (next_number s name cells, after_insert s name cells)) s r t)
insert_follows name cells x y r h = told_map x y (λ s t. Inserts s name cells r t) (λ s t. Follows (λ s. (next_number s name cells, after_insert s name cells)) s r t) (cases r) h
  where
    cases : (r : Result (Option ℕ) KeepFault) (s t : TableStore) → Inserts s name cells r t → Follows (λ s. (next_number s name cells, after_insert s name cells)) s r t
    cases (Ok v) s t k = k
    cases (Err e) s t k = k

pub update_follows : (name : List ℕ) (number : ℕ) (cells : List Cell) (x y : Option TableStore) (r : Result (Bool) KeepFault) → Told x y (λ s t. Updates s name number cells r t) → Told x y (λ s t. Follows (λ s. (can_update s name number cells, after_update s name number cells)) s r t)
update_follows name number cells x y r h = told_map x y (λ s t. Updates s name number cells r t) (λ s t. Follows (λ s. (can_update s name number cells, after_update s name number cells)) s r t) (cases r) h
  where
    cases : (r : Result (Bool) KeepFault) (s t : TableStore) → Updates s name number cells r t → Follows (λ s. (can_update s name number cells, after_update s name number cells)) s r t
    cases (Ok v) s t k = k
    cases (Err e) s t k = k

pub delete_follows : (name : List ℕ) (number : ℕ) (x y : Option TableStore) (r : Result (Bool) KeepFault) → Told x y (λ s t. Deletes s name number r t) → Told x y (λ s t. Follows (λ s. (has_row s name number, after_delete s name number)) s r t)
delete_follows name number x y r h = told_map x y (λ s t. Deletes s name number r t) (λ s t. Follows (λ s. (has_row s name number, after_delete s name number)) s r t) (cases r) h
  where
    cases : (r : Result (Bool) KeepFault) (s t : TableStore) → Deletes s name number r t → Follows (λ s. (has_row s name number, after_delete s name number)) s r t
    cases (Ok v) s t k = k
    cases (Err e) s t k = k
