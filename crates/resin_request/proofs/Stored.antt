-- What the steps of sessions do, in the words of their programs.
use Rattle.std.proofs.Common.{◌≡◌, ℕ, ℤ, Bool, true, false, cond, ◌&&◌, ◌<◌, ◌≤◌, List, [], ◌∷◌, length, Option, Some, None, Result, Ok, Err, inl, refl, sym, ap, subst, ◌∙◌, arith, IsErrAnd}
use Rattle.std.specs.List.{list_all, AllByRecursion}
use Rattle.std.specs.Option.{option_map}
use Rattle.std.specs.Prelude.{nat_le}
use Rattle.std.proofs.lemmas.List.{length-map}
use Rattle.std.proofs.lemmas.Result.{err_from_is_err_and}
use Rattle.resin_inputs.specs.Under.lstr.declared.limits.TheConstants.{LONGEST}
use Rattle.resin_inputs.specs.Under.lstr.Texts.{Text as LabelledText}
use Rattle.resin_inputs.specs.Under.scalar.declared.faults.CallStop.{CallStop}
use Rattle.resin_inputs.specs.Under.scalar.declared.faults.CallStop.TheVariants.{Fault as CallFault, Memory as CallMemory}
use Rattle.resin_inputs.specs.Under.scalar.declared.faults.ScriptFault.TheVariants.{NotStorable, TextTooLong}
use Rattle.resin_inputs.specs.Under.value.declared.value.Value.{Value}
use Rattle.resin_inputs.specs.Under.value.declared.value.Value.TheVariants.{Null, Bool as Truth, Int, Text, Arr, Obj}
use Rattle.resin_inputs.specs.Under.value.Trees.{Tree, null, boolean, integer, text, array, object}
use Rattle.resin_inputs.specs.Under.value.Arrays.{Array, EntryList}
use Rattle.resin_inputs.specs.Under.value.Seen.{tree_of}
use Rattle.resin_session.specs.Texts.{is_storable, session_text}
use Rattle.resin_session.specs.Sessions.{IsKept, IsSessionOf, array_of}
use Rattle.resin_interp.specs.Under.base.FileStore.{entry_of}
use Rattle.resin_interp.specs.Under.base.declared.files.Entry.{Entry}
use Rattle.resin_interp.specs.Under.machine.declared.stop.Stop.{Stop}
use Rattle.resin_interp.specs.Under.machine.declared.stop.Stop.TheVariants.{Memory}
use Rattle.resin_interp.specs.Under.machine.Steps.{Act}
use Rattle.resin_interp.specs.Under.store.Entries.{LabelledEntry, Good, Bad, lift, plain}
use Rattle.resin_interp.specs.Under.meaning.Programs.{Prog, act, ◌>>=◌}
use Rattle.resin_interp.specs.Under.meaning.Runs.{World, Does}
use Rattle.resin_interp.specs.Under.meaning_forms.Keeping.{size}
use Rattle.resin_interp.specs.Under.meaning_forms.Operators.{too_long}
use Rattle.resin_interp.proofs.meaning_lemmas.Composition.{does_nothing, does_unbegun_exit}
use Rattle.resin_interp.proofs.meaning_lemmas.OneCall.{kept_entry}
use Rattle.resin_request.specs.Sessions.{in_session, begin_session, text_of_entries, text_of_value, held, is_same, named_in}

-- want of memory in place of a step
pub lost_step : {A : Type 0} (a : Act A) {u : World} (r : Result A Stop) → IsErrAnd r (λ e. e ≡ Memory) → Does (act a) u r u
lost_step a r h = let e = err_from_is_err_and r h in rw (e.1, e.2) (does_nothing (act a) (λ failing at. unfold act in inl refl))

-- want of memory before steps that may run in a session
pub lost_in_session : (o : Option (List ℕ)) (p : Prog (Unit {0})) (q : Unit {0} → Prog (Unit {0})) {u : World} (r : Result (Unit {0}) Stop) → IsErrAnd r (λ e. e ≡ Memory) → Does (in_session o (p >>= q)) u r u
lost_in_session (Some name) p q r is = does_unbegun_exit (begin_session name) _ r is
lost_in_session None p q r is = does_unbegun_exit p q r is

-- a labelled entry has as many bytes as the entry that is held
size_by : (l : LabelledEntry) (e : Entry) → plain l ≡ e → size l ≡ length e.bytes
size_by (Good d v) e h = sym (length-map d (λ b. b.0)) ∙ ap (λ x. length x.bytes) h
size_by (Bad bytes shadow) e h = ap (λ x. length x.bytes) h

pub size_is : (e : Entry) → size (lift e) ≡ length e.bytes
size_is e = size_by (lift e) e (kept_entry e)

-- what was found is what is held
pub held_there : (bytes shadow : List ℕ) (o : Option Entry) (e : Entry) → o ≡ Some e → is_same (entry_of bytes shadow) e ≡ is_same (entry_of bytes shadow) (held (option_map lift o))
held_there bytes shadow o e is =
    ap (is_same (entry_of bytes shadow)) (sym (kept_entry e)) ∙ ap (λ (x : Option Entry). is_same (entry_of bytes shadow) (held (option_map lift x))) (sym is)

-- ---- the text of what is kept

kept_storable : (t : Tree) → IsKept t → is_storable t ≡ true
kept_storable null k = absurd k
kept_storable (boolean b) k = absurd k
kept_storable (integer n s) k = refl
kept_storable (text t) k = refl
kept_storable (array r l h) k = absurd k
kept_storable (object n) k = absurd k

all_storable : (es : EntryList) → AllByRecursion (λ e. IsKept e.1) es → list_all (λ e. is_storable e.1) es ≡ true
all_storable [] k = refl
all_storable (e ∷ es) k = ap (λ b. b && list_all (λ e. is_storable e.1) es) (kept_storable e.1 k.0) ∙ all_storable es k.1

at_most : (n : ℕ) → n ≤ LONGEST → nat_le n LONGEST ≡ true
at_most n h = grind arith

above : (n : ℕ) → LONGEST < n → nat_le n LONGEST ≡ false
above n h = grind arith

abbrev given : EntryList → Result LabelledText CallStop
given es = too_long (session_text es)

abbrev refused : Result LabelledText CallStop
refused = Err (CallFault NotStorable)

pub storable_text : (es : EntryList) (t : LabelledText) → IsSessionOf t (array_of es) → length t ≤ LONGEST → text_of_entries es ≡ Ok t
storable_text es t is le =
    ap (λ b. cond b (given es) refused) (all_storable es is.values)
    ∙ (ap too_long (sym is.text_is) ∙ ap (λ b. cond b (Ok t) (Err (CallFault TextTooLong))) (at_most (length t) le))

pub no_text : (es : EntryList) → list_all (λ e. is_storable e.1) es ≡ false → text_of_entries es ≡ Err (CallFault NotStorable)
no_text es h = ap (λ b. cond b (given es) refused) h

pub long_text : (es : EntryList) → (list_all (λ e. is_storable e.1) es ≡ true) × (LONGEST < length (session_text es)) → text_of_entries es ≡ Err (CallFault TextTooLong)
long_text es h =
    ap (λ b. cond b (given es) refused) h.0 ∙ ap (λ b. cond b (Ok (session_text es)) (Err (CallFault TextTooLong))) (above (length (session_text es)) h.1)

pub no_array : (v : Value) → ((a : Array) → v ≡ Arr a → ⊥) → text_of_value v ≡ Err (CallFault NotStorable)
no_array Null h = refl
no_array (Truth b) h = refl
no_array (Int n s) h = refl
no_array (Text t) h = refl
no_array (Arr a) h = absurd (h a refl)
no_array (Obj o) h = refl

pub no_name : (v : Value) → ((t : LabelledText) → v ≡ Text t → ⊥) → None ≡ named_in (tree_of v)
no_name Null h = refl
no_name (Truth b) h = refl
no_name (Int n s) h = refl
no_name (Text t) h = absurd (h t refl)
no_name (Arr a) h = refl
no_name (Obj o) h = refl
