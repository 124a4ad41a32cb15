-- Sessions of visitors, as programs over the state and the keepers: what `$_SESSION` holds when a request ends is there in the next one that names
-- the session (PHP manual, "Sessions"; the names, what is kept, its policies and its charges are this project's).
use Rattle.std.specs.Prelude.{ℕ, Bool, ◌&&◌, List, [], length, zip, codes}
use Rattle.std.specs.Prelude.{Option, Some, None, Result, Err, if◌then◌else◌}
use Rattle.std.specs.List.{list_all}
use Rattle.std.specs.Str.{bytes_eq}
use Rattle.resin_inputs.specs.declared.arrays.InputArrays.{InputArrays}
use Rattle.resin_inputs.specs.Under.lstr.Texts.{Text as LabelledText, bytes_of}
use Rattle.resin_inputs.specs.Under.scalar.declared.faults.CallStop.{CallStop}
use Rattle.resin_inputs.specs.Under.scalar.declared.faults.CallStop.TheVariants.{Fault as CallFault}
use Rattle.resin_inputs.specs.Under.scalar.declared.faults.ScriptFault.TheVariants.{BadSession, NotStorable}
use Rattle.resin_inputs.specs.Under.value.declared.key.Key.TheVariants.{Text as TextKey}
use Rattle.resin_inputs.specs.Under.value.declared.value.Value.{Value}
use Rattle.resin_inputs.specs.Under.value.declared.value.Value.TheVariants.{Arr}
use Rattle.resin_inputs.specs.Under.value.Trees.{Tree, text}
use Rattle.resin_inputs.specs.Under.value.Arrays.{Array, EntryList}
use Rattle.resin_inputs.specs.Under.value.Changes.{lookup, empty}
use Rattle.resin_session.specs.Reading.{session as session_in}
use Rattle.resin_session.specs.Texts.{is_storable, session_text}
use Rattle.resin_interp.specs.Under.base.FileStore.{entry_of}
use Rattle.resin_interp.specs.Under.base.declared.files.Entry.{Entry}
use Rattle.resin_interp.specs.Under.machine.Steps.{charge_bytes}
use Rattle.resin_interp.specs.Under.machine.Variables.{set_session}
use Rattle.resin_interp.specs.Under.store.Entries.{Marked, LabelledEntry, Good, Second, plain}
use Rattle.resin_interp.specs.Under.meaning.Programs.{Prog, give, act, ◌>>=◌}
use Rattle.resin_interp.specs.Under.meaning.KeeperCalls.{read_file, write_file}
use Rattle.resin_interp.specs.Under.meaning_forms.Keeping.{freeze_text, size, thaw_entry}
use Rattle.resin_interp.specs.Under.meaning_forms.Operators.{too_long}
use Rattle.resin_interp.specs.Under.meaning_forms.Parts.{computed, faulted, looked, ◌>>◌}
use Rattle.resin_interp.specs.Under.meaning_forms.Sessions.{is_session_name, session_path}

-- ---- which session a request has

-- the session that a text names, if it does
abbrev pub name_in : List ℕ → Option (List ℕ)
name_in w = if is_session_name w then Some w else None

-- the session that a value names: a text alone names one
abbrev pub named_in : Tree → Option (List ℕ)
named_in (text t) = name_in (bytes_of t)
named_in t = None

-- the session that a cookie names, if there is one that does
abbrev pub named_by : Option Tree → Option (List ℕ)
named_by (Some t) = named_in t
named_by None = None

-- the session of a request: that which its cookie `sid` names as it came, whatever the filters of inputs make of it
abbrev pub session_of : InputArrays → Option (List ℕ)
session_of inputs = named_by (lookup (TextKey (codes "sid")) inputs.cookie.entries)

-- ---- before the file of the request: what is kept becomes `$_SESSION`

-- the array that a text keeps becomes `$_SESSION`; a text that keeps none is BadSession
abbrev pub set_kept : Option Array → Prog (Unit {0})
set_kept (Some a) = act (set_session a)
set_kept None = faulted BadSession

-- an entry is charged by its bytes, and thawed; where there is none, `$_SESSION` is empty
abbrev pub set_found : Option LabelledEntry → Prog (Unit {0})
set_found None = act (set_session empty)
set_found (Some e) = act (charge_bytes (size e)) >> (thaw_entry e >>= λ t. set_kept (session_in t))

-- the entry of a session is read, and `$_SESSION` is set; the entry as it was found
abbrev pub begin_session : List ℕ → Prog (Option LabelledEntry)
begin_session name = read_file (session_path name) >>= λ found. set_found found >> give found

-- ---- after it: what `$_SESSION` holds is kept

-- the session text of entries: NotStorable where a value is neither an integer nor a text, else TextTooLong where it is too long
abbrev pub text_of_entries : EntryList → Result LabelledText CallStop
text_of_entries es = if list_all (λ e. is_storable e.1) es then too_long (session_text es) else Err (CallFault NotStorable)

-- the session text of a value: an array alone is kept
abbrev pub text_of_value : Value → Result LabelledText CallStop
text_of_value (Arr a) = text_of_entries a.entries
text_of_value v = Err (CallFault NotStorable)

-- what a keeper holds of the entry that was found; where there was none, of the empty one
abbrev pub held : Option LabelledEntry → Entry
held (Some e) = plain e
held None = entry_of [] []

-- two entries have the same bytes and the same shadow text
abbrev pub is_same : Entry → Entry → Bool
is_same e f = bytes_eq e.bytes f.bytes && bytes_eq e.shadow f.shadow

-- an entry is written exactly where it isn't the one that was found
abbrev pub write_changed : List ℕ → Option LabelledEntry → Marked → Prog (Unit {0})
write_changed path found d = if is_same (plain (Good d Second)) (held found) then give tt else write_file path d

-- a session text is charged by its bytes, its policies are frozen, and it is written where it changed
abbrev pub keep_text : List ℕ → Option LabelledEntry → LabelledText → Prog (Unit {0})
keep_text name found t = do
  act (charge_bytes (length t))
  marks ← freeze_text t
  write_changed (session_path name) found (zip (bytes_of t) marks)

-- what `$_SESSION` holds is kept
abbrev pub end_session : List ℕ → Option LabelledEntry → Prog (Unit {0})
end_session name found = looked (λ m. text_of_value m.session) >>= computed >>= keep_text name found

-- ---- around the file of the request

-- Steps that run in the session that a request has, if it has one; steps that don't come to their end keep nothing
abbrev pub in_session : Option (List ℕ) → Prog (Unit {0}) → Prog (Unit {0})
in_session (Some name) p = begin_session name >>= λ found. p >> end_session name found
in_session None p = p
