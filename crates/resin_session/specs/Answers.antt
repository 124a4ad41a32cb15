-- What the functions that read and write session texts ensure.
use Rattle.std.specs.Prelude.{◌≡◌, ◌<◌, ◌≤◌, ℕ, true, false, length, List, Option, Some, None, Result, Ok, Err}
use denote.Ref.{Bor}
use Rattle.std.specs.List.{list_all}
use Rattle.resin_value.specs.Under.lstr.declared.limits.TheConstants.{LONGEST}
use Rattle.resin_value.specs.Under.lstr.Texts.{Text}
use Rattle.resin_value.specs.declared.value.Value.{Value}
use Rattle.resin_value.specs.Trees.{Tree}
use Rattle.resin_value.specs.Arrays.{EntryList, Array}
use Rattle.resin_value.specs.Seen.{tree_of}
use Rattle.resin_session.specs.Texts.{is_storable, session_text}
use Rattle.resin_session.specs.Sessions.{IsSessionOf, array_of}
use Rattle.resin_value.specs.Under.lstr.declared.text.TextFault.{TextFault}
use Rattle.resin_value.specs.Under.lstr.declared.text.TextFault.TheVariants as l
use Rattle.resin_session.specs.declared.fault.SessionFault.{SessionFault}
use Rattle.resin_session.specs.declared.fault.SessionFault.TheVariants as f
use Rattle.resin_session.specs.declared.stop.Stop.{Stop}
use Rattle.resin_session.specs.declared.stop.Stop.TheVariants as s

-- the array that the text keeps, or that it keeps none
abbrev pub KeepsArray : Text → Option Array → Type 0
KeepsArray t (Some a) = IsSessionOf t a
KeepsArray t None = (a : Array) → IsSessionOf t a → ⊥

-- a fault in making a text, as one of a session
abbrev pub fault_of : TextFault → SessionFault
fault_of l.TooLong = f.TooLong
fault_of l.Memory = f.Memory

-- the text of the entries; or that a value can't be kept; or that all can, and the text is too long
abbrev pub GivesSession : EntryList → Result Text SessionFault → Type 0
GivesSession es (Ok t) = IsSessionOf t (array_of es) × (length t ≤ LONGEST)
GivesSession es (Err f.NotStorable) = list_all (λ e. is_storable e.1) es ≡ false
GivesSession es (Err f.TooLong) = (list_all (λ e. is_storable e.1) es ≡ true) × (LONGEST < length (session_text es))
GivesSession es (Err f.Memory) = Unit {0}

-- something and what is left behind it, or that there is none, unless memory runs out
abbrev pub Reads : {A B : Type 0} → Option (A × B) → Result A Stop → B → Type 0
Reads out (Ok a) new = out ≡ Some (a, new)
Reads out (Err s.Form) new = out ≡ None
Reads out (Err s.Memory) new = Unit {0}

-- the same where it is bytes that are lent
abbrev pub Lends : {B : Type 0} → Option (List ℕ × B) → Result (Bor (List ℕ)) Stop → B → Type 0
Lends out (Ok a) new = out ≡ Some (a.now, new)
Lends out (Err s.Form) new = out ≡ None
Lends out (Err s.Memory) new = Unit {0}

-- the value, seen as a tree, or that there is none
abbrev pub IsValue : Option Tree → Result Value Stop → Type 0
IsValue out (Ok v) = out ≡ Some (tree_of v)
IsValue out (Err s.Form) = out ≡ None
IsValue out (Err s.Memory) = Unit {0}

-- a value, seen as a tree, and what is left behind it, or that there is none
abbrev pub ReadsValue : Option (Tree × Text) → Result Value Stop → Text → Type 0
ReadsValue out (Ok v) new = out ≡ Some (tree_of v, new)
ReadsValue out (Err s.Form) new = out ≡ None
ReadsValue out (Err s.Memory) new = Unit {0}

-- the array of the entries, and what is left behind them, or that there are none
abbrev pub ReadsArray : Option (EntryList × Text) → Result Array Stop → Text → Type 0
ReadsArray out (Ok a) new = (out ≡ Some (a.entries, new)) × (a ≡ array_of a.entries)
ReadsArray out (Err s.Form) new = out ≡ None
ReadsArray out (Err s.Memory) new = Unit {0}

-- the array, or that there is none
abbrev pub Is : {A : Type 0} → Option A → Result A Stop → Type 0
Is out (Ok a) = out ≡ Some a
Is out (Err s.Form) = out ≡ None
Is out (Err s.Memory) = Unit {0}
