-- Entries with their policies: bytes that each carry a set of policy texts, in place of bytes beside a shadow text (this project).
use Rattle.std.specs.Prelude.{◌≡◌, ℕ, ◌<◌, ◌^◌, ◌&&◌, nat_eq, List, [], length, map, zip, Option, Some, None, if◌then◌else◌}
use Rattle.std.specs.Str.{bytes_eq}
use Rattle.resin_base.specs.FileStore.{entry_of}
use Rattle.resin_base.specs.declared.files.Entry.{Entry}
use Rattle.resin_frozen.specs.Reading.{and_then}
use Rattle.resin_shadow.specs.Marks.{TextSet, Marks, AreMarks}
use Rattle.resin_shadow.specs.Shadows.{written1, written2}
use Rattle.resin_shadow.specs.Readers.{read1, read2}

-- bytes, each with its set of policy texts
abbrev pub Marked : Type 0
Marked = List (ℕ × TextSet)

-- the bytes without their sets
abbrev pub plain_bytes : Marked → List ℕ
plain_bytes d = map (λ b. b.0) d

-- the sets of the bytes
abbrev pub marks : Marked → Marks
marks d = map (λ b. b.1) d

-- bytes that carry no policies
abbrev pub unmarked : List ℕ → Marked
unmarked bytes = map (λ b. (b, [])) bytes

-- the version of a shadow text
pub data Version : Type 0 where
  First : Version
  Second : Version

-- the shadow text of the sets in a version
abbrev pub written : Version → Marks → List ℕ
written First v = written1 v
written Second v = written2 v

-- an entry: good, as bytes with their sets and the version of the shadow text that tells these, or damaged, as the bytes and the shadow
-- text that are held
pub data LabelledEntry : Type 0 where
  Good : Marked → Version → LabelledEntry
  Bad : List ℕ → List ℕ → LabelledEntry

-- what a keeper holds of an entry
abbrev pub plain : LabelledEntry → Entry
plain (Good d v) = entry_of (plain_bytes d) (written v (marks d))
plain (Bad bytes shadow) = entry_of bytes shadow

-- reading a shadow text of a version
abbrev pub read_in : Version → List ℕ → Option Marks
read_in First x = read1 x
read_in Second x = read2 x

-- the sets, where they are those of so many bytes and the text is what is written of them
unfoldable pub fitting : Version → ℕ → List ℕ → Marks → Option Marks
fitting version len x v = if nat_eq (length v) len && bytes_eq x (written version v) then Some v else None

-- the sets of so many bytes that a shadow text spells in a version, if it does
abbrev pub spelled_in : Version → ℕ → List ℕ → Option Marks
spelled_in version len x = and_then (read_in version x) (fitting version len x)

-- the entry by the sets that its shadow text spells in the second version, and else in the first
abbrev pub lifted_by : Entry → Option Marks → Option Marks → LabelledEntry
lifted_by e (Some v) first = Good (zip e.bytes v) Second
lifted_by e None (Some v) = Good (zip e.bytes v) First
lifted_by e None None = Bad e.bytes e.shadow

-- an entry as its shadow text tells it: an empty one tells that no byte has a policy
unfoldable pub lift : Entry → LabelledEntry
lift e =
    if nat_eq (length e.shadow) 0 then Good (unmarked e.bytes) Second else
    lifted_by e (spelled_in Second (length e.bytes) e.shadow) (spelled_in First (length e.bytes) e.shadow)

-- these bytes and this shadow text are what a keeper is to hold of marked bytes: the shadow text is of the second version, and has as many bytes as a
-- number of 64 bits counts
pub record AreWritten (bytes shadow : List ℕ) (d : Marked) : Type 0 where
  pub are_marks : AreMarks (marks d)
  pub bytes_are : bytes ≡ plain_bytes d
  pub shadow_is : shadow ≡ written2 (marks d)
  pub short : length shadow < 2 ^ 64

-- the sets of the bytes, where the entry is good
abbrev pub marks_in : LabelledEntry → Option Marks
marks_in (Good d v) = Some (marks d)
marks_in (Bad bytes shadow) = None
