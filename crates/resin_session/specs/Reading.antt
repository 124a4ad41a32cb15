-- Reading a session text from its front.
use Rattle.std.specs.Prelude.{ℕ, zero, suc, Bool, nat_le, nat_eq, ℤ, pos, negsuc}
use Rattle.std.specs.Prelude.{List, [], ◌∷◌, ◌++◌, length, take, drop, Option, Some, None, is_none, option_map, if◌then◌else◌}
use Rattle.std.specs.List.{list_all, position}
use Rattle.std.specs.Cmp.Lexicographic.{pointwise}
use Rattle.resin_value.specs.Under.bytes.Canonical.{canonical_integer}
use Rattle.resin_value.specs.Under.label.Sets.{NumberSet, same, empty as no_labels}
use Rattle.resin_value.specs.Under.lstr.Texts.{Text as LabelledText, bytes_of, sets_of}
use Rattle.resin_value.specs.declared.key.Key.{Key}
use Rattle.resin_value.specs.Keys.{text_key}
use Rattle.resin_value.specs.Trees.{Tree, integer, text}
use Rattle.resin_value.specs.Arrays.{EntryList, Array}
use Rattle.resin_value.specs.Changes.{lookup}
use Rattle.resin_session.specs.declared.entries.Kind.{Kind}
use Rattle.resin_session.specs.declared.entries.Kind.TheVariants.{Integer as IntegerKind, Text as TextKind}
use Rattle.resin_session.specs.declared.entries.Head.{Head}
use Rattle.resin_session.specs.Sessions.{array_of}

-- something at the front of a text, and what is behind it
abbrev pub Read : Type 0 → Type 0
Read A = LabelledText → Option (A × LabelledText)

-- first one, and then the other, where both can be read
abbrev pub and_then : {A B : Type 0} → Option A → (A → Option B) → Option B
and_then None f = None
and_then (Some a) f = f a

-- no byte carries a label
abbrev pub is_plain : LabelledText → Bool
is_plain t = list_all (λ s. same no_labels s) (sets_of t)

-- the set of each byte, where all have the same and there is one
abbrev pub one_set : List NumberSet → Option NumberSet
one_set [] = None
one_set (s ∷ ss) = if list_all (λ u. same s u) ss then Some s else None

-- so many bytes
unfoldable pub taken : ℕ → Read LabelledText
taken n xs = if nat_le n (length xs) then Some (take n xs, drop n xs) else None

-- so many bytes without labels
unfoldable pub plain : ℕ → Read (List ℕ)
plain n xs = and_then (taken n xs) (λ t. if is_plain t.0 then Some (bytes_of t.0, t.1) else None)

-- this byte, without labels
unfoldable pub byte : ℕ → Read (Unit {0})
byte c xs = and_then (plain 1 xs) (λ w. if pointwise nat_eq w.0 (c ∷ []) then Some (tt, w.1) else None)

-- the bytes up to the first one that is this one, which is passed; all without labels
unfoldable pub until : ℕ → Read (List ℕ)
until c xs =
    and_then (position (λ b. nat_eq b c) (bytes_of xs)) (λ n. and_then (plain n xs) (λ w. and_then (byte c w.1) (λ e. Some (w.0, e.1))))

-- the number that isn't below 0, where an integer is one
abbrev pub natural : Option ℤ → Option ℕ
natural None = None
natural (Some (pos n)) = Some n
natural (Some (negsuc n)) = None

-- a length as a canonical decimal, and this byte behind it
unfoldable pub count : ℕ → Read ℕ
count c xs = and_then (until c xs) (λ w. and_then (natural (canonical_integer w.0)) (λ n. Some (n, w.1)))

-- the integer that a text is, which has a set of its own
unfoldable pub number : LabelledText → Option Tree
number t = and_then (one_set (sets_of t)) (λ s. and_then (canonical_integer (bytes_of t)) (λ n. Some (integer n s)))

-- the kind that a letter stands for
unfoldable pub kind : List ℕ → Option Kind
kind w = if pointwise nat_eq w (115 ∷ []) then Some TextKind else (if pointwise nat_eq w (105 ∷ []) then Some IntegerKind else None)

-- the value of a kind that a text is
unfoldable pub value : Kind → LabelledText → Option Tree
value TextKind t = Some (text t)
value IntegerKind t = number t

-- a key of so many bytes
unfoldable pub key : ℕ → Read Key
key n xs = and_then (plain n xs) (λ w. Some (text_key w.0, w.1))

-- what an entry begins with: the letter of its kind, the lengths of its key and its value
abbrev pub heading : Kind → ℕ → ℕ → Head
heading k m n = record { kind = k; key_len = m; value_len = n }

unfoldable pub head : Read Head
head xs =
    and_then (plain 1 xs) (λ w. and_then (kind w.0) (λ k. and_then (byte 32 w.1) (λ b. and_then (count 32 b.1) (λ m. and_then (count 10 m.1) (λ n.
    Some (heading k m.0 n.0, n.1))))))

-- a value of so many bytes, and the newline behind it
unfoldable pub value_line : Kind → ℕ → Read Tree
value_line kind n xs = and_then (taken n xs) (λ t. and_then (byte 10 t.1) (λ e. and_then (value kind t.0) (λ v. Some (v, e.1))))

-- the entries with one more, whose key isn't there yet
unfoldable pub more : EntryList → Read EntryList
more es xs =
    and_then (head xs) (λ h. and_then (key h.0.key_len h.1) (λ k. if is_none (lookup k.0 es)
    then and_then (value_line h.0.kind h.0.value_len k.1) (λ v. Some (es ++ (k.0, v.0) ∷ [], v.1)) else None))

-- the entries with all that stand in a text; each takes a byte of it at least
abbrev pub all : ℕ → EntryList → LabelledText → Option EntryList
all n es [] = Some es
all zero es (x ∷ xs) = None
all (suc n) es (x ∷ xs) = and_then (more es (x ∷ xs)) (λ r. all n r.0 r.1)

-- the array that a text keeps
unfoldable pub session : LabelledText → Option Array
session t = option_map array_of (all (length t) [] t)
