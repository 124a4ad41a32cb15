-- Reading a policy text from the front of bytes.
use Rattle.std.specs.Prelude.{ℕ, zero, suc, ◌-◌, ◌^◌, min, Bool, true, false, ◌&&◌, nat_lt, nat_le, nat_eq, ℤ, pos, neg_ℤ}
use Rattle.std.specs.Prelude.{List, length, take, drop, codes, decimal, Option, Some, None, is_none, if◌then◌else◌}
use Rattle.std.specs.Option.{option_map}
use Rattle.std.specs.Fmt.{signed_decimal}
use Rattle.std.specs.List.{position_or_len, before_first, after_first, starts_with}
use Rattle.std.specs.Cmp.Lexicographic.{pointwise}
use Rattle.resin_value.specs.Under.bytes.Numbers.{decimal_value, is_negative}
use Rattle.resin_value.specs.Under.label.Sets.{empty as no_labels}
use Rattle.resin_value.specs.Under.lstr.declared.limits.TheConstants.{LONGEST}
use Rattle.resin_value.specs.Under.lstr.Texts.{Text as LabelledText, carrying}
use Rattle.resin_value.specs.declared.key.Key.{Key}
use Rattle.resin_value.specs.declared.key.Key.TheVariants.{Int, Text}
use Rattle.resin_value.specs.Keys.{is_lawful}
use Rattle.resin_value.specs.Trees.{Tree, null, boolean, integer, text}
use Rattle.resin_value.specs.Arrays.{EntryList, Array}
use Rattle.resin_value.specs.Changes.{lookup, put, empty}
use Rattle.resin_frozen.specs.Policies.{is_name, is_field_key, tree_of_array, ROOM}
use Rattle.resin_frozen.specs.declared.keys.Keys.{Keys}
use Rattle.resin_frozen.specs.declared.keys.Keys.TheVariants.{Lawful, Names}

-- a value at the front of bytes, and what is behind it
abbrev pub Read : Type 0 → Type 0
Read A = List ℕ → Option (A × List ℕ)

-- first one, and then the other, where both can be read
abbrev pub and_then : {A B : Type 0} → Option A → (A → Option B) → Option B
and_then None f = None
and_then (Some a) f = f a

abbrev pub is_text : List ℕ → List ℕ → Bool
is_text = pointwise nat_eq

-- so many bytes
unfoldable pub taken : ℕ → Read (List ℕ)
taken n xs = if nat_le n (length xs) then Some (take n xs, drop n xs) else None

-- these bytes
unfoldable pub literal : List ℕ → Read (Unit {0})
literal w xs = if starts_with nat_eq xs w then Some (tt, drop (length w) xs) else None

-- the bytes up to this one, which is passed
unfoldable pub cut : ℕ → Read (List ℕ)
cut c xs =
    if nat_lt (position_or_len (λ b. nat_eq b c) xs) (length xs)
    then Some (before_first (λ b. nat_eq b c) xs, after_first (λ b. nat_eq b c) xs) else None

-- what digits spell, or the largest number of 64 bits where that is larger
unfoldable pub value_of : List ℕ → ℕ
value_of s = min (decimal_value s) (2 ^ 64 - 1)

-- a number of 64 bits, in decimal without a zero in front
unfoldable pub number : List ℕ → Option ℕ
number s = if is_text s (decimal (value_of s)) then Some (value_of s) else None

-- the number of 64 bits with a sign that digits behind a `-` or nothing spell, or the nearest
unfoldable pub signed_of : List ℕ → ℤ
signed_of s = if is_negative s then neg_ℤ (pos (min (value_of (drop 1 s)) (2 ^ 63))) else pos (min (value_of s) (2 ^ 63 - 1))

-- a number of 64 bits with a sign, in decimal
unfoldable pub signed : List ℕ → Option ℤ
signed s = if is_text s (signed_decimal (signed_of s)) then Some (signed_of s) else None

-- a number, and this byte behind it
unfoldable pub natural : ℕ → Read ℕ
natural c xs = and_then (cut c xs) (λ l. and_then (number l.0) (λ n. Some (n, l.1)))

-- `n:"bytes"`
unfoldable pub quoted : Read (List ℕ)
quoted xs =
    and_then (natural 58 xs) (λ n. and_then (literal (codes "\"") n.1) (λ o. and_then (taken n.0 o.1) (λ w.
    and_then (literal (codes "\"") w.1) (λ c. Some (w.0, c.1)))))

-- what stands behind `i:`
unfoldable pub integer_behind : Read ℤ
integer_behind xs = and_then (cut 59 xs) (λ l. and_then (signed l.0) (λ n. Some (n, l.1)))

-- what stands behind `s:`
unfoldable pub bytes_behind : Read (List ℕ)
bytes_behind xs = and_then (quoted xs) (λ w. and_then (literal (codes ";") w.1) (λ e. Some (w.0, e.1)))

-- a key of any kind, behind its first two bytes
unfoldable pub key_behind : List ℕ → Read Key
key_behind kind xs =
    if is_text kind (codes "i:") then and_then (integer_behind xs) (λ n. Some (Int n.0, n.1)) else
    (if is_text kind (codes "s:") then and_then (bytes_behind xs) (λ w. Some (Text w.0, w.1)) else None)

abbrev pub is_fit : Keys → Key → Bool
is_fit Lawful k = is_lawful k
is_fit Names k = is_lawful k && is_field_key k

-- a key that may stand there
unfoldable pub key : Keys → Read Key
key keys xs = and_then (taken 2 xs) (λ t. and_then (key_behind t.0 t.1) (λ k. if is_fit keys k.0 then Some k else None))

unfoldable pub boolean_behind : Read Tree
boolean_behind xs =
    and_then (taken 2 xs) (λ t.
    if is_text t.0 (codes "0;") then Some (boolean false, t.1) else (if is_text t.0 (codes "1;") then Some (boolean true, t.1) else None))

-- a text without labels, where it isn't too long
abbrev pub plain_text : List ℕ → Option LabelledText
plain_text w = if nat_le (length w) LONGEST then Some (carrying no_labels w) else None

unfoldable pub text_behind : Read Tree
text_behind xs = and_then (bytes_behind xs) (λ w. and_then (plain_text w.0) (λ t. Some (text t, w.1)))

-- a pair, whose key isn't there yet, put into an array; `value`: how values are read there
unfoldable pub pair : Read Tree → Keys → Array → Read Array
pair value keys a xs =
    and_then (key keys xs) (λ k. if is_none (lookup k.0 a.entries) then and_then (value k.1) (λ t. Some (put k.0 t.0 a, t.1)) else None)

-- so many pairs
abbrev pub pairs : Read Tree → Keys → ℕ → Array → Read Array
pairs value keys zero a xs = Some (a, xs)
pairs value keys (suc n) a xs = and_then (pair value keys a xs) (λ p. pairs value keys n p.0 p.1)

-- `n:{pairs}`
unfoldable pub braced : Read Tree → Keys → Read Array
braced value keys xs =
    and_then (natural 58 xs) (λ n. and_then (literal (codes "{") n.1) (λ o. and_then (pairs value keys n.0 empty o.1) (λ a.
    and_then (literal (codes "}") a.1) (λ c. Some (a.0, c.1)))))

unfoldable pub array_behind : Read Tree → Read Tree
array_behind value xs = and_then (braced value Lawful xs) (λ a. Some (tree_of_array a.0, a.1))

-- a value that is no array, behind its first two bytes
unfoldable pub scalar_behind : List ℕ → Read Tree
scalar_behind kind xs =
    if is_text kind (codes "N;") then Some (null, xs) else
    (if is_text kind (codes "b:") then boolean_behind xs else
    (if is_text kind (codes "i:") then and_then (integer_behind xs) (λ n. Some (integer n.0 no_labels, n.1)) else
    (if is_text kind (codes "s:") then text_behind xs else None)))

-- a value; `inner`: how an array is read behind its first two bytes
unfoldable pub value_with : Read Tree → Read Tree
value_with inner xs = and_then (taken 2 xs) (λ t. if is_text t.0 (codes "a:") then inner t.1 else scalar_behind t.0 t.1)

-- a value in which at most so many arrays stand one in another
unfoldable pub value : ℕ → Read Tree
value zero xs = value_with (λ _. None) xs
value (suc room) xs = value_with (array_behind (value room)) xs

-- a class and its fields
abbrev pub Policy : Type 0
Policy = List ℕ × EntryList

unfoldable pub class : Read (List ℕ)
class xs = and_then (quoted xs) (λ w. if is_name w.0 && nat_le (length w.0) LONGEST then Some w else None)

-- the policy whose text stands at the front
unfoldable pub policy : Read Policy
policy xs =
    and_then (literal (codes "O:") xs) (λ o. and_then (class o.1) (λ c. and_then (literal (codes ":") c.1) (λ d.
    and_then (braced (value ROOM) Names d.1) (λ a. Some ((c.0, a.0.entries), a.1)))))

-- the class of the policy whose text stands at the front, and its fields as an array by their names
abbrev pub Said : Type 0
Said = List ℕ × Array

unfoldable pub class_and_fields : Read Said
class_and_fields xs =
    and_then (literal (codes "O:") xs) (λ o. and_then (class o.1) (λ c. and_then (literal (codes ":") c.1) (λ d.
    and_then (braced (value ROOM) Names d.1) (λ a. Some ((c.0, a.0), a.1)))))

-- what a policy text says: the class of a policy, and its fields as an array by their names
abbrev pub said : List ℕ → Option Said
said xs = option_map (λ r. r.0) (class_and_fields xs)

-- the policy text at the front
unfoldable pub front : Read (List ℕ)
front xs = and_then (policy xs) (λ p. Some (take (length xs - length p.1) xs, p.1))
