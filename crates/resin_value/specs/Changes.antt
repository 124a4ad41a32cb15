-- Look-ups in arrays, and changes of them (PHP manual, "Arrays"; the height is this project's).
use Rattle.std.specs.Prelude.{◌≡◌, ◌≤◌, int_lt, pos, ◌+ℤ◌, ◌≤ℤ◌, ◌+◌, max, ℕ, ℤ, IsTrue, if◌then◌else◌, List, [], ◌∷◌, Option, None, Some}
use Rattle.std.specs.Option.{option_map}
use Rattle.resin_value.specs.declared.key.Key.{Key}
use Rattle.resin_value.specs.declared.key.Key.TheVariants.{Int, Text}
use Rattle.resin_value.specs.Keys.{key_eq, is_lawful}
use Rattle.resin_value.specs.Trees.{Tree, null, boolean, integer, text, array, object}
use Rattle.resin_value.specs.Arrays.{Array}

-- the value at a key
abbrev pub lookup : {X : Type 0} → Key → List (Key × X) → Option X
lookup k [] = None
lookup k (e ∷ es) = if key_eq k e.0 then Some e.1 else lookup k es

-- the entries with a value at a key: in its place where the key is there, else last
abbrev pub put_at : {X : Type 0} → Key → X → List (Key × X) → List (Key × X)
put_at k x [] = (k, x) ∷ []
put_at k x (e ∷ es) = if key_eq k e.0 then (e.0, x) ∷ es else e ∷ put_at k x es

-- the entries without the one at a key, the others in their order
abbrev pub remove_at : {X : Type 0} → Key → List (Key × X) → List (Key × X)
remove_at k [] = []
remove_at k (e ∷ es) = if key_eq k e.0 then es else e ∷ remove_at k es

-- the height that a value gives the array that holds it
abbrev pub height_in : Tree → ℕ
height_in (array r l h) = h + 1
height_in null = 1
height_in (boolean b) = 1
height_in (integer n s) = 1
height_in (text t) = 1
height_in (object n) = 1

-- the height of an array once a value was put into it; it never falls
abbrev pub raised : ℕ → Tree → ℕ
raised h t = max h (height_in t)

-- the largest integer key ever used, once a key was used
abbrev pub largest_with : Key → Option ℤ → Option ℤ
largest_with (Int n) None = Some n
largest_with (Int n) (Some m) = Some (if int_lt m n then n else m)
largest_with (Text b) l = l

-- the key of `[]`: one more than the largest ever used, 0 where none was, and none beyond the greatest integer
abbrev pub next_of : Option ℤ → Option ℤ
next_of None = Some (pos 0)
next_of (Some n) = if int_lt n (pos 9223372036854775807) then Some (n +ℤ pos 1) else None

-- the array with a value put at a key
abbrev pub put : Key → Tree → Array → Array
put k t a = record { entries = put_at k t a.entries; largest = largest_with k a.largest; height = raised a.height t }

-- the array with a value put at the next key, none where there is no next key
abbrev pub appended : Tree → Array → Option Array
appended t a = option_map (λ n. put (Int n) t a) (next_of a.largest)

-- the array without the entry at a key: the largest key used and the height stay
abbrev pub without : Key → Array → Array
without k a = record { entries = remove_at k a.entries; largest = a.largest; height = a.height }

-- the empty array
abbrev pub empty : Array
empty = record { entries = []; largest = None; height = 1 }

-- no key stands twice
abbrev pub IsApart : {X : Type 0} → List (Key × X) → Type 0
IsApart [] = Unit {0}
IsApart (e ∷ es) = (lookup e.0 es ≡ None) × IsApart es

-- each key may stand in an array
abbrev pub AreLawful : {X : Type 0} → List (Key × X) → Type 0
AreLawful [] = Unit {0}
AreLawful (e ∷ es) = IsTrue (is_lawful e.0) × AreLawful es

-- an integer key is at most the largest used
abbrev pub IsUsed : Option ℤ → Key → Type 0
IsUsed l (Text b) = Unit {0}
IsUsed None (Int n) = ⊥
IsUsed (Some m) (Int n) = n ≤ℤ m

abbrev pub AreUsed : {X : Type 0} → Option ℤ → List (Key × X) → Type 0
AreUsed l [] = Unit {0}
AreUsed l (e ∷ es) = IsUsed l e.0 × AreUsed l es

-- what every array keeps
pub record IsArray (a : Array) : Type 0 where
  pub low : a.height ≤ 100
  pub apart : IsApart a.entries
  pub lawful : AreLawful a.entries
  pub used : AreUsed a.largest a.entries
