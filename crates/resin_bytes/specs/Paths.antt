-- Lawful paths of files (this project).
use Rattle.std.specs.Prelude.{ℕ, Bool, ◌==◌, ◌&&◌, ◌||◌, not, nat_le, nat_eq, List, length, codes}
use Rattle.std.specs.Char.{is_ascii_alphanumeric}
use Rattle.std.specs.List.{list_all, slice_split, before_first}
use Rattle.std.specs.Cmp.Lexicographic.{pointwise}

-- the byte splits segments: `/`
abbrev pub is_slash : ℕ → Bool
is_slash c = c == 47

-- an ASCII letter or digit, `.`, `_` or `-`
abbrev pub is_path_byte : ℕ → Bool
is_path_byte c = is_ascii_alphanumeric c || c == 46 || c == 95 || c == 45

-- two texts have the same bytes
abbrev pub is_text : List ℕ → List ℕ → Bool
is_text = pointwise nat_eq

-- the two segments that mean a folder
abbrev pub is_dots : List ℕ → Bool
is_dots s = is_text s (codes ".") || is_text s (codes "..")

-- one or more such bytes that aren't `.` or `..`
abbrev pub is_segment : List ℕ → Bool
is_segment s = not (length s == 0) && not (is_dots s) && list_all is_path_byte s

-- each part between two `/` is a segment
abbrev pub has_segments : List ℕ → Bool
has_segments path = list_all is_segment (slice_split is_slash path)

-- what stands before the first `/`, or all
abbrev pub first_segment : List ℕ → List ℕ
first_segment = before_first is_slash

-- 1 to 200 bytes, segments split by single `/`, and a first segment other than `.resin`
abbrev pub is_lawful_path : List ℕ → Bool
is_lawful_path path = nat_le (length path) 200 && not (is_text (first_segment path) (codes ".resin")) && has_segments path
