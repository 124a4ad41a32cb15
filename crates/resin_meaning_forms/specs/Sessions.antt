-- Where sessions of visitors are kept (this project).
use Rattle.std.specs.Prelude.{ℕ, Bool, ◌==◌, ◌&&◌, ◌||◌, not, nat_eq, nat_le, List, ◌++◌, length, codes, Option, Some, None}
use Rattle.std.specs.List.{list_all, starts_with}
use Rattle.std.specs.Str.{bytes_eq}

-- `0` to `9`, or `a` to `f`
abbrev pub is_name_byte : ℕ → Bool
is_name_byte b = (nat_le 48 b && nat_le b 57) || (nat_le 97 b && nat_le b 102)

-- a name of a session: 32 such bytes
abbrev pub is_session_name : List ℕ → Bool
is_session_name w = (length w == 32) && list_all is_name_byte w

-- a session is kept at a path that no script can name, since it isn't lawful
abbrev pub session_path : List ℕ → List ℕ
session_path name = codes ".resin/s=" ++ name

-- a path at which sessions are kept
abbrev pub is_of_session : List ℕ → Bool
is_of_session path = starts_with nat_eq path (codes ".resin/s=")

-- a path of another session than this one; of any, where there is none
abbrev pub is_of_other : Option (List ℕ) → List ℕ → Bool
is_of_other (Some name) path = is_of_session path && not (bytes_eq path (session_path name))
is_of_other None path = is_of_session path
