-- The answer under way: its headers and status, and the open output buffers (PHP manual, "header" and "Output Control").
use Rattle.std.specs.Prelude.{◌≡◌, ℕ, Bool, ◌==◌, ◌&&◌, ◌||◌, not, nat_eq, nat_le}
use Rattle.std.specs.Prelude.{List, [], ◌∷◌, ◌++◌, length, filter, codes, if◌then◌else◌, ◌<◌, ◌≤◌, Result, Ok, Err}
use Rattle.std.specs.Cmp.Lexicographic.{pointwise}
use Rattle.std.specs.Str.{str_to_ascii_lowercase}
use Rattle.resin_value.specs.Under.bytes.declared.header.Header.{Header}
use Rattle.resin_value.specs.Under.lstr.declared.limits.TheConstants.{LONGEST}
use Rattle.resin_value.specs.Under.lstr.Texts.{Text}
use Rattle.resin_value.specs.Under.lstr.declared.text.TextFault.{TextFault}
use Rattle.resin_value.specs.Under.lstr.declared.text.TextFault.TheVariants.{TooLong, Memory}

-- two names of headers are the same, whatever the case of ASCII letters
abbrev pub is_same_name : List ℕ → List ℕ → Bool
is_same_name a b = pointwise nat_eq (str_to_ascii_lowercase a) (str_to_ascii_lowercase b)

-- the headers of other names
abbrev pub other_headers : List ℕ → List Header → List Header
other_headers name headers = filter (λ h. not (is_same_name h.name name)) headers

-- a new header goes last; where it replaces, earlier ones of its name are taken out first
abbrev pub headers_with : List ℕ → List ℕ → Bool → List Header → List Header
headers_with name value replace headers =
    (if replace then other_headers name headers else headers) ++ record { name = name; value = value } ∷ []

-- a status that a `Location` header leaves: 201, or 300 to 399
abbrev pub is_kept_status : ℕ → Bool
is_kept_status status = status == 201 || (nat_le 300 status && nat_le status 399)

-- the status once a header is put: a `Location` header makes it 302 otherwise
abbrev pub status_with : List ℕ → ℕ → ℕ
status_with name status = if is_same_name name (codes "location") && not (is_kept_status status) then 302 else status

-- the innermost of the open buffers, which stand from the outermost to the innermost
abbrev pub innermost : List Text → Text
innermost [] = []
innermost (b ∷ []) = b
innermost (b ∷ c ∷ bs) = innermost (c ∷ bs)

-- the buffers with a text appended to the innermost
abbrev pub appended_to_innermost : Text → List Text → List Text
appended_to_innermost t [] = []
appended_to_innermost t (b ∷ []) = (b ++ t) ∷ []
appended_to_innermost t (b ∷ c ∷ bs) = b ∷ appended_to_innermost t (c ∷ bs)

-- what appending to the innermost buffer answers, and which buffers it leaves: TooLong exactly where the text would be too long, and the buffers stay
-- after each refusal; want of memory may stand in the place of either answer
abbrev pub Buffers : Text → List Text → Result Unit TextFault → List Text → Type 0
Buffers t old (Ok done) new = (new ≡ appended_to_innermost t old) × (length (innermost old ++ t) ≤ LONGEST)
Buffers t old (Err TooLong) new = (new ≡ old) × (LONGEST < length (innermost old ++ t))
Buffers t old (Err Memory) new = new ≡ old
