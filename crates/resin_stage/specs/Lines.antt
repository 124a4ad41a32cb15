-- Header lines, and the records of mail (this project; the names of headers are the tokens of RFC 9110).
use Rattle.std.specs.Prelude.{ℕ, ◌==◌, ◌&&◌, ◌||◌, not, nat_lt, nat_le, Bool}
use Rattle.std.specs.Prelude.{List, [], ◌∷◌, ◌++◌, length, reverse, codes, decimal, Option, Some, None, if◌then◌else◌}
use Rattle.std.specs.List.{list_all, list_any, before_first, after_first}
use Rattle.resin_scope.specs.Under.bytes.declared.header.Header.{Header}
use Rattle.resin_scope.specs.Under.lstr.Texts.{Text, bytes_of}
use Rattle.resin_scope.specs.Pages.{is_same_name}

-- the record of a mail: the number of its request, the length of the checked text, and the text
abbrev pub mail_record : ℕ → Text → List ℕ
mail_record request t = codes "mail request=" ++ decimal request ++ codes " len=" ++ decimal (length t) ++ codes "\n" ++ bytes_of t ++ codes "\n"

-- a byte of a token: a letter, a digit, or one of these marks
abbrev pub is_token_byte : ℕ → Bool
is_token_byte b =
    (nat_le 48 b && nat_le b 57) || (nat_le 65 b && nat_le b 90) || (nat_le 97 b && nat_le b 122) || list_any (λ m. m == b) (codes "!#$%&'*+-.^_`|~")

-- a byte of a header's value: a space, a mark or a letter of ASCII, or a byte beyond ASCII
abbrev pub is_value_byte : ℕ → Bool
is_value_byte b = (nat_le 32 b && nat_le b 126) || nat_lt 127 b

abbrev pub is_colon : ℕ → Bool
is_colon b = b == 58

abbrev pub is_token : List ℕ → Bool
is_token bs = nat_lt 0 (length bs) && list_all is_token_byte bs

-- without the spaces in front
abbrev pub skip_spaces : List ℕ → List ℕ
skip_spaces [] = []
skip_spaces (b ∷ bs) = if b == 32 then skip_spaces bs else b ∷ bs

-- without the spaces at both ends
abbrev pub trimmed : List ℕ → List ℕ
trimmed bs = reverse (skip_spaces (reverse (skip_spaces bs)))

-- a script may set the header: its name is a token other than `Content-Length`, and its value has no control byte
abbrev pub is_settable : List ℕ → List ℕ → Bool
is_settable name value = is_token name && not (is_same_name name (codes "content-length")) && list_all is_value_byte value

-- the header that a line `Name:value` sets; spaces round the value don't belong to it
abbrev pub header_line : List ℕ → Option Header
header_line line =
    if list_any is_colon line && is_settable (before_first is_colon line) (after_first is_colon line)
    then Some (record { name = before_first is_colon line; value = trimmed (after_first is_colon line) })
    else None
