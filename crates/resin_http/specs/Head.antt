-- The head of a request, read from its bytes. The grammar of heads is that of `httparse` (RFC 9112 with bare LF and empty lines before).
use Rattle.std.specs.Prelude.{◌≡◌, ℕ, ◌-◌, ◌≤◌, Bool, ◌&&◌, not, ◌==◌, nat_lt, nat_le, nat_eq}
use Rattle.std.specs.Prelude.{List, [], ◌∷◌, length, drop, map, if◌then◌else◌, Option, Some, None, option_and_then}
use Rattle.std.specs.List.{list_all, list_any, prefix_len, take_while, before_first, after_first, slice_split, slice_index_or, slice_index}
use Rattle.std.specs.Str.{is_utf8}
use Rattle.std.specs.Cmp.Lexicographic.{pointwise}
use Rattle.httparse.specs.Grammar.{RequestHead, Field, LineEnd, crlf, lf, ReadsRequest, print_request, is_token, is_uri_byte, is_value_byte}

-- the most fields of a head (this project)
abbrev pub most_fields : ℕ
most_fields = 64

-- the bytes are exactly this head, which has at most 64 fields
abbrev pub IsHead : List ℕ → RequestHead → Type 0
IsHead bytes head = ReadsRequest bytes head [] × (length head.fields ≤ most_fields)

-- the lines of a text, each without its LF
abbrev pub lines_of : List ℕ → List (List ℕ)
lines_of bytes = slice_split (λ b. b == 10) bytes

abbrev pub is_return : ℕ → Bool
is_return b = b == 13

abbrev pub is_space : ℕ → Bool
is_space b = b == 32

abbrev pub is_colon : ℕ → Bool
is_colon b = b == 58

-- what a line spells: what stands before its CR
abbrev pub text_of : List ℕ → List ℕ
text_of line = before_first is_return line

-- how a line ended: with CR LF, or with LF alone
abbrev pub end_of : List ℕ → LineEnd
end_of line = if list_any is_return line then crlf else lf

abbrev pub is_blank : List ℕ → Bool
is_blank line = length (text_of line) == 0

-- the field that a line spells: a name, a colon and the rest
abbrev pub field_of : List ℕ → Field
field_of line = record {
  name = before_first is_colon (text_of line);
  raw = after_first is_colon (text_of line);
  end = end_of line;
}

-- the target and the version of a start line
abbrev pub after_method : List ℕ → List ℕ
after_method start = after_first is_space (text_of start)

-- the head that lines spell: empty lines, the start line with its three words, the fields and an empty line
abbrev pub head_of_lines : List (List ℕ) → List (List ℕ) → Option RequestHead
head_of_lines blank [] = None
head_of_lines blank (start ∷ lines) = Some (record {
  blank = map end_of blank;
  method = before_first is_space (text_of start);
  target = before_first is_space (after_method start);
  minor = slice_index (after_first is_space (after_method start)) 7 - 48;
  line_end = end_of start;
  fields = map field_of (take_while (λ l. not (is_blank l)) lines);
  last = end_of (slice_index_or lines (prefix_len (λ l. not (is_blank l)) lines) []);
})

abbrev pub read_lines : List (List ℕ) → Option RequestHead
read_lines lines = head_of_lines (take_while is_blank lines) (drop (prefix_len is_blank lines) lines)

-- two texts are the same bytes
abbrev pub same_bytes : List ℕ → List ℕ → Bool
same_bytes a b = pointwise nat_eq a b

abbrev pub is_field : Field → Bool
is_field f = is_token f.name && list_all is_value_byte f.raw

-- each part is of its class, there are at most 64 fields, and the head prints as the bytes
abbrev pub spells_head : List ℕ → RequestHead → Bool
spells_head bytes h =
    is_token h.method && nat_lt 0 (length h.target) && list_all is_uri_byte h.target && is_utf8 h.target
    && nat_le h.minor 1 && list_all is_field h.fields && nat_le (length h.fields) most_fields
    && same_bytes (print_request h) bytes

abbrev pub if_spelled : List ℕ → RequestHead → Option RequestHead
if_spelled bytes h = if spells_head bytes h then Some h else None

-- the one head of at most 64 fields that the bytes are, None where they are none
unfoldable pub head_of : List ℕ → Option RequestHead
head_of bytes = option_and_then (if_spelled bytes) (read_lines (lines_of bytes))

-- `head_of` answers exactly the heads of the grammar
abbrev pub HeadLaw : Type 0
HeadLaw = (bytes : List ℕ) (head : RequestHead) → (head_of bytes ≡ Some head → IsHead bytes head) × (IsHead bytes head → head_of bytes ≡ Some head)
