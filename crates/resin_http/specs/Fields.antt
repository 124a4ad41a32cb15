-- What the fields of a head say of its request (RFC 9110 and 9112, with this project's limits).
use Rattle.std.specs.Prelude.{ℕ, Bool, ◌&&◌, not, ◌==◌, nat_lt, nat_le}
use Rattle.std.specs.Prelude.{List, [], ◌∷◌, length, map, if◌then◌else◌, Option, Some, None, Result, Ok, Err, codes, filter}
use Rattle.std.specs.List.{list_all, list_any, slice_index}
use Rattle.std.specs.Char.{is_ascii_digit}
use Rattle.std.specs.Str.Parse.{digits_value}
use Rattle.httparse.specs.Grammar.{RequestHead}
use Rattle.httparse.specs.Spans.{name_and_value}
use Rattle.resin_inputs.specs.Under.bytes.declared.header.Header.{Header}
use Rattle.resin_inputs.specs.Names.{is_named}
use Rattle.resin_http.specs.declared.request.Method.{Method}
use Rattle.resin_http.specs.declared.request.Method.TheVariants.{Get, Head, Post}
use Rattle.resin_http.specs.Head.{same_bytes}

-- a name and a value, which has no blanks at its ends
abbrev pub Pair : Type 0
Pair = List ℕ × List ℕ

-- the fields of a head in order
abbrev pub pairs_of : RequestHead → List Pair
pairs_of head = map name_and_value head.fields

abbrev pub header_of : Pair → Header
header_of p = record { name = p.0; value = p.1 }

-- the values of the fields of that name, in order
abbrev pub values_of : List ℕ → List Pair → List (List ℕ)
values_of wanted fields = map (λ p. p.1) (filter (λ p. is_named wanted p.0) fields)

abbrev pub has_field : List ℕ → List Pair → Bool
has_field wanted fields = list_any (λ p. is_named wanted p.0) fields

abbrev pub content_length : List ℕ
content_length = codes "content-length"

abbrev pub transfer_encoding : List ℕ
transfer_encoding = codes "transfer-encoding"

-- one to ten digits
abbrev pub is_length : List ℕ → Bool
is_length value = nat_lt 0 (length value) && nat_le (length value) 10 && list_all is_ascii_digit value

-- the number that a length tells
abbrev pub length_of : List ℕ → Option ℕ
length_of value = if is_length value then Some (digits_value 10 value) else None

-- the number of bytes that the values of `Content-Length` give a body: 0 for none, and no number for two or for one that is no length
abbrev pub body_length : List (List ℕ) → Option ℕ
body_length [] = Some 0
body_length (v ∷ []) = length_of v
body_length (v ∷ w ∷ vs) = None

-- the length once one more value is read: no number for a second value
abbrev pub next_length : Option ℕ → List ℕ → Option ℕ
next_length None v = length_of v
next_length (Some n) v = None

-- the methods that are served
abbrev pub method_of : List ℕ → Option Method
method_of name =
    if same_bytes name (codes "GET") then Some Get else (
    if same_bytes name (codes "HEAD") then Some Head else (
    if same_bytes name (codes "POST") then Some Post else None))

abbrev pub begins_with_slash : List ℕ → Bool
begins_with_slash target = nat_lt 0 (length target) && (slice_index target 0 == 47)

-- the most bytes of a body
abbrev pub most_body : ℕ
most_body = 1048576

-- a request without transfer coding whose body isn't too long
abbrev pub taken_length : Bool → ℕ → Method → Result (Method × ℕ) ℕ
taken_length coded n m = if coded then Err 501 else (if nat_lt most_body n then Err 413 else Ok (m, n))

abbrev pub taken_method : Bool → ℕ → Option Method → Result (Method × ℕ) ℕ
taken_method coded n None = Err 501
taken_method coded n (Some m) = taken_length coded n m

abbrev pub taken_body : Bool → Option Method → Option ℕ → Result (Method × ℕ) ℕ
taken_body coded m None = Err 400
taken_body coded m (Some n) = taken_method coded n m

-- the method of a request and the length of its body, or the status that refuses it: the first that fits of 400 for a target without
-- `/` at its front or a bad length, 501 for a method or a transfer coding that isn't served, and 413 for a body that is too long
unfoldable pub taken : List ℕ → List ℕ → List Pair → Result (Method × ℕ) ℕ
taken method target fields =
    if not (begins_with_slash target) then Err 400 else
    taken_body (has_field transfer_encoding fields) (method_of method) (body_length (values_of content_length fields))
