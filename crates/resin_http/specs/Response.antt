-- The text of a response (RFC 9112, with this project's choice of headers).
use Rattle.std.specs.Prelude.{ℕ, Bool, ◌&&◌, nat_lt, nat_le, List, [], ◌++◌, length, if◌then◌else◌, codes, decimal, unwrap_or}
use Rattle.std.specs.List.{flat_map, list_any}
use Rattle.http.specs.StatusCode.{reason_phrase}
use Rattle.resin_inputs.specs.Under.bytes.declared.header.Header.{Header}
use Rattle.resin_inputs.specs.Names.{is_named}

-- the canonical phrase of a status, empty where it has none
unfoldable pub phrase_of : ℕ → List ℕ
phrase_of status = if nat_le 100 status && nat_lt status 1000 then unwrap_or (reason_phrase status) [] else []

abbrev pub line_end : List ℕ
line_end = codes "\r\n"

abbrev pub status_line : ℕ → List ℕ
status_line status = codes "HTTP/1.1 " ++ decimal status ++ codes " " ++ phrase_of status ++ line_end

-- the script set the type of its answer
abbrev pub has_type : List Header → Bool
has_type headers = list_any (λ (h : Header). is_named (codes "content-type") h.name) headers

abbrev pub kind_line : List ℕ → List ℕ
kind_line kind = codes "Content-Type: " ++ kind ++ line_end

-- the type is told once: by the script's headers, or else by this line
abbrev pub type_line : List Header → List ℕ → List ℕ
type_line headers kind = if has_type headers then [] else kind_line kind

abbrev pub header_line : Header → List ℕ
header_line h = h.name ++ codes ": " ++ h.value ++ line_end

abbrev pub length_line : ℕ → List ℕ
length_line n = codes "Content-Length: " ++ decimal n ++ line_end

-- what stands before the body: the status, the type where no header tells it, the headers in order, the body's length and an empty line
unfoldable pub response_head : ℕ → List Header → List ℕ → ℕ → List ℕ
response_head status headers kind length =
    status_line status ++ type_line headers kind ++ flat_map header_line headers ++ length_line length ++ line_end

-- the body, unless only the head is wanted
abbrev pub shown_body : Bool → List ℕ → List ℕ
shown_body head_only body = if head_only then [] else body

-- the head, with the length of the body, and the body unless only the head is wanted
unfoldable pub response : ℕ → List Header → List ℕ → List ℕ → Bool → List ℕ
response status headers kind body head_only = response_head status headers kind (length body) ++ shown_body head_only body
