-- What scripts see of a request: `$_GET`, `$_POST`, `$_COOKIE` and `$_SERVER` (PHP manual, "Predefined Variables").
use Rattle.std.specs.Prelude.{ℕ, Bool, false, ◌&&◌, ◌==◌, List, length, take, codes, if◌then◌else◌, Option, Some, None, find}
use Rattle.std.specs.List.{after_first}
use Rattle.resin_value.specs.Under.bytes.declared.header.Header.{Header}
use Rattle.resin_value.specs.Keys.{text_key}
use Rattle.resin_value.specs.Arrays.{Array}
use Rattle.resin_value.specs.Changes.{put, empty}
use Rattle.resin_inputs.specs.declared.arrays.InputArrays.{InputArrays}
use Rattle.resin_inputs.specs.Names.{same_bytes, is_named}
use Rattle.resin_inputs.specs.Forms.{plain, form_array}
use Rattle.resin_inputs.specs.Cookies.{cookie_array}

abbrev pub is_question : ℕ → Bool
is_question b = b == 63

-- what stands after the first `?`
abbrev pub query_of : List ℕ → List ℕ
query_of target = after_first is_question target

abbrev pub form_type : List ℕ
form_type = codes "application/x-www-form-urlencoded"

-- the value begins with the type of a form, whatever the case of ASCII letters and whatever follows
abbrev pub is_form : List ℕ → Bool
is_form value = is_named form_type (take (length form_type) value)

abbrev pub is_form_field : Option Header → Bool
is_form_field None = false
is_form_field (Some field) = is_form field.value

-- the first `Content-Type` is that of a form
abbrev pub tells_form : List Header → Bool
tells_form fields = is_form_field (find (λ (f : Header). is_named (codes "content-type") f.name) fields)

-- the body is a form
abbrev pub has_form : List ℕ → List Header → Bool
has_form method fields = same_bytes method (codes "POST") && tells_form fields

abbrev pub post_array : List ℕ → List Header → List ℕ → Array
post_array method fields body = if has_form method fields then form_array body else empty

-- an array with a text under a name
abbrev pub put_text : List ℕ → List ℕ → Array → Array
put_text name value a = put (text_key name) (plain value) a

-- `REQUEST_METHOD`, `REQUEST_URI`, which is the target, and `QUERY_STRING`
abbrev pub server_array : List ℕ → List ℕ → Array
server_array method target =
    put_text (codes "QUERY_STRING") (query_of target) (
    put_text (codes "REQUEST_URI") target (
    put_text (codes "REQUEST_METHOD") method empty))

-- the arrays of a request with this method, target, fields and body
abbrev pub input_arrays : List ℕ → List ℕ → List Header → List ℕ → InputArrays
input_arrays method target fields body = record {
  get = form_array (query_of target);
  post = post_array method fields body;
  cookie = cookie_array fields;
  server = server_array method target;
}
