-- Which file a request asks for, and of what type it is (this project).
use Rattle.std.specs.Prelude.{ℕ, Bool, ◌==◌, ◌&&◌, ◌||◌, not, nat_eq, List, ◌++◌, length, drop, codes, if◌then◌else◌}
use Rattle.std.specs.List.{before_first, ends_with}
use Rattle.percent_encoding.specs.Percent.{percent_decode}
use Rattle.resin_inputs.specs.Under.bytes.Paths.{is_lawful_path}
use Rattle.resin_http.specs.Head.{same_bytes}

abbrev pub is_question : ℕ → Bool
is_question b = b == 63

-- the path ends with these bytes
abbrev pub has_ending : List ℕ → List ℕ → Bool
has_ending ending path = ends_with nat_eq path ending

-- a path that names a folder means its `index.php`
abbrev pub with_index : List ℕ → List ℕ
with_index path = if (length path == 0) || has_ending (codes "/") path then path ++ codes "index.php" else path

-- the file that a target asks for: what stands before the first `?`, without the first `/`, with its escapes decoded
abbrev pub path_of : List ℕ → List ℕ
path_of target = with_index (percent_decode (drop 1 (before_first is_question target)))

-- the file that runs before each request
abbrev pub boot_path : List ℕ
boot_path = codes "boot.php"

-- a request may ask for the path: it is lawful, and not that of `boot.php`
abbrev pub is_open : List ℕ → Bool
is_open path = is_lawful_path path && not (same_bytes path boot_path)

-- a script, by its name
abbrev pub is_script : List ℕ → Bool
is_script path = has_ending (codes ".php") path

abbrev pub html_kind : List ℕ
html_kind = codes "text/html; charset=UTF-8"

abbrev pub plain_kind : List ℕ
plain_kind = codes "text/plain; charset=UTF-8"

-- the type that the name of a file tells
abbrev pub kind_of : List ℕ → List ℕ
kind_of path =
    if is_script path || has_ending (codes ".html") path || has_ending (codes ".htm") path then html_kind else (
    if has_ending (codes ".txt") path then plain_kind else (
    if has_ending (codes ".css") path then codes "text/css" else (
    if has_ending (codes ".js") path then codes "text/javascript" else codes "application/octet-stream")))
