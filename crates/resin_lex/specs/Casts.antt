-- A cast is one token: `(`, spaces or tabs, a word, spaces or tabs, `)`.
use Rattle.std.specs.Prelude.{ℕ, ◌+◌, ◌==◌, List, take, drop, Option, Some, None, if◌then◌else◌}
use Rattle.std.specs.List.{prefix_len}
use Rattle.resin_scan.specs.Bytes.{byte, is_space, is_name_byte}
use Rattle.resin_scan.specs.Words.{cast_of}
use Rattle.resin_scan.specs.declared.words.Cast.{Cast}

abbrev pub cast_within : Option Cast → ℕ → ℕ → Option (Cast × ℕ)
cast_within None b n = None
cast_within (Some cast) b n = if b == 41 then Some (cast, n + 1) else None

-- the cast whose `(` stands before this text, and the length of the rest of the cast
unfoldable pub cast_behind : List ℕ → Option (Cast × ℕ)
cast_behind xs =
    let start = prefix_len is_space xs in
    let word = prefix_len is_name_byte (drop start xs) in
    let end = start + word + prefix_len is_space (drop (start + word) xs) in
    cast_within (cast_of (take word (drop start xs))) (byte xs end) end
