-- The trace of a sample run: requests on two connections, each cut in half (this project).
use Rattle.std.specs.Prelude.{ℕ, ◌*◌, ◌-◌, ◌/◌, List, ◌++◌, length, take, drop, codes, decimal}
use Rattle.std.specs.List.{flat_map, range_with_len}

-- the request for a page with a number
unfoldable pub request_text : List ℕ → ℕ → List ℕ
request_text page number = codes "GET /" ++ page ++ codes "?n=" ++ decimal number ++ codes " HTTP/1.1\r\nHost: s\r\n\r\n"

-- the first half of a text: half of its length, rounded down
unfoldable pub first_half : List ℕ → List ℕ
first_half text = take (length text / 2) text

-- the rest of it
unfoldable pub second_half : List ℕ → List ℕ
second_half text = drop (length text / 2) text

-- the record of a piece of a connection
unfoldable pub piece_record : ℕ → List ℕ → List ℕ
piece_record conn piece = decimal conn ++ codes " " ++ decimal (length piece) ++ codes "\n" ++ piece ++ codes "\n"

-- one request on connection 1 and one on connection 2, half by half
unfoldable pub by_halves : List ℕ → List ℕ → List ℕ
by_halves one two =
    piece_record 1 (first_half one) ++ piece_record 2 (first_half two) ++ piece_record 1 (second_half one) ++ piece_record 2 (second_half two)

-- the four records for k: the page that writes and the page that reads are asked with the k-th odd number
unfoldable pub records_for : ℕ → List ℕ
records_for k = by_halves (request_text (codes "w.php") (2 * k - 1)) (request_text (codes "r.php") (2 * k - 1))

-- the records for 1, 2 and so on up to n
unfoldable pub trace_text : ℕ → List ℕ
trace_text n = flat_map records_for (range_with_len 1 n)
