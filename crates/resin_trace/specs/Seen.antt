-- What a reader has of a trace.
use Rattle.std.specs.Prelude.{ℕ, ◌+◌, ◌-◌, ◌||◌, Bool, false, List, [], ◌++◌, length, take, drop, nat_lt}
use Rattle.resin_trace.specs.Records.{limit}

-- the bytes after the records that were handed out, the place where they begin, and whether bytes past the limit came
pub record Seen : Type 0 where
  pub rest : List ℕ
  pub place : ℕ
  pub over : Bool

-- nothing was fed
abbrev pub begin : Seen
begin = record { rest = []; place = 0; over = false }

-- after one more piece
abbrev pub fed : Seen → List ℕ → Seen
fed s piece = record {
  rest = take (limit - s.place) (s.rest ++ piece);
  place = s.place;
  over = s.over || nat_lt limit (s.place + length (s.rest ++ piece));
}

-- without the first bytes, which are a record that was handed out
abbrev pub taken_off : ℕ → Seen → Seen
taken_off count s = record { rest = drop count s.rest; place = s.place + count; over = s.over }
