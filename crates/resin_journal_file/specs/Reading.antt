-- Reading a journal file from its front, item by item: what a text can be, worked out line by line.
use Rattle.std.specs.Prelude.{ℕ, zero, suc, ◌+◌, ◌-◌, ◌^◌, min, Bool, true, ◌&&◌, not, nat_lt, nat_le, nat_eq}
use Rattle.std.specs.Prelude.{List, [], ◌∷◌, length, take, drop, replicate, get_or, codes, decimal, Option, Some, None, if◌then◌else◌}
use Rattle.std.specs.List.{slice_split, position_or_len, before_first, after_first, list_all, flat_map, zip}
use Rattle.std.specs.Cmp.Lexicographic.{pointwise}
use Rattle.resin_bytes.specs.Numbers.{decimal_value}
use Rattle.resin_label.specs.Sets.{NumberSet}
use Rattle.resin_label.specs.Kept.{of_rising}
use Rattle.resin_lstr.specs.declared.limits.TheConstants.{LONGEST}
use Rattle.resin_lstr.specs.Texts.{Text}
use Rattle.resin_scan.specs.Bytes.{begins_name, is_name_byte}
use Rattle.resin_journal.specs.declared.channel.Channel.{Channel}
use Rattle.resin_journal.specs.declared.channel.Channel.TheVariants.{Http, Header, Email, File, Sql, Code, Input, Func}
use Rattle.resin_journal.specs.declared.event.Event.{Event}
use Rattle.resin_journal.specs.declared.event.Event.TheVariants.{Passed, Sent, Denied, FilterDenied}
use Rattle.resin_journal_file.specs.Files.{event_text, request_line}
use Rattle.resin_journal_file.specs.Limits.{IsNumber, CanBeTold}

-- an item of a file: the line of a request, or an event
pub data Item : Type 0 where
  Request : ℕ → Item
  Happened : Event → Item

abbrev pub item_text : Item → List ℕ
item_text (Request q) = request_line q
item_text (Happened e) = event_text e

-- an item that a file can tell
abbrev pub IsItem : Item → Type 0
IsItem (Request q) = IsNumber q
IsItem (Happened e) = CanBeTold e

-- first one, and then the other, where both can be read
abbrev pub and_then : {A B : Type 0} → Option A → (A → Option B) → Option B
and_then None f = None
and_then (Some a) f = f a

abbrev pub is_text : List ℕ → List ℕ → Bool
is_text = pointwise nat_eq

-- the bytes up to this one, and those behind it
abbrev pub cut : ℕ → List ℕ → Option (List ℕ × List ℕ)
cut c xs =
    if nat_lt (position_or_len (λ b. nat_eq b c) xs) (length xs)
    then Some (before_first (λ b. nat_eq b c) xs, after_first (λ b. nat_eq b c) xs) else None

-- the fields of a line
abbrev pub fields_of : List ℕ → List (List ℕ)
fields_of xs = slice_split (λ b. nat_eq b 32) xs

-- what digits spell, or the largest number of 64 bits where that is larger
abbrev pub value : List ℕ → ℕ
value s = min (decimal_value s) (2 ^ 64 - 1)

-- a number up to the largest that may stand there, written in decimal without a zero in front
abbrev pub number : ℕ → List ℕ → Option ℕ
number most s = if nat_le (value s) most && is_text s (decimal (value s)) then Some (value s) else None

abbrev pub name : List ℕ → Option (List ℕ)
name [] = None
name (b ∷ bs) = if begins_name b && list_all is_name_byte bs then Some (b ∷ bs) else None

abbrev pub channel : List ℕ → Option Channel
channel s =
    if is_text s (codes "http") then Some Http else (if is_text s (codes "header") then Some Header else
    (if is_text s (codes "email") then Some Email else
    (if is_text s (codes "file") then Some File else (if is_text s (codes "sql") then Some Sql else (if is_text s (codes "code") then Some Code else
    (if is_text s (codes "input") then Some Input else (if is_text s (codes "func") then Some Func else None)))))))

-- the largest number of 64 bits, and of 32 bits
abbrev pub LARGEST : ℕ
LARGEST = 2 ^ 64 - 1

abbrev pub LARGEST_OBJECT : ℕ
LARGEST_OBJECT = 2 ^ 32 - 1

abbrev pub objects : List (List ℕ) → Option (List ℕ)
objects [] = Some []
objects (f ∷ fs) = and_then (number LARGEST_OBJECT f) (λ n. and_then (objects fs) (λ ns. Some (n ∷ ns)))

-- each number is below the next
abbrev pub is_rising : List ℕ → Bool
is_rising [] = true
is_rising (n ∷ []) = true
is_rising (n ∷ m ∷ ms) = nat_lt n m && is_rising (m ∷ ms)

-- a run: how many bytes, and the policies that they carry
abbrev pub RunRead : Type 0
RunRead = ℕ × List ℕ

abbrev pub run_of : List (List ℕ) → Option RunRead
run_of [] = None
run_of (f ∷ fs) = and_then (number LONGEST f) (λ len. and_then (objects fs) (λ ps. if is_rising ps then Some (len, ps) else None))

-- so many lines of runs, and what is behind them
abbrev pub runs : ℕ → List ℕ → Option (List RunRead × List ℕ)
runs zero xs = Some ([], xs)
runs (suc count) xs =
    and_then (cut 10 xs) (λ l. and_then (run_of (fields_of l.0)) (λ run. and_then (runs count l.1) (λ rest. Some (run ∷ rest.0, rest.1))))

abbrev pub total : List RunRead → ℕ
total [] = 0
total (r ∷ rs) = r.0 + total rs

-- these policies aren't those of the run before, if there is one
abbrev pub differs : Option (List ℕ) → List ℕ → Bool
differs None ps = true
differs (Some qs) ps = not (is_text qs ps)

-- no run is empty, and none has the policies of the run before
abbrev pub is_coalesced : Option (List ℕ) → List RunRead → Bool
is_coalesced before [] = true
is_coalesced before (r ∷ rs) = nat_lt 0 r.0 && differs before r.1 && is_coalesced (Some r.1) rs

abbrev pub sets : List RunRead → List NumberSet
sets rs = flat_map (λ r. replicate r.0 (of_rising r.1)) rs

-- so many bytes and a newline, and what is behind them
abbrev pub bytes : ℕ → List ℕ → Option (List ℕ × List ℕ)
bytes len xs = if nat_lt len (length xs) && nat_eq (get_or xs len 0) 10 then Some (take len xs, drop (len + 1) xs) else None

-- the labelled text behind the line that tells its length and how many runs it has
abbrev pub labelled : ℕ → ℕ → List ℕ → Option (Text × List ℕ)
labelled len count xs =
    and_then (runs count xs) (λ rs.
    if is_coalesced None rs.0 && nat_eq (total rs.0) len then and_then (bytes len rs.1) (λ bs. Some (zip bs.0 (sets rs.0), bs.1)) else None)

-- the next field as something, and the fields behind it
abbrev pub next_as : {A : Type 0} → (List ℕ → Option A) → List (List ℕ) → Option (A × List (List ℕ))
next_as read [] = None
next_as read (f ∷ fs) = and_then (read f) (λ a. Some (a, fs))

abbrev pub next_number : ℕ → List (List ℕ) → Option (ℕ × List (List ℕ))
next_number most = next_as (number most)

abbrev pub next_object : List (List ℕ) → Option (ℕ × List (List ℕ))
next_object = next_as (number LARGEST_OBJECT)

abbrev pub next_channel : List (List ℕ) → Option (Channel × List (List ℕ))
next_channel = next_as channel

abbrev pub next_name : List (List ℕ) → Option (List ℕ × List (List ℕ))
next_name = next_as name

-- what was read, where no field is left
abbrev pub at_end : {A : Type 0} → A → List (List ℕ) → Option A
at_end a [] = Some a
at_end a (f ∷ fs) = None

abbrev pub request : List (List ℕ) → Option Item
request fs = and_then (next_number LARGEST fs) (λ q. at_end (Request q.0) q.1)

abbrev pub passed : List (List ℕ) → Option Item
passed fs = and_then (next_number LARGEST fs) (λ w. and_then (next_object w.1) (λ p. at_end (Happened (Passed w.0 p.0)) p.1))

abbrev pub denied : List (List ℕ) → Option Item
denied fs =
    and_then (next_number LARGEST fs) (λ w. and_then (next_channel w.1) (λ c. and_then (next_object c.1) (λ p. and_then (next_name p.1) (λ class.
    and_then (next_number LARGEST class.1) (λ from. and_then (next_number LARGEST from.1) (λ to. and_then (next_name to.1) (λ by.
    at_end (Happened (Denied w.0 c.0 p.0 class.0 from.0 to.0 by.0)) by.1)))))))

abbrev pub filter : List (List ℕ) → Option Item
filter fs =
    and_then (next_number LARGEST fs) (λ w. and_then (next_channel w.1) (λ c. and_then (next_object c.1) (λ f. and_then (next_name f.1) (λ class.
    and_then (next_number LARGEST class.1) (λ len. and_then (next_name len.1) (λ by.
    at_end (Happened (FilterDenied w.0 c.0 f.0 class.0 len.0 by.0)) by.1))))))

-- what the line of a text that went out tells: its write, its channel, how many bytes it has, and how many runs
pub record Heading : Type 0 where
  pub write : ℕ
  pub channel : Channel
  pub len : ℕ
  pub count : ℕ

abbrev pub heading : List (List ℕ) → Option Heading
heading fs =
    and_then (next_number LARGEST fs) (λ w. and_then (next_channel w.1) (λ c. and_then (next_number LONGEST c.1) (λ len.
    and_then (next_number LARGEST len.1) (λ count.
    at_end (record { write = w.0; channel = c.0; len = len.0; count = count.0 }) count.1))))

abbrev pub sent : List (List ℕ) → List ℕ → Option (Item × List ℕ)
sent fs xs = and_then (heading fs) (λ h. and_then (labelled h.len h.count xs) (λ t. Some (Happened (Sent h.write h.channel t.0), t.1)))

-- what a line says by itself: the first field, and the others
abbrev pub told : List ℕ → List (List ℕ) → Option Item
told verb fs =
    if is_text verb (codes "request") then request fs else (if is_text verb (codes "passed") then passed fs else
    (if is_text verb (codes "denied") then denied fs else (if is_text verb (codes "filter") then filter fs else None)))

-- what the fields of a line say, with the bytes behind it
abbrev pub said : List (List ℕ) → List ℕ → Option (Item × List ℕ)
said [] xs = None
said (verb ∷ fs) xs = if is_text verb (codes "sent") then sent fs xs else and_then (told verb fs) (λ i. Some (i, xs))

-- the item at the front of a text, and what is behind it
abbrev pub item : List ℕ → Option (Item × List ℕ)
item xs = and_then (cut 10 xs) (λ l. said (fields_of l.0) l.1)
