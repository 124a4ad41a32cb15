-- What stands at the front of a text, worked out byte by byte.
use Rattle.std.specs.Prelude.{◌≡◌, ◌≤◌, ◌<◌, ℕ, suc, ◌+◌, ◌-◌, ◌*◌, Bool, ◌&&◌, ◌||◌, ◌==◌, nat_le, nat_lt}
use Rattle.std.specs.Prelude.{List, [], ◌∷◌, length, take, drop, get_or, if◌then◌else◌, codes}
use Rattle.resin_trace.specs.declared.event.TraceEvent.{TraceEvent}
use Rattle.resin_trace.specs.declared.event.TraceEvent.TheVariants.{Piece, End}
use Rattle.resin_trace.specs.declared.scan.Scan.{Scan}
use Rattle.resin_trace.specs.declared.scan.Scan.TheVariants.{Piece as ScanPiece, End as ScanEnd, Need as ScanNeed, Bad as ScanBad}
use Rattle.resin_trace.specs.declared.scan.Read.{Read}
use Rattle.resin_trace.specs.declared.scan.Read.TheVariants as n

-- a whole record of so many bytes, or none and more bytes can make one, or none ever comes
pub data Found : Type 0 where
  Whole : TraceEvent → ℕ → Found
  Need : Found
  Bad : Found

abbrev pub is_digit : ℕ → Bool
is_digit b = nat_le 48 b && nat_le b 57

abbrev pub digit : ℕ → ℕ
digit b = b - 48

-- after digits that say `value`
abbrev pub digits : ℕ → ℕ → ℕ → List ℕ → Read
digits high value used [] = n.Need
digits high value used (b ∷ bs) =
    if is_digit b
    then (if value == 0 || nat_lt high (10 * value + digit b) then n.Bad else digits high (10 * value + digit b) (suc used) bs)
    else n.Whole value used

abbrev pub number : ℕ → ℕ → List ℕ → Read
number low high [] = n.Need
number low high (b ∷ bs) = if is_digit b && nat_le low (digit b) then digits high (digit b) 1 bs else n.Bad

abbrev pub Within : ℕ → List ℕ → Read → Type 0
Within high text n.Need = Unit {0}
Within high text n.Bad = Unit {0}
Within high text (n.Whole value used) = (value ≤ high) × (used ≤ length text)

abbrev pub end : ℕ → ℕ → List ℕ → List ℕ → Found
end conn at [] text = Whole (End conn) at
end conn at (c ∷ cs) [] = Need
end conn at (c ∷ cs) (b ∷ bs) = if b == c then end conn (suc at) cs bs else Bad

abbrev pub body : ℕ → ℕ → ℕ → List ℕ → Found
body conn count at text =
    if nat_le (length text) count then Need
    else (if get_or text count 0 == 10 then Whole (Piece conn (take count text)) (at + (count + 1)) else Bad)

abbrev pub sized : ℕ → ℕ → ℕ → List ℕ → Found
sized conn count at [] = Need
sized conn count at (b ∷ bs) = if b == 10 then body conn count (at + 1) bs else Bad

-- goes on after a number
abbrev pub after : (ℕ → ℕ → List ℕ → Found) → List ℕ → Read → Found
after f text n.Need = Need
after f text n.Bad = Bad
after f text (n.Whole value used) = f value used (drop used text)

abbrev pub said : ℕ → ℕ → List ℕ → Found
said conn at [] = Need
said conn at (b ∷ bs) =
    if b == 101 then end conn (at + 1) (codes "nd\n") bs
    else after (λ count used. sized conn count (at + used)) (b ∷ bs) (number 0 1048576 (b ∷ bs))

abbrev pub numbered : ℕ → ℕ → List ℕ → Found
numbered conn at [] = Need
numbered conn at (b ∷ bs) = if b == 32 then said conn (at + 1) bs else Bad

abbrev pub front : List ℕ → Found
front text = after numbered text (number 1 1000 text)

-- what the code found says the same; the bytes of a piece stand in the text from one place to another
abbrev pub Shows : List ℕ → Scan → Found → Type 0
Shows text (ScanPiece conn from to) found =
    (found ≡ Whole (Piece conn (take (to - from) (drop from text))) (to + 1)) × (from ≤ to) × (to < length text)
Shows text (ScanEnd conn used) found = (found ≡ Whole (End conn) used) × (used ≤ length text)
Shows text ScanNeed found = found ≡ Need
Shows text ScanBad found = found ≡ Bad
