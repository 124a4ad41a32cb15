-- Integers in four bases, from the PHP manual, and code points in hexadecimal.
use Rattle.std.specs.Prelude.{◌≡◌, ℕ, ◌+◌, ◌*◌, ◌^◌, ◌<◌, Bool, false, ◌&&◌, ◌||◌, ◌==◌, nat_lt}
use Rattle.std.specs.Prelude.{List, [], ◌∷◌, length, take, drop, Option, Some, None, if◌then◌else◌}
use Rattle.std.specs.List.{prefix_len, fold}
use Rattle.resin_scan.specs.Bytes.{byte, digit, is_hexadecimal}
use Rattle.resin_scan.specs.Lists.{NotBefore, Every}

-- the number that digits of a base stand for
abbrev pub number_of : ℕ → List ℕ → ℕ
number_of base ds = fold (λ v d. base * v + digit d) 0 ds

-- digits of this base, one at least, and the number that they stand for
abbrev pub IsNumber : ℕ → List ℕ → ℕ → Type 0
IsNumber base ds n = (0 < length ds) × Every (λ d. nat_lt (digit d) base) ds × (n ≡ number_of base ds)

-- `IsInteger w rest n`: w is an integer of value n where rest follows. A point behind decimal or octal digits makes a
-- float form, which is no integer.
pub data IsInteger : List ℕ → List ℕ → ℕ → Type 0 where
  decimal : {d : ℕ} {ds rest : List ℕ} {n : ℕ} → (d == 48) ≡ false → IsNumber 10 (d ∷ ds) n → NotBefore (λ b. b == 46) rest
      → IsInteger (d ∷ ds) rest n
  octal : {ds rest : List ℕ} {n : ℕ} → IsNumber 8 (48 ∷ ds) n → NotBefore (λ b. b == 46) rest → IsInteger (48 ∷ ds) rest n
  hexadecimal : {ds rest : List ℕ} {n : ℕ} → IsNumber 16 ds n → IsInteger (48 ∷ 120 ∷ ds) rest n
  binary : {ds rest : List ℕ} {n : ℕ} → IsNumber 2 ds n → IsInteger (48 ∷ 98 ∷ ds) rest n

-- One more digit, where the digit is of the base and the number stays below the limit.
abbrev pub with_digit : ℕ → ℕ → ℕ → ℕ → Option ℕ
with_digit base limit n d = if nat_lt d base && nat_lt (base * n + d) limit then Some (base * n + d) else None

abbrev pub value_on : ℕ → ℕ → Option ℕ → List ℕ → Option ℕ
value_on base limit None ds = None
value_on base limit (Some n) [] = Some n
value_on base limit (Some n) (d ∷ ds) = value_on base limit (with_digit base limit n (digit d)) ds

-- digits of a base read on from the number n
abbrev pub value : ℕ → ℕ → ℕ → List ℕ → Option ℕ
value base limit n ds = value_on base limit (Some n) ds

-- digits of a base, one at least, as a number below a limit
abbrev pub digits : ℕ → ℕ → List ℕ → Option ℕ
digits base limit ds = if length ds == 0 then None else value base limit 0 ds

-- `0x` or `0b` in front
abbrev pub is_prefixed : List ℕ → Bool
is_prefixed xs = byte xs 0 == 48 && (byte xs 1 == 120 || byte xs 1 == 98)

-- an integer literal as a number below 2 ^ 63
abbrev pub integer : List ℕ → Option ℕ
integer xs =
    if byte xs 0 == 48 then (if byte xs 1 == 120 then digits 16 (2 ^ 63) (drop 2 xs) else
    (if byte xs 1 == 98 then digits 2 (2 ^ 63) (drop 2 xs) else digits 8 (2 ^ 63) xs))
    else digits 10 (2 ^ 63) xs

-- a number and how many digits it has
abbrev pub with_len : ℕ → Option ℕ → Option (ℕ × ℕ)
with_len n None = None
with_len n (Some v) = Some (v, n)

-- the code point of hexadecimal digits in front of `}`, and how many digits it has
unfoldable pub code_point : List ℕ → Option (ℕ × ℕ)
code_point xs = let n = prefix_len is_hexadecimal xs in if byte xs n == 125 then with_len n (digits 16 0x110000 (take n xs)) else None
