-- What the bytes between quotes stand for, from the PHP manual.
use Rattle.std.specs.Prelude.{◌≡◌, ◌<◌, ◌≤◌, ℕ, zero, suc, ◌+◌, ◌-◌, ◌*◌, ◌/◌, ◌%◌, Bool, true, false, ◌&&◌, ◌||◌, ◌⊎◌, ◌==◌, nat_lt}
use Rattle.std.specs.Prelude.{List, [], ◌∷◌, ◌++◌, length, take, drop, min, Option, Some, None, is_some, if◌then◌else◌}
use Rattle.std.specs.List.{prefix_len, fold}
use Rattle.resin_scan.specs.Bytes.{byte, digit, is_octal, is_hexadecimal}
use Rattle.resin_scan.specs.Lists.{NotBefore, Every}
use Rattle.resin_scan.specs.Numbers.{IsNumber}
use Rattle.resin_scan.specs.Numbers as numbers
use Rattle.resin_scan.specs.declared.escapes.Quoting.{Quoting}
use Rattle.resin_scan.specs.declared.escapes.Quoting.TheVariants as q
use Rattle.resin_scan.specs.declared.escapes.Meaning.{Meaning}
use Rattle.resin_scan.specs.declared.escapes.Meaning.TheVariants as m
use Rattle.resin_scan.specs.declared.escapes.Piece.{Piece}

abbrev pub code_point : List ℕ → Option (ℕ × ℕ)
code_point = numbers.code_point

-- the byte that a letter behind a backslash stands for in double quotes: \n \r \t \v \e \f \\ \$ \"
abbrev pub letter : ℕ → Option ℕ
letter b =
    if b == 110 then Some 10 else (if b == 114 then Some 13 else (if b == 116 then Some 9 else
    (if b == 118 then Some 11 else (if b == 101 then Some 27 else (if b == 102 then Some 12 else
    (if b == 92 then Some 92 else (if b == 36 then Some 36 else (if b == 34 then Some 34 else None))))))))

-- the value of digits, modulo 256
abbrev pub byte_value : ℕ → List ℕ → ℕ
byte_value base = fold (λ v d. (base * v + digit d) % 256) 0

-- a code point in UTF-8; a surrogate is written as three bytes
abbrev pub utf8 : ℕ → List ℕ
utf8 v =
    if nat_lt v 128 then v ∷ [] else
    (if nat_lt v 2048 then (192 + v / 64) ∷ (128 + v % 64) ∷ [] else
    (if nat_lt v 65536 then (224 + v / 4096) ∷ (128 + v / 64 % 64) ∷ (128 + v % 64) ∷ [] else
    (240 + v / 262144) ∷ (128 + v / 4096 % 64) ∷ (128 + v / 64 % 64) ∷ (128 + v % 64) ∷ []))

abbrev pub bytes_of : Meaning → List ℕ
bytes_of (m.Byte b) = b ∷ []
bytes_of (m.Point v) = utf8 v

abbrev pub IsSmall : Meaning → Type 0
IsSmall (m.Byte b) = b < 256
IsSmall (m.Point v) = v < 0x110000

-- digits of a kind, one at least and so many at most, and as many as there are up to that
pub record IsRun (p : ℕ → Bool) (most : ℕ) (ds rest : List ℕ) : Type 0 where
  pub some : 0 < length ds
  pub few : length ds ≤ most
  pub digits : Every p ds
  pub longest : (length ds ≡ most) ⊎ NotBefore p rest

-- whether a backslash before these bytes begins an escape of double quotes
abbrev pub begins_escape : List ℕ → Bool
begins_escape xs =
    is_octal (byte xs 0) || ((byte xs 0 == 120 && is_hexadecimal (byte xs 1))
    || ((byte xs 0 == 117 && (byte xs 1 == 123 && is_some (code_point (drop 2 xs)))) || is_some (letter (byte xs 0))))

-- `Means q w rest ys`: in such quotes the bytes w stand for ys, where rest follows.
pub data Means : Quoting → List ℕ → List ℕ → List ℕ → Type 0 where
  plain : {q : Quoting} {b : ℕ} {rest : List ℕ} → (b == 92) ≡ false → Means q (b ∷ []) rest (b ∷ [])
  -- single quotes know `\\` and `\'`; other backslashes stay
  quoted : {c : ℕ} {rest : List ℕ} → (c == 92 || c == 39) ≡ true → Means q.Single (92 ∷ c ∷ []) rest (c ∷ [])
  single_stays : {rest : List ℕ} → NotBefore (λ c. c == 92 || c == 39) rest → Means q.Single (92 ∷ []) rest (92 ∷ [])
  -- double quotes know letters, one to three octal digits (the value modulo 256), `x` with one or two hexadecimal digits
  -- and `u{h}` up to 10FFFF; other backslashes stay
  lettered : {c b : ℕ} {rest : List ℕ} → letter c ≡ Some b → Means q.Double (92 ∷ c ∷ []) rest (b ∷ [])
  octal : {ds rest : List ℕ} → IsRun is_octal 3 ds rest → Means q.Double (92 ∷ ds) rest (byte_value 8 ds ∷ [])
  hexadecimal : {ds rest : List ℕ} → IsRun is_hexadecimal 2 ds rest → Means q.Double (92 ∷ 120 ∷ ds) rest (byte_value 16 ds ∷ [])
  point : (ds rest : List ℕ) (v : ℕ) → IsNumber 16 ds v → v < 0x110000 → Means q.Double (92 ∷ 117 ∷ 123 ∷ ds ++ (125 ∷ [])) rest (utf8 v)
  double_stays : {rest : List ℕ} → begins_escape rest ≡ false → Means q.Double (92 ∷ []) rest (92 ∷ [])

-- `Spells q xs ys`: the bytes xs between such quotes stand for the text ys, piece by piece.
pub data Spells (q : Quoting) : List ℕ → List ℕ → Type 0 where
  done : Spells q [] []
  more : {xs ys : List ℕ} → (w rest head tail : List ℕ) → xs ≡ w ++ rest → ys ≡ head ++ tail → Means q w rest head
      → Spells q rest tail → Spells q xs ys

-- The first piece, as a function of the text.
abbrev pub byte_piece : ℕ → ℕ → Piece
byte_piece n b = record { taken = n; meaning = m.Byte b }

abbrev pub point_piece : Option (ℕ × ℕ) → Piece
point_piece None = byte_piece 1 92
point_piece (Some p) = record { taken = 4 + p.1; meaning = m.Point p.0 }

abbrev pub letter_piece : Option ℕ → Piece
letter_piece None = byte_piece 1 92
letter_piece (Some b) = byte_piece 2 b

-- the piece that begins with a backslash, where these bytes follow it
unfoldable pub escape_piece : List ℕ → Piece
escape_piece xs =
    if is_octal (byte xs 0) then (let n = min (prefix_len is_octal xs) 3 in byte_piece (1 + n) (byte_value 8 (take n xs))) else
    (if byte xs 0 == 120 && is_hexadecimal (byte xs 1)
    then (let n = min (prefix_len is_hexadecimal (drop 1 xs)) 2 in byte_piece (2 + n) (byte_value 16 (take n (drop 1 xs)))) else
    (if byte xs 0 == 117 && byte xs 1 == 123 then point_piece (code_point (drop 2 xs)) else letter_piece (letter (byte xs 0))))

abbrev pub first_piece : Quoting → List ℕ → Piece
first_piece q.Single xs =
    if byte xs 0 == 92 then (if byte xs 1 == 92 || byte xs 1 == 39 then byte_piece 2 (byte xs 1) else byte_piece 1 92)
    else byte_piece 1 (byte xs 0)
first_piece q.Double xs = if byte xs 0 == 92 then escape_piece (drop 1 xs) else byte_piece 1 (byte xs 0)

-- what a text stands for, where so many bytes are to be passed over first
abbrev pub worked_on : Quoting → ℕ → List ℕ → List ℕ
worked_on q k [] = []
worked_on q (suc k) (b ∷ xs) = worked_on q k xs
worked_on q zero (b ∷ xs) = let p = first_piece q (b ∷ xs) in bytes_of p.meaning ++ worked_on q (p.taken - 1) xs

abbrev pub worked : Quoting → List ℕ → List ℕ
worked q = worked_on q 0
