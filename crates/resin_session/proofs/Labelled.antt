-- Labelled bytes at the front of a text are read back, and nothing else is read as they.
use Rattle.std.proofs.Common.{◌≡◌, ℕ, zero, suc, ◌+◌, ◌-◌, ◌^◌, ◌<◌, ◌≤◌, Bool, true, false, cond, List, [], ◌∷◌, ◌++◌, length, take, drop, Option, Some, None, refl, sym, ap, ◌∙◌, arith, append_assoc, length-append}
use lib.Signed.{mag}
use Rattle.std.specs.Prelude.{not, nat_eq, nat_le, nat_lt, ℤ, pos, negsuc, decimal}
use Rattle.std.specs.Fmt.{signed_decimal}
use Rattle.std.specs.List.{list_all, position, position_or_len}
use Rattle.std.specs.Str.{all_ascii_digits}
use Rattle.std.specs.Cmp.Lexicographic.{pointwise}
use Rattle.std.proofs.lemmas.Str.Parse.{tells_all_ascii_digits, numerals_by_value}
use Rattle.std.proofs.lemmas.Fmt.{digits_decimal, decimal_nonempty}
use Rattle.std.proofs.lemmas.List.{map-append, length-map, take_at, drop_at, take_rest, length-take-le, take-append-drop}
use Rattle.std.proofs.lemmas.Bool.Decides.{nat_tests}
use Rattle.resin_value.specs.Under.bytes.Canonical.{canonical_integer}
use Rattle.resin_value.specs.Under.label.Sets.{NumberSet, same, numbers, empty as no_labels}
use Rattle.resin_value.specs.Under.lstr.Texts.{Text, bytes_of, sets_of, carrying}
use Rattle.resin_value.proofs.label_lemmas.Members.{same-decides}
use Rattle.resin_value.specs.Trees.{Tree, integer}
use Rattle.resin_session.specs.Reading.{and_then, is_plain, one_set, taken, plain, byte, until, natural, count, number}
use Rattle.resin_session.proofs.Basics.{and_left, and_right, both, text_same, text_is, le_true, lt_true, from_some, none_some, some_if, bound, on}
use Rattle.resin_session.proofs.Canonical.{canonical-signed, canonical_read}

-- ---- bytes with one set
pub carrying-append : (s : NumberSet) (xs ys : List ℕ) → carrying s (xs ++ ys) ≡ carrying s xs ++ carrying s ys
carrying-append s xs ys = map-append (λ b. (b, s)) xs ys

pub bytes_carrying : (s : NumberSet) (w : List ℕ) → bytes_of (carrying s w) ≡ w
bytes_carrying s [] = refl
bytes_carrying s (b ∷ w) = ap (λ v. b ∷ v) (bytes_carrying s w)

pub length_carrying : (s : NumberSet) (w : List ℕ) → length (carrying s w) ≡ length w
length_carrying s [] = refl
length_carrying s (b ∷ w) = ap suc (length_carrying s w)

all_same : (s : NumberSet) (w : List ℕ) → list_all (λ u. same s u) (sets_of (carrying s w)) ≡ true
all_same s [] = refl
all_same s (b ∷ w) = both _ _ (text_same (numbers s)) (all_same s w)

same_all : (s : NumberSet) (t : Text) → list_all (λ u. same s u) (sets_of t) ≡ true → t ≡ carrying s (bytes_of t)
same_all s [] h = refl
same_all s (p ∷ t) h =
    let is : s ≡ p.1 = (same-decides s p.1).0 (and_left (same s p.1) (list_all (λ u. same s u) (sets_of t)) h) in
    ap (λ u. (p.0, u) ∷ t) (sym is) ∙ ap (λ v. (p.0, s) ∷ v) (same_all s t (and_right (same s p.1) (list_all (λ u. same s u) (sets_of t)) h))

pub one_set-carrying : (s : NumberSet) (b : ℕ) (w : List ℕ) → one_set (sets_of (carrying s (b ∷ w))) ≡ Some s
one_set-carrying s b w = ap (λ c. cond c (Some s) None) (all_same s w)

pub one_set_read : (t : Text) (s : NumberSet) → one_set (sets_of t) ≡ Some s → t ≡ carrying s (bytes_of t)
one_set_read [] s e = absurd (none_some s e)
one_set_read (p ∷ t) s e =
    let h = some_if (list_all (λ u. same p.1 u) (sets_of t)) p.1 s e in
    ap (λ v. p ∷ v) (same_all p.1 t h.0) ∙ ap (λ u. carrying u (bytes_of (p ∷ t))) h.1

-- ---- so many bytes
pub taken-front : (n : ℕ) (p rest : Text) → length p ≡ n → taken n (p ++ rest) ≡ Some (p, rest)
unfolding taken
taken-front n p rest e =
    ap (λ b. cond b (Some (take n (p ++ rest), drop n (p ++ rest))) None) (le_true n (length (p ++ rest)) (let l = length-append p rest in omega (arith, l, e)))
    ∙ ap (λ v. Some (v, drop n (p ++ rest))) (take_at p rest n e) ∙ ap (λ v. Some (p, v)) (drop_at p rest n e)

pub taken_read : (n : ℕ) (xs p rest : Text) → taken n xs ≡ Some (p, rest) → (xs ≡ p ++ rest) × (length p ≡ n)
unfolding taken
taken_read n xs p rest e =
    let h = some_if (nat_le n (length xs)) (take n xs, drop n xs) (p, rest) e in
    let le : n ≤ length xs = let t : nat_le n (length xs) ≡ true = h.0 in grind (arith, nat_tests) in
    (sym (take-append-drop n xs) ∙ ap (λ q. q.0 ++ q.1) h.1, ap (λ q. length q.0) (sym h.1) ∙ length-take-le n xs le)

pub plain-front : (w : List ℕ) (rest : Text) → plain (length w) (carrying no_labels w ++ rest) ≡ Some (w, rest)
unfolding plain
plain-front w rest =
    on (λ t. cond (is_plain t.0) (Some (bytes_of t.0, t.1)) None) (taken-front (length w) (carrying no_labels w) rest (length_carrying no_labels w))
    ∙ ap (λ b. cond b (Some (bytes_of (carrying no_labels w), rest)) None) (all_same no_labels w) ∙ ap (λ v. Some (v, rest)) (bytes_carrying no_labels w)

pub plain_read : (n : ℕ) (xs : Text) (w : List ℕ) (rest : Text) → plain n xs ≡ Some (w, rest) → (xs ≡ carrying no_labels w ++ rest) × (length w ≡ n)
unfolding plain
plain_read n xs w rest e =
    let t = bound (taken n xs) (λ t. cond (is_plain t.0) (Some (bytes_of t.0, t.1)) None) (w, rest) e in
    let h = some_if (is_plain t.0.0) (bytes_of t.0.0, t.0.1) (w, rest) t.2 in
    let r = taken_read n xs t.0.0 t.0.1 t.1 in
    let back : t.0.0 ≡ carrying no_labels (bytes_of t.0.0) = same_all no_labels t.0.0 h.0 in
    let short : length t.0.0 ≡ length (bytes_of t.0.0) = ap length back ∙ length_carrying no_labels (bytes_of t.0.0) in (
      r.0 ∙ ap (λ p. p ++ t.0.1) back ∙ ap (λ q. carrying no_labels q.0 ++ q.1) h.1,
      ap (λ q. length q.0) (sym h.1) ∙ sym short ∙ r.1,
    )

-- what is read where the bytes are known
pub plain_gives : (n : ℕ) (xs piece new : Text) (bs : List ℕ) → bs ≡ bytes_of xs → taken n xs ≡ Some (piece, new) → is_plain piece ≡ true → plain n xs ≡ Some (take n bs, new)
unfolding plain
plain_gives n xs piece new bs b e h =
    let r = taken_read n xs piece new e in
    let front : take n bs ≡ bytes_of piece =
    ap (take n) (b ∙ ap bytes_of r.0 ∙ map-append (λ p. p.0) piece new) ∙ take_at (bytes_of piece) (bytes_of new) n (length-map piece (λ p. p.0) ∙ r.1) in
    on (λ t. cond (is_plain t.0) (Some (bytes_of t.0, t.1)) None) e ∙ ap (λ c. cond c (Some (bytes_of piece, new)) None) h ∙ ap (λ v. Some (v, new)) (sym front)

pub bytes_enough : (n : ℕ) (xs piece new : Text) (bs : List ℕ) → bs ≡ bytes_of xs → taken n xs ≡ Some (piece, new) → n ≤ length bs
bytes_enough n xs piece new bs b e =
    let r = taken_read n xs piece new e in
    let l = ap length b ∙ length-map xs (λ p. p.0) in
    let m = ap length r.0 ∙ length-append piece new in
    omega (arith, l, m, r.1)

drop_bytes : (n : ℕ) (t : Text) → drop n (bytes_of t) ≡ bytes_of (drop n t)
drop_bytes zero t = refl
drop_bytes (suc n) [] = refl
drop_bytes (suc n) (p ∷ t) = drop_bytes n t

-- the bytes that are left behind a place
pub left_bytes : (at : ℕ) (t xs : Text) (bs : List ℕ) → bs ≡ bytes_of t → drop at t ≡ xs → take (length bs - at) (drop at bs) ≡ bytes_of xs
left_bytes at t xs bs b e = take_rest bs at ∙ ap (drop at) b ∙ drop_bytes at t ∙ ap bytes_of e

-- ---- this byte
pub byte-front : (c : ℕ) (rest : Text) → byte c (carrying no_labels (c ∷ []) ++ rest) ≡ Some (tt, rest)
unfolding byte
byte-front c rest =
    on (λ w. cond (pointwise nat_eq w.0 (c ∷ [])) (Some (tt, w.1)) None) (plain-front (c ∷ []) rest) ∙ ap (λ b. cond b (Some (tt, rest)) None) (text_same (c ∷ []))

pub byte_read : (c : ℕ) (xs : Text) (u : Unit {0}) (rest : Text) → byte c xs ≡ Some (u, rest) → xs ≡ carrying no_labels (c ∷ []) ++ rest
unfolding byte
byte_read c xs u rest e =
    let w = bound (plain 1 xs) (λ w. cond (pointwise nat_eq w.0 (c ∷ [])) (Some (tt, w.1)) None) (u, rest) e in
    let h = some_if (pointwise nat_eq w.0.0 (c ∷ [])) (tt, w.0.1) (u, rest) w.2 in
    (plain_read 1 xs w.0.0 w.0.1 w.1).0 ∙ ap (λ v. carrying no_labels v ++ w.0.1) (text_is w.0.0 (c ∷ []) h.0) ∙ ap (λ q. carrying no_labels (c ∷ []) ++ q.1) h.1

-- ---- bytes up to one
-- without the byte
abbrev pub lacks : ℕ → List ℕ → Bool
lacks c xs = list_all (λ b. not (nat_eq b c)) xs

place : (c : ℕ) (w ys : List ℕ) → lacks c w ≡ true → position_or_len (λ b. nat_eq b c) (w ++ c ∷ ys) ≡ length w
place c [] ys h = let e : nat_eq c c ≡ true = grind (arith, nat_tests) in ap (λ b. cond (not b) (1 + position_or_len (λ b. nat_eq b c) ys) 0) e
place c (x ∷ w) ys h =
    let no = and_left (not (nat_eq x c)) (lacks c w) h in
    let one : 1 + length w ≡ suc (length w) = omega arith in
    ap (λ b. cond b (1 + position_or_len (λ b. nat_eq b c) (w ++ c ∷ ys)) 0) no ∙ ap (λ n. 1 + n) (place c w ys (and_right (not (nat_eq x c)) (lacks c w) h)) ∙ one

longer : (xs : List ℕ) (c : ℕ) (ys : List ℕ) → length xs < length (xs ++ c ∷ ys)
longer xs c ys = let l = length-append xs (c ∷ ys) in omega (arith, l)

placed : (c : ℕ) (w ys : List ℕ) → lacks c w ≡ true → position (λ b. nat_eq b c) (w ++ c ∷ ys) ≡ Some (length w)
placed c w ys h =
    ap (λ n. cond (nat_lt n (length (w ++ c ∷ ys))) (Some n) None) (place c w ys h) ∙ ap (λ b. cond b (Some (length w)) None) (lt_true (length w) (length (w ++ c ∷ ys)) (longer w c ys))

-- the bytes, and the one behind them
two_parts : (c : ℕ) (w : List ℕ) (rest : Text) → carrying no_labels (w ++ c ∷ []) ++ rest ≡ carrying no_labels w ++ (carrying no_labels (c ∷ []) ++ rest)
two_parts c w rest = ap (λ p. p ++ rest) (carrying-append no_labels w (c ∷ [])) ∙ append_assoc (carrying no_labels w) (carrying no_labels (c ∷ [])) rest

bytes_behind : (c : ℕ) (w : List ℕ) (rest : Text) → bytes_of (carrying no_labels w ++ (carrying no_labels (c ∷ []) ++ rest)) ≡ w ++ c ∷ bytes_of rest
bytes_behind c [] rest = refl
bytes_behind c (b ∷ w) rest = ap (λ v. b ∷ v) (bytes_behind c w rest)

pub until-front : (c : ℕ) (w : List ℕ) (rest : Text) → lacks c w ≡ true → until c (carrying no_labels (w ++ c ∷ []) ++ rest) ≡ Some (w, rest)
unfolding until
until-front c w rest h =
    let ys = carrying no_labels w ++ (carrying no_labels (c ∷ []) ++ rest) in
    ap (until c) (two_parts c w rest)
    ∙ on (λ n. and_then (plain n ys) (λ w. and_then (byte c w.1) (λ e. Some (w.0, e.1)))) (ap (position (λ b. nat_eq b c)) (bytes_behind c w rest) ∙ placed c w (bytes_of rest) h)
    ∙ on (λ w. and_then (byte c w.1) (λ e. Some (w.0, e.1))) (plain-front w (carrying no_labels (c ∷ []) ++ rest))
    ∙ on (λ e. Some (w, e.1)) (byte-front c rest)

pub until_read : (c : ℕ) (xs : Text) (w : List ℕ) (rest : Text) → until c xs ≡ Some (w, rest) → xs ≡ carrying no_labels (w ++ c ∷ []) ++ rest
unfolding until
until_read c xs w rest e =
    let n = bound (position (λ b. nat_eq b c) (bytes_of xs)) (λ n. and_then (plain n xs) (λ w. and_then (byte c w.1) (λ e. Some (w.0, e.1)))) (w, rest) e in
    let v = bound (plain n.0 xs) (λ w. and_then (byte c w.1) (λ e. Some (w.0, e.1))) (w, rest) n.2 in
    let u = bound (byte c v.0.1) (λ e. Some (v.0.0, e.1)) (w, rest) v.2 in
    let p = from_some (v.0.0, u.0.1) (w, rest) u.2 in
    (plain_read n.0 xs v.0.0 v.0.1 v.1).0 ∙ ap (λ t. carrying no_labels v.0.0 ++ t) (byte_read c v.0.1 u.0.0 u.0.1 u.1)
    ∙ ap (λ q. carrying no_labels q.0 ++ (carrying no_labels (c ∷ []) ++ q.1)) p ∙ sym (two_parts c w rest)

-- ---- a length
lacks_digits : (ds : List ℕ) → all_ascii_digits ds ≡ true → (c : ℕ) → c < 48 → lacks c ds ≡ true
lacks_digits [] h c lt = refl
lacks_digits (d ∷ ds) h c lt =
    let k = (tells_all_ascii_digits).parts d ds h in
    let e : nat_eq d c ≡ false = let l = k.0 in grind (arith, nat_tests) in
    both _ _ (ap not e) (lacks_digits ds k.1 c lt)

lacks-decimal : (c n : ℕ) → c < 48 → n < 2 ^ 63 → lacks c (decimal n) ≡ true
lacks-decimal c n low h = lacks_digits (decimal n) (digits_decimal (numerals_by_value _ tells_all_ascii_digits) n (omega (arith, h))) c low

pub count-front : (c n : ℕ) (rest : Text) → c < 48 → n < 2 ^ 63 → count c (carrying no_labels (decimal n ++ c ∷ []) ++ rest) ≡ Some (n, rest)
unfolding count
count-front c n rest low h =
    on (λ w. and_then (natural (canonical_integer w.0)) (λ n. Some (n, w.1))) (until-front c (decimal n) rest (lacks-decimal c n low h))
    ∙ on (λ n. Some (n, rest)) (ap natural (canonical-signed (pos n) h))

natural_read : (o : Option ℤ) (n : ℕ) → natural o ≡ Some n → o ≡ Some (pos n)
natural_read None n e = absurd (none_some n e)
natural_read (Some (pos m)) n e = ap (λ k. Some (pos k)) (from_some m n e)
natural_read (Some (negsuc m)) n e = absurd (none_some n e)

pub count_read : (c : ℕ) (xs : Text) (n : ℕ) (rest : Text) → count c xs ≡ Some (n, rest) → xs ≡ carrying no_labels (decimal n ++ c ∷ []) ++ rest
unfolding count
count_read c xs n rest e =
    let w = bound (until c xs) (λ w. and_then (natural (canonical_integer w.0)) (λ n. Some (n, w.1))) (n, rest) e in
    let m = bound (natural (canonical_integer w.0.0)) (λ n. Some (n, w.0.1)) (n, rest) w.2 in
    let p = from_some (m.0, w.0.1) (n, rest) m.2 in
    let spelled : w.0.0 ≡ decimal m.0 = (canonical_read w.0.0 (pos m.0) (natural_read (canonical_integer w.0.0) m.0 m.1)).0 in
    until_read c xs w.0.0 w.0.1 w.1 ∙ ap (λ v. carrying no_labels (v ++ c ∷ []) ++ w.0.1) spelled ∙ ap (λ q. carrying no_labels (decimal q.0 ++ c ∷ []) ++ q.1) p

-- ---- an integer
set_of_digits : (s : NumberSet) (w : List ℕ) → 0 < length w → one_set (sets_of (carrying s w)) ≡ Some s
set_of_digits s [] h = absurd (omega arith)
set_of_digits s (b ∷ w) h = one_set-carrying s b w

some_digits : (n : ℤ) → mag n < 2 ^ 63 → 0 < length (signed_decimal n)
some_digits (pos n) h = decimal_nonempty n (omega (arith, h))
some_digits (negsuc n) h = omega arith

pub number-front : (n : ℤ) (s : NumberSet) → mag n < 2 ^ 63 → number (carrying s (signed_decimal n)) ≡ Some (integer n s)
unfolding number
number-front n s h =
    on (λ u. and_then (canonical_integer (bytes_of (carrying s (signed_decimal n)))) (λ m. Some (integer m u))) (set_of_digits s (signed_decimal n) (some_digits n h))
    ∙ on (λ m. Some (integer m s)) (ap canonical_integer (bytes_carrying s (signed_decimal n)) ∙ canonical-signed n h)

-- a text that is an integer with its set
pub record NumberRead (t : Text) (v : Tree) : Type 0 where
  pub n : ℤ
  pub s : NumberSet
  pub told : t ≡ carrying s (signed_decimal n)
  pub low : mag n < 2 ^ 63
  pub is : integer n s ≡ v

pub number_read : (t : Text) (v : Tree) → number t ≡ Some v → NumberRead t v
unfolding number
number_read t v e =
    let s = bound (one_set (sets_of t)) (λ s. and_then (canonical_integer (bytes_of t)) (λ n. Some (integer n s))) v e in
    let n = bound (canonical_integer (bytes_of t)) (λ n. Some (integer n s.0)) v s.2 in
    let r = canonical_read (bytes_of t) n.0 n.1 in
    record { n = n.0; s = s.0; told = one_set_read t s.0 s.1 ∙ ap (carrying s.0) r.0; low = r.1; is = from_some (integer n.0 s.0) v n.2 }
