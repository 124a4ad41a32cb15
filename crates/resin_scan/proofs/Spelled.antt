-- What a text stands for, piece by piece and as a function.
use Rattle.std.proofs.Common.{◌≡◌, ℕ, zero, suc, ◌+◌, ◌<◌, ◌≤◌, ◌⊎◌, inl, inr, Bool, true, false, List, [], ◌∷◌, ◌++◌, take, drop, length, min, Option, Some, None, refl, sym, ◌∙◌, ap, subst, arith, append_assoc, length-append}
use Rattle.std.specs.Prelude.{◌==◌, ◌&&◌, ◌||◌, is_some, if◌then◌else◌}
use Rattle.std.specs.List.{prefix_len}
use Rattle.std.proofs.lemmas.List.{take-append-drop, length-take, length-drop}
use Rattle.std.proofs.lemmas.Bool.{cases_lt}
use Rattle.resin_scan.specs.Bytes.{byte, is_octal, is_hexadecimal}
use Rattle.resin_scan.specs.Lists.{NotBefore, Every}
use Rattle.resin_scan.specs.Numbers.{IsNumber, number_of, digits, value, value_on, with_len}
use Rattle.resin_scan.specs.Numbers as numbers
use Rattle.resin_scan.specs.Escapes.{letter, byte_value, utf8, bytes_of, IsRun, begins_escape, Means, plain, quoted, single_stays, lettered, octal, hexadecimal, point, double_stays, Spells, done, byte_piece, point_piece, letter_piece, escape_piece, first_piece, worked, worked_on, code_point}
use Rattle.resin_scan.specs.Escapes as e
use Rattle.resin_scan.specs.declared.escapes.Quoting.{Quoting}
use Rattle.resin_scan.specs.declared.escapes.Quoting.TheVariants as q
use Rattle.resin_scan.specs.declared.escapes.Piece.{Piece}
use Rattle.resin_scan.proofs.Runs.{if_true, if_false, choose, one_taken, one_dropped, take_front, drop_front, run_exact, ends_run}
use Rattle.resin_scan.proofs.Choices.{or_left, or_right, or_no, and_left, and_right, and_not, arm, first_of_rest, byte_behind, closed, begun}
use Rattle.resin_scan.proofs.Digits.{IsRead, value_read, value_exact, digits_some}
use Rattle.resin_scan.proofs.Turns.{one}

-- what a piece says of the text that it begins
abbrev pub PieceMeans : Quoting → List ℕ → Piece → Type 0
PieceMeans q xs p = Means q (take p.taken xs) (drop p.taken xs) (bytes_of p.meaning)

-- Runs of digits up to a number of them
le_or : (m n : ℕ) → (m < n) ⊎ (n ≤ m) → (m ≤ n) ⊎ (n ≤ m)
le_or m n (inl h) = inl (omega arith)
le_or m n (inr h) = inr h

every_part : (p : ℕ → Bool) (n : ℕ) (ys : List ℕ) → n ≤ prefix_len p ys → Every p (take n ys)
every_part p zero ys h = tt
every_part p (suc n) [] h = tt
every_part p (suc n) (y ∷ ys) h =
    choose (λ m. suc n ≤ m → Every p (y ∷ take n ys)) (p y) (λ e k. (e, every_part p n ys (omega arith))) (λ e k. absurd (omega arith)) h

prefix_within : (p : ℕ → Bool) (ys : List ℕ) → prefix_len p ys ≤ length ys
prefix_within p [] = omega arith
prefix_within p (y ∷ ys) = choose (λ m. m ≤ suc (length ys)) (p y) (λ e. let i = prefix_within p ys in omega arith) (λ e. omega arith)

prefix_some : (p : ℕ → Bool) (ys : List ℕ) → p 0 ≡ false → p (byte ys 0) ≡ true → 0 < prefix_len p ys
prefix_some p [] z h = absurd (let e : false ≡ true = sym z ∙ h in cc)
prefix_some p (y ∷ ys) z h = rw h (omega arith)

ends_or_full : (p : ℕ → Bool) (most : ℕ) (ys : List ℕ) (n : ℕ) → n ≡ min (prefix_len p ys) most → (prefix_len p ys ≤ most) ⊎ (most ≤ prefix_len p ys) → (length (take n ys) ≡ most) ⊎ NotBefore p (drop n ys)
ends_or_full p most ys n e (inl h) = let f : n ≡ prefix_len p ys = omega arith in inr (rw f (ends_run p ys))
ends_or_full p most ys n e (inr h) = let f : n ≡ most = omega arith in let w = prefix_within p ys in inl (rw length-take (omega arith))

pub run_taken : (p : ℕ → Bool) (most : ℕ) (ys : List ℕ) → p 0 ≡ false → p (byte ys 0) ≡ true → 0 < most → IsRun p most (take (min (prefix_len p ys) most) ys) (drop (min (prefix_len p ys) most) ys)
run_taken p most ys z h m =
    let s = prefix_some p ys z h in
    let w = prefix_within p ys in
    record {
      some = rw length-take (omega arith);
      few = rw length-take (omega arith);
      digits = every_part p (min (prefix_len p ys) most) ys (omega arith);
      longest = ends_or_full p most ys (min (prefix_len p ys) most) refl (le_or (prefix_len p ys) most (cases_lt (prefix_len p ys) most));
    }

prefix_more : (p : ℕ → Bool) (ds rest : List ℕ) → Every p ds → length ds ≤ prefix_len p (ds ++ rest)
prefix_more p [] rest h = omega arith
prefix_more p (d ∷ ds) rest h = let i = prefix_more p ds rest h.1 in rw (if_true (p d) _ _ h.0) (omega arith)

run_least : (p : ℕ → Bool) (most : ℕ) (ds rest : List ℕ) → length ds ≤ most → Every p ds → (length ds ≡ most) ⊎ NotBefore p rest → min (prefix_len p (ds ++ rest)) most ≡ length ds
run_least p most ds rest f e (inl h) = let m = prefix_more p ds rest e in omega arith
run_least p most ds rest f e (inr h) = let m : prefix_len p (ds ++ rest) ≡ length ds = run_exact p ds rest e h in omega arith

pub run_read : (p : ℕ → Bool) (most : ℕ) (ds rest : List ℕ) → IsRun p most ds rest → min (prefix_len p (ds ++ rest)) most ≡ length ds
run_read p most ds rest r = run_least p most ds rest r.few r.digits r.longest

-- Code points
abbrev pub PointRead : List ℕ → Option (ℕ × ℕ) → Type 0
PointRead zs None = Unit {0}
PointRead zs (Some p) = IsNumber 16 (take p.1 zs) p.0 × (p.0 < 0x110000) × (byte zs p.1 == 125) ≡ true

number_read : (limit : ℕ) (zs : List ℕ) (n : ℕ) (d : ℕ) (ds : List ℕ) (o : Option ℕ) → 0 < limit → take n zs ≡ d ∷ ds → (byte zs n == 125) ≡ true → limit ≡ 0x110000 → IsRead 16 limit 0 (d ∷ ds) o → PointRead zs (with_len n o)
number_read limit zs n d ds None z e h l r = tt
number_read limit zs n d ds (Some v) z e h l r = (subst (λ u. IsNumber 16 u v) (sym e) (omega arith, r.0, r.1), subst (λ u. v < u) l (r.2 z), h)

digits_point : (zs : List ℕ) (n : ℕ) (u : List ℕ) → take n zs ≡ u → (byte zs n == 125) ≡ true → PointRead zs (with_len n (digits 16 0x110000 u))
digits_point zs n [] e h = tt
digits_point zs n (d ∷ ds) e h = subst (λ o. PointRead zs (with_len n o)) (sym (digits_some 16 0x110000 d ds)) (number_read 0x110000 zs n d ds (value_on 16 0x110000 (Some 0) (d ∷ ds)) (omega arith) e h refl (value_read 16 0x110000 0 (d ∷ ds)))

pub point_read : (zs : List ℕ) → PointRead zs (code_point zs)
unfolding numbers.code_point
point_read zs =
    let n = prefix_len is_hexadecimal zs in
    choose (PointRead zs) (byte zs n == 125) (λ h. digits_point zs n (take n zs) refl h) (λ _. tt)

digits_exact : (ds : List ℕ) (v : ℕ) → IsNumber 16 ds v → v < 0x110000 → digits 16 0x110000 ds ≡ Some v
digits_exact [] v i h = absurd (omega (arith, i.0))
digits_exact (d ∷ ds) v i h = digits_some 16 0x110000 d ds ∙ value_exact 16 0x110000 0 (d ∷ ds) (omega arith) i.1 (subst (λ u. u < 0x110000) i.2 h) ∙ ap Some (sym i.2)

pub point_exact : (ds rest : List ℕ) (v : ℕ) → IsNumber 16 ds v → v < 0x110000 → code_point (ds ++ 125 ∷ rest) ≡ Some (v, length ds)
unfolding numbers.code_point
point_exact ds rest v i h =
    let xs = ds ++ 125 ∷ rest in
    let e : prefix_len is_hexadecimal xs ≡ length ds = run_exact is_hexadecimal ds (125 ∷ rest) i.1 refl in
    ap (λ n. if byte xs n == 125 then with_len n (digits 16 0x110000 (take n xs)) else None) e
    ∙ if_true (byte xs (length ds) == 125) _ _ (ap (λ b. b == 125) (ap (byte xs) (omega arith) ∙ byte_behind ds (125 ∷ rest) 0))
    ∙ ap (λ u. with_len (length ds) (digits 16 0x110000 u)) (take_front ds (125 ∷ rest))
    ∙ ap (with_len (length ds)) (digits_exact ds v i h)

-- What the function finds is a piece of the text
single_slash : (bs : List ℕ) → PieceMeans q.Single (92 ∷ bs) (if byte bs 0 == 92 || byte bs 0 == 39 then byte_piece 2 (byte bs 0) else byte_piece 1 92)
single_slash [] = single_stays tt
single_slash (c ∷ cs) = choose (PieceMeans q.Single (92 ∷ c ∷ cs)) (c == 92 || c == 39) (λ h. quoted h) (λ h. single_stays h)

octal_piece : (ys : List ℕ) → is_octal (byte ys 0) ≡ true → PieceMeans q.Double (92 ∷ ys) (let n = min (prefix_len is_octal ys) 3 in byte_piece (1 + n) (byte_value 8 (take n ys)))
octal_piece ys h =
    let n = min (prefix_len is_octal ys) 3 in
    let r = run_taken is_octal 3 ys refl h (omega arith) in
    subst (λ v. Means q.Double v (drop (1 + n) (92 ∷ ys)) (byte_value 8 (take n ys) ∷ [])) (sym (one_taken n 92 ys))
    (subst (λ v. Means q.Double (92 ∷ take n ys) v (byte_value 8 (take n ys) ∷ [])) (sym (one_dropped n 92 ys)) (octal r))

hexadecimal_at : (zs : List ℕ) → is_hexadecimal (byte zs 0) ≡ true → PieceMeans q.Double (92 ∷ 120 ∷ zs) (let n = min (prefix_len is_hexadecimal zs) 2 in byte_piece (2 + n) (byte_value 16 (take n zs)))
hexadecimal_at zs h =
    let n = min (prefix_len is_hexadecimal zs) 2 in
    let r = run_taken is_hexadecimal 2 zs refl h (omega arith) in
    let e : 2 + n ≡ suc (suc n) = omega arith in
    subst (λ k. Means q.Double (take k (92 ∷ 120 ∷ zs)) (drop k (92 ∷ 120 ∷ zs)) (byte_value 16 (take n zs) ∷ [])) (sym e) (hexadecimal r)

hexadecimal_piece : (ys : List ℕ) → (byte ys 0 == 120) ≡ true → is_hexadecimal (byte ys 1) ≡ true → PieceMeans q.Double (92 ∷ ys) (let n = min (prefix_len is_hexadecimal (drop 1 ys)) 2 in byte_piece (2 + n) (byte_value 16 (take n (drop 1 ys))))
hexadecimal_piece ys h = begun (λ v. is_hexadecimal (byte v 1) ≡ true → PieceMeans q.Double (92 ∷ v) (let n = min (prefix_len is_hexadecimal (drop 1 v)) 2 in byte_piece (2 + n) (byte_value 16 (take n (drop 1 v))))) ys 120 refl h (λ j. hexadecimal_at (drop 1 ys) j)

point_at : (zs : List ℕ) (o : Option (ℕ × ℕ)) → code_point zs ≡ o → PointRead zs o → PieceMeans q.Double (92 ∷ 117 ∷ 123 ∷ zs) (point_piece o)
point_at zs None e r = double_stays (or_no (is_some (code_point zs)) false (ap is_some e) refl)
point_at zs (Some p) e r =
    let n = p.1 in
    let c = closed zs n 125 refl r.2 in
    let f : 4 + n ≡ suc (suc (suc (suc n))) = omega arith in
    subst (λ k. Means q.Double (take k (92 ∷ 117 ∷ 123 ∷ zs)) (drop k (92 ∷ 117 ∷ 123 ∷ zs)) (utf8 p.0)) (sym f)
    (subst (λ v. Means q.Double (92 ∷ 117 ∷ 123 ∷ v) (drop (suc n) zs) (utf8 p.0)) (sym c.taken) (point (take n zs) (drop (suc n) zs) p.0 r.0 r.1))

point_behind : (zs : List ℕ) → (byte zs 0 == 123) ≡ true → PieceMeans q.Double (92 ∷ 117 ∷ zs) (point_piece (code_point (drop 1 zs)))
point_behind zs h = begun (λ v. PieceMeans q.Double (92 ∷ 117 ∷ v) (point_piece (code_point (drop 1 v)))) zs 123 refl h (point_at (drop 1 zs) (code_point (drop 1 zs)) refl (point_read (drop 1 zs)))

point_found : (ys : List ℕ) → (byte ys 0 == 117) ≡ true → (byte ys 1 == 123) ≡ true → PieceMeans q.Double (92 ∷ ys) (point_piece (code_point (drop 2 ys)))
point_found ys h = begun (λ v. (byte v 1 == 123) ≡ true → PieceMeans q.Double (92 ∷ v) (point_piece (code_point (drop 2 v)))) ys 117 refl h
    (λ j. point_behind (drop 1 ys) j)

no_point : (a b c : Bool) → (a && b) ≡ false → (a && (b && c)) ≡ false
no_point true true c h = absurd (cc)
no_point true false c h = refl
no_point false b c h = refl

letter_found : (ys : List ℕ) (o : Option ℕ) → letter (byte ys 0) ≡ o → is_octal (byte ys 0) ≡ false → (byte ys 0 == 120 && is_hexadecimal (byte ys 1)) ≡ false → (byte ys 0 == 117 && byte ys 1 == 123) ≡ false → PieceMeans q.Double (92 ∷ ys) (letter_piece o)
letter_found ys None e a b c = double_stays (or_no (is_octal (byte ys 0)) _ a (or_no (byte ys 0 == 120 && is_hexadecimal (byte ys 1)) _ b (or_no _ _ (no_point (byte ys 0 == 117) (byte ys 1 == 123) (is_some (code_point (drop 2 ys))) c) (ap is_some e))))
letter_found [] (Some v) e a b c = absurd (cc)
letter_found (y ∷ ys) (Some v) e a b c = lettered e

double_slash : (ys : List ℕ) → PieceMeans q.Double (92 ∷ ys) (escape_piece ys)
unfolding escape_piece
double_slash ys =
    let P = PieceMeans q.Double (92 ∷ ys) in
    choose P (is_octal (byte ys 0)) (λ h. octal_piece ys h)
    (λ a. choose P (byte ys 0 == 120 && is_hexadecimal (byte ys 1)) (λ h. hexadecimal_piece ys (and_left (byte ys 0 == 120) _ h) (and_right (byte ys 0 == 120) _ h))
    (λ b. choose P (byte ys 0 == 117 && byte ys 1 == 123) (λ h. point_found ys (and_left (byte ys 0 == 117) _ h) (and_right (byte ys 0 == 117) _ h))
    (λ c. letter_found ys (letter (byte ys 0)) refl a b c)))

pub piece_means : (q : Quoting) (b : ℕ) (bs : List ℕ) → PieceMeans q (b ∷ bs) (first_piece q (b ∷ bs))
piece_means q.Single b bs =
    choose (PieceMeans q.Single (b ∷ bs)) (b == 92)
    (λ h. arm (λ c. PieceMeans q.Single (c ∷ bs) (if byte bs 0 == 92 || byte bs 0 == 39 then byte_piece 2 (byte bs 0) else byte_piece 1 92)) b 92 h (single_slash bs))
    (λ h. plain h)
piece_means q.Double b bs =
    choose (PieceMeans q.Double (b ∷ bs)) (b == 92)
    (λ h. arm (λ c. PieceMeans q.Double (c ∷ bs) (escape_piece bs)) b 92 h (double_slash bs))
    (λ h. plain h)

-- A piece of the text is what the function finds
pub record PieceIs (q : Quoting) (xs w head : List ℕ) : Type 0 where
  pub taken : (first_piece q xs).taken ≡ length w
  pub meaning : bytes_of (first_piece q xs).meaning ≡ head

as_piece : (q : Quoting) (xs w head : List ℕ) (p : Piece) → first_piece q xs ≡ p → p.taken ≡ length w → bytes_of p.meaning ≡ head → PieceIs q xs w head
as_piece q xs w head p e t m = record { taken = ap (λ r. r.taken) e ∙ t; meaning = ap (λ r. bytes_of r.meaning) e ∙ m }

plain_piece : (q : Quoting) (b : ℕ) (rest : List ℕ) → (b == 92) ≡ false → first_piece q (b ∷ rest) ≡ byte_piece 1 b
plain_piece q.Single b rest h = if_false (b == 92) _ _ h
plain_piece q.Double b rest h = if_false (b == 92) _ _ h

-- a letter is no digit, `x` or `u`
abbrev pub IsOther : ℕ → Type 0
IsOther c = (is_octal c ≡ false) × ((c == 120) ≡ false) × ((c == 117) ≡ false)

letter_other : (c b : ℕ) → letter c ≡ Some b → IsOther c
letter_other c b =
    let Q = λ (o : Option ℕ). o ≡ Some b → IsOther c in
    choose Q (c == 110) (λ h _. arm IsOther c 110 h (refl, refl, refl))
    (λ _. choose Q (c == 114) (λ h _. arm IsOther c 114 h (refl, refl, refl))
    (λ _. choose Q (c == 116) (λ h _. arm IsOther c 116 h (refl, refl, refl))
    (λ _. choose Q (c == 118) (λ h _. arm IsOther c 118 h (refl, refl, refl))
    (λ _. choose Q (c == 101) (λ h _. arm IsOther c 101 h (refl, refl, refl))
    (λ _. choose Q (c == 102) (λ h _. arm IsOther c 102 h (refl, refl, refl))
    (λ _. choose Q (c == 92) (λ h _. arm IsOther c 92 h (refl, refl, refl))
    (λ _. choose Q (c == 36) (λ h _. arm IsOther c 36 h (refl, refl, refl))
    (λ _. choose Q (c == 34) (λ h _. arm IsOther c 34 h (refl, refl, refl))
    (λ _ e. absurd (cc))))))))))

letter_exact : (c b : ℕ) (rest : List ℕ) → letter c ≡ Some b → escape_piece (c ∷ rest) ≡ byte_piece 2 b
unfolding escape_piece
letter_exact c b rest e =
    let o = letter_other c b e in
    if_false (is_octal c) _ _ o.0 ∙ if_false (c == 120 && is_hexadecimal (byte rest 0)) _ _ (and_not (c == 120) _ o.1) ∙ if_false (c == 117 && byte rest 0 == 123) _ _ (and_not (c == 117) _ o.2) ∙ ap letter_piece e

octal_exact : (ds rest : List ℕ) → IsRun is_octal 3 ds rest → escape_piece (ds ++ rest) ≡ byte_piece (1 + length ds) (byte_value 8 ds)
unfolding escape_piece
octal_exact [] rest r = absurd (omega (arith, r.some))
octal_exact (d ∷ ds) rest r =
    let xs = d ∷ ds ++ rest in
    if_true (is_octal d) _ _ r.digits.0
    ∙ ap (λ n. byte_piece (1 + n) (byte_value 8 (take n xs))) (run_read is_octal 3 (d ∷ ds) rest r)
    ∙ ap (λ v. byte_piece (1 + length (d ∷ ds)) (byte_value 8 v)) (take_front (d ∷ ds) rest)

hexadecimal_exact : (ds rest : List ℕ) → IsRun is_hexadecimal 2 ds rest → escape_piece (120 ∷ ds ++ rest) ≡ byte_piece (2 + length ds) (byte_value 16 ds)
unfolding escape_piece
hexadecimal_exact [] rest r = absurd (omega (arith, r.some))
hexadecimal_exact (d ∷ ds) rest r =
    let xs = d ∷ ds ++ rest in
    if_true (is_hexadecimal d) _ _ r.digits.0
    ∙ ap (λ n. byte_piece (2 + n) (byte_value 16 (take n xs))) (run_read is_hexadecimal 2 (d ∷ ds) rest r)
    ∙ ap (λ v. byte_piece (2 + length (d ∷ ds)) (byte_value 16 v)) (take_front (d ∷ ds) rest)

u_exact : (zs : List ℕ) (p : ℕ × ℕ) → code_point zs ≡ Some p → escape_piece (117 ∷ 123 ∷ zs) ≡ point_piece (Some p)
unfolding escape_piece
u_exact zs p e = ap point_piece e

none_there : (a b c : Bool) → (a && b) ≡ true → (a && (b && c)) ≡ false → c ≡ false
none_there true true c t h = h
none_there true false c t h = absurd (cc)
none_there false b c t h = absurd (cc)

no_point_piece : (o : Option (ℕ × ℕ)) → is_some o ≡ false → point_piece o ≡ byte_piece 1 92
no_point_piece None h = refl
no_point_piece (Some p) h = absurd (cc)

no_letter_piece : (o : Option ℕ) → is_some o ≡ false → letter_piece o ≡ byte_piece 1 92
no_letter_piece None h = refl
no_letter_piece (Some b) h = absurd (cc)

stays_exact : (rest : List ℕ) → begins_escape rest ≡ false → escape_piece rest ≡ byte_piece 1 92
unfolding escape_piece
stays_exact rest h =
    let h1 = or_right (is_octal (byte rest 0)) _ h in
    let h2 = or_right (byte rest 0 == 120 && is_hexadecimal (byte rest 1)) _ h1 in
    if_false (is_octal (byte rest 0)) _ _ (or_left (is_octal (byte rest 0)) _ h)
    ∙ if_false (byte rest 0 == 120 && is_hexadecimal (byte rest 1)) _ _ (or_left (byte rest 0 == 120 && is_hexadecimal (byte rest 1)) _ h1)
    ∙ choose (λ p. p ≡ byte_piece 1 92) (byte rest 0 == 117 && byte rest 1 == 123)
    (λ t. no_point_piece (code_point (drop 2 rest)) (none_there (byte rest 0 == 117) (byte rest 1 == 123) _ t (or_left (byte rest 0 == 117 && (byte rest 1 == 123 && is_some (code_point (drop 2 rest)))) _ h2)))
    (λ _. no_letter_piece (letter (byte rest 0)) (or_right (byte rest 0 == 117 && (byte rest 1 == 123 && is_some (code_point (drop 2 rest)))) _ h2))

pub piece_is : (q : Quoting) (w rest head : List ℕ) → Means q w rest head → PieceIs q (w ++ rest) w head
piece_is k w rest head (plain {b = b} h) = as_piece k (b ∷ rest) w head (byte_piece 1 b) (plain_piece k b rest h) refl refl
piece_is k w rest head (quoted {c = c} h) = as_piece q.Single (92 ∷ c ∷ rest) w head (byte_piece 2 c) (if_true (c == 92 || c == 39) _ _ h) refl refl
piece_is k w rest head (single_stays h) = as_piece q.Single (92 ∷ rest) w head (byte_piece 1 92) (if_false (byte rest 0 == 92 || byte rest 0 == 39) _ _ (first_of_rest (λ c. c == 92 || c == 39) rest refl h)) refl refl
piece_is k w rest head (lettered {c = c} {b = b} e) = as_piece q.Double (92 ∷ c ∷ rest) w head (byte_piece 2 b) (letter_exact c b rest e) refl refl
piece_is k w rest head (octal {ds = ds} r) = as_piece q.Double (92 ∷ ds ++ rest) w head (byte_piece (1 + length ds) (byte_value 8 ds)) (octal_exact ds rest r) (omega arith) refl
piece_is k w rest head (hexadecimal {ds = ds} r) = as_piece q.Double (92 ∷ 120 ∷ ds ++ rest) w head (byte_piece (2 + length ds) (byte_value 16 ds)) (hexadecimal_exact ds rest r) (omega arith) refl
piece_is k w rest head (point ds rs v i h) =
    as_piece q.Double (92 ∷ 117 ∷ 123 ∷ (ds ++ (125 ∷ [])) ++ rs) w head (point_piece (Some (v, length ds)))
    (ap (λ u. escape_piece (117 ∷ 123 ∷ u)) (append_assoc ds (125 ∷ []) rs) ∙ u_exact (ds ++ 125 ∷ rs) (v, length ds) (point_exact ds rs v i h)) (omega (arith, length-append ds (125 ∷ []))) refl
piece_is k w rest head (double_stays h) = as_piece q.Double (92 ∷ rest) w head (byte_piece 1 92) (stays_exact rest h) refl refl

piece_some : (q : Quoting) (w rest head : List ℕ) → Means q w rest head → 0 < length w
piece_some q w rest head (plain h) = omega arith
piece_some q w rest head (quoted h) = omega arith
piece_some q w rest head (single_stays h) = omega arith
piece_some q w rest head (lettered e) = omega arith
piece_some q w rest head (octal r) = omega arith
piece_some q w rest head (hexadecimal r) = omega arith
piece_some q w rest head (point ds rs v i h) = omega arith
piece_some q w rest head (double_stays h) = omega arith

spelled_within : (k : ℕ) (q : Quoting) (xs : List ℕ) → length xs ≤ k → Spells q xs (worked q xs)
spelled_within k q [] h = done
spelled_within zero q (b ∷ bs) h = absurd (omega arith)
spelled_within (suc k) q (b ∷ bs) h =
    let xs = b ∷ bs in
    let p = first_piece q xs in
    let m = piece_means q b bs in
    let z : 0 < p.taken = let s = piece_some q (take p.taken xs) (drop p.taken xs) (bytes_of p.meaning) m in omega (arith, s, length-take p.taken xs) in
    e.more (take p.taken xs) (drop p.taken xs) (bytes_of p.meaning) (worked q (drop p.taken xs)) (sym (take-append-drop p.taken xs)) (one q xs bs b p refl z refl) m
    (spelled_within k q (drop p.taken xs) (omega (arith, length-drop p.taken xs)))

-- the function's answer is what the text stands for
pub spells_worked : (q : Quoting) (xs : List ℕ) → Spells q xs (worked q xs)
spells_worked q xs = spelled_within (length xs) q xs (omega arith)

first_worked : (q : Quoting) (w rest head : List ℕ) → Means q w rest head → worked q (w ++ rest) ≡ head ++ worked q rest
first_worked q [] rest head m = absurd (omega (arith, piece_some q [] rest head m))
first_worked q (b ∷ w) rest head m =
    let i = piece_is q (b ∷ w) rest head m in
    let p = first_piece q (b ∷ w ++ rest) in
    one q (b ∷ w ++ rest) (w ++ rest) b p refl (omega (arith, i.taken)) refl
    ∙ ap (λ u. u ++ worked q (drop p.taken (b ∷ w ++ rest))) i.meaning
    ∙ ap (λ n. head ++ worked q (drop n (b ∷ w ++ rest))) i.taken
    ∙ ap (λ u. head ++ worked q u) (drop_front (b ∷ w) rest)

-- a text stands for one other alone
pub spells_once : (q : Quoting) (xs ys : List ℕ) → Spells q xs ys → ys ≡ worked q xs
spells_once q xs ys done = refl
spells_once q xs ys (e.more w rest head tail a b m r) =
    b ∙ ap (λ u. head ++ u) (spells_once q rest tail r) ∙ sym (first_worked q w rest head m) ∙ sym (ap (worked q) a)
