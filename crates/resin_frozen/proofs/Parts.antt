-- Bytes, counts, integers and keys are read back, and nothing else is read as one.
use Rattle.std.proofs.Common.{◌≡◌, ◌⊎◌, inl, inr, ℕ, ℤ, zero, suc, ◌+◌, ◌^◌, ◌<◌, ◌≤◌, Bool, true, false, cond, List, [], ◌∷◌, ◌++◌, length, take, drop, get_or, Option, Some, None, decimal, codes, refl, sym, ap, subst, ◌∙◌, arith, append_assoc, add-one}
use lib.Signed.{mag}
use Rattle.std.specs.Prelude.{not, nat_eq, nat_lt, nat_le}
use Rattle.std.specs.Fmt.{signed_decimal}
use Rattle.std.specs.List.{list_all, position_or_len, before_first, after_first, starts_with}
use Rattle.std.specs.Cmp.Lexicographic.{pointwise}
use Rattle.std.proofs.lemmas.Bool.Decides.{nat_tests}
use Rattle.std.proofs.lemmas.List.Sums.{split_at_first, passes_at_first}
use Rattle.resin_scan.specs.Lists.{Every}
use Rattle.resin_scan.proofs.Runs.{run_exact, take_front}
use Rattle.resin_value.specs.declared.key.Key.{Key}
use Rattle.resin_value.specs.declared.key.Key.TheVariants.{Int, Text}
use Rattle.resin_frozen.specs.Texts as texts
use Rattle.resin_frozen.specs.Texts.{integer_text, bytes_text, key_text}
use Rattle.resin_frozen.specs.Policies.{IsInteger, IsCount, IsWholeKey}
use Rattle.resin_frozen.specs.declared.keys.Keys.{Keys}
use Rattle.resin_frozen.specs.Reading.{and_then, is_text, taken, literal, cut, number, signed, natural, quoted, integer_behind, bytes_behind, key_behind, is_fit, key}
use Rattle.resin_frozen.proofs.Numbers.{Gives, lacks, and_left, and_right, text_same, text_is, from_some, none_some, some_if, number-decimal, number_read, signed-signed, signed_read, lacks-decimal, lacks-signed}

-- a value that was read behind another
pub bound : {A B : Type 0} (o : Option A) (f : A → Option B) (r : B) → and_then o f ≡ Some r → (a : A) × (o ≡ Some a) × (f a ≡ Some r)
bound None f r e = absurd (none_some r e)
bound (Some a) f r e = (a, refl, e)

-- what follows goes on where the first is read
pub on : {A B : Type 0} {o : Option A} {a : A} (f : A → Option B) → o ≡ Some a → and_then o f ≡ f a
on f e = ap (λ o. and_then o f) e

past : (xs ys : List ℕ) → drop (length xs) (xs ++ ys) ≡ ys
past [] ys = refl
past (x ∷ xs) ys = past xs ys

fits : (xs ys : List ℕ) → length xs ≤ length (xs ++ ys)
fits [] ys = omega arith
fits (x ∷ xs) ys = let h = fits xs ys in omega (arith, h)

le_true : (a b : ℕ) → a ≤ b → nat_le a b ≡ true
le_true a b h = grind (arith, nat_tests)

lt_true : (a b : ℕ) → a < b → nat_lt a b ≡ true
lt_true a b h = grind (arith, nat_tests)

-- ---- so many bytes
pub taken-front : (w rest : List ℕ) → taken (length w) (w ++ rest) ≡ Some (w, rest)
unfolding taken
taken-front w rest =
    ap (λ b. cond b (Some (take (length w) (w ++ rest), drop (length w) (w ++ rest))) None) (le_true _ _ (fits w rest))
    ∙ ap (λ v. Some (v, drop (length w) (w ++ rest))) (take_front w rest)
    ∙ ap (λ v. Some (w, v)) (past w rest)

length_front : (n : ℕ) (xs : List ℕ) → n ≤ length xs → length (take n xs) ≡ n
length_front zero xs h = refl
length_front (suc n) [] h = absurd (omega arith)
length_front (suc n) (x ∷ xs) h = ap suc (length_front n xs (omega arith))

parted : (n : ℕ) (xs : List ℕ) → xs ≡ take n xs ++ drop n xs
parted zero xs = refl
parted (suc n) [] = refl
parted (suc n) (x ∷ xs) = ap (λ ys. x ∷ ys) (parted n xs)

pub taken_read : (n : ℕ) (xs w rest : List ℕ) → taken n xs ≡ Some (w, rest) → (xs ≡ w ++ rest) × (length w ≡ n)
unfolding taken
taken_read n xs w rest e =
    let h = some_if (nat_le n (length xs)) (take n xs, drop n xs) (w, rest) e in
    let le : n ≤ length xs = let t : nat_le n (length xs) ≡ true = h.0 in grind (arith, nat_tests) in
    (parted n xs ∙ ap (λ p. p.0 ++ p.1) h.1, ap (λ p. length p.0) (sym h.1) ∙ length_front n xs le)

-- ---- these bytes
pub literal-front : (w rest : List ℕ) → literal w (w ++ rest) ≡ Some (tt, rest)
unfolding literal
literal-front w rest =
    ap (λ b. cond b (Some (tt, drop (length w) (w ++ rest))) None) (ap (pointwise nat_eq w) (take_front w rest) ∙ text_same w)
    ∙ ap (λ v. Some (tt, v)) (past w rest)

pub literal_read : (w xs rest : List ℕ) (u : Unit {0}) → literal w xs ≡ Some (u, rest) → xs ≡ w ++ rest
unfolding literal
literal_read w xs rest u e =
    let h = some_if (starts_with nat_eq xs w) (tt, drop (length w) xs) (u, rest) e in
    let front : w ≡ take (length w) xs = text_is w (take (length w) xs) h.0 in
    parted (length w) xs ∙ ap (λ v. v ++ drop (length w) xs) (sym front) ∙ ap (λ p. w ++ p.1) h.1

-- ---- bytes up to one
every_from : (p : ℕ → Bool) (xs : List ℕ) → list_all p xs ≡ true → Every p xs
every_from p [] h = tt
every_from p (x ∷ xs) h = (and_left _ _ h, every_from p xs (and_right _ _ h))

behind : (xs : List ℕ) (c : ℕ) (ys : List ℕ) → drop (length xs + 1) (xs ++ c ∷ ys) ≡ ys
behind xs c ys = rw add-one (by xs)
  where
    by : (zs : List ℕ) → drop (suc (length zs)) (zs ++ c ∷ ys) ≡ ys
    by [] = refl
    by (z ∷ zs) = by zs

longer : (xs : List ℕ) (c : ℕ) (ys : List ℕ) → length xs < length (xs ++ c ∷ ys)
longer [] c ys = omega arith
longer (x ∷ xs) c ys = let i = longer xs c ys in omega (arith, i)

same_number : (c : ℕ) → nat_eq c c ≡ true
same_number c = grind (arith, nat_tests)

pub cut-front : (c : ℕ) (xs ys : List ℕ) → lacks c xs ≡ true → cut c (xs ++ c ∷ ys) ≡ Some (xs, ys)
unfolding cut
cut-front c xs ys h =
    let place : position_or_len (λ b. nat_eq b c) (xs ++ c ∷ ys) ≡ length xs =
    run_exact (λ b. not (nat_eq b c)) xs (c ∷ ys) (every_from _ xs h) (ap not (same_number c)) in
    ap (λ n. cond (nat_lt n (length (xs ++ c ∷ ys))) (Some (take n (xs ++ c ∷ ys), drop (n + 1) (xs ++ c ∷ ys))) None) place
    ∙ ap (λ b. cond b (Some (take (length xs) (xs ++ c ∷ ys), drop (length xs + 1) (xs ++ c ∷ ys))) None) (lt_true _ _ (longer xs c ys))
    ∙ ap (λ ts. Some (ts, drop (length xs + 1) (xs ++ c ∷ ys))) (take_front xs (c ∷ ys))
    ∙ ap (λ rest. Some (xs, rest)) (behind xs c ys)

pub cut_read : (c : ℕ) (xs l rest : List ℕ) → cut c xs ≡ Some (l, rest) → xs ≡ l ++ c ∷ rest
unfolding cut
cut_read c xs l rest e =
    let p : ℕ → Bool = λ b. nat_eq b c in
    let h = some_if (nat_lt (position_or_len p xs) (length xs)) (before_first p xs, after_first p xs) (l, rest) e in
    let lt : position_or_len p xs < length xs = let t : nat_lt (position_or_len p xs) (length xs) ≡ true = h.0 in grind (arith, nat_tests) in
    let at : get_or xs (position_or_len p xs) 0 ≡ c = let t : nat_eq (get_or xs (position_or_len p xs) 0) c ≡ true = passes_at_first p xs 0 lt in grind (arith, nat_tests) in
    split_at_first p xs 0 lt
    ∙ ap (λ b. before_first p xs ++ b ∷ after_first p xs) at
    ∙ ap (λ q. q.0 ++ c ∷ q.1) h.1

-- ---- a number
pub natural-decimal : (c n : ℕ) (rest : List ℕ) → 57 < c → n < 2 ^ 64 → natural c (decimal n ++ c ∷ rest) ≡ Some (n, rest)
unfolding natural
natural-decimal c n rest low h =
    on (λ l. and_then (number l.0) (λ n. Some (n, l.1))) (cut-front c (decimal n) rest (lacks-decimal c n low h))
    ∙ on (λ n. Some (n, rest)) (number-decimal n h)

pub natural_read : (c : ℕ) (xs rest : List ℕ) (n : ℕ) → natural c xs ≡ Some (n, rest) → (xs ≡ decimal n ++ c ∷ rest) × (n < 2 ^ 64)
unfolding natural
natural_read c xs rest n e =
    let l = bound (cut c xs) (λ l. and_then (number l.0) (λ n. Some (n, l.1))) (n, rest) e in
    let m = bound (number l.0.0) (λ n. Some (n, l.0.1)) (n, rest) l.2 in
    let p = from_some (m.0, l.0.1) (n, rest) m.2 in
    let r = number_read l.0.0 m.0 m.1 in
    (cut_read c xs l.0.0 l.0.1 l.1 ∙ ap (λ w. w ++ c ∷ l.0.1) r.0 ∙ ap (λ q. decimal q.0 ++ c ∷ q.1) p, subst (λ q. q < 2 ^ 64) (ap (λ q. q.0) p) r.1)

-- ---- bytes behind their count
quoted_parts : (w rest : List ℕ) → texts.quoted w ++ rest ≡ decimal (length w) ++ 58 ∷ (codes "\"" ++ (w ++ (codes "\"" ++ rest)))
quoted_parts w rest = append_assoc (decimal (length w)) (58 ∷ 34 ∷ w ++ 34 ∷ []) rest ∙ ap (λ v. decimal (length w) ++ 58 ∷ 34 ∷ v) (append_assoc w (34 ∷ []) rest)

pub quoted-quoted : (w rest : List ℕ) → length w < 2 ^ 64 → quoted (texts.quoted w ++ rest) ≡ Some (w, rest)
unfolding quoted
quoted-quoted w rest h =
    ap quoted (quoted_parts w rest)
    ∙ on (λ n. and_then (literal (codes "\"") n.1) (λ o. and_then (taken n.0 o.1) (λ w. and_then (literal (codes "\"") w.1) (λ c. Some (w.0, c.1)))))
    (natural-decimal 58 (length w) (codes "\"" ++ (w ++ (codes "\"" ++ rest))) (omega arith) h)
    ∙ on (λ o. and_then (taken (length w) o.1) (λ w. and_then (literal (codes "\"") w.1) (λ c. Some (w.0, c.1)))) (literal-front (codes "\"") (w ++ (codes "\"" ++ rest)))
    ∙ on (λ w. and_then (literal (codes "\"") w.1) (λ c. Some (w.0, c.1))) (taken-front w (codes "\"" ++ rest))
    ∙ on (λ c. Some (w, c.1)) (literal-front (codes "\"") rest)

pub quoted_read : (xs w rest : List ℕ) → quoted xs ≡ Some (w, rest) → (xs ≡ texts.quoted w ++ rest) × (length w < 2 ^ 64)
unfolding quoted
quoted_read xs w rest e =
    let n = bound (natural 58 xs) (λ n. and_then (literal (codes "\"") n.1) (λ o. and_then (taken n.0 o.1) (λ w. and_then (literal (codes "\"") w.1) (λ c. Some (w.0, c.1))))) (w, rest) e in
    let o = bound (literal (codes "\"") n.0.1) (λ o. and_then (taken n.0.0 o.1) (λ w. and_then (literal (codes "\"") w.1) (λ c. Some (w.0, c.1)))) (w, rest) n.2 in
    let v = bound (taken n.0.0 o.0.1) (λ w. and_then (literal (codes "\"") w.1) (λ c. Some (w.0, c.1))) (w, rest) o.2 in
    let c = bound (literal (codes "\"") v.0.1) (λ c. Some (v.0.0, c.1)) (w, rest) v.2 in
    let p = from_some (v.0.0, c.0.1) (w, rest) c.2 in
    let count = natural_read 58 xs n.0.1 n.0.0 n.1 in
    let opening = literal_read (codes "\"") n.0.1 o.0.1 o.0.0 o.1 in
    let bytes = taken_read n.0.0 o.0.1 v.0.0 v.0.1 v.1 in
    let close = literal_read (codes "\"") v.0.1 c.0.1 c.0.0 c.1 in
    let same : v.0.0 ≡ w = ap (λ q. q.0) p in
    let last : c.0.1 ≡ rest = ap (λ q. q.1) p in
    let len : n.0.0 ≡ length w = sym bytes.1 ∙ ap length same in (
      count.0 ∙ ap (λ v. decimal n.0.0 ++ 58 ∷ v) (opening ∙ ap (λ v. 34 ∷ v) (bytes.0 ∙ ap (λ t. v.0.0 ++ t) (close ∙ ap (λ t. 34 ∷ t) last) ∙ ap (λ u. u ++ 34 ∷ rest) same))
          ∙ ap (λ m. decimal m ++ 58 ∷ 34 ∷ (w ++ 34 ∷ rest)) len ∙ sym (quoted_parts w rest),
      subst (λ m. m < 2 ^ 64) len count.1,
    )

-- ---- integers and texts, behind their first two bytes
pub integer-integer : (n : ℤ) (rest : List ℕ) → IsInteger n → integer_behind ((signed_decimal n ++ codes ";") ++ rest) ≡ Some (n, rest)
unfolding integer_behind
integer-integer n rest h =
    ap integer_behind (append_assoc (signed_decimal n) (codes ";") rest)
    ∙ on (λ l. and_then (signed l.0) (λ n. Some (n, l.1))) (cut-front 59 (signed_decimal n) rest (lacks-signed 59 n (omega arith) h))
    ∙ on (λ n. Some (n, rest)) (signed-signed n h)

pub integer_read : (xs : List ℕ) (n : ℤ) (rest : List ℕ) → integer_behind xs ≡ Some (n, rest) → (xs ≡ (signed_decimal n ++ codes ";") ++ rest) × IsInteger n
unfolding integer_behind
integer_read xs n rest e =
    let l = bound (cut 59 xs) (λ l. and_then (signed l.0) (λ n. Some (n, l.1))) (n, rest) e in
    let m = bound (signed l.0.0) (λ n. Some (n, l.0.1)) (n, rest) l.2 in
    let p = from_some (m.0, l.0.1) (n, rest) m.2 in
    let r = signed_read l.0.0 m.0 m.1 in (
      cut_read 59 xs l.0.0 l.0.1 l.1 ∙ ap (λ w. w ++ 59 ∷ l.0.1) r.0 ∙ ap (λ q. signed_decimal q.0 ++ 59 ∷ q.1) p ∙ sym (append_assoc (signed_decimal n) (codes ";") rest),
      subst (λ q. mag q < 2 ^ 63) (ap (λ q. q.0) p) r.1,
    )

pub bytes-bytes : (w rest : List ℕ) → IsCount (length w) → bytes_behind ((texts.quoted w ++ codes ";") ++ rest) ≡ Some (w, rest)
unfolding bytes_behind
bytes-bytes w rest h =
    ap bytes_behind (append_assoc (texts.quoted w) (codes ";") rest)
    ∙ on (λ w. and_then (literal (codes ";") w.1) (λ e. Some (w.0, e.1))) (quoted-quoted w (codes ";" ++ rest) h)
    ∙ on (λ e. Some (w, e.1)) (literal-front (codes ";") rest)

pub bytes_read : (xs w rest : List ℕ) → bytes_behind xs ≡ Some (w, rest) → (xs ≡ (texts.quoted w ++ codes ";") ++ rest) × IsCount (length w)
unfolding bytes_behind
bytes_read xs w rest e =
    let v = bound (quoted xs) (λ w. and_then (literal (codes ";") w.1) (λ e. Some (w.0, e.1))) (w, rest) e in
    let c = bound (literal (codes ";") v.0.1) (λ e. Some (v.0.0, e.1)) (w, rest) v.2 in
    let p = from_some (v.0.0, c.0.1) (w, rest) c.2 in
    let q = quoted_read xs v.0.0 v.0.1 v.1 in
    let end = literal_read (codes ";") v.0.1 c.0.1 c.0.0 c.1 in (
      q.0 ∙ ap (λ t. texts.quoted v.0.0 ++ t) end ∙ ap (λ q. texts.quoted q.0 ++ 59 ∷ q.1) p ∙ sym (append_assoc (texts.quoted w) (codes ";") rest),
      subst (λ u. length u < 2 ^ 64) (ap (λ q. q.0) p) q.1,
    )

-- ---- keys
int_behind : (n : ℤ) (rest : List ℕ) → IsInteger n → key_behind (codes "i:") ((signed_decimal n ++ codes ";") ++ rest) ≡ Some (Int n, rest)
unfolding key_behind
int_behind n rest h = on (λ n. Some (Int n.0, n.1)) (integer-integer n rest h)

text_behind : (w rest : List ℕ) → IsCount (length w) → key_behind (codes "s:") ((texts.quoted w ++ codes ";") ++ rest) ≡ Some (Text w, rest)
unfolding key_behind
text_behind w rest h = on (λ w. Some (Text w.0, w.1)) (bytes-bytes w rest h)

pub key-key : (keys : Keys) (k : Key) (rest : List ℕ) → is_fit keys k ≡ true → IsWholeKey k → key keys (key_text k ++ rest) ≡ Some (k, rest)
unfolding key
key-key keys (Int n) rest fit h =
    on (λ t. and_then (key_behind t.0 t.1) (λ k. cond (is_fit keys k.0) (Some k) None)) (taken-front (codes "i:") ((signed_decimal n ++ codes ";") ++ rest))
    ∙ on (λ k. cond (is_fit keys k.0) (Some k) None) (int_behind n rest h)
    ∙ ap (λ b. cond b (Some (Int n, rest)) None) fit
key-key keys (Text w) rest fit h =
    on (λ t. and_then (key_behind t.0 t.1) (λ k. cond (is_fit keys k.0) (Some k) None)) (taken-front (codes "s:") ((texts.quoted w ++ codes ";") ++ rest))
    ∙ on (λ k. cond (is_fit keys k.0) (Some k) None) (text_behind w rest h)
    ∙ ap (λ b. cond b (Some (Text w, rest)) None) fit

-- a choice by the first two bytes
pub by_kind : {A : Type 0} (kind word : List ℕ) (o p : Option A) (r : A) → cond (is_text kind word) o p ≡ Some r → ((kind ≡ word) × (o ≡ Some r)) ⊎ (p ≡ Some r)
by_kind kind word o p r e = by (is_text kind word) refl e
  where
    by : (b : Bool) → is_text kind word ≡ b → cond b o p ≡ Some r → ((kind ≡ word) × (o ≡ Some r)) ⊎ (p ≡ Some r)
    by true h e = inl (text_is kind word h, e)
    by false h e = inr e

key_behind_read : (kind xs : List ℕ) (k : Key) (rest : List ℕ) → key_behind kind xs ≡ Some (k, rest) → (kind ++ xs ≡ key_text k ++ rest) × IsWholeKey k
unfolding key_behind
key_behind_read kind xs k rest e = elim (by_kind kind (codes "i:") _ _ (k, rest) e) [
  | inl h ↦
      let n = bound (integer_behind xs) (λ n. Some (Int n.0, n.1)) (k, rest) h.1 in
      let p = from_some (Int n.0.0, n.0.1) (k, rest) n.2 in
      let r = integer_read xs n.0.0 n.0.1 n.1 in
      (ap (λ w. w ++ xs) h.0 ∙ ap (λ w. codes "i:" ++ w) r.0 ∙ ap (λ q. key_text q.0 ++ q.1) p, subst IsWholeKey (ap (λ q. q.0) p) r.1)
  | inr f ↦ texts_case (by_kind kind (codes "s:") _ _ (k, rest) f)
]
  where
    texts_case : ((kind ≡ codes "s:") × Gives {A = Key} (and_then (bytes_behind xs) (λ w. Some (Text w.0, w.1))) k rest) ⊎ Gives {A = Key} None k rest → (kind ++ xs ≡ key_text k ++ rest) × IsWholeKey k
    texts_case (inl h) =
        let n = bound (bytes_behind xs) (λ w. Some (Text w.0, w.1)) (k, rest) h.1 in
        let p = from_some (Text n.0.0, n.0.1) (k, rest) n.2 in
        let r = bytes_read xs n.0.0 n.0.1 n.1 in
        (ap (λ w. w ++ xs) h.0 ∙ ap (λ w. codes "s:" ++ w) r.0 ∙ ap (λ q. key_text q.0 ++ q.1) p, subst IsWholeKey (ap (λ q. q.0) p) r.1)
    texts_case (inr f) = absurd (none_some (k, rest) f)

pub key_read : (keys : Keys) (xs : List ℕ) (k : Key) (rest : List ℕ) → key keys xs ≡ Some (k, rest) → (xs ≡ key_text k ++ rest) × IsWholeKey k × (is_fit keys k ≡ true)
unfolding key
key_read keys xs k rest e =
    let t = bound (taken 2 xs) (λ t. and_then (key_behind t.0 t.1) (λ k. cond (is_fit keys k.0) (Some k) None)) (k, rest) e in
    let m = bound (key_behind t.0.0 t.0.1) (λ k. cond (is_fit keys k.0) (Some k) None) (k, rest) t.2 in
    let f = some_if (is_fit keys m.0.0) m.0 (k, rest) m.2 in
    let r = key_behind_read t.0.0 t.0.1 m.0.0 m.0.1 m.1 in (
      (taken_read 2 xs t.0.0 t.0.1 t.1).0 ∙ r.0 ∙ ap (λ q. key_text q.0 ++ q.1) f.1,
      subst IsWholeKey (ap (λ q. q.0) f.1) r.1,
      subst (λ j. is_fit keys j ≡ true) (ap (λ q. q.0) f.1) f.0,
    )
