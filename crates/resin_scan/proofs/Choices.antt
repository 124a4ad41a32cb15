-- Tests on bytes, and bytes at places of a text.
use Rattle.std.proofs.Common.{◌≡◌, ℕ, zero, suc, ◌+◌, ◌<◌, Bool, true, false, List, [], ◌∷◌, ◌++◌, take, drop, length, refl, sym, ◌∙◌, ap, subst, arith}
use Rattle.std.specs.Prelude.{◌==◌, ◌&&◌, ◌||◌}
use Rattle.std.proofs.lemmas.Bool.{eqb-true}
use Rattle.std.proofs.lemmas.Bool.Decides.{nat_tests}
use Rattle.resin_scan.specs.Bytes.{byte}
use Rattle.resin_scan.specs.Lists.{NotBefore}

pub or_left : (a b : Bool) → (a || b) ≡ false → a ≡ false
or_left true b h = absurd (cc)
or_left false b h = refl

pub or_right : (a b : Bool) → (a || b) ≡ false → b ≡ false
or_right true b h = absurd (cc)
or_right false b h = h

pub or_first : (a b : Bool) → a ≡ true → (a || b) ≡ true
or_first a b h = rw h refl

pub or_second : (a b : Bool) → b ≡ true → (a || b) ≡ true
or_second true b h = refl
or_second false b h = h

pub or_no : (a b : Bool) → a ≡ false → b ≡ false → (a || b) ≡ false
or_no a b h j = rw (h, j) refl

pub or_one : (a b : Bool) → (a || b) ≡ true → b ≡ false → a ≡ true
or_one true b h j = refl
or_one false b h j = absurd (cc)

pub and_left : (a b : Bool) → (a && b) ≡ true → a ≡ true
and_left true b h = refl
and_left false b h = absurd (cc)

pub and_right : (a b : Bool) → (a && b) ≡ true → b ≡ true
and_right true b h = h
and_right false b h = absurd (cc)

pub and_yes : (a b : Bool) → a ≡ true → b ≡ true → (a && b) ≡ true
and_yes a b h k = rw (h, k) refl

pub and_no : (a b : Bool) → b ≡ false → (a && b) ≡ false
and_no true b h = h
and_no false b h = refl

pub and_not : (a b : Bool) → a ≡ false → (a && b) ≡ false
and_not a b h = rw h refl

pub and_or : (a b c : Bool) → (a && b) ≡ false → (a && c) ≡ false → (a && (b || c)) ≡ false
and_or true b c h j = or_no b c h j
and_or false b c h j = refl

pub and_or_left : (a b c : Bool) → (a && (b || c)) ≡ false → (a && b) ≡ false
and_or_left true b c h = or_left b c h
and_or_left false b c h = refl

pub and_or_right : (a b c : Bool) → (a && (b || c)) ≡ false → (a && c) ≡ false
and_or_right true b c h = or_right b c h
and_or_right false b c h = refl

pub same : (n : ℕ) → (n == n) ≡ true
same n = grind (arith, nat_tests)

-- a byte that passes is none that doesn't
pub other_byte : (p : ℕ → Bool) (c k : ℕ) → p k ≡ false → p c ≡ true → (c == k) ≡ false
other_byte p c k h j = grind arith

-- where a test finds this byte, it stands there
pub arm : (P : ℕ → Type 0) (b k : ℕ) → (b == k) ≡ true → P k → P b
arm P b k h p = subst P (sym (eqb-true b k h)) p

pub first_of_rest : (p : ℕ → Bool) (rest : List ℕ) → p 0 ≡ false → NotBefore p rest → p (byte rest 0) ≡ false
first_of_rest p [] z h = z
first_of_rest p (b ∷ bs) z h = h

pub behind : (p : ℕ → Bool) (xs : List ℕ) (n : ℕ) → p (byte xs n) ≡ false → NotBefore p (drop n xs)
behind p [] zero h = tt
behind p [] (suc n) h = tt
behind p (x ∷ xs) zero h = h
behind p (x ∷ xs) (suc n) h = behind p xs n h

pub byte_behind : (w rest : List ℕ) (i : ℕ) → byte (w ++ rest) (length w + i) ≡ byte rest i
byte_behind [] rest i = ap (byte rest) (omega arith)
byte_behind (b ∷ w) rest i = let e : suc (length w) + i ≡ suc (length w + i) = omega arith in rw e (byte_behind w rest i)

pub byte_at : (b : ℕ) (bs : List ℕ) (n : ℕ) → byte (b ∷ bs) (1 + n) ≡ byte bs n
byte_at b bs n = let e : 1 + n ≡ suc n = omega arith in ap (byte (b ∷ bs)) e

pub byte_0 : (xs : List ℕ) (n : ℕ) → byte xs n ≡ byte (drop n xs) 0
byte_0 [] zero = refl
byte_0 [] (suc n) = refl
byte_0 (x ∷ xs) zero = refl
byte_0 (x ∷ xs) (suc n) = byte_0 xs n

pub byte_1 : (xs : List ℕ) (n : ℕ) → byte xs (suc n) ≡ byte (drop n xs) 1
byte_1 [] zero = refl
byte_1 [] (suc n) = refl
byte_1 (x ∷ xs) zero = refl
byte_1 (x ∷ xs) (suc n) = byte_1 xs n

pub more : (n k : ℕ) → n ≡ k → 1 + n ≡ suc k
more n k e = omega arith

-- a byte that is not 0, behind n bytes
pub record Closed (xs : List ℕ) (n k : ℕ) : Type 0 where
  pub here : drop n xs ≡ k ∷ drop (suc n) xs
  pub taken : take (suc n) xs ≡ take n xs ++ k ∷ []

pub closed : (xs : List ℕ) (n k : ℕ) → (0 == k) ≡ false → (byte xs n == k) ≡ true → Closed xs n k
closed [] zero k z h = absurd (cc)
closed [] (suc n) k z h = absurd (cc)
closed (x ∷ xs) zero k z h = let e : x ≡ k = eqb-true x k h in record { here = rw e refl; taken = rw e refl }
closed (x ∷ xs) (suc n) k z h = let c = closed xs n k z h in record { here = c.here; taken = ap (λ u. x ∷ u) c.taken }

-- where a text begins with this byte, it is this byte and the rest
pub begun : (P : List ℕ → Type 0) (xs : List ℕ) (k : ℕ) → (0 == k) ≡ false → (byte xs 0 == k) ≡ true → P (k ∷ drop 1 xs) → P xs
begun P xs k z h p = subst P (sym (closed xs 0 k z h).here) p

-- a text with no byte has 0 in front
pub not_empty : (p : ℕ → Bool) (xs : List ℕ) → p 0 ≡ false → p (byte xs 0) ≡ true → 0 < length xs
not_empty p [] z h = absurd (let e : false ≡ true = sym z ∙ h in cc)
not_empty p (x ∷ xs) z h = omega arith
