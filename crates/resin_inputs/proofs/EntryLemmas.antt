-- The names `b[k]`.
use Rattle.std.proofs.Common.{arith, ◌≡◌, ℕ, ◌+◌, ◌<◌, ltb, suc, List, [], ◌∷◌, ◌++◌, length, take, drop, cond, not, Bool, true, false, Option, Some, None, refl, sym, ap, ◌∙◌}
use Rattle.std.specs.Prelude.{◌&&◌, ◌||◌, ◌==◌, nat_lt, codes, if◌then◌else◌, ◌↔◌, unwrap_or}
use Rattle.std.specs.List.{position_or_len, before_first, list_any}
use Rattle.std.proofs.lemmas.Bool.{true≢false, false≢true, eqb-true, ltb-true, lt-ltb, and_parts}
use Rattle.std.proofs.lemmas.Slice.Eq.{bytes_eq-Decides}
use Rattle.std.proofs.lemmas.List.{take_at, drop_at, take-append-drop}
use Rattle.resin_inputs.specs.Names.{is_bracket, before_bracket, from_bracket, same_bytes, parts_of, entry_of, IsEntryName, EntryLaw}

or_left : (a b : Bool) → (a || b) ≡ false → a ≡ false
or_left true b e = e
or_left false b e = refl

or_right : (a b : Bool) → (a || b) ≡ false → b ≡ false
or_right true b e = absurd (true≢false e)
or_right false b e = e

-- the first byte of a kind stands behind those that are of no such kind
at_first : (p : ℕ → Bool) (b : List ℕ) (y : ℕ) (ys : List ℕ) → list_any p b ≡ false → p y ≡ true → position_or_len p (b ++ (y ∷ ys)) ≡ length b
at_first p [] y ys none here = ap (λ v. cond (not v) (1 + position_or_len p ys) 0) here
at_first p (x ∷ b) y ys none here =
    let ih = at_first p b y ys (or_right (p x) (list_any p b) none) here in
    ap (λ v. cond (not v) (1 + position_or_len p (b ++ (y ∷ ys))) 0) (or_left (p x) (list_any p b) none) ∙ (let e : 1 + position_or_len p (b ++ (y ∷ ys)) ≡ suc (length b) = omega (arith, ih) in e)

-- what stands before the first byte of a kind holds none
none_before : (p : ℕ → Bool) (xs : List ℕ) → list_any p (before_first p xs) ≡ false
none_before p [] = refl
none_before p (x ∷ xs) =
    let n = position_or_len p xs in
    elim (p x) as (λ v. p x ≡ v → list_any p (take (cond (not v) (1 + n) 0) (x ∷ xs)) ≡ false) [
      | true ↦ λ h. refl
      | false ↦ λ h.
          (let e : 1 + n ≡ suc n = omega arith in ap (λ m. list_any p (take m (x ∷ xs))) e)
          ∙ ap (λ v. v || list_any p (take n xs)) h ∙ none_before p xs
    ] refl

before_it : (b : List ℕ) (y : ℕ) (ys : List ℕ) → list_any is_bracket b ≡ false → is_bracket y ≡ true → before_bracket (b ++ (y ∷ ys)) ≡ b
before_it b y ys none here = take_at b (y ∷ ys) _ (sym (at_first is_bracket b y ys none here))

from_it : (b : List ℕ) (y : ℕ) (ys : List ℕ) → list_any is_bracket b ≡ false → is_bracket y ≡ true → from_bracket (b ++ (y ∷ ys)) ≡ y ∷ ys
from_it b y ys none here = drop_at b (y ∷ ys) _ (sym (at_first is_bracket b y ys none here))

there_true : (b : List ℕ) → 0 < length b → nat_lt 0 (length b) ≡ true
there_true b less = lt-ltb 0 (length b) less

-- a name `b[k]` has the parts b and k
pub spelled_parts : (name b k : List ℕ) → IsEntryName name b k → entry_of name ≡ Some (b, k)
spelled_parts name b k e =
    ap entry_of e.spelled
    ∙ (λ i. parts_of (before_it b 91 (k ++ (93 ∷ [])) e.outer refl i) (from_it b 91 (k ++ (93 ∷ [])) e.outer refl i))
    ∙ (λ i. cond {A = Option (List ℕ × List ℕ)} (there_true b e.there i && true && same_bytes (from_it k 93 [] e.inner refl i) (codes "]")) (Some (b, before_it k 93 [] e.inner refl i)) None)

-- what the parts of a name tell
pub record Parts (front rest b k : List ℕ) : Type 0 where
  pub front_is : front ≡ b
  pub there : 0 < length front
  pub rest_is : rest ≡ 91 ∷ (k ++ (93 ∷ []))
  pub inner : list_any is_bracket k ≡ false

no_parts : {X : Type 0} (x : X) → None ≡ Some x → ⊥
no_parts x e = false≢true (ap Rattle.std.specs.Prelude.is_some e)

parts_tell : (front rest b k : List ℕ) → parts_of front rest ≡ Some (b, k) → Parts front rest b k
parts_tell front [] b k e = absurd (no_parts (b, k) e)
parts_tell front (c ∷ rest) b k e =
    let test = nat_lt 0 (length front) && c == 91 && same_bytes (from_bracket rest) (codes "]") in
    elim test as (λ v. test ≡ v → cond {A = Option (List ℕ × List ℕ)} v (Some (front, before_bracket rest)) None ≡ Some (b, k) → Parts front (c ∷ rest) b k) [
      | true ↦ λ h f.
          let halves = and_parts (nat_lt 0 (length front) && c == 91) (same_bytes (from_bracket rest) (codes "]")) h in
          let fronts = and_parts (nat_lt 0 (length front)) (c == 91) halves.0 in
          let parts : (front, before_bracket rest) ≡ (b, k) = cc in
          let front_is : front ≡ b = ap (λ (q : List ℕ × List ℕ). q.0) parts in
          let inner_is : before_bracket rest ≡ k = ap (λ (q : List ℕ × List ℕ). q.1) parts in
          let end_is : from_bracket rest ≡ 93 ∷ [] = (bytes_eq-Decides (from_bracket rest) (93 ∷ [])).0 halves.1 in
          record {
            front_is = front_is;
            there = ltb-true 0 (length front) fronts.0;
            rest_is = (λ i. eqb-true c 91 fronts.1 i ∷ (sym (take-append-drop (position_or_len is_bracket rest) rest) ∙ (λ j. inner_is j ++ end_is j)) i);
            inner = ap (list_any is_bracket) (sym inner_is) ∙ none_before is_bracket rest;
          }
      | false ↦ λ h f. absurd (no_parts (b, k) f)
    ] refl e

-- the parts b and k are those of a name `b[k]`
pub parts_spelled : (name b k : List ℕ) → entry_of name ≡ Some (b, k) → IsEntryName name b k
parts_spelled name b k e =
    let parts = parts_tell (before_bracket name) (from_bracket name) b k e in
    record {
      spelled = sym (take-append-drop (position_or_len is_bracket name) name) ∙ (λ i. parts.front_is i ++ parts.rest_is i);
      there = (let P : List ℕ → Type 0 = λ x. 0 < length x in Rattle.std.proofs.Common.subst P parts.front_is parts.there);
      outer = ap (list_any is_bracket) (sym parts.front_is) ∙ none_before is_bracket name;
      inner = parts.inner;
    }

pub law : EntryLaw
law name b k = (parts_spelled name b k, spelled_parts name b k)
