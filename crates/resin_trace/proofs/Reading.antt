-- The reader tells what stands at the front.
use Rattle.std.proofs.Common.{◌≡◌, ℕ, zero, suc, ◌+◌, ◌*◌, ◌-◌, ◌<◌, ◌≤◌, Bool, true, false, List, [], ◌∷◌, ◌++◌, take, drop, length, get_or, refl, sym, ◌∙◌, ap, subst, arith, ◌⊎◌, inl, inr, length-append, append_assoc}
use Rattle.std.proofs.lemmas.List.{take-append-drop, get_or_append_left, append-nil}
use Rattle.std.proofs.Math.Seq.{get_or-append_seam}
use Rattle.std.proofs.Math.ListN.{replicate}
use Rattle.std.proofs.lemmas.List.{length-replicate, length-take-le}
use Rattle.std.proofs.lemmas.Bool.{ltb-true, ltb-false, leb-true, leb-false, eqb-true, eqb-false}
use Rattle.std.proofs.lemmas.Bool.Decides.{nat_tests}
use Rattle.std.specs.Prelude.{◌==◌, ◌&&◌, ◌||◌, nat_lt, nat_le}
use Rattle.resin_trace.specs.Records.{IsDigit}
use Rattle.resin_trace.specs.Front.{Found, is_digit, digit, digits, number, after, end, body, sized, said, numbered, front}
use Rattle.resin_trace.specs.declared.event.TraceEvent.{TraceEvent}
use Rattle.resin_trace.specs.declared.event.TraceEvent.TheVariants.{Piece, End}
use Rattle.resin_trace.proofs.Turns.{choose, front_at}
use Rattle.resin_trace.proofs.Stages.{Lang, Stand, Tells, Empty, one_byte, same_words, no_byte, at_end, head_of, tail_of, Ends, Bytes, Sized, Digits, First, Said, Numbered, Record}

is_digit_of : (b : ℕ) → is_digit b ≡ true → IsDigit b
is_digit_of b h = (grind (arith, nat_tests), grind (arith, nat_tests))

no_digit_of : (b : ℕ) → is_digit b ≡ false → IsDigit b → ⊥
no_digit_of b h d = let l : 48 ≤ b = d.0 in let k : b ≤ 57 = d.1 in grind (arith, nat_tests)

digit_test : (b : ℕ) → IsDigit b → is_digit b ≡ true
digit_test b d = let l : 48 ≤ b = d.0 in let k : b ≤ 57 = d.1 in grind (arith, nat_tests)

or_yes : (a b : Bool) → (a || b) ≡ true → (a ≡ true) ⊎ (b ≡ true)
or_yes true b h = inl refl
or_yes false b h = inr h

or_left : (a b : Bool) → (a || b) ≡ false → a ≡ false
or_left true b h = absurd (cc)
or_left false b h = refl

or_right : (a b : Bool) → (a || b) ≡ false → b ≡ false
or_right true b h = absurd (cc)
or_right false b h = h

and_left : (a b : Bool) → (a && b) ≡ true → a ≡ true
and_left true b h = refl
and_left false b h = absurd (cc)

and_right : (a b : Bool) → (a && b) ≡ true → b ≡ true
and_right true b h = h
and_right false b h = absurd (cc)

and_fails : (a b : Bool) → (a && b) ≡ false → (a ≡ true) → b ≡ false
and_fails true b h e = h
and_fails false b h e = absurd (cc)

moved : (L : Lang) (at k : ℕ) (text : List ℕ) (s : Found) → at ≡ k → Tells L at text s → Tells L k text s
moved L at k text s e t = subst (λ i. Tells L i text s) e t

drop_next : (at b : ℕ) (bs whole : List ℕ) → b ∷ bs ≡ drop at whole → bs ≡ drop (suc at) whole
drop_next zero b bs [] e = absurd (cc)
drop_next zero b bs (x ∷ xs) e = ap tail_of e
drop_next (suc at) b bs [] e = absurd (cc)
drop_next (suc at) b bs (x ∷ xs) e = drop_next at b bs xs e

-- the word that ends a connection
pub end_tells : (conn at : ℕ) (word text : List ℕ) → Tells (Ends conn word) at text (end conn at word text)
end_tells conn at [] text = record { word = []; rest = text; says = (refl, refl); is = refl; used_is = omega arith }
end_tells conn at (c ∷ cs) [] = at_end (Ends conn (c ∷ cs)) at (λ e h. absurd (cc)) (c ∷ cs) (End conn) (refl, refl)
end_tells conn at (c ∷ cs) (b ∷ bs) =
    choose (Tells (Ends conn (c ∷ cs)) at (b ∷ bs)) (b == c)
    (λ h. one_byte (Ends conn (c ∷ cs)) (Ends conn cs) at b bs (λ e h. absurd (cc)) (λ w e k. (ap tail_of k.0, k.1))
    (λ w e k. (ap (λ l. b ∷ l) k.0 ∙ ap (λ d. d ∷ cs) (eqb-true b c h), k.1)) (end conn (suc at) cs bs) (end_tells conn (suc at) cs bs))
    (λ h. no_byte (Ends conn (c ∷ cs)) at b bs (λ e h. absurd (cc)) (λ w e k. eqb-false b c h (ap (head_of 0) k.0)))

-- bytes of a known count
filled : (count : ℕ) (text : List ℕ) → List ℕ
filled count text = replicate (count - length text) 0 ++ 10 ∷ []

body_comes : (conn count : ℕ) (text : List ℕ) → length text ≤ count → Stand (Bytes conn count) (text ++ filled count text)
unfolding filled
body_comes conn count text h = record {
  event = Piece conn (text ++ replicate (count - length text) 0);
  word = text ++ filled count text;
  rest = [];
  says = record {
    bytes = text ++ replicate (count - length text) 0;
    is = sym (append_assoc text (replicate (count - length text) 0) (10 ∷ []));
    count_is = omega (arith, length-append text (replicate (count - length text) 0), length-replicate {A = ℕ} (count - length text) 0);
    event = refl;
  };
  is = sym (append-nil _);
}

seam : (conn count : ℕ) (text : List ℕ) (s : Stand (Bytes conn count) text) → (count < length text) × (get_or text count 0 ≡ 10)
seam conn count text s =
    let e : text ≡ s.says.bytes ++ 10 ∷ s.rest = s.is ∙ ap (λ l. l ++ s.rest) s.says.is ∙ append_assoc s.says.bytes (10 ∷ []) s.rest in
    let k : length s.says.bytes ≡ count = s.says.count_is in
    let l : length text ≡ length s.says.bytes + suc (length s.rest) = ap length e ∙ length-append s.says.bytes (10 ∷ s.rest) in
    (omega arith, ap (λ t. get_or t count 0) e ∙ ap (λ i. get_or (s.says.bytes ++ 10 ∷ s.rest) i 0) (sym k) ∙ get_or-append_seam s.says.bytes 10 s.rest 0)

pub body_tells : (conn count at : ℕ) (text : List ℕ) → Tells (Bytes conn count) at text (body conn count at text)
body_tells conn count at text =
    choose (Tells (Bytes conn count) at text) (nat_le (length text) count)
    (λ h. let l : length text ≤ count = leb-true _ _ h in record {
      none = λ s. (let k : count < length text = (seam conn count text s).0 in absurd (omega arith));
      more = filled count text;
      comes = body_comes conn count text l;
    })
    (λ h. let l : count < length text = leb-false _ _ h in
    choose (Tells (Bytes conn count) at text) (get_or text count 0 == 10)
    (λ k. record {
      word = take count text ++ 10 ∷ [];
      rest = drop (count + 1) text;
      says = record { bytes = take count text; is = refl; count_is = length-take-le count text (omega arith); event = refl };
      is = sym (take-append-drop count text) ∙ ap (λ u. take count text ++ u) (front_at count text l ∙ ap (λ b. b ∷ drop (count + 1) text) (eqb-true _ _ k)) ∙ sym (append_assoc (take count text) (10 ∷ []) (drop (count + 1) text));
      used_is = omega (arith, length-append (take count text) (10 ∷ []), length-take-le count text (omega arith));
    })
    (λ k. λ more s. eqb-false _ _ k (sym (get_or_append_left text more 0 count l) ∙ (seam conn count (text ++ more) s).1)))

empty_sized : (conn count : ℕ) → Empty (Sized conn count)
empty_sized conn count e h = h

pub sized_tells : (conn count at : ℕ) (text : List ℕ) → Tells (Sized conn count) at text (sized conn count at text)
sized_tells conn count at [] =
    at_end (Sized conn count) at (empty_sized conn count) (10 ∷ (replicate count 0 ++ 10 ∷ [])) (Piece conn (replicate count 0))
    (refl, record { bytes = replicate count 0; is = refl; count_is = length-replicate count 0; event = refl })
sized_tells conn count at (b ∷ bs) =
    choose (Tells (Sized conn count) at (b ∷ bs)) (b == 10)
    (λ h. one_byte (Sized conn count) (Bytes conn count) at b bs (empty_sized conn count) (λ w e k. k.1) (λ w e k. (eqb-true b 10 h, k)) (body conn count (at + 1) bs)
    (moved (Bytes conn count) (at + 1) (suc at) bs (body conn count (at + 1) bs) (omega arith) (body_tells conn count (at + 1) bs)))
    (λ h. no_byte (Sized conn count) at b bs (empty_sized conn count) (λ w e k. eqb-false b 10 h k.0))

-- a number, and what comes after it
module _ (K : ℕ → Lang) (f : ℕ → ℕ → List ℕ → Found) (base high : ℕ) (empty : (v : ℕ) → Empty (K v))
    (apart : (v b : ℕ) (w : List ℕ) (e : TraceEvent) → IsDigit b → K v (b ∷ w) e → ⊥)
    (word : ℕ → List ℕ) (event : ℕ → TraceEvent) (comes : (v : ℕ) → K v (word v) (event v))
    (tells : (v used : ℕ) (text : List ℕ) → Tells (K v) (base + used) text (f v used text)) where
  enters : (v : ℕ) (w : List ℕ) (e : TraceEvent) → K v w e → Digits high K v w e
  enters v [] e h = empty v e h
  enters v (b ∷ w) e h = inr h

  digits_tells : (whole : List ℕ) (value used : ℕ) (text : List ℕ) → text ≡ drop used whole → Tells (Digits high K value) (base + used) text (after f whole (digits high value used text))
  digits_tells whole value used [] e = at_end (Digits high K value) (base + used) (λ e h. h) (word value) (event value) (enters value (word value) (event value) (comes value))
  digits_tells whole value used (b ∷ bs) e =
      let L : Lang = Digits high K value in
      let next : ℕ = 10 * value + digit b in
      choose (λ r. Tells L (base + used) (b ∷ bs) (after f whole r)) (is_digit b)
      (λ d. choose (λ r. Tells L (base + used) (b ∷ bs) (after f whole r)) (value == 0 || nat_lt high next)
      (λ h. no_byte L (base + used) b bs (λ e h. h) (λ w e k. elim k as (λ _. ⊥) [
        | inl i ↦ elim (or_yes (value == 0) (nat_lt high next) h) as (λ _. ⊥) [ inl z ↦ i.1 (eqb-true _ _ z) | inr l ↦ (let a : high < next = ltb-true _ _ l in let c : next ≤ high = i.2 in absurd (omega arith)) ]
        | inr i ↦ apart value b w e (is_digit_of b d) i
      ]))
      (λ h. one_byte L (Digits high K next) (base + used) b bs (λ e h. h)
      (λ w e k. elim k as (λ _. Digits high K next w e) [ inl i ↦ i.3 | inr i ↦ absurd (apart value b w e (is_digit_of b d) i) ])
      (λ w e k. inl (is_digit_of b d, eqb-false _ _ (or_left _ _ h), ltb-false _ _ (or_right _ _ h), k))
      (after f whole (digits high next (suc used) bs))
      (moved (Digits high K next) (base + suc used) (suc (base + used)) bs (after f whole (digits high next (suc used) bs)) (omega arith) (digits_tells whole next (suc used) bs (drop_next used b bs whole e)))))
      (λ d. same_words L (K value) (base + used) b bs (λ e h. h) (empty value)
      (λ w e k. elim k as (λ _. K value (b ∷ w) e) [ inl i ↦ absurd (no_digit_of b d i.0) | inr i ↦ i ])
      (λ w e k. inr k)
      (f value used (drop used whole))
      (subst (λ t. Tells (K value) (base + used) (b ∷ bs) (f value used t)) e (tells value used (b ∷ bs))))

  pub number_tells : (low : ℕ) → low ≤ 9 → (text : List ℕ) → Tells (First low high K) base text (after f text (number low high text))
  number_tells low nine [] = at_end (First low high K) base (λ e h. h) (57 ∷ word 9) (event 9) ((omega arith, omega arith), nine, enters 9 (word 9) (event 9) (comes 9))
  number_tells low nine (b ∷ bs) =
      choose (λ r. Tells (First low high K) base (b ∷ bs) (after f (b ∷ bs) r)) (is_digit b && nat_le low (digit b))
      (λ d. one_byte (First low high K) (Digits high K (digit b)) base b bs (λ e h. h) (λ w e k. k.2) (λ w e k. (is_digit_of b (and_left _ _ d), leb-true _ _ (and_right _ _ d), k))
      (after f (b ∷ bs) (digits high (digit b) 1 bs))
      (moved (Digits high K (digit b)) (base + 1) (suc base) bs (after f (b ∷ bs) (digits high (digit b) 1 bs)) (omega arith) (digits_tells (b ∷ bs) (digit b) 1 bs refl)))
      (λ d. no_byte (First low high K) base b bs (λ e h. h) (λ w e k. (let l : digit b < low = leb-false _ _ (and_fails (is_digit b) (nat_le low (digit b)) d (digit_test b k.0)) in let m : low ≤ digit b = k.1 in absurd (omega arith))))

-- what stands after the space
pub said_tells : (conn at : ℕ) (text : List ℕ) → Tells (Said conn) at text (said conn at text)
said_tells conn at [] = at_end (Said conn) at (λ e h. h) (101 ∷ 110 ∷ 100 ∷ 10 ∷ []) (End conn) (inl (refl, (refl, refl)))
said_tells conn at (b ∷ bs) =
    choose (Tells (Said conn) at (b ∷ bs)) (b == 101)
    (λ h. one_byte (Said conn) (Ends conn (110 ∷ 100 ∷ 10 ∷ [])) at b bs (λ e h. h)
    (λ w e k. elim k as (λ _. Ends conn (110 ∷ 100 ∷ 10 ∷ []) w e) [ inl i ↦ i.1 | inr i ↦ (let l : b ≤ 57 = i.0.1 in let m : b ≡ 101 = eqb-true b 101 h in absurd (omega arith)) ])
    (λ w e k. inl (eqb-true b 101 h, k))
    (end conn (at + 1) (110 ∷ 100 ∷ 10 ∷ []) bs)
    (moved (Ends conn (110 ∷ 100 ∷ 10 ∷ [])) (at + 1) (suc at) bs (end conn (at + 1) (110 ∷ 100 ∷ 10 ∷ []) bs) (omega arith) (end_tells conn (at + 1) (110 ∷ 100 ∷ 10 ∷ []) bs)))
    (λ h. same_words (Said conn) (First 0 1048576 (Sized conn)) at b bs (λ e h. h) (λ e h. h)
    (λ w e k. elim k as (λ _. First 0 1048576 (Sized conn) (b ∷ w) e) [ inl i ↦ absurd (eqb-false b 101 h i.0) | inr i ↦ i ])
    (λ w e k. inr k)
    (after (λ count used. sized conn count (at + used)) (b ∷ bs) (number 0 1048576 (b ∷ bs)))
    (number_tells (Sized conn) (λ count used. sized conn count (at + used)) at 1048576 (λ v e h. h)
    (λ v b w e d k. (let l : 48 ≤ b = d.0 in let m : b ≡ 10 = k.0 in absurd (omega arith)))
    (λ v. 10 ∷ (replicate v 0 ++ 10 ∷ [])) (λ v. Piece conn (replicate v 0))
    (λ v. (refl, record { bytes = replicate v 0; is = refl; count_is = length-replicate v 0; event = refl }))
    (λ v used text. sized_tells conn v (at + used) text)
    0 (omega arith) (b ∷ bs)))

pub numbered_tells : (conn at : ℕ) (text : List ℕ) → Tells (Numbered conn) at text (numbered conn at text)
numbered_tells conn at [] = at_end (Numbered conn) at (λ e h. h) (32 ∷ 101 ∷ 110 ∷ 100 ∷ 10 ∷ []) (End conn) (refl, inl (refl, (refl, refl)))
numbered_tells conn at (b ∷ bs) =
    choose (Tells (Numbered conn) at (b ∷ bs)) (b == 32)
    (λ h. one_byte (Numbered conn) (Said conn) at b bs (λ e h. h) (λ w e k. k.1) (λ w e k. (eqb-true b 32 h, k)) (said conn (at + 1) bs)
    (moved (Said conn) (at + 1) (suc at) bs (said conn (at + 1) bs) (omega arith) (said_tells conn (at + 1) bs)))
    (λ h. no_byte (Numbered conn) at b bs (λ e h. h) (λ w e k. eqb-false b 32 h k.0))

pub front_tells : (text : List ℕ) → Tells Record 0 text (front text)
front_tells text =
    number_tells Numbered numbered 0 1000 (λ v e h. h)
    (λ v b w e d k. (let l : 48 ≤ b = d.0 in let m : b ≡ 32 = k.0 in absurd (omega arith)))
    (λ v. 32 ∷ 101 ∷ 110 ∷ 100 ∷ 10 ∷ []) (λ v. End v) (λ v. (refl, inl (refl, (refl, refl))))
    (λ v used text. moved (Numbered v) used (0 + used) text (numbered v used text) (omega arith) (numbered_tells v used text))
    1 (omega arith) text
