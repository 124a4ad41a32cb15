-- What lawful items are written as is a page.
use Rattle.std.proofs.Common.{◌≡◌, ℕ, suc, ◌+◌, Bool, true, false, List, [], ◌∷◌, ◌++◌, ◌⊎◌, inl, inr, length, map, refl, sym, ap, subst, ◌∙◌, arith, append_assoc, append-nil}
use Rattle.std.specs.Prelude.{◌==◌, ◌&&◌, ◌||◌, not, nat_lt, codes}
use Rattle.std.proofs.lemmas.Bool.{eqb-true, eq-eqb, le-ltb}
use Rattle.resin_form.specs.Form.{EndsBefore, Many, done, more, give}
use Rattle.resin_scan.specs.Bytes.{lower}
use Rattle.resin_scan.specs.Lists.{Every, NotBefore}
use Rattle.resin_scan.specs.Words.{spells}
use Rattle.resin_sql_words.specs.declared.cursor.Placed.{Placed}
use Rattle.resin_sql_words.specs.Places.{placed}
use Rattle.resin_sql_words.specs.Forms.{Rule, ◌>>=◌, ◌>>◌, either, never}
use Rattle.resin_sql_words.specs.Words.{letters}
use Rattle.resin_guard.specs.Pages as f
use Rattle.resin_guard.specs.Pages.{Places, Attributes, is_blank, is_alphabetic, is_name_byte, is_raw, is_harmful, comment_step, raw_step, is_next, begins_item}
use Rattle.resin_guard.specs.Answers.{IsPage}
use Rattle.resin_guard.specs.Items.{Value, none, quoted, Part, blank, attribute, Tag, Markup, comment, doctype, closing, opening, raw, Items, end, item, Page, write_value, write_parts, write_slash, write_tag, write_markup, write_items, written, IsName, is_data, is_quote, IsValue, AreParts, IsTag, ends, ends_comment, ends_raw, IsMarkup, AreItems, IsLawful, value_length, part_length, parts_length, slash_length, tag_length, markup_length, value_places, part_places, parts_places, tag_places, markup_places, data_places, items_places, safe_places}
use Rattle.resin_guard.proofs.Found.{Spells, reach, reach_is, kept, and_left, and_right, is_gap}

-- ---- the byte that comes next

heads : (p : ℕ → Bool) (m : ℕ) (r : List ℕ) → NotBefore p r → EndsBefore (λ t. p t.byte) (placed m r)
heads p m [] h = tt
heads p m (c ∷ r) h = h

or_cases : (a b : Bool) → (a || b) ≡ true → (a ≡ true) ⊎ (b ≡ true)
or_cases true b h = inl refl
or_cases false b h = inr h

blank_cases : (P : ℕ → Type 0) → P 32 → P 9 → P 13 → P 10 → P 12 → (b : ℕ) → is_blank b ≡ true → P b
blank_cases P a c d e g b h = elim (or_cases (b == 32 || b == 9 || b == 13 || b == 10) (b == 12) h) [
  | inr k ↦ subst P (sym (eqb-true b 12 k)) g
  | inl k ↦ elim (or_cases (b == 32 || b == 9 || b == 13) (b == 10) k) [
    | inr k ↦ subst P (sym (eqb-true b 10 k)) e
    | inl k ↦ elim (or_cases (b == 32 || b == 9) (b == 13) k) [
      | inr k ↦ subst P (sym (eqb-true b 13 k)) d
      | inl k ↦ elim (or_cases (b == 32) (b == 9) k) [ inl k ↦ subst P (sym (eqb-true b 32 k)) a | inr k ↦ subst P (sym (eqb-true b 9 k)) c ]
    ]
  ]
]

blank_no_name : (of_attribute : Bool) (b : ℕ) → is_blank b ≡ true → is_name_byte of_attribute b ≡ false
blank_no_name true b h = blank_cases (λ b. is_name_byte true b ≡ false) refl refl refl refl refl b h
blank_no_name false b h = blank_cases (λ b. is_name_byte false b ≡ false) refl refl refl refl refl b h

blank_no_equals : (b : ℕ) → is_blank b ≡ true → (b == 61) ≡ false
blank_no_equals b h = blank_cases (λ b. (b == 61) ≡ false) refl refl refl refl refl b h

-- what stands behind a name or a value in a tag
behind_parts : (p : ℕ → Bool) → ((b : ℕ) → is_blank b ≡ true → p b ≡ false) → p 47 ≡ false → p 62 ≡ false → (ps : List Part) → AreParts false ps → (b : Bool) (r : List ℕ) → NotBefore p (write_parts ps (write_slash b (62 ∷ r)))
behind_parts p h k l [] a true r = k
behind_parts p h k l [] a false r = l
behind_parts p h k l (blank b ∷ ps) a s r = h b a.0
behind_parts p h k l (attribute n v ∷ ps) a s r = let e : false ≡ true = a.0 in cc

name_ends : (of_attribute : Bool) → is_name_byte of_attribute 47 ≡ false
name_ends true = refl
name_ends false = refl

name_stops : (of_attribute : Bool) → is_name_byte of_attribute 62 ≡ false
name_stops true = refl
name_stops false = refl

-- ---- a byte, or several

module _ {A : Type 0} {test : A → Placed → Bool} {step : A → Placed → List Placed → A → List Placed → Type 0} where
  stops : (a : A) (n m : ℕ) (r : List ℕ) → n ≡ m → EndsBefore (test a) (placed m r) → Many test step a (placed n r) a (placed m r)
  stops a n m r e h = subst (λ k. Many test step a (placed k r) a (placed m r)) (sym e) (done h)

-- a form that ends at another offset, which is the same
at_offset : {A : Type 0} (F : Rule A) (ts : List Placed) (v : A) (r : List ℕ) (n m : ℕ) → n ≡ m → Spells F ts v (placed n r) → Spells F ts v (placed m r)
at_offset F ts v r n m e s = subst (λ k. Spells F ts v (placed k r)) e s

byte_spelt : (b n m : ℕ) (r : List ℕ) → m ≡ suc n → Spells (f.byte b) (placed n (b ∷ r)) tt (placed m r)
unfolding f.byte
byte_spelt b n m r e = at_offset (f.byte b) (placed n (b ∷ r)) tt r (suc n) m (sym e) (eq-eqb b b refl, (refl, refl))

before_spelt : (b n to m : ℕ) (w r : List ℕ) → Every (λ c. not (c == b)) w → NotBefore (λ c. not (c == b)) r → m ≡ n + length w → Spells (f.before b to) (placed n (w ++ r)) (reach n to w) (placed m r)
unfolding f.before
before_spelt b n to m [] r h z e = stops to n m r (omega arith) (heads (λ c. not (c == b)) m r z)
before_spelt b n to m (c ∷ w) r h z e = more {b = n + 1} {mid = placed (suc n) (w ++ r)} h.0 (refl, refl) (before_spelt b (suc n) (n + 1) m w r h.1 z (omega arith))

blanks_spelt : (n m : ℕ) (w r : List ℕ) → Every is_blank w → NotBefore is_blank r → m ≡ n + length w → Spells f.blanks (placed n (w ++ r)) tt (placed m r)
unfolding f.blanks
blanks_spelt n m [] r h z e = stops tt n m r (omega arith) (heads is_blank m r z)
blanks_spelt n m (c ∷ w) r h z e = more {b = tt} {mid = placed (suc n) (w ++ r)} h.0 (refl, refl) (blanks_spelt (suc n) m w r h.1 z (omega arith))

more_of_name_spelt : (of_attribute : Bool) (w0 : List ℕ) (n m : ℕ) (w r : List ℕ) → Every (is_name_byte of_attribute) w → NotBefore (is_name_byte of_attribute) r → m ≡ n + length w
    → Spells (f.more_of_name of_attribute w0) (placed n (w ++ r)) (w0 ++ map lower w) (placed m r)
unfolding f.more_of_name f.longer
more_of_name_spelt of_attribute w0 n m [] r h z e =
    subst (λ x. Spells (f.more_of_name of_attribute w0) (placed n r) x (placed m r)) (sym (append-nil w0)) (stops w0 n m r (omega arith) (heads (is_name_byte of_attribute) m r z))
more_of_name_spelt of_attribute w0 n m (c ∷ w) r h z e =
    subst (λ x. Spells (f.more_of_name of_attribute w0) (placed n (c ∷ w ++ r)) x (placed m r)) (append_assoc w0 (lower c ∷ []) (map lower w))
    (more {b = w0 ++ lower c ∷ []} {mid = placed (suc n) (w ++ r)} h.0 (refl, refl) (more_of_name_spelt of_attribute (w0 ++ lower c ∷ []) (suc n) m w r h.1 z (omega arith)))

name_spelt : (of_attribute : Bool) (b n m : ℕ) (w r : List ℕ) → Every (is_name_byte of_attribute) w → NotBefore (is_name_byte of_attribute) r → m ≡ n + length w → Spells (f.name of_attribute b) (placed n (w ++ r)) (map lower (b ∷ w)) (placed m r)
unfolding f.name
name_spelt of_attribute b n m w r h z e = more_of_name_spelt of_attribute (lower b ∷ []) n m w r h z e

-- ---- comments, doctypes and raw text

ended_spelt : (b : Bool) (ts : List Placed) → b ≡ true → Spells (f.ended b) ts tt ts
ended_spelt true ts e = (refl, refl)
ended_spelt false ts e = cc

always : (b : Bool) (m : ℕ) (r : List ℕ) → b ≡ false → EndsBefore (λ (_ : Placed). b) (placed m r)
always b m [] e = tt
always b m (c ∷ r) e = e

comment_from_spelt : (k n m : ℕ) (u r : List ℕ) → ends (λ n. nat_lt n 3) comment_step (λ n. n == 3) k u ≡ true → m ≡ n + length u → Spells (f.comment_from k) (placed n (u ++ r)) 3 (placed m r)
unfolding f.comment_from
comment_from_spelt k n m [] r h e =
    let is : k ≡ 3 = eqb-true k 3 h in
    subst (λ k. Spells (f.comment_from k) (placed n r) 3 (placed m r)) (sym is) (stops 3 n m r (omega arith) (always (nat_lt 3 3) m r refl))
comment_from_spelt k n m (c ∷ u) r h e = more {b = comment_step k c} {mid = placed (suc n) (u ++ r)} (and_left (nat_lt k 3) _ h) (refl, refl) (comment_from_spelt (comment_step k c) (suc n) m u r (and_right (nat_lt k 3) _ h) (omega arith))

comment_spelt : (n m : ℕ) (u r : List ℕ) → ends_comment u ≡ true → m ≡ n + length u → Spells f.comment (placed n (u ++ r)) tt (placed m r)
unfolding f.comment
comment_spelt n m u r h e = (3, placed m r, comment_from_spelt 0 n m u r h e, (refl, refl))

lt_irreflexive : (k : ℕ) → nat_lt k k ≡ false
lt_irreflexive k = le-ltb k k (omega arith)

raw_from_spelt : (w : List ℕ) (k n m : ℕ) (u r : List ℕ) → ends (λ n. nat_lt n (length w + 2)) (raw_step w) (λ n. n == length w + 2) k u ≡ true → m ≡ n + length u → Spells (f.raw_from w k) (placed n (u ++ r)) (length w + 2) (placed m r)
unfolding f.raw_from
raw_from_spelt w k n m [] r h e =
    let is : k ≡ length w + 2 = eqb-true k (length w + 2) h in
    subst (λ k. Spells (f.raw_from w k) (placed n r) (length w + 2) (placed m r)) (sym is) (stops (length w + 2) n m r (omega arith) (always (nat_lt (length w + 2) (length w + 2)) m r (lt_irreflexive (length w + 2))))
raw_from_spelt w k n m (c ∷ u) r h e = more {b = raw_step w k c} {mid = placed (suc n) (u ++ r)} (and_left (nat_lt k (length w + 2)) _ h) (refl, refl) (raw_from_spelt w (raw_step w k c) (suc n) m u r (and_right (nat_lt k (length w + 2)) _ h) (omega arith))

letters_spelt : (ks : List ℕ) (n m : ℕ) (w r : List ℕ) → spells ks w ≡ true → m ≡ n + length w → Spells (letters ks) (placed n (w ++ r)) tt (placed m r)
unfolding letters
letters_spelt [] n m [] r h e = (refl, ap (λ k. placed k r) (let x : m ≡ n = omega arith in x))
letters_spelt [] n m (c ∷ w) r h e = cc
letters_spelt (k ∷ ks) n m [] r h e = cc
letters_spelt (k ∷ ks) n m (c ∷ w) r h e = (and_left (lower c == k) _ h, letters_spelt ks (suc n) m w r (and_right (lower c == k) _ h) (omega arith))

doctype_spelt : (n m : ℕ) (w u r : List ℕ) → spells (codes "octype") w ≡ true → Every (λ b. not (b == 62)) u → m ≡ n + length w + length u + 1 → Spells f.doctype (placed n (w ++ (u ++ 62 ∷ r))) tt (placed m r)
unfolding f.doctype
doctype_spelt n m w u r h k e =
    let a = n + length w in
    let z = n + length w + length u in
    (reach a 0 u, placed z (62 ∷ r), (tt, placed a (u ++ 62 ∷ r), letters_spelt (codes "octype") n a w (u ++ 62 ∷ r) h refl, before_spelt 62 a 0 z u (62 ∷ r) k refl refl), byte_spelt 62 z m r (omega arith))

raw_spelt : (w : List ℕ) (n m : ℕ) (u d r : List ℕ) → ends_raw w u ≡ true → Every is_blank d → m ≡ n + length u + length d + 1 → Spells (f.raw w) (placed n (u ++ (d ++ 62 ∷ r))) tt (placed m r)
unfolding f.raw
raw_spelt w n m u d r h k e =
    let a = n + length u in
    let z = n + length u + length d in (
      length w + 2,
      placed a (d ++ 62 ∷ r),
      raw_from_spelt w 0 n a u (d ++ 62 ∷ r) h refl,
      (tt, placed z (62 ∷ r), (tt, placed a (d ++ 62 ∷ r), ended_spelt (length w + 2 == length w + 2) (placed a (d ++ 62 ∷ r)) (eq-eqb (length w + 2) (length w + 2) refl), blanks_spelt a z d (62 ∷ r) k refl refl), byte_spelt 62 z m r (omega arith)),
    )

-- ---- attributes

kept_spelt : (safe : Bool) (places : Places) (from to : ℕ) (ts : List Placed) → Spells (either safe (f.put places from to) (give places)) ts (kept safe places from to) ts
unfolding f.put
kept_spelt true places from to ts = (refl, refl)
kept_spelt false places from to ts = (refl, refl)

kept_is : (safe : Bool) (places : Places) (n q : ℕ) (w : List ℕ) (from to : ℕ) → from ≡ n + 2 → to ≡ n + 2 + length w → kept safe places from to ≡ places ++ value_places safe n (quoted q w)
kept_is true places n q w from to e h = ap (λ x. places ++ (x, to) ∷ []) e ∙ ap (λ x. places ++ (n + 2, x) ∷ []) h
kept_is false places n q w from to e h = sym (append-nil places)

value_spelt : (safe : Bool) (places : Places) (n m q : ℕ) (w r : List ℕ) → is_quote q ≡ true → Every (λ b. not (b == q)) w → m ≡ n + (length w + 3)
    → Spells (f.value safe places) (placed (suc n) (q ∷ (w ++ q ∷ r))) (places ++ value_places safe n (quoted q w)) (placed m r)
unfolding f.value f.quoted
value_spelt safe places n m q w r h k e =
    let to = reach (suc (suc n)) (suc n + 1) w in
    let z = suc (suc n) + length w in
    let is : kept safe places (suc n + 1) to ≡ places ++ value_places safe n (quoted q w) = kept_is safe places n q w (suc n + 1) to (omega arith) (reach_is (suc (suc n)) (suc n + 1) w (omega arith) ∙ omega arith) in (
      h,
      (
        to,
        placed z (q ∷ r),
        before_spelt q (suc (suc n)) (suc n + 1) z w (q ∷ r) k (ap not (eq-eqb q q refl)) refl,
        (tt, placed m r, byte_spelt q z m r (omega arith), subst (λ x. Spells (either safe (f.put places (suc n + 1) to) (give places)) (placed m r) x (placed m r)) is (kept_spelt safe places (suc n + 1) to (placed m r))),
      ),
    )

nothing : (safe : Bool) (places : Places) (n m : ℕ) (r : List ℕ) → NotBefore (λ b. b == 61) r → m ≡ n → Spells (f.valued safe places) (placed n r) places (placed m r)
unfolding f.valued
nothing safe places n m [] z e = (refl, refl)
nothing safe places n m (c ∷ r) z e = inr (z, refl, ap (λ k. placed k (c ∷ r)) e)

valued_spelt : (safe : Bool) (places : Places) (n m : ℕ) (x : Value) (r : List ℕ) → IsValue x → NotBefore (λ b. b == 61) r → m ≡ n + value_length x → Spells (f.valued safe places) (placed n (write_value x r)) (places ++ value_places safe n x) (placed m r)
unfolding f.valued
valued_spelt safe places n m none r h z e = subst (λ v. Spells (f.valued safe places) (placed n r) v (placed m r)) (sym (append-nil places)) (nothing safe places n m r z (omega arith))
valued_spelt safe places n m (quoted q w) r h z e = inl (refl, value_spelt safe places n m q w r h.0 h.1 e)

or_first : (a b : Bool) → a ≡ true → (a || b) ≡ true
or_first true b e = refl
or_first false b e = cc

or_second : (a b : Bool) → b ≡ true → (a || b) ≡ true
or_second true b e = refl
or_second false b e = e

and_both : (a b : Bool) → a ≡ true → b ≡ true → (a && b) ≡ true
and_both true b e h = h
and_both false b e h = cc

blank_by : (safe : Bool) (places : Places) (b : ℕ) (ts : List Placed) (is : Bool) → is ≡ true → Spells {A = Attributes} (either is (give (places, true)) (f.attribute safe places b >>= λ ps. give (ps, false))) ts (places, true) ts
blank_by safe places b ts true e = (refl, refl)
blank_by safe places b ts false e = cc

blank_spelt : (safe : Bool) (places : Places) (b : ℕ) (ts : List Placed) → is_blank b ≡ true → Spells (f.blank_or_attribute safe places b) ts (places, true) ts
unfolding f.blank_or_attribute
blank_spelt safe places b ts h = blank_by safe places b ts (is_blank b) h

letter_no_blank : (b : ℕ) (is : Bool) → is_blank b ≡ is → is_alphabetic b ≡ true → is_blank b ≡ false
letter_no_blank b true e h = absurd (let k : is_alphabetic b ≡ false = blank_cases (λ b. is_alphabetic b ≡ false) refl refl refl refl refl b e in let f : true ≡ false = sym h ∙ k in cc)
letter_no_blank b false e h = e

attribute_spelt : (safe : Bool) (places : Places) (b n m : ℕ) (t : List ℕ) (v : Value) (r : List ℕ) → Every (is_name_byte true) t → IsValue v → NotBefore (is_name_byte true) r → NotBefore (λ b. b == 61) r → m ≡ n + part_length (attribute (b ∷ t) v)
    → Spells (f.attribute safe places b) (placed (suc n) (t ++ write_value v r)) (places ++ part_places safe n (attribute (b ∷ t) v)) (placed m r)
unfolding f.attribute
attribute_spelt safe places b n m t v r h k z y e =
    let a = n + length (b ∷ t) in (
      map lower (b ∷ t),
      placed a (write_value v r),
      name_spelt true b (suc n) a t (write_value v r) h (behind_name v) (omega arith),
      valued_spelt (safe && not (is_harmful (map lower (b ∷ t)))) places a m v r k y (omega arith),
    )
  where
    behind_name : (v : Value) → NotBefore (is_name_byte true) (write_value v r)
    behind_name none = z
    behind_name (quoted q w) = refl

attribute_by : (safe : Bool) (places ps : Places) (b : ℕ) (ts rest : List Placed) (is : Bool) → is ≡ false → Spells (f.attribute safe places b) ts ps rest → Spells {A = Attributes} (either is (give (places, true)) (f.attribute safe places b >>= λ ps. give (ps, false))) ts (ps, false) rest
attribute_by safe places ps b ts rest true e s = cc
attribute_by safe places ps b ts rest false e s = (ps, rest, s, (refl, refl))

attribute_taken : (safe : Bool) (places ps : Places) (b : ℕ) (ts rest : List Placed) → is_blank b ≡ false → Spells (f.attribute safe places b) ts ps rest → Spells (f.blank_or_attribute safe places b) ts (ps, false) rest
unfolding f.blank_or_attribute
attribute_taken safe places ps b ts rest e s = attribute_by safe places ps b ts rest (is_blank b) e s

abbrev final_gap : Bool → List Part → Bool
final_gap gap [] = gap
final_gap gap (p ∷ ps) = final_gap (is_gap p) ps

abbrev AttributeMany : Bool → Attributes → List Placed → Attributes → List Placed → Type 0
AttributeMany safe = Many (λ (s : Attributes) t. is_next s.1 t.byte) (λ (s : Attributes) t. Spells (f.blank_or_attribute safe s.0 t.byte))

tag_stops : (gap : Bool) (m : ℕ) (b : Bool) (r : List ℕ) → EndsBefore (λ t. is_next gap t.byte) (placed m (write_slash b (62 ∷ r)))
tag_stops gap m true r = refl
tag_stops gap m false r = refl

parts_spelt : (safe : Bool) (places : Places) (gap : Bool) (n m : ℕ) (ps : List Part) (b : Bool) (r : List ℕ) → AreParts gap ps → m ≡ n + parts_length ps
    → AttributeMany safe (places, gap) (placed n (write_parts ps (write_slash b (62 ∷ r)))) (places ++ parts_places safe n ps, final_gap gap ps) (placed m (write_slash b (62 ∷ r)))
parts_spelt safe places gap n m [] b r h e =
    subst (λ x. AttributeMany safe (places, gap) (placed n (write_slash b (62 ∷ r))) (x, gap) (placed m (write_slash b (62 ∷ r)))) (sym (append-nil places))
    (stops (places, gap) n m (write_slash b (62 ∷ r)) (omega arith) (tag_stops gap m b r))
parts_spelt safe places gap n m (blank c ∷ ps) b r h e =
    let rest = write_parts ps (write_slash b (62 ∷ r)) in
    let one : suc n ≡ n + 1 = omega arith in
    subst (λ k. AttributeMany safe (places, gap) (placed n (c ∷ rest)) (places ++ parts_places safe k ps, final_gap true ps) (placed m (write_slash b (62 ∷ r)))) one
    (more {b = (places, true)} {mid = placed (suc n) rest} (or_first (is_blank c) (is_alphabetic c && gap) h.0) (blank_spelt safe places c (placed (suc n) rest) h.0) (parts_spelt safe places true (suc n) m ps b r h.1 (omega arith)))
parts_spelt safe places gap n m (attribute [] v ∷ ps) b r h e = absurd h.1
parts_spelt safe places gap n m (attribute (c ∷ t) v ∷ ps) b r h e =
    let rest = write_parts ps (write_slash b (62 ∷ r)) in
    let here = part_places safe n (attribute (c ∷ t) v) in
    let a = n + part_length (attribute (c ∷ t) v) in
    subst (λ x. AttributeMany safe (places, gap) (placed n (c ∷ (t ++ write_value v rest))) (x, final_gap false ps) (placed m (write_slash b (62 ∷ r)))) (append_assoc places here (parts_places safe a ps))
    (more {b = (places ++ here, false)} {mid = placed a rest} (or_second (is_blank c) (is_alphabetic c && gap) (and_both (is_alphabetic c) gap h.1.0 h.0))
    (attribute_taken safe places (places ++ here) c (placed (suc n) (t ++ write_value v rest)) (placed a rest) (letter_no_blank c (is_blank c) refl h.1.0)
    (attribute_spelt safe places c n a t v rest h.1.1 h.2 (behind_parts (is_name_byte true) (blank_no_name true) refl refl ps h.3 b r) (behind_parts (λ b. b == 61) blank_no_equals refl refl ps h.3 b r) refl))
    (parts_spelt safe (places ++ here) false a m ps b r h.3 (omega arith)))

-- ---- tags

slash_spelt : (n m : ℕ) (b : Bool) (r : List ℕ) → m ≡ n + slash_length b → Spells f.slash (placed n (write_slash b (62 ∷ r))) tt (placed m (62 ∷ r))
unfolding f.slash
slash_spelt n m true r e = inl (refl, (refl, ap (λ k. placed k (62 ∷ r)) (let x : m ≡ suc n = omega arith in x)))
slash_spelt n m false r e = inr (refl, refl, ap (λ k. placed k (62 ∷ r)) (let x : m ≡ n = omega arith in x))

tag_end_spelt : (safe : Bool) (places : Places) (n m : ℕ) (ps : List Part) (b : Bool) (r : List ℕ) → AreParts false ps → m ≡ n + parts_length ps + slash_length b + 1
    → Spells (f.tag_end safe places) (placed n (write_parts ps (write_slash b (62 ∷ r)))) (places ++ parts_places safe n ps) (placed m r)
unfolding f.tag_end f.attributes
tag_end_spelt safe places n m ps b r h e =
    let a = n + parts_length ps in
    let z = n + parts_length ps + slash_length b in (
      (places ++ parts_places safe n ps, final_gap false ps),
      placed a (write_slash b (62 ∷ r)),
      parts_spelt safe places false n a ps b r h refl,
      (tt, placed m r, (tt, placed z (62 ∷ r), slash_spelt a z b r refl, byte_spelt 62 z m r (omega arith)), (refl, refl)),
    )

-- a tag from its name on, of which the first byte is given
name_of : (of_raw : Bool) (t : Tag) → IsTag of_raw t → (b : ℕ) × (w : List ℕ) × (t.name ≡ b ∷ w) × (is_alphabetic b ≡ true) × Every (is_name_byte false) w
name_of of_raw t h = by t.name h.0
  where
    by : (n : List ℕ) → IsName false n → (b : ℕ) × (w : List ℕ) × (n ≡ b ∷ w) × (is_alphabetic b ≡ true) × Every (is_name_byte false) w
    by [] h = absurd h
    by (b ∷ w) h = (b, w, refl, h.0, h.1)

abbrev TagSpelt : Bool → Places → ℕ → Tag → List ℕ → Type 0
TagSpelt safe places n t r = (b : ℕ) × (xs : List ℕ) × (mid : List Placed) × (write_tag t r ≡ b ∷ xs) × (is_alphabetic b ≡ true) × Spells (f.name false b) (placed (suc n) xs) (map lower t.name) mid
    × Spells (f.tag_end safe places) mid (places ++ tag_places safe n t) (placed (n + tag_length t) r)

tag_by : (safe : Bool) (places : Places) (n b : ℕ) (w : List ℕ) (ps : List Part) (s : Bool) (r : List ℕ) → is_alphabetic b ≡ true → Every (is_name_byte false) w → AreParts false ps → TagSpelt safe places n (record { name = b ∷ w; parts = ps; slash = s }) r
tag_by safe places n b w ps s r h k p =
    let a = n + length (b ∷ w) in
    let rest = write_parts ps (write_slash s (62 ∷ r)) in (
      b,
      w ++ rest,
      placed a rest,
      refl,
      h,
      name_spelt false b (suc n) a w rest k (behind_parts (is_name_byte false) (blank_no_name false) refl refl ps p s r) (omega arith),
      tag_end_spelt safe places a (n + tag_length (record { name = b ∷ w; parts = ps; slash = s })) ps s r p (omega arith),
    )

tag_spelt : (safe of_raw : Bool) (places : Places) (n : ℕ) (t : Tag) (r : List ℕ) → IsTag of_raw t → TagSpelt safe places n t r
tag_spelt safe of_raw places n t r h =
    let k = name_of of_raw t h in
    subst (λ (u : Tag). TagSpelt safe places n u r) (ap (λ w. let u : Tag = record { name = w; parts = t.parts; slash = t.slash } in u) (sym k.2)) (tag_by safe places n k.0 k.1 t.parts t.slash r k.3 k.4 h.2)

-- ---- items

abbrev MarkupSpelt : Places → ℕ → Markup → List ℕ → Type 0
MarkupSpelt places n m r = (xs : List ℕ) × (write_markup m r ≡ 60 ∷ xs) × Spells (f.item places) (placed (suc n) xs) (places ++ markup_places n m) (placed (n + markup_length m) r)

item_spelt : (places v : Places) (b n : ℕ) (xs : List ℕ) (rest : List Placed) → begins_item b ≡ true → Spells (f.item_from places b) (placed (suc (suc n)) xs) v rest → Spells (f.item places) (placed (suc n) (b ∷ xs)) v rest
unfolding f.item
item_spelt places v b n xs rest h s = (h, s)

declared_spelt : (places : Places) (n m b : ℕ) (xs r : List ℕ) → ((b == 45) || (lower b == 100)) ≡ true → Spells (f.declared_from b) (placed (suc (suc (suc n))) xs) tt (placed m r) → Spells (f.item_from places 33) (placed (suc (suc n)) (b ∷ xs)) (places ++ []) (placed m r)
unfolding f.item_from f.declared
declared_spelt places n m b xs r h s = (tt, placed m r, (h, s), (append-nil places, refl))

word_of : (w : List ℕ) → spells (codes "doctype") w ≡ true → (b : ℕ) × (v : List ℕ) × (w ≡ b ∷ v) × ((lower b == 100) ≡ true) × (spells (codes "octype") v ≡ true)
word_of [] h = cc
word_of (b ∷ v) h = (b, v, refl, and_left (lower b == 100) _ h, and_right (lower b == 100) _ h)

dashes : (n m : ℕ) (u r : List ℕ) → ends_comment u ≡ true → m ≡ n + length u + 4 → Spells (f.declared_from 45) (placed (suc (suc (suc n))) (45 ∷ (u ++ r))) tt (placed m r)
unfolding f.declared_from
dashes n m u r h e = let a = suc (suc (suc (suc n))) in (tt, placed a (u ++ r), byte_spelt 45 (suc (suc (suc n))) a (u ++ r) refl, comment_spelt a m u r h (omega arith))

no_dash : (b : ℕ) (is : Bool) → (b == 45) ≡ is → (lower b == 100) ≡ true → (b == 45) ≡ false
no_dash b true e h = absurd (let k : lower 45 ≡ 100 = subst (λ x. lower x ≡ 100) (eqb-true b 45 e) (eqb-true (lower b) 100 h) in let l : 45 ≡ 100 = k in omega arith)
no_dash b false e h = e

word_by : (is : Bool) (n m : ℕ) (w u r : List ℕ) → is ≡ false → spells (codes "octype") w ≡ true → Every (λ b. not (b == 62)) u → m ≡ n + length w + length u + 1
    → Spells (either is (f.byte 45 >> f.comment) f.doctype) (placed n (w ++ (u ++ 62 ∷ r))) tt (placed m r)
word_by true n m w u r e h k l = cc
word_by false n m w u r e h k l = doctype_spelt n m w u r h k l

word_spelt : (n m b : ℕ) (w u r : List ℕ) → (lower b == 100) ≡ true → spells (codes "octype") w ≡ true → Every (λ b. not (b == 62)) u → m ≡ n + length w + length u + 1 → Spells (f.declared_from b) (placed n (w ++ (u ++ 62 ∷ r))) tt (placed m r)
unfolding f.declared_from
word_spelt n m b w u r d h k l = word_by (b == 45) n m w u r (no_dash b (b == 45) refl d) h k l

closing_by : (places v : Places) (name : List ℕ) (mid rest : List Placed) (is : Bool) → is ≡ false → Spells (f.tag_end true places) mid v rest → Spells (either is (never places) (f.tag_end true places)) mid v rest
closing_by places v name mid rest true e s = cc
closing_by places v name mid rest false e s = s

closing_spelt : (places v : Places) (n b : ℕ) (xs : List ℕ) (name : List ℕ) (mid rest : List Placed) → is_alphabetic b ≡ true → is_raw name ≡ false → Spells (f.name false b) (placed (suc (suc (suc n))) xs) name mid → Spells (f.tag_end true places) mid v rest
    → Spells (f.item_from places 47) (placed (suc (suc n)) (b ∷ xs)) v rest
unfolding f.item_from f.closing f.closing_from
closing_spelt places v n b xs name mid rest h r s g = (h, (name, mid, s, closing_by places v name mid rest (is_raw name) r g))

letter_begins : (b : ℕ) → is_alphabetic b ≡ true → begins_item b ≡ true
letter_begins b h = or_second (b == 33 || b == 47) (is_alphabetic b) h

letter_no_sign : (b c : ℕ) → is_alphabetic c ≡ false → is_alphabetic b ≡ true → (is : Bool) → (b == c) ≡ is → (b == c) ≡ false
letter_no_sign b c n h true e = absurd (let k : is_alphabetic c ≡ true = subst (λ x. is_alphabetic x ≡ true) (eqb-true b c e) h in let l : true ≡ false = sym k ∙ n in cc)
letter_no_sign b c n h false e = e

opening_by : (places v : Places) (b : ℕ) (ts rest : List Placed) (bang slash : Bool) → bang ≡ false → slash ≡ false → Spells (f.opening places b) ts v rest → Spells (either bang (f.declared >> give places) (either slash (f.closing places) (f.opening places b))) ts v rest
opening_by places v b ts rest true slash e k s = cc
opening_by places v b ts rest false true e k s = cc
opening_by places v b ts rest false false e k s = s

opening_from : (places v : Places) (b : ℕ) (ts rest : List Placed) → is_alphabetic b ≡ true → Spells (f.opening places b) ts v rest → Spells (f.item_from places b) ts v rest
unfolding f.item_from
opening_from places v b ts rest h s = opening_by places v b ts rest (b == 33) (b == 47) (letter_no_sign b 33 refl h (b == 33) refl) (letter_no_sign b 47 refl h (b == 47) refl) s

behind_plain : (name : List ℕ) (ps : Places) (ts : List Placed) (is : Bool) → is ≡ false → Spells (either is (f.raw name >> give ps) (give ps)) ts ps ts
behind_plain name ps ts true e = cc
behind_plain name ps ts false e = (refl, refl)

behind_raw : (name : List ℕ) (ps : Places) (ts rest : List Placed) (is : Bool) → is ≡ true → Spells (f.raw name) ts tt rest → Spells (either is (f.raw name >> give ps) (give ps)) ts ps rest
behind_raw name ps ts rest true e s = (tt, rest, s, (refl, refl))
behind_raw name ps ts rest false e s = cc

opening_spelt : (places ps v : Places) (b : ℕ) (ts : List Placed) (name : List ℕ) (mid tail rest : List Placed) → Spells (f.name false b) ts name mid → Spells (f.tag_end (not (is_raw name)) places) mid ps tail
    → Spells (either (is_raw name) (f.raw name >> give ps) (give ps)) tail v rest → Spells (f.opening places b) ts v rest
unfolding f.opening f.behind_opening
opening_spelt places ps v b ts name mid tail rest s g e = (name, mid, s, (ps, tail, g, e))

none_of_value : (n : ℕ) (x : Value) → value_places false n x ≡ []
none_of_value n none = refl
none_of_value n (quoted q w) = refl

none_safe : (n : ℕ) (parts : List Part) → parts_places false n parts ≡ []
none_safe n [] = refl
none_safe n (blank b ∷ parts) = none_safe (n + 1) parts
none_safe n (attribute w x ∷ parts) = ap (λ xs. xs ++ parts_places false (n + part_length (attribute w x)) parts) (none_of_value (n + length w) x) ∙ none_safe (n + part_length (attribute w x)) parts

markup_spelt : (places : Places) (n : ℕ) (m : Markup) (r : List ℕ) → IsMarkup m → MarkupSpelt places n m r
markup_spelt places n (comment u) r h =
    (33 ∷ 45 ∷ 45 ∷ (u ++ r), refl, item_spelt places (places ++ []) 33 n (45 ∷ 45 ∷ (u ++ r)) (placed (n + (length u + 4)) r) refl (declared_spelt places n (n + (length u + 4)) 45 (45 ∷ (u ++ r)) r refl (dashes n (n + (length u + 4)) u r h (omega arith))))
markup_spelt places n (doctype w u) r h =
    let k = word_of w h.0 in
    let m = n + (length w + length u + 3) in
    let long : length w ≡ length k.1 + 1 = ap length k.2 ∙ omega arith in (
      33 ∷ (k.0 ∷ (k.1 ++ (u ++ 62 ∷ r))),
      ap (λ x. 60 ∷ 33 ∷ (x ++ (u ++ 62 ∷ r))) k.2,
      item_spelt places (places ++ []) 33 n (k.0 ∷ (k.1 ++ (u ++ 62 ∷ r))) (placed m r) refl
          (declared_spelt places n m k.0 (k.1 ++ (u ++ 62 ∷ r)) r (or_second (k.0 == 45) (lower k.0 == 100) k.3) (word_spelt (suc (suc (suc n))) m k.0 k.1 u r k.3 k.4 h.1 (omega arith))),
    )
markup_spelt places n (closing t) r h =
    let k = tag_spelt true false places (suc (suc n)) t r h in
    let two : suc (suc n) ≡ n + 2 = omega arith in
    let v = places ++ tag_places true (suc (suc n)) t in
    let rest : suc (suc n) + tag_length t ≡ n + (tag_length t + 2) = omega arith in (
      47 ∷ (k.0 ∷ k.1),
      ap (λ x. 60 ∷ 47 ∷ x) k.3,
      item_spelt places (places ++ tag_places true (n + 2) t) 47 n (k.0 ∷ k.1) (placed (n + (tag_length t + 2)) r) refl
          (subst (λ j. Spells (f.item_from places 47) (placed (suc (suc n)) (k.0 ∷ k.1)) (places ++ tag_places true j t) (placed (n + (tag_length t + 2)) r)) two
          (at_offset (f.item_from places 47) (placed (suc (suc n)) (k.0 ∷ k.1)) v r (suc (suc n) + tag_length t) (n + (tag_length t + 2)) rest
          (closing_spelt places v n k.0 k.1 (map lower t.name) k.2 (placed (suc (suc n) + tag_length t) r) k.4 h.1 k.5 k.6))),
    )
markup_spelt places n (opening t) r h =
    let k = tag_spelt true false places (suc n) t r h in
    let one : suc n ≡ n + 1 = omega arith in
    let v = places ++ tag_places true (suc n) t in
    let name = map lower t.name in
    let z = placed (suc n + tag_length t) r in
    let rest : suc n + tag_length t ≡ n + (tag_length t + 1) = omega arith in (
      k.0 ∷ k.1,
      ap (λ x. 60 ∷ x) k.3,
      item_spelt places (places ++ tag_places true (n + 1) t) k.0 n k.1 (placed (n + (tag_length t + 1)) r) (letter_begins k.0 k.4)
          (subst (λ j. Spells (f.item_from places k.0) (placed (suc (suc n)) k.1) (places ++ tag_places true j t) (placed (n + (tag_length t + 1)) r)) one
          (at_offset (f.item_from places k.0) (placed (suc (suc n)) k.1) v r (suc n + tag_length t) (n + (tag_length t + 1)) rest
          (opening_from places v k.0 (placed (suc (suc n)) k.1) z k.4
          (opening_spelt places v v k.0 (placed (suc (suc n)) k.1) name k.2 z z k.5
          (subst (λ s. Spells (f.tag_end s places) k.2 v z) (sym (ap not h.1)) k.6) (behind_plain name v z (is_raw name) h.1))))),
    )
markup_spelt places n (raw t u d) r h =
    let xs = u ++ (d ++ 62 ∷ r) in
    let k = tag_spelt false true places (suc n) t xs h.0 in
    let v = places ++ tag_places false (suc n) t in
    let name = map lower t.name in
    let m = n + (tag_length t + length u + length d + 2) in
    let z = placed (suc n + tag_length t) xs in
    let is : v ≡ places ++ [] = ap (λ x. places ++ x) (none_safe (suc n + length t.name) t.parts) in (
      k.0 ∷ k.1,
      ap (λ x. 60 ∷ x) k.3,
      item_spelt places (places ++ []) k.0 n k.1 (placed m r) (letter_begins k.0 k.4)
          (subst (λ x. Spells (f.item_from places k.0) (placed (suc (suc n)) k.1) x (placed m r)) is
          (opening_from places v k.0 (placed (suc (suc n)) k.1) (placed m r) k.4
          (opening_spelt places v v k.0 (placed (suc (suc n)) k.1) name k.2 z (placed m r) k.5
          (subst (λ s. Spells (f.tag_end s places) k.2 v z) (sym (ap not h.0.1)) k.6)
          (behind_raw name v z (placed m r) (is_raw name) h.0.1 (raw_spelt name (suc n + tag_length t) m u d r h.1 h.2 (omega arith)))))),
    )

-- ---- pages

abbrev PageMany : Places → List Placed → Places → List Placed → Type 0
PageMany = Many (λ (_ : Places) (_ : Placed). true) (λ (ps : Places) t. Spells (f.piece ps t))

begins_markup : (is : Items) → NotBefore is_data (write_items is)
begins_markup end = tt
begins_markup (item (comment u) d others) = refl
begins_markup (item (doctype w u) d others) = refl
begins_markup (item (closing t) d others) = refl
begins_markup (item (opening t) d others) = refl
begins_markup (item (raw t u bs) d others) = refl

text_by : (ps v : Places) (c n : ℕ) (ts rest : List Placed) (is : Bool) → not is ≡ true → Spells (f.text ps (record { at = n; byte = c })) ts v rest → Spells (either is (f.item ps) (f.text ps (record { at = n; byte = c }))) ts v rest
text_by ps v c n ts rest true e s = cc
text_by ps v c n ts rest false e s = s

text_spelt : (ps : Places) (c n m : ℕ) (w r : List ℕ) → is_data c ≡ true → Every is_data w → NotBefore is_data r → m ≡ n + length (c ∷ w) → Spells (f.piece ps (record { at = n; byte = c })) (placed (suc n) (w ++ r)) (ps ++ data_places n (c ∷ w)) (placed m r)
unfolding f.piece f.text f.put
text_spelt ps c n m w r h k z e =
    let to = reach (suc n) (n + 1) w in
    let is : to ≡ n + length (c ∷ w) = reach_is (suc n) (n + 1) w (omega arith) ∙ omega arith in
    text_by ps (ps ++ data_places n (c ∷ w)) c n (placed (suc n) (w ++ r)) (placed m r) (c == 60) h
    (to, placed m r, before_spelt 60 (suc n) (n + 1) m w r k z (omega arith), (ap (λ x. ps ++ (n, x) ∷ []) (sym is), refl))

item_piece : (ps v : Places) (n : ℕ) (ts rest : List Placed) → Spells (f.item ps) ts v rest → Spells (f.piece ps (record { at = n; byte = 60 })) ts v rest
unfolding f.piece
item_piece ps v n ts rest s = s

-- data before items
data_spelt : (ps : Places) (n : ℕ) (d : List ℕ) (is : Items) → Every is_data d → ((qs : Places) (m : ℕ) → PageMany qs (placed m (write_items is)) (qs ++ items_places m is) [])
    → PageMany ps (placed n (d ++ write_items is)) (ps ++ (data_places n d ++ items_places (n + length d) is)) []
data_spelt ps n [] is h g = let same : n ≡ n + 0 = omega arith in subst (λ m. PageMany ps (placed n (write_items is)) (ps ++ items_places m is) []) same (g ps n)
data_spelt ps n (c ∷ w) is h g =
    let m = n + length (c ∷ w) in
    subst (λ x. PageMany ps (placed n (c ∷ (w ++ write_items is))) x []) (append_assoc ps (data_places n (c ∷ w)) (items_places m is))
    (more {b = ps ++ data_places n (c ∷ w)} {mid = placed m (write_items is)} refl (text_spelt ps c n m w (write_items is) h.0 h.1 (begins_markup is) refl) (g (ps ++ data_places n (c ∷ w)) m))

items_spelt : (is : Items) → AreItems is → (ps : Places) (n : ℕ) → PageMany ps (placed n (write_items is)) (ps ++ items_places n is) []
items_spelt end h ps n = subst (λ x. PageMany ps [] x []) (sym (append-nil ps)) (done tt)
items_spelt (item m d others) h ps n =
    let r = d ++ write_items others in
    let k = markup_spelt ps n m r h.0 in
    let a = n + markup_length m in
    let qs = ps ++ markup_places n m in
    subst (λ xs. PageMany ps (placed n xs) (ps ++ items_places n (item m d others)) []) (sym k.1)
    (subst (λ x. PageMany ps (placed n (60 ∷ k.0)) x []) (append_assoc ps (markup_places n m) (data_places a d ++ items_places (a + length d) others))
    (more {b = qs} {mid = placed a r} refl (item_piece ps qs n (placed (suc n) k.0) (placed a r) k.2) (data_spelt qs a d others h.1 (λ qs m. items_spelt others h.2 qs m))))

pub page_written : (p : Page) → IsLawful p → IsPage (written p) (safe_places p)
unfolding f.page
page_written p h = data_spelt [] 0 p.data_first p.items h.0 (λ qs m. items_spelt p.items h.1 qs m)
