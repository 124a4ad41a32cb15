-- A page has items.
use Rattle.std.proofs.Common.{◌≡◌, ℕ, suc, ◌+◌, Bool, true, false, List, [], ◌∷◌, ◌++◌, ◌⊎◌, inl, inr, length, map, refl, sym, ap, subst, ◌∙◌, arith, append_assoc, append-nil}
use Rattle.std.specs.Prelude.{◌==◌, ◌&&◌, ◌||◌, not, nat_lt, codes}
use Rattle.std.proofs.lemmas.Bool.{eqb-true}
use Rattle.resin_form.specs.Form.{EndsBefore, Many, done, more, give}
use Rattle.resin_form.specs.Meaning.{SpellsWithin}
use Rattle.resin_scan.specs.Bytes.{lower}
use Rattle.resin_scan.specs.Lists.{Every}
use Rattle.resin_scan.specs.Words.{spells}
use Rattle.resin_sql_words.specs.declared.cursor.Placed.{Placed}
use Rattle.resin_sql_words.specs.Places.{placed}
use Rattle.resin_sql_words.specs.Forms.{Rule, rules, in_limits, ◌>>=◌, ◌>>◌, either, never}
use Rattle.resin_sql_words.specs.Words.{letters}
use Rattle.resin_guard.specs.Pages as f
use Rattle.resin_guard.specs.Pages.{Places, Attributes, is_blank, is_alphabetic, is_name_byte, is_raw, is_harmful, comment_step, raw_step, is_next, begins_item}
use Rattle.resin_guard.specs.Answers.{IsPage}
use Rattle.resin_guard.specs.Items.{Value, none, quoted, Part, blank, attribute, Tag, Markup, comment, doctype, closing, opening, raw, Items, end, item, Page, write_value, write_part, write_parts, write_slash, write_tag, write_markup, write_items, written, IsName, is_data, IsValue, AreParts, IsTag, ends, ends_comment, ends_raw, IsMarkup, AreItems, IsLawful, value_length, part_length, parts_length, slash_length, tag_length, markup_length, value_places, part_places, parts_places, tag_places, markup_places, data_places, items_places, places_at, safe_places}
use Rattle.resin_guard.proofs.Runs.{inverted, from_here, Took}

abbrev pub Spells : {A : Type 0} → Rule A → List Placed → A → List Placed → Type 0
Spells F ts v rest = SpellsWithin rules in_limits 1 F ts v rest

-- ---- a byte, or several

pub byte_found : (b n : ℕ) (bs : List ℕ) (v : Unit {0}) (rest : List Placed) → Spells (f.byte b) (placed n bs) v rest → Took n 1 bs rest (λ r. b ∷ r)
unfolding f.byte
byte_found b n [] v rest s = absurd s
byte_found b n (c ∷ bs) v rest s = record { others = bs; behind = suc n; text = ap (λ x. x ∷ bs) (eqb-true c b s.0); left = s.1.1; at = omega arith }

-- the offset behind bytes that begin at n
abbrev pub reach : ℕ → ℕ → List ℕ → ℕ
reach n to [] = to
reach n to (b ∷ w) = reach (suc n) (n + 1) w

pub reach_is : (n to : ℕ) (w : List ℕ) → to ≡ n → reach n to w ≡ n + length w
reach_is n to [] e = omega arith
reach_is n to (b ∷ w) e = let h = reach_is (suc n) (n + 1) w (omega arith) in omega arith

abbrev pub Before : ℕ → ℕ → ℕ → List ℕ → ℕ → List Placed → Type 0
Before b n to bs v rest = (w : List ℕ) × Every (λ c. not (c == b)) w × (v ≡ reach n to w) × EndsBefore (λ t. not (t.byte == b)) rest × Took n (length w) bs rest (λ r. w ++ r)

pub before_found : (b n to : ℕ) (bs : List ℕ) (v : ℕ) (rest : List Placed) → Spells (f.before b to) (placed n bs) v rest → Before b n to bs v rest
unfolding f.before
before_found b n to [] v rest s =
    let i = inverted to [] v rest s in
    ([], tt, i.0, subst (EndsBefore (λ t. not (t.byte == b))) (sym i.1) tt, record { others = []; behind = n; text = refl; left = i.1; at = omega arith })
before_found b n to (c ∷ bs) v rest s = elim (inverted to (placed n (c ∷ bs)) v rest s) [
  | inl i ↦ (let k = before_found b (suc n) (n + 1) bs v rest (from_here i.3.0 i.3.1 i.4) in
      let t = k.4 in
      (c ∷ k.0, (i.2, k.1), k.2, k.3, record { others = t.others; behind = t.behind; text = ap (λ xs. c ∷ xs) t.text; left = t.left; at = let a = t.at in omega arith }))
  | inr e ↦ ([], tt, e.1, subst (EndsBefore (λ t. not (t.byte == b))) (sym e.2) e.0, record { others = c ∷ bs; behind = n; text = refl; left = e.2; at = omega arith })
]

pub blanks_found : (n : ℕ) (bs : List ℕ) (v : Unit {0}) (rest : List Placed) → Spells f.blanks (placed n bs) v rest → (w : List ℕ) × Every is_blank w × Took n (length w) bs rest (λ r. w ++ r)
unfolding f.blanks
blanks_found n [] v rest s = let i = inverted tt [] v rest s in ([], tt, record { others = []; behind = n; text = refl; left = i.1; at = omega arith })
blanks_found n (c ∷ bs) v rest s = elim (inverted tt (placed n (c ∷ bs)) v rest s) [
  | inl i ↦ (let k = blanks_found (suc n) bs v rest (from_here i.3.0 i.3.1 i.4) in
      let t = k.2 in
      (c ∷ k.0, (i.2, k.1), record { others = t.others; behind = t.behind; text = ap (λ xs. c ∷ xs) t.text; left = t.left; at = let a = t.at in omega arith }))
  | inr e ↦ ([], tt, record { others = c ∷ bs; behind = n; text = refl; left = e.2; at = omega arith })
]

-- ---- names

pub more_of_name_found : (of_attribute : Bool) (w0 : List ℕ) (n : ℕ) (bs : List ℕ) (v : List ℕ) (rest : List Placed) → Spells (f.more_of_name of_attribute w0) (placed n bs) v rest
    → (w : List ℕ) × Every (is_name_byte of_attribute) w × (v ≡ w0 ++ map lower w) × Took n (length w) bs rest (λ r. w ++ r)
unfolding f.more_of_name f.longer
more_of_name_found of_attribute w0 n [] v rest s =
    let i = inverted w0 [] v rest s in ([], tt, i.0 ∙ sym (append-nil w0), record { others = []; behind = n; text = refl; left = i.1; at = omega arith })
more_of_name_found of_attribute w0 n (c ∷ bs) v rest s = elim (inverted w0 (placed n (c ∷ bs)) v rest s) [
  | inl i ↦ (let k = more_of_name_found of_attribute (w0 ++ lower c ∷ []) (suc n) bs v rest (from_here i.3.0 i.3.1 i.4) in
      let t = k.3 in
      (c ∷ k.0, (i.2, k.1), k.2 ∙ append_assoc w0 (lower c ∷ []) (map lower k.0), record { others = t.others; behind = t.behind; text = ap (λ xs. c ∷ xs) t.text; left = t.left; at = let a = t.at in omega arith }))
  | inr e ↦ ([], tt, e.1 ∙ sym (append-nil w0), record { others = c ∷ bs; behind = n; text = refl; left = e.2; at = omega arith })
]

pub name_found : (of_attribute : Bool) (b n : ℕ) (bs : List ℕ) (v : List ℕ) (rest : List Placed) → Spells (f.name of_attribute b) (placed n bs) v rest
    → (w : List ℕ) × Every (is_name_byte of_attribute) w × (v ≡ map lower (b ∷ w)) × Took n (length w) bs rest (λ r. w ++ r)
unfolding f.name
name_found of_attribute b n bs v rest s = more_of_name_found of_attribute (lower b ∷ []) n bs v rest s

-- ---- comments, doctypes and raw text

pub and_true : (a b : Bool) → a ≡ true → b ≡ true → (a && b) ≡ true
and_true true b e h = h
and_true false b e h = cc

pub and_left : (a b : Bool) → (a && b) ≡ true → a ≡ true
and_left true b e = refl
and_left false b e = e

pub and_right : (a b : Bool) → (a && b) ≡ true → b ≡ true
and_right true b e = e
and_right false b e = cc

pub ended_found : (b : Bool) (ts : List Placed) (v : Unit {0}) (rest : List Placed) → Spells (f.ended b) ts v rest → (b ≡ true) × (rest ≡ ts)
ended_found true ts v rest s = (refl, s.1)
ended_found false [] v rest s = absurd s
ended_found false (t ∷ ts) v rest s = let e : false ≡ true = s.0 in cc

pub comment_from_found : (k n : ℕ) (bs : List ℕ) (v : ℕ) (rest : List Placed) → Spells (f.comment_from k) (placed n bs) v rest → (v == 3) ≡ true
    → (u : List ℕ) × (ends (λ n. nat_lt n 3) comment_step (λ n. n == 3) k u ≡ true) × Took n (length u) bs rest (λ r. u ++ r)
unfolding f.comment_from
comment_from_found k n [] v rest s h = let i = inverted k [] v rest s in ([], ap (λ x. x == 3) (sym i.0) ∙ h, record { others = []; behind = n; text = refl; left = i.1; at = omega arith })
comment_from_found k n (c ∷ bs) v rest s h = elim (inverted k (placed n (c ∷ bs)) v rest s) [
  | inl i ↦ (let q = comment_from_found (comment_step k c) (suc n) bs v rest (from_here i.3.0 i.3.1 i.4) h in
      let t = q.2 in
      (c ∷ q.0, and_true (nat_lt k 3) _ i.2 q.1, record { others = t.others; behind = t.behind; text = ap (λ xs. c ∷ xs) t.text; left = t.left; at = let a = t.at in omega arith }))
  | inr e ↦ ([], ap (λ x. x == 3) (sym e.1) ∙ h, record { others = c ∷ bs; behind = n; text = refl; left = e.2; at = omega arith })
]

pub raw_from_found : (w : List ℕ) (k n : ℕ) (bs : List ℕ) (v : ℕ) (rest : List Placed) → Spells (f.raw_from w k) (placed n bs) v rest → (v == length w + 2) ≡ true
    → (u : List ℕ) × (ends (λ n. nat_lt n (length w + 2)) (raw_step w) (λ n. n == length w + 2) k u ≡ true) × Took n (length u) bs rest (λ r. u ++ r)
unfolding f.raw_from
raw_from_found w k n [] v rest s h = let i = inverted k [] v rest s in ([], ap (λ x. x == length w + 2) (sym i.0) ∙ h, record { others = []; behind = n; text = refl; left = i.1; at = omega arith })
raw_from_found w k n (c ∷ bs) v rest s h = elim (inverted k (placed n (c ∷ bs)) v rest s) [
  | inl i ↦ (let q = raw_from_found w (raw_step w k c) (suc n) bs v rest (from_here i.3.0 i.3.1 i.4) h in
      let t = q.2 in
      (c ∷ q.0, and_true (nat_lt k (length w + 2)) _ i.2 q.1, record { others = t.others; behind = t.behind; text = ap (λ xs. c ∷ xs) t.text; left = t.left; at = let a = t.at in omega arith }))
  | inr e ↦ ([], ap (λ x. x == length w + 2) (sym e.1) ∙ h, record { others = c ∷ bs; behind = n; text = refl; left = e.2; at = omega arith })
]

pub letters_found : (ks : List ℕ) (n : ℕ) (bs : List ℕ) (v : Unit {0}) (rest : List Placed) → Spells (letters ks) (placed n bs) v rest → (w : List ℕ) × (spells ks w ≡ true) × Took n (length w) bs rest (λ r. w ++ r)
unfolding letters
letters_found [] n bs v rest s = ([], refl, record { others = bs; behind = n; text = refl; left = s.1; at = omega arith })
letters_found (k ∷ ks) n [] v rest s = absurd s
letters_found (k ∷ ks) n (c ∷ bs) v rest s =
    let q = letters_found ks (suc n) bs v rest s.1 in
    let t = q.2 in
    (c ∷ q.0, and_true (lower c == k) _ s.0 q.1, record { others = t.others; behind = t.behind; text = ap (λ xs. c ∷ xs) t.text; left = t.left; at = let a = t.at in omega arith })

-- what is read behind some bytes, as what is read at the place behind them
module _ {A : Type 0} (F : Rule A) {n len : ℕ} {bs : List ℕ} {ts : List Placed} {write : List ℕ → List ℕ} (t : Took n len bs ts write) (v : A) (rest : List Placed) where
  pub then_here : Spells F ts v rest → Spells F (placed t.behind t.others) v rest
  then_here s = subst (λ us. Spells F us v rest) t.left s

pub comment_found : (n : ℕ) (bs : List ℕ) (v : Unit {0}) (rest : List Placed) → Spells f.comment (placed n bs) v rest → (u : List ℕ) × (ends_comment u ≡ true) × Took n (length u) bs rest (λ r. u ++ r)
unfolding f.comment
comment_found n bs v rest s =
    let e = ended_found (s.0 == 3) s.1 v rest s.3 in
    let q = comment_from_found 0 n bs s.0 s.1 s.2 e.0 in
    let t = q.2 in
    (q.0, q.1, record { others = t.others; behind = t.behind; text = t.text; left = e.1 ∙ t.left; at = t.at })

pub doctype_found : (n : ℕ) (bs : List ℕ) (v : Unit {0}) (rest : List Placed) → Spells f.doctype (placed n bs) v rest
    → (w : List ℕ) × (u : List ℕ) × (spells (codes "octype") w ≡ true) × Every (λ b. not (b == 62)) u × Took n (length w + length u + 1) bs rest (λ r. w ++ (u ++ 62 ∷ r))
unfolding f.doctype
doctype_found n bs v rest s =
    -- (letters >> before) >> byte
    let q = letters_found (codes "octype") n bs s.2.0 s.2.1 s.2.2 in
    let t = q.2 in
    let k = before_found 62 t.behind 0 t.others s.0 s.1 (then_here (f.before 62 0) t s.0 s.1 s.2.3) in
    let u = k.4 in
    let z = byte_found 62 u.behind u.others v rest (then_here (f.byte 62) u v rest s.3) in (
      q.0,
      k.0,
      q.1,
      k.1,
      record {
        others = z.others;
        behind = z.behind;
        text = t.text ∙ ap (λ xs. q.0 ++ xs) (u.text ∙ ap (λ xs. k.0 ++ xs) z.text);
        left = z.left;
        at = let a = t.at in let b = u.at in let c = z.at in omega arith;
      },
    )

pub raw_found : (w : List ℕ) (n : ℕ) (bs : List ℕ) (v : Unit {0}) (rest : List Placed) → Spells (f.raw w) (placed n bs) v rest
    → (u : List ℕ) × (d : List ℕ) × (ends_raw w u ≡ true) × Every is_blank d × Took n (length u + length d + 1) bs rest (λ r. u ++ (d ++ 62 ∷ r))
unfolding f.raw
raw_found w n bs v rest s =
    let e = ended_found (s.0 == length w + 2) s.1 s.3.2.0 s.3.2.1 s.3.2.2 in
    let q = raw_from_found w 0 n bs s.0 s.1 s.2 e.0 in
    let t = q.2 in
    let here : Spells f.blanks (placed t.behind t.others) s.3.0 s.3.1 = subst (λ us. Spells f.blanks us s.3.0 s.3.1) (e.1 ∙ t.left) s.3.2.3 in
    let k = blanks_found t.behind t.others s.3.0 s.3.1 here in
    let u = k.2 in
    let z = byte_found 62 u.behind u.others v rest (then_here (f.byte 62) u v rest s.3.3) in (
      q.0,
      k.0,
      q.1,
      k.1,
      record {
        others = z.others;
        behind = z.behind;
        text = t.text ∙ ap (λ xs. q.0 ++ xs) (u.text ∙ ap (λ xs. k.0 ++ xs) z.text);
        left = z.left;
        at = let a = t.at in let b = u.at in let c = z.at in omega arith;
      },
    )

-- ---- attributes

-- the places of a value, where it may be safe
abbrev pub kept : Bool → Places → ℕ → ℕ → Places
kept true places from to = places ++ (from, to) ∷ []
kept false places from to = places

kept_found : (safe : Bool) (places : Places) (from to : ℕ) (ts : List Placed) (v : Places) (rest : List Placed) → Spells (either safe (f.put places from to) (give places)) ts v rest → (v ≡ kept safe places from to) × (rest ≡ ts)
unfolding f.put
kept_found true places from to ts v rest s = s
kept_found false places from to ts v rest s = s

same_place : (safe : Bool) (places : Places) (n q : ℕ) (w : List ℕ) (from to : ℕ) → from ≡ n + 2 → to ≡ n + 2 + length w → kept safe places from to ≡ places ++ value_places safe n (quoted q w)
same_place true places n q w from to e h = ap (λ x. places ++ (x, to) ∷ []) e ∙ ap (λ x. places ++ (n + 2, x) ∷ []) h
same_place false places n q w from to e h = sym (append-nil places)

-- a value behind its `=`, which stands at n
pub value_found : (safe : Bool) (places : Places) (n : ℕ) (bs : List ℕ) (v : Places) (rest : List Placed) → Spells (f.value safe places) (placed (suc n) bs) v rest
    → (x : Value) × IsValue x × (v ≡ places ++ value_places safe n x) × Took n (value_length x) (61 ∷ bs) rest (write_value x)
unfolding f.value f.quoted
value_found safe places n [] v rest s = absurd s
value_found safe places n (q ∷ bs) v rest s =
    let k = before_found q (suc (suc n)) (suc n + 1) bs s.1.0 s.1.1 s.1.2 in
    let t = k.4 in
    -- the closing quote, and the place
    let z = byte_found q t.behind t.others s.1.3.0 s.1.3.1 (then_here (f.byte q) t s.1.3.0 s.1.3.1 s.1.3.2) in
    let p = kept_found safe places (suc n + 1) s.1.0 s.1.3.1 v rest s.1.3.3 in
    let to : s.1.0 ≡ n + 2 + length k.0 = k.2 ∙ reach_is (suc (suc n)) (suc n + 1) k.0 (omega arith) ∙ omega arith in
    let from : suc n + 1 ≡ n + 2 = omega arith in (
      quoted q k.0,
      (s.0, k.1),
      p.0 ∙ same_place safe places n q k.0 (suc n + 1) s.1.0 from to,
      record {
        others = z.others;
        behind = z.behind;
        text = ap (λ xs. 61 ∷ q ∷ xs) (t.text ∙ ap (λ xs. k.0 ++ xs) z.text);
        left = p.1 ∙ z.left;
        at = let a = t.at in let b = z.at in omega arith;
      },
    )

-- a value with its `=` at n, or none
pub valued_found : (safe : Bool) (places : Places) (n : ℕ) (bs : List ℕ) (v : Places) (rest : List Placed) → Spells (f.valued safe places) (placed n bs) v rest
    → (x : Value) × IsValue x × (v ≡ places ++ value_places safe n x) × Took n (value_length x) bs rest (write_value x)
unfolding f.valued
valued_found safe places n [] v rest s = (none, tt, s.0 ∙ sym (append-nil places), record { others = []; behind = n; text = refl; left = s.1; at = omega arith })
valued_found safe places n (c ∷ bs) v rest (inl s) =
    let k = value_found safe places n bs v rest s.1 in
    let t = k.3 in
    (k.0, k.1, k.2, record { others = t.others; behind = t.behind; text = ap (λ x. x ∷ bs) (eqb-true c 61 s.0) ∙ t.text; left = t.left; at = t.at })
valued_found safe places n (c ∷ bs) v rest (inr s) = (none, tt, s.1 ∙ sym (append-nil places), record { others = c ∷ bs; behind = n; text = refl; left = s.2; at = omega arith })

-- an attribute, whose first byte b stands at n
pub attribute_found : (safe : Bool) (places : Places) (b n : ℕ) (bs : List ℕ) (v : Places) (rest : List Placed) → Spells (f.attribute safe places b) (placed (suc n) bs) v rest
    → (w : List ℕ) × (x : Value) × Every (is_name_byte true) w × IsValue x × (v ≡ places ++ part_places safe n (attribute (b ∷ w) x)) × Took n (part_length (attribute (b ∷ w) x)) (b ∷ bs) rest (write_part (attribute (b ∷ w) x))
unfolding f.attribute
attribute_found safe places b n bs v rest s =
    let k = name_found true b (suc n) bs s.0 s.1 s.2 in
    let t = k.3 in
    let q = valued_found (safe && not (is_harmful s.0)) places t.behind t.others v rest (then_here (f.valued (safe && not (is_harmful s.0)) places) t v rest s.3) in
    let u = q.3 in
    let at : t.behind ≡ n + length (b ∷ k.0) = let a = t.at in omega arith in (
      k.0,
      q.0,
      k.1,
      q.1,
      q.2 ∙ ap (λ w. places ++ value_places (safe && not (is_harmful w)) t.behind q.0) k.2 ∙ ap (λ m. places ++ value_places (safe && not (is_harmful (map lower (b ∷ k.0)))) m q.0) at,
      record { others = u.others; behind = u.behind; text = ap (λ xs. b ∷ xs) (t.text ∙ ap (λ xs. k.0 ++ xs) u.text); left = u.left; at = let c = u.at in omega arith },
    )

-- a part behind a blank or not
abbrev pub PartFits : Bool → Part → Type 0
PartFits gap (blank b) = is_blank b ≡ true
PartFits gap (attribute n v) = (gap ≡ true) × IsName true n × IsValue v

abbrev pub is_gap : Part → Bool
is_gap (blank b) = true
is_gap (attribute n v) = false

pub are_more : (gap : Bool) (p : Part) (ps : List Part) → PartFits gap p → AreParts (is_gap p) ps → AreParts gap (p ∷ ps)
are_more gap (blank b) ps h hs = (h, hs)
are_more gap (attribute n v) ps h hs = (h.0, h.1, h.2, hs)

or_right : (a b : Bool) → a ≡ false → (a || b) ≡ true → b ≡ true
or_right true b e h = cc
or_right false b e h = h

abbrev PartFound : Bool → Bool → Places → ℕ → ℕ → List ℕ → Attributes → List Placed → Type 0
PartFound safe gap places c n bs b mid = (p : Part) × PartFits gap p × (b.0 ≡ places ++ part_places safe n p) × (b.1 ≡ is_gap p) × Took n (part_length p) (c ∷ bs) mid (write_part p)

-- `is`: whether the byte is a blank
part_by : (safe gap : Bool) (places : Places) (c n : ℕ) (bs : List ℕ) (b : Attributes) (mid : List Placed) (is : Bool) → is_blank c ≡ is → is_next gap c ≡ true
    → Spells (either is (give (places, true)) (f.attribute safe places c >>= λ ps. give (ps, false))) (placed (suc n) bs) b mid → PartFound safe gap places c n bs b mid
part_by safe gap places c n bs b mid true e h s =
    (blank c, e, ap (λ (x : Attributes). x.0) s.0 ∙ sym (append-nil places), ap (λ (x : Attributes). x.1) s.0, record { others = bs; behind = suc n; text = refl; left = s.1; at = omega arith })
part_by safe gap places c n bs b mid false e h s =
    let k = attribute_found safe places c n bs s.0 s.1 s.2 in
    let t = k.5 in
    let both = or_right (is_blank c) (is_alphabetic c && gap) e h in (
      attribute (c ∷ k.0) k.1,
      (and_right (is_alphabetic c) gap both, (and_left (is_alphabetic c) gap both, k.2), k.3),
      ap (λ (x : Attributes). x.0) s.3.0 ∙ k.4,
      ap (λ (x : Attributes). x.1) s.3.0,
      record { others = t.others; behind = t.behind; text = t.text; left = s.3.1 ∙ t.left; at = t.at },
    )

part_found : (safe gap : Bool) (places : Places) (c n : ℕ) (bs : List ℕ) (b : Attributes) (mid : List Placed) → is_next gap c ≡ true → Spells (f.blank_or_attribute safe places c) (placed (suc n) bs) b mid → PartFound safe gap places c n bs b mid
unfolding f.blank_or_attribute
part_found safe gap places c n bs b mid h s = part_by safe gap places c n bs b mid (is_blank c) refl h s

abbrev PartsFound : Bool → Attributes → ℕ → List ℕ → Attributes → List Placed → Type 0
PartsFound safe s n bs v rest = (ps : List Part) × AreParts s.1 ps × (v.0 ≡ s.0 ++ parts_places safe n ps) × Took n (parts_length ps) bs rest (write_parts ps)

abbrev AttributeMany : Bool → Attributes → List Placed → Attributes → List Placed → Type 0
AttributeMany safe = Many (λ (s : Attributes) t. is_next s.1 t.byte) (λ (s : Attributes) t. Spells (f.blank_or_attribute safe s.0 t.byte))

one_part : (safe : Bool) (s b v : Attributes) (n : ℕ) (c : ℕ) (bs : List ℕ) (mid rest : List Placed) (p : PartFound safe s.1 s.0 c n bs b mid) → PartsFound safe b p.4.behind p.4.others v rest → PartsFound safe s n (c ∷ bs) v rest
one_part safe s b v n c bs mid rest p q =
    let t = p.4 in
    let u = q.3 in (
      p.0 ∷ q.0,
      are_more s.1 p.0 q.0 p.1 (subst (λ g. AreParts g q.0) p.3 q.1),
      q.2 ∙ ap (λ xs. xs ++ parts_places safe t.behind q.0) p.2 ∙ append_assoc s.0 (part_places safe n p.0) (parts_places safe t.behind q.0)
          ∙ ap (λ m. s.0 ++ (part_places safe n p.0 ++ parts_places safe m q.0)) t.at,
      record { others = u.others; behind = u.behind; text = t.text ∙ ap (write_part p.0) u.text; left = u.left; at = let a = t.at in let e = u.at in omega arith },
    )

pub parts_found : (safe : Bool) (s : Attributes) (us : List Placed) (v : Attributes) (rest : List Placed) → AttributeMany safe s us v rest → (n : ℕ) (bs : List ℕ) → us ≡ placed n bs → PartsFound safe s n bs v rest
parts_found safe s us v rest (done h) n bs e = ([], tt, sym (append-nil s.0), record { others = bs; behind = n; text = refl; left = e; at = omega arith })
parts_found safe s us v rest (more {b = b} {t = t} {ts = ts} {mid = mid} p g o) n [] e = cc
parts_found safe s us v rest (more {b = b} {t = t} {ts = ts} {mid = mid} p g o) n (c ∷ bs) e =
    let is : t ≡ record { at = n; byte = c } = cc in
    let left : ts ≡ placed (suc n) bs = cc in
    let byte : t.byte ≡ c = ap (λ (x : Placed). x.byte) is in
    let k = part_found safe s.1 s.0 c n bs b mid (subst (λ x. is_next s.1 x ≡ true) byte p)
    (subst (λ x. Spells (f.blank_or_attribute safe s.0 x) (placed (suc n) bs) b mid) byte (subst (λ us. Spells (f.blank_or_attribute safe s.0 t.byte) us b mid) left g)) in
    one_part safe s b v n c bs mid rest k (parts_found safe b mid v rest o k.4.behind k.4.others k.4.left)

-- ---- tags

slash_found : (n : ℕ) (bs : List ℕ) (v : Unit {0}) (rest : List Placed) → Spells f.slash (placed n bs) v rest → (b : Bool) × Took n (slash_length b) bs rest (write_slash b)
unfolding f.slash
slash_found n [] v rest s = (false, record { others = []; behind = n; text = refl; left = s.1; at = omega arith })
slash_found n (c ∷ bs) v rest (inl s) = (true, record { others = bs; behind = suc n; text = ap (λ x. x ∷ bs) (eqb-true c 47 s.0); left = s.1.1; at = omega arith })
slash_found n (c ∷ bs) v rest (inr s) = (false, record { others = c ∷ bs; behind = n; text = refl; left = s.2; at = omega arith })

pub tag_end_found : (safe : Bool) (places : Places) (n : ℕ) (bs : List ℕ) (v : Places) (rest : List Placed) → Spells (f.tag_end safe places) (placed n bs) v rest
    → (ps : List Part) × (b : Bool) × AreParts false ps × (v ≡ places ++ parts_places safe n ps) × Took n (parts_length ps + slash_length b + 1) bs rest (λ r. write_parts ps (write_slash b (62 ∷ r)))
unfolding f.tag_end f.attributes
tag_end_found safe places n bs v rest s =
    let k = parts_found safe (places, false) (placed n bs) s.0 s.1 s.2 n bs refl in
    let t = k.3 in
    let q = slash_found t.behind t.others s.3.2.0 s.3.2.1 (then_here f.slash t s.3.2.0 s.3.2.1 s.3.2.2) in
    let u = q.1 in
    let z = byte_found 62 u.behind u.others s.3.0 s.3.1 (then_here (f.byte 62) u s.3.0 s.3.1 s.3.2.3) in (
      k.0,
      q.0,
      k.1,
      s.3.3.0 ∙ k.2,
      record {
        others = z.others;
        behind = z.behind;
        text = t.text ∙ ap (write_parts k.0) (u.text ∙ ap (write_slash q.0) z.text);
        left = s.3.3.1 ∙ z.left;
        at = let a = t.at in let b = u.at in let c = z.at in omega arith;
      },
    )

-- a name, of which the first byte b stands at n, and what stands behind it, as a tag
as_tag : (safe of_raw : Bool) (places : Places) (b n : ℕ) (bs : List ℕ) (v : Places) (name : List ℕ) (mid rest : List Placed)
    → is_alphabetic b ≡ true → is_raw name ≡ of_raw → Spells (f.name false b) (placed (suc n) bs) name mid → Spells (f.tag_end safe places) mid v rest
    → (t : Tag) × IsTag of_raw t × (name ≡ map lower t.name) × (v ≡ places ++ tag_places safe n t) × Took n (tag_length t) (b ∷ bs) rest (write_tag t)
as_tag safe of_raw places b n bs v name mid rest h r s g =
    let k = name_found false b (suc n) bs name mid s in
    let t = k.3 in
    let q = tag_end_found safe places t.behind t.others v rest (then_here (f.tag_end safe places) t v rest g) in
    let u = q.4 in
    let at : t.behind ≡ n + length (b ∷ k.0) = let a = t.at in omega arith in (
      record { name = b ∷ k.0; parts = q.0; slash = q.1 },
      ((h, k.1), sym (ap is_raw k.2) ∙ r, q.2),
      k.2,
      q.3 ∙ ap (λ m. places ++ parts_places safe m q.0) at,
      record { others = u.others; behind = u.behind; text = ap (λ xs. b ∷ xs) (t.text ∙ ap (λ xs. k.0 ++ xs) u.text); left = u.left; at = let c = u.at in omega arith },
    )

-- ---- items

abbrev MarkupFound : Places → ℕ → List ℕ → Places → List Placed → Type 0
MarkupFound places n bs v rest = (m : Markup) × IsMarkup m × (v ≡ places ++ markup_places n m) × Took n (markup_length m) bs rest (write_markup m)

closing_by : (is_of_raw : Bool) (places : Places) (b n : ℕ) (bs : List ℕ) (v : Places) (name : List ℕ) (mid rest : List Placed) → is_alphabetic b ≡ true → is_raw name ≡ is_of_raw
    → Spells (f.name false b) (placed (suc (suc (suc n))) bs) name mid → Spells (either is_of_raw (never places) (f.tag_end true places)) mid v rest → MarkupFound places n (60 ∷ 47 ∷ b ∷ bs) v rest
closing_by true places b n bs v name [] rest h r s g = absurd g
closing_by true places b n bs v name (t ∷ mid) rest h r s g = let e : false ≡ true = g.0 in cc
closing_by false places b n bs v name mid rest h r s g =
    let k = as_tag true false places b (suc (suc n)) bs v name mid rest h r s g in
    let t = k.4 in
    let two : suc (suc n) ≡ n + 2 = omega arith in
    (closing k.0, k.1, k.3 ∙ ap (λ m. places ++ tag_places true m k.0) two, record { others = t.others; behind = t.behind; text = ap (λ xs. 60 ∷ 47 ∷ xs) t.text; left = t.left; at = let a = t.at in omega arith })

closing_found : (places : Places) (n : ℕ) (bs : List ℕ) (v : Places) (rest : List Placed) → Spells (f.closing places) (placed (suc (suc n)) bs) v rest → MarkupFound places n (60 ∷ 47 ∷ bs) v rest
unfolding f.closing f.closing_from
closing_found places n [] v rest s = absurd s
closing_found places n (b ∷ bs) v rest s = closing_by (is_raw s.1.0) places b n bs v s.1.0 s.1.1 rest s.0 refl s.1.2 s.1.3

opening_by : (is_of_raw : Bool) (places ps : Places) (b n : ℕ) (bs : List ℕ) (v : Places) (name : List ℕ) (mid tail rest : List Placed) → is_alphabetic b ≡ true → is_raw name ≡ is_of_raw
    → Spells (f.name false b) (placed (suc (suc n)) bs) name mid → Spells (f.tag_end (not is_of_raw) places) mid ps tail → Spells (either is_of_raw (f.raw name >> give ps) (give ps)) tail v rest → MarkupFound places n (60 ∷ b ∷ bs) v rest
opening_by false places ps b n bs v name mid tail rest h r s g e =
    let k = as_tag true false places b (suc n) bs ps name mid tail h r s g in
    let t = k.4 in
    let one : suc n ≡ n + 1 = omega arith in
    (opening k.0, k.1, e.0 ∙ k.3 ∙ ap (λ m. places ++ tag_places true m k.0) one, record { others = t.others; behind = t.behind; text = ap (λ xs. 60 ∷ xs) t.text; left = e.1 ∙ t.left; at = let a = t.at in omega arith })
opening_by true places ps b n bs v name mid tail rest h r s g e =
    let k = as_tag false true places b (suc n) bs ps name mid tail h r s g in
    let t = k.4 in
    let q = raw_found name t.behind t.others e.0 e.1 (then_here (f.raw name) t e.0 e.1 e.2) in
    let u = q.4 in (
      raw k.0 q.0 q.1,
      (k.1, subst (λ w. ends_raw w q.0 ≡ true) k.2 q.2, q.3),
      e.3.0 ∙ k.3 ∙ ap (λ xs. places ++ xs) (none_safe (suc n + length k.0.name) k.0.parts),
      record { others = u.others; behind = u.behind; text = ap (λ xs. 60 ∷ xs) (t.text ∙ ap (write_tag k.0) u.text); left = e.3.1 ∙ u.left; at = let a = t.at in let c = u.at in omega arith },
    )
  where
    none_of_value : (n : ℕ) (x : Value) → value_places false n x ≡ []
    none_of_value n none = refl
    none_of_value n (quoted q w) = refl

    none_safe : (n : ℕ) (parts : List Part) → parts_places false n parts ≡ []
    none_safe n [] = refl
    none_safe n (blank b ∷ parts) = none_safe (n + 1) parts
    none_safe n (attribute w x ∷ parts) = ap (λ xs. xs ++ parts_places false (n + part_length (attribute w x)) parts) (none_of_value (n + length w) x) ∙ none_safe (n + part_length (attribute w x)) parts

declared_by : (dash : Bool) (b n : ℕ) (bs : List ℕ) (v : Unit {0}) (rest : List Placed) → (b == 45) ≡ dash → ((b == 45) || (lower b == 100)) ≡ true
    → Spells (either dash (f.byte 45 >> f.comment) f.doctype) (placed (suc (suc (suc n))) bs) v rest → (m : Markup) × IsMarkup m × (markup_places n m ≡ []) × Took n (markup_length m) (60 ∷ 33 ∷ b ∷ bs) rest (write_markup m)
declared_by true b n bs v rest e h s =
    let t = byte_found 45 (suc (suc (suc n))) bs s.0 s.1 s.2 in
    let q = comment_found t.behind t.others v rest (then_here f.comment t v rest s.3) in
    let u = q.2 in
    (comment q.0, q.1, refl, record { others = u.others; behind = u.behind; text = ap (λ x. 60 ∷ 33 ∷ x ∷ bs) (eqb-true b 45 e) ∙ ap (λ xs. 60 ∷ 33 ∷ 45 ∷ xs) (t.text ∙ ap (λ xs. 45 ∷ xs) u.text); left = u.left; at = let a = t.at in let c = u.at in omega arith })
declared_by false b n bs v rest e h s =
    let q = doctype_found (suc (suc (suc n))) bs v rest s in
    let t = q.4 in (
      doctype (b ∷ q.0) q.1,
      (and_true (lower b == 100) _ (or_right (b == 45) (lower b == 100) e h) q.2, q.3),
      refl,
      record { others = t.others; behind = t.behind; text = ap (λ xs. 60 ∷ 33 ∷ b ∷ xs) t.text; left = t.left; at = let a = t.at in omega arith },
    )

declared_found : (n : ℕ) (bs : List ℕ) (v : Unit {0}) (rest : List Placed) → Spells f.declared (placed (suc (suc n)) bs) v rest → (m : Markup) × IsMarkup m × (markup_places n m ≡ []) × Took n (markup_length m) (60 ∷ 33 ∷ bs) rest (write_markup m)
unfolding f.declared f.declared_from
declared_found n [] v rest s = absurd s
declared_found n (b ∷ bs) v rest s = declared_by (b == 45) b n bs v rest refl s.0 s.1

item_by : (bang slash : Bool) (places : Places) (b n : ℕ) (bs : List ℕ) (v : Places) (rest : List Placed) → (b == 33) ≡ bang → (b == 47) ≡ slash → begins_item b ≡ true
    → Spells (either bang (f.declared >> give places) (either slash (f.closing places) (f.opening places b))) (placed (suc (suc n)) bs) v rest → MarkupFound places n (60 ∷ b ∷ bs) v rest
unfolding f.opening f.behind_opening
item_by true slash places b n bs v rest e k h s =
    let q = declared_found n bs s.0 s.1 s.2 in
    let t = q.3 in
    (q.0, q.1, s.3.0 ∙ sym (ap (λ xs. places ++ xs) q.2 ∙ append-nil places), record { others = t.others; behind = t.behind; text = ap (λ x. 60 ∷ x ∷ bs) (eqb-true b 33 e) ∙ t.text; left = s.3.1 ∙ t.left; at = t.at })
item_by false true places b n bs v rest e k h s =
    let q = closing_found places n bs v rest s in
    let t = q.3 in
    (q.0, q.1, q.2, record { others = t.others; behind = t.behind; text = ap (λ x. 60 ∷ x ∷ bs) (eqb-true b 47 k) ∙ t.text; left = t.left; at = t.at })
item_by false false places b n bs v rest e k h s =
    opening_by (is_raw s.0) places s.3.0 b n bs v s.0 s.1 s.3.1 rest (letter b e k h) refl s.2 s.3.2 s.3.3
  where
    letter : (b : ℕ) → (b == 33) ≡ false → (b == 47) ≡ false → begins_item b ≡ true → is_alphabetic b ≡ true
    letter b e k h = or_right (b == 47) (is_alphabetic b) k (or_right (b == 33) (b == 47 || is_alphabetic b) e (regroup (b == 33) (b == 47) (is_alphabetic b) h))
      where
        regroup : (x y z : Bool) → (x || y || z) ≡ true → (x || (y || z)) ≡ true
        regroup true y z h = refl
        regroup false y z h = h

-- markup, whose `<` stands at n
pub markup_found : (places : Places) (n : ℕ) (bs : List ℕ) (v : Places) (rest : List Placed) → Spells (f.item places) (placed (suc n) bs) v rest → MarkupFound places n (60 ∷ bs) v rest
unfolding f.item f.item_from
markup_found places n [] v rest s = absurd s
markup_found places n (b ∷ bs) v rest s = item_by (b == 33) (b == 47) places b n bs v rest refl refl s.0 s.1

-- ---- pages

abbrev PageMany : Places → List Placed → Places → List Placed → Type 0
PageMany = Many (λ (_ : Places) (_ : Placed). true) (λ (ps : Places) t. Spells (f.piece ps t))

abbrev PageFound : Places → ℕ → List ℕ → Places → Type 0
PageFound ps n bs v = (p : Page) × IsLawful p × (written p ≡ bs) × (v ≡ ps ++ places_at n p)

-- what a piece is: markup, or data before markup or the end
abbrev Piece : Places → ℕ → ℕ → List ℕ → Places → List Placed → Type 0
Piece ps c n bs v mid = MarkupFound ps n (c ∷ bs) v mid
    ⊎ ((w : List ℕ) × Every is_data (c ∷ w) × (v ≡ ps ++ data_places n (c ∷ w)) × EndsBefore (λ t. is_data t.byte) mid × Took n (length (c ∷ w)) (c ∷ bs) mid (λ r. c ∷ (w ++ r)))

piece_by : (is_markup : Bool) (ps : Places) (c n : ℕ) (bs : List ℕ) (v : Places) (mid : List Placed) → (c == 60) ≡ is_markup → Spells (either is_markup (f.item ps) (f.text ps (record { at = n; byte = c }))) (placed (suc n) bs) v mid → Piece ps c n bs v mid
unfolding f.text f.put
piece_by true ps c n bs v mid e s =
    let q = markup_found ps n bs v mid s in
    let t = q.3 in
    inl (q.0, q.1, q.2, record { others = t.others; behind = t.behind; text = ap (λ x. x ∷ bs) (eqb-true c 60 e) ∙ t.text; left = t.left; at = t.at })
piece_by false ps c n bs v mid e s =
    let k = before_found 60 (suc n) (n + 1) bs s.0 s.1 s.2 in
    let t = k.4 in
    let to : s.0 ≡ n + length (c ∷ k.0) = k.2 ∙ reach_is (suc n) (n + 1) k.0 (omega arith) ∙ omega arith in
    inr (
      k.0,
      (ap not e, k.1),
      s.3.0 ∙ ap (λ x. ps ++ (n, x) ∷ []) to,
      subst (EndsBefore (λ t. is_data t.byte)) (sym s.3.1) k.3,
      record { others = t.others; behind = t.behind; text = ap (λ xs. c ∷ xs) t.text; left = s.3.1 ∙ t.left; at = let a = t.at in omega arith },
    )

piece_found : (ps : Places) (c n : ℕ) (bs : List ℕ) (v : Places) (mid : List Placed) → Spells (f.piece ps (record { at = n; byte = c })) (placed (suc n) bs) v mid → Piece ps c n bs v mid
unfolding f.piece
piece_found ps c n bs v mid s = piece_by (c == 60) ps c n bs v mid refl s

-- data before a page that begins with markup, or is empty
module _ (ps b v : Places) (c n : ℕ) (bs w : List ℕ) (mid : List Placed) (h : Every is_data (c ∷ w)) (e : b ≡ ps ++ data_places n (c ∷ w)) (z : EndsBefore (λ t. is_data t.byte) mid) (t : Took n (length (c ∷ w)) (c ∷ bs) mid (λ r. c ∷ (w ++ r))) where
  same : t.behind + 0 ≡ n + length (c ∷ w)
  same = let a = t.at in omega arith

  behind_data : (d : List ℕ) (is : Items) → Every is_data d → AreItems is → d ++ write_items is ≡ t.others → v ≡ b ++ places_at t.behind (record { data_first = d; items = is }) → PageFound ps n (c ∷ bs) v
  behind_data [] is hd hi x y = (
    record { data_first = c ∷ w; items = is },
    (h, hi),
    ap (λ xs. c ∷ (w ++ xs)) x ∙ sym t.text,
    y ∙ ap (λ xs. xs ++ items_places (t.behind + 0) is) e ∙ append_assoc ps (data_places n (c ∷ w)) (items_places (t.behind + 0) is)
        ∙ ap (λ m. ps ++ (data_places n (c ∷ w) ++ items_places m is)) same,
  )
  behind_data (q ∷ d) is hd hi x y =
      let l : mid ≡ placed t.behind (q ∷ (d ++ write_items is)) = t.left ∙ ap (placed t.behind) (sym x) in
      let k : is_data q ≡ false = subst (EndsBefore (λ t. is_data t.byte)) l z in
      let j : is_data q ≡ true = hd.0 in
      absurd (let f : true ≡ false = sym j ∙ k in cc)

one_piece : (ps b v : Places) (c n : ℕ) (bs : List ℕ) (mid : List Placed) (p : Piece ps c n bs b mid) → ((m : ℕ) (xs : List ℕ) → mid ≡ placed m xs → PageFound b m xs v) → PageFound ps n (c ∷ bs) v
one_piece ps b v c n bs mid (inl p) q =
    let t = p.3 in
    let k = q t.behind t.others t.left in
    let d = k.0.data_first in
    let is = k.0.items in
    let same : n + 0 ≡ n = omega arith in (
      record { data_first = []; items = item p.0 d is },
      (tt, (p.1, k.1.0, k.1.1)),
      ap (write_markup p.0) k.2 ∙ sym t.text,
      k.3 ∙ ap (λ xs. xs ++ places_at t.behind k.0) p.2 ∙ append_assoc ps (markup_places n p.0) (places_at t.behind k.0)
          ∙ ap (λ m. ps ++ (markup_places n p.0 ++ places_at m k.0)) t.at ∙ ap (λ m. ps ++ items_places m (item p.0 d is)) (sym same),
    )
one_piece ps b v c n bs mid (inr p) q =
    let t = p.4 in
    let k = q t.behind t.others t.left in
    behind_data ps b v c n bs p.0 mid p.1 p.2 p.3 t k.0.data_first k.0.items k.1.0 k.1.1 k.2 k.3

pieces_found : (ps : Places) (us : List Placed) (v : Places) (rest : List Placed) → PageMany ps us v rest → (n : ℕ) (bs : List ℕ) → us ≡ placed n bs → rest ≡ [] → PageFound ps n bs v
pieces_found ps us v rest (done h) n [] e z = (record { data_first = []; items = end }, (tt, tt), refl, sym (append-nil ps))
pieces_found ps us v rest (done h) n (c ∷ bs) e z = let k : record { at = n; byte = c } ∷ placed (suc n) bs ≡ [] = sym e ∙ z in cc
pieces_found ps us v rest (more {b = b} {t = t} {ts = ts} {mid = mid} p g o) n [] e z = cc
pieces_found ps us v rest (more {b = b} {t = t} {ts = ts} {mid = mid} p g o) n (c ∷ bs) e z =
    let is : t ≡ record { at = n; byte = c } = cc in
    let left : ts ≡ placed (suc n) bs = cc in
    let k = piece_found ps c n bs b mid (subst (λ x. Spells (f.piece ps x) (placed (suc n) bs) b mid) is (subst (λ us. Spells (f.piece ps t) us b mid) left g)) in
    one_piece ps b v c n bs mid k (λ m xs x. pieces_found b mid v rest o m xs x z)

pub page_found : (bytes : List ℕ) (places : Places) → IsPage bytes places → (p : Page) × IsLawful p × (written p ≡ bytes) × (safe_places p ≡ places)
unfolding f.page
page_found bytes places s =
    let k = pieces_found [] (placed 0 bytes) places [] s 0 bytes refl refl in
    (k.0, k.1, k.2, sym k.3)
