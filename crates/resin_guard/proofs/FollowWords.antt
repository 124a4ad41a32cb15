-- Words, names and literals in a text with other bytes between its quotes.
use Rattle.std.proofs.Common.{◌≡◌, ℕ, suc, ◌+◌, Bool, true, false, List, [], ◌∷◌, ◌++◌, Option, Some, None, length, refl, sym, ap, subst, ◌∙◌}
use Rattle.std.specs.Prelude.{◌==◌, ◌&&◌, not, nat_lt, nat_le, codes, ◌-◌, if◌then◌else◌}
use Rattle.resin_form.specs.Form.{EndsBefore, done, more, give}
use Rattle.resin_form.specs.Reading.{Got}
use Rattle.resin_form.specs.Meaning.{NameSpells, NameBegins, allows_at, reading, SpellsWithin, BeginsWithin}
use Rattle.resin_form.proofs.Exact.{Exact, exact}
use Rattle.resin_form.proofs.Fronts.{shrinks}
use Rattle.resin_scan.specs.Bytes.{is_digit}
use Rattle.resin_scan.specs.Lists.{NotBefore}
use Rattle.resin_sql_words.specs.declared.cursor.Placed.{Placed}
use Rattle.resin_sql_words.specs.declared.literals.Literal.{Literal}
use Rattle.resin_sql_words.specs.declared.literals.Literal.TheVariants as l
use Rattle.resin_sql_words.specs.Places.{placed}
use Rattle.resin_sql_words.specs.Forms.{Rule, rules, in_limits, under, either, within}
use Rattle.resin_sql_words.specs.Words as w
use Rattle.resin_sql_words.specs.Words.{Ended, is_reserved}
use Rattle.resin_sql_words.specs.Literals as t
use Rattle.resin_sql_words.specs.Literals.{greatest, signed, with_digit, quoted_step, is_quoted, begins_literal}
use Rattle.resin_guard.specs.Requoted.{Requoted, doubled, nowhere, shape_of_literal}
use Rattle.resin_guard.specs.Requoted as q
use Rattle.resin_guard.proofs.Follows.{Spells, Follows, FollowsBehind, Followed, whole, behind_taken, gives, followed_by, and_then, nexts, manys, choices, nevers, withins}

-- ---- blanks, keywords and names

pub gap_from_follows : (some : Bool) → Follows whole (w.gap_from some) (w.gap_from some)
unfolding w.gap_from
gap_from_follows some = manys (λ a b e n m c. refl) (λ a n. refl) (λ a b e n m c. behind_taken (gives refl)) refl

pub gap_follows : Follows whole w.gap w.gap
unfolding w.gap
gap_follows = gap_from_follows false

-- no byte of a keyword is a quote
abbrev pub plain : List ℕ → Bool
plain [] = true
plain (k ∷ ks) = not (39 == k) && plain ks

pub and_left : (a b : Bool) → (a && b) ≡ true → a ≡ true
and_left true b e = refl
and_left false b e = e

pub and_right : (a b : Bool) → (a && b) ≡ true → b ≡ true
and_right true b e = e
and_right false b e = cc

pub is_false : (b : Bool) → not b ≡ true → b ≡ false
is_false true e = cc
is_false false e = refl

pub letters_follow : (ks : List ℕ) → plain ks ≡ true → Follows whole (w.letters ks) (w.letters ks)
unfolding w.letters
letters_follow [] h = gives refl
letters_follow (k ∷ ks) h = nexts (λ n m b. refl) (λ n. is_false (39 == k) (and_left (not (39 == k)) _ h)) (λ n m b. letters_follow ks (and_right (not (39 == k)) _ h))

pub word_follows : (ks : List ℕ) → plain ks ≡ true → Follows whole (w.word ks) (w.word ks)
unfolding w.word
word_follows ks h = and_then (letters_follow ks h) (λ a. gap_follows)

pub and_false : (a b : Bool) → a ≡ false → (a && b) ≡ false
and_false true b e = cc
and_false false b e = refl

pub keyword_follows : (free : Bool) (k : ℕ) (ks : List ℕ) → (39 == k) ≡ false → plain ks ≡ true → Follows whole (w.keyword free k ks) (w.keyword free k ks)
unfolding w.keyword
keyword_follows free k ks e h = nexts (λ n m b. refl) (λ n. and_false (39 == k) free e) (λ n m b. word_follows ks h)

pub sign_follows : (b : ℕ) → (39 == b) ≡ false → Follows whole (w.sign b) (w.sign b)
unfolding w.sign
sign_follows b e = nexts (λ n m c. refl) (λ n. e) (λ n m c. gap_follows)

lawful_follows : (x : List ℕ) → Follows whole (w.lawful x) (w.lawful x)
unfolding w.lawful
lawful_follows x = choices (is_reserved x) (nevers x x) (gives refl)

name_step_follows : (x : List ℕ) (b : ℕ) → FollowsBehind whole (w.name_step x b) (w.name_step x b)
unfolding w.name_step
name_step_follows x b = withins (nat_lt (length x) 64) (gives refl)

more_of_name_follows : (x : List ℕ) → Follows whole (w.more_of_name x) (w.more_of_name x)
unfolding w.more_of_name
more_of_name_follows x = manys (λ a b e n m c. refl) (λ a n. refl) (λ a b e n m c. subst (λ y. FollowsBehind whole (w.name_step a c) (w.name_step y c)) (sym e) (name_step_follows a c)) refl

name_follows : (b : ℕ) → Follows whole (w.name b) (w.name b)
unfolding w.name
name_follows b = and_then (more_of_name_follows (b ∷ [])) (λ x. lawful_follows x)

pub name_from_follows : (b : ℕ) → Follows whole (w.name_from b) (w.name_from b)
unfolding w.name_from
name_from_follows b = and_then (name_follows b) (λ x. and_then gap_follows (λ g. gives refl))

pub named_follows : (free : Bool) → Follows whole (w.named free) (w.named free)
unfolding w.named
named_follows free = nexts (λ n m b. refl) (λ n. refl) (λ n m b. name_from_follows b)

-- ---- numbers: their value, wherever they stand

abbrev pub value_of : ℕ × ℕ → ℕ
value_of s = s.0

digit_step_follows : (most v u : ℕ) (n m b : ℕ) → u ≡ v → FollowsBehind value_of (t.digit_step most v (record { at = n; byte = b })) (t.digit_step most u (record { at = m; byte = b }))
unfolding t.digit_step
digit_step_follows most v u n m b e =
    subst (λ x. FollowsBehind value_of (within (nat_le (with_digit v b) most) (give (with_digit v b, n + 1))) (within (nat_le (with_digit x b) most) (give (with_digit x b, m + 1)))) (sym e)
    (withins (nat_le (with_digit v b) most) (gives refl))

more_digits_follow : (most : ℕ) (s u : ℕ × ℕ) → u.0 ≡ s.0 → Follows value_of (t.more_digits most s) (t.more_digits most u)
unfolding t.more_digits
more_digits_follow most s u e = manys (λ a b e n m c. refl) (λ a n. refl) (λ a b e n m c. digit_step_follows most a.0 b.0 n m c e) e

pub digits_follow : (most n m b : ℕ) → Follows value_of (t.digits most (record { at = n; byte = b })) (t.digits most (record { at = m; byte = b }))
unfolding t.digits
digits_follow most n m b = more_digits_follow most (b - 48, n + 1) (b - 48, m + 1) refl

integer_follows : (negative : Bool) (from too n m b : ℕ) → Follows shape_of_literal (t.integer negative from (record { at = n; byte = b })) (t.integer negative too (record { at = m; byte = b }))
unfolding t.integer
integer_follows negative from too n m b = followed_by (digits_follow (greatest negative) n m b) (λ u v e. gives (ap (λ x. l.Integer (signed negative x) nowhere) e))

negative_follows : (from too : ℕ) → Follows shape_of_literal (t.negative from) (t.negative too)
unfolding t.negative
negative_follows from too = nexts (λ n m b. refl) (λ n. refl) (λ n m b. integer_follows true from too n m b)

-- ---- literals, and whether a word may follow

abbrev pub ended_shape : Ended Literal → Ended Literal
ended_shape s = (shape_of_literal s.0, s.1)

spaced_follows : (F G : Rule Literal) → Follows shape_of_literal F G → Follows ended_shape (t.spaced F) (t.spaced G)
unfolding t.spaced
spaced_follows F G f = followed_by f (λ a b e. and_then gap_follows (λ g. gives (ap (λ x. let y : Ended Literal = (x, true) in y) e)))

null_follows : Follows ended_shape t.null t.null
unfolding t.null
null_follows = and_then (word_follows (codes "ull") refl) (λ g. gives refl)

-- ---- a text: it ends at the first quote that isn't doubled

exact_quoted : (s : Option ℕ) → Exact (under (t.quoted s)) (SpellsWithin rules in_limits 1 (t.quoted s)) (BeginsWithin rules in_limits 1 (t.quoted s))
exact_quoted s = exact (allows_at in_limits 1) (reading rules in_limits 1) (shrinks rules in_limits 1) (NameSpells rules in_limits 1) (NameBegins rules in_limits 1) (λ n. absurd n) (t.quoted s)

one_reading : (ts : List Placed) (v x : Option ℕ) (rest left : List Placed) → Spells (t.quoted None) ts v rest → Spells (t.quoted None) ts x left → (v ≡ x) × (rest ≡ left)
one_reading ts v x rest left s u =
    let a : under (t.quoted None) ts ≡ Got v rest = (exact_quoted None).spelled ts v rest s in
    let b : under (t.quoted None) ts ≡ Got x left = (exact_quoted None).spelled ts x left u in
    let c : Got v rest ≡ Got x left = sym a ∙ b in
    (let h : v ≡ x = cc in h, let h : rest ≡ left = cc in h)

-- the offset of the closing quote of a text that begins at n
abbrev pub closes_at : ℕ → List ℕ → ℕ
closes_at n [] = n
closes_at n (b ∷ x) = closes_at (suc n) x

quote_goes_on : (at : ℕ) → is_quoted (Some at) 39 ≡ true
quote_goes_on at = refl

ends_quote : (at m : ℕ) (r : List ℕ) → NotBefore (λ b. b == 39) r → EndsBefore (λ t. is_quoted (Some at) t.byte) (placed m r)
ends_quote at m [] h = tt
ends_quote at m (c ∷ r) h = h

step_none : (n b : ℕ) → (b == 39) ≡ false → quoted_step None (record { at = n; byte = b }) ≡ None
step_none n b h = by (b == 39) h
  where
    by : (x : Bool) → x ≡ false → (if x then Some n else None) ≡ None
    by true e = cc
    by false e = refl

-- a byte of a text, doubled where it is a quote, before what is read from either place behind it
quoted_by : (is : Bool) (n b : ℕ) (x r : List ℕ) → (b == 39) ≡ is → Spells (t.quoted None) (placed (suc n) (doubled x ++ 39 ∷ r)) (Some (closes_at (suc n) (doubled x))) (placed (suc (closes_at (suc n) (doubled x))) r)
    → Spells (t.quoted None) (placed (suc (suc n)) (doubled x ++ 39 ∷ r)) (Some (closes_at (suc (suc n)) (doubled x))) (placed (suc (closes_at (suc (suc n)) (doubled x))) r)
    → Spells (t.quoted None) (placed n ((if is then 39 ∷ 39 ∷ doubled x else b ∷ doubled x) ++ 39 ∷ r)) (Some (closes_at n (if is then 39 ∷ 39 ∷ doubled x else b ∷ doubled x))) (placed (suc (closes_at n (if is then 39 ∷ 39 ∷ doubled x else b ∷ doubled x))) r)
unfolding t.quoted
quoted_by true n b x r e one two = more {b = Some n} {mid = placed (suc n) (39 ∷ (doubled x ++ 39 ∷ r))} refl (refl, refl) (more {b = None} {mid = placed (suc (suc n)) (doubled x ++ 39 ∷ r)} refl (refl, refl) two)
quoted_by false n b x r e one two = more {b = None} {mid = placed (suc n) (doubled x ++ 39 ∷ r)} refl (sym (step_none n b e), refl) one

quoted_spelt : (n : ℕ) (x r : List ℕ) → NotBefore (λ b. b == 39) r → Spells (t.quoted None) (placed n (doubled x ++ 39 ∷ r)) (Some (closes_at n (doubled x))) (placed (suc (closes_at n (doubled x))) r)
unfolding t.quoted
quoted_spelt n [] r h = more {b = Some n} {mid = placed (suc n) r} refl (refl, refl) (done (ends_quote n (suc n) r h))
quoted_spelt n (b ∷ x) r h = quoted_by (b == 39) n b x r refl (quoted_spelt (suc n) x r h) (quoted_spelt (suc (suc n)) x r h)

-- a text behind its opening quote
text_spelt : (from n : ℕ) (x r : List ℕ) → NotBefore (λ b. b == 39) r → Spells (t.text from) (placed n (doubled x ++ 39 ∷ r)) (l.Text (record { from = from; to = closes_at n (doubled x) })) (placed (suc (closes_at n (doubled x))) r)
unfolding t.text
text_spelt from n x r h = (Some (closes_at n (doubled x)), placed (suc (closes_at n (doubled x))) r, quoted_spelt n x r h, (refl, refl))

-- what a text that is read comes to
pub text_is : (from n : ℕ) (x r : List ℕ) (v : Literal) (rest : List Placed) → NotBefore (λ b. b == 39) r → Spells (t.text from) (placed n (doubled x ++ 39 ∷ r)) v rest
    → (v ≡ l.Text (record { from = from; to = closes_at n (doubled x) })) × (rest ≡ placed (suc (closes_at n (doubled x))) r)
unfolding t.text
text_is from n x r v rest h s =
    let k = one_reading (placed n (doubled x ++ 39 ∷ r)) s.0 (Some (closes_at n (doubled x))) s.1 (placed (suc (closes_at n (doubled x))) r) s.2 (quoted_spelt n x r h) in
    closed_is from s.0 (closes_at n (doubled x)) s.1 (placed (suc (closes_at n (doubled x))) r) v rest k.0 k.1 s.3
  where
    closed_is : (from : ℕ) (o : Option ℕ) (to : ℕ) (mid left : List Placed) (v : Literal) (rest : List Placed) → o ≡ Some to → mid ≡ left → Spells (t.closed from o) mid v rest → (v ≡ l.Text (record { from = from; to = to })) × (rest ≡ left)
    closed_is from None to mid left v rest e f s = cc
    closed_is from (Some at) to mid left v rest e f s =
        let is : at ≡ to = cc in (s.0 ∙ ap (λ x. l.Text (record { from = from; to = x })) is, s.1 ∙ f)

-- other heads than a quote
head_plain : (r s : List ℕ) → Requoted r s → NotBefore (λ b. b == 39) r → NotBefore (λ b. b == 39) s
head_plain r s q.done h = tt
head_plain r s (q.same ne x) h = ne
head_plain r s (q.other w v e f z x) h = h

spaced_text_follows : (n m : ℕ) (bs cs : List ℕ) (x y r u : List ℕ) (v : Ended Literal) (rest : List Placed) → bs ≡ doubled x ++ 39 ∷ r → cs ≡ doubled y ++ 39 ∷ u → NotBefore (λ b. b == 39) r → Requoted r u
    → Spells (t.spaced (t.text (n + 1))) (placed (suc n) bs) v rest → Followed ended_shape v rest (Spells (t.spaced (t.text (m + 1))) (placed (suc m) cs))
unfolding t.spaced
spaced_text_follows n m bs cs x y r u v rest e f h p s =
    let old : Spells (t.text (n + 1)) (placed (suc n) (doubled x ++ 39 ∷ r)) s.0 s.1 = subst (λ xs. Spells (t.text (n + 1)) (placed (suc n) xs) s.0 s.1) e s.2 in
    let k = text_is (n + 1) (suc n) x r s.0 s.1 h old in
    let a = suc (closes_at (suc n) (doubled x)) in
    let z = suc (closes_at (suc m) (doubled y)) in
    let new = subst (λ xs. Spells (t.text (m + 1)) (placed (suc m) xs) (l.Text (record { from = m + 1; to = closes_at (suc m) (doubled y) })) (placed z u)) (sym f) (text_spelt (m + 1) (suc m) y u (head_plain r u p h)) in
    let g = gap_follows.follow a z r u s.3.0 s.3.1 p (subst (λ us. Spells w.gap us s.3.0 s.3.1) k.1 s.3.2) in
    record {
      value = (l.Text (record { from = m + 1; to = closes_at (suc m) (doubled y) }), true);
      there = g.there;
      there_too = g.there_too;
      others = g.others;
      others_too = g.others_too;
      at = s.3.3.1 ∙ g.at;
      spelt = (l.Text (record { from = m + 1; to = closes_at (suc m) (doubled y) }), placed z u, new, (g.value, placed g.there_too g.others_too, g.spelt, (refl, refl)));
      requoted = g.requoted;
      alike = sym (ap ended_shape s.3.3.0 ∙ ap (λ x. let o : Ended Literal = (shape_of_literal x, true) in o) k.0);
    }

plain_literal : (n m b : ℕ) → (b == 39) ≡ false → Follows ended_shape (t.literal_from (record { at = n; byte = b })) (t.literal_from (record { at = m; byte = b }))
unfolding t.literal_from
plain_literal n m b ne =
    choices (is_digit b) (spaced_follows _ _ (integer_follows false n m n m b))
    (choices (b == 45) (spaced_follows _ _ (negative_follows n m))
    (no_text (b == 39) ne (t.spaced (t.text (n + 1))) (t.spaced (t.text (m + 1)))))
  where
    no_text : (is : Bool) → is ≡ false → (F G : Rule (Ended Literal)) → Follows ended_shape (either is F t.null) (either is G t.null)
    no_text true e F G = cc
    no_text false e F G = null_follows

literal_on : (n m : ℕ) (bs cs : List ℕ) (v : Ended Literal) (rest : List Placed) → Requoted bs cs → Spells t.literal (placed n bs) v rest → Followed ended_shape v rest (Spells t.literal (placed m cs))
unfolding t.literal t.literal_from
literal_on n m bs cs v rest q.done s = absurd s
literal_on n m bs cs v rest (q.same {b = b} {r = r} {s = u} ne p) s =
    let k = (plain_literal n m b ne).follow (suc n) (suc m) r u v rest p s.1 in
    record { value = k.value; there = k.there; there_too = k.there_too; others = k.others; others_too = k.others_too; at = k.at; spelt = (s.0, k.spelt); requoted = k.requoted; alike = k.alike }
literal_on n m bs cs v rest (q.other x y {r = r} {s = u} {bs = xs} {cs = ys} e f h p) s =
    let k = spaced_text_follows n m xs ys x y r u v rest e f h p s.1 in
    record { value = k.value; there = k.there; there_too = k.there_too; others = k.others; others_too = k.others_too; at = k.at; spelt = (refl, k.spelt); requoted = k.requoted; alike = k.alike }

pub literal_follows : Follows ended_shape t.literal t.literal
literal_follows = record { follow = literal_on }
