-- What other texts take the place of in a statement are its text literals: form by form.
use Rattle.std.proofs.Common.{◌≡◌, ℕ, zero, suc, ◌+◌, Bool, true, false, List, [], ◌∷◌, ◌++◌, length, refl, sym, ap, subst, ◌∙◌, arith, append_assoc}
use Rattle.std.specs.Prelude.{◌==◌, not, nat_lt, nat_le, codes, ◌-◌}
use Rattle.std.specs.List.{flat_map}
use Rattle.std.proofs.lemmas.List.{append-nil, map-append, flat_map_more}
use Rattle.resin_base.specs.declared.cell.Column.{Column}
use Rattle.resin_scan.specs.Bytes.{is_digit, lower}
use Rattle.resin_scan.specs.Lists.{NotBefore}
use Rattle.resin_sql_words.specs.declared.cursor.Placed.{Placed}
use Rattle.resin_sql_words.specs.declared.literals.Literal.{Literal}
use Rattle.resin_sql_words.specs.declared.literals.Literal.TheVariants as l
use Rattle.resin_sql_words.specs.Places.{placed}
use Rattle.resin_sql_words.specs.Forms.{Rule, either}
use Rattle.resin_sql_words.specs.Words as w
use Rattle.resin_sql_words.specs.Words.{Ended, name_from, is_reserved}
use Rattle.resin_sql_words.specs.Literals as t
use Rattle.resin_sql_words.specs.Literals.{greatest, with_digit}
use Rattle.resin_sql.specs.Answers.{IsStatement}
use Rattle.resin_sql.specs.Conditions as k
use Rattle.resin_sql.specs.Conditions.{Atom, Several, Ways, Behind, atom}
use Rattle.resin_sql.specs.Statements as f
use Rattle.resin_sql.specs.Statements.{Chosen}
use Rattle.resin_sql.specs.Literals.{of_condition, of_where, of_rows, of_changes, literals}
use Rattle.resin_sql.specs.declared.tree.Change.{Change}
use Rattle.resin_sql.specs.declared.tree.Condition.{Condition}
use Rattle.resin_sql.specs.declared.tree.Condition.TheVariants as c
use Rattle.resin_sql.specs.declared.tree.Test.TheVariants as test
use Rattle.resin_sql.proofs.Listing.{of_one, of_all, of_any}
use Rattle.resin_guard.specs.Requoted as q
use Rattle.resin_guard.specs.Requoted.{Requoted, doubled, stretches, of_text, RequotesTexts}
use Rattle.resin_guard.proofs.Follows.{Spells}
use Rattle.resin_guard.proofs.FollowWords.{plain, is_false, and_left, and_right, and_false, closes_at, text_is}
use Rattle.resin_guard.proofs.Tells.{texts, Told, Tells, Plain, behind_taken, gives, and_then, from, nexts, maybes, manys, choices, nevers, withins}

-- ---- words: they hold no quote

gap_tells : {B : List Literal} → Plain B w.gap
unfolding w.gap w.gap_from
gap_tells = manys (λ a n. refl) (λ a n c. behind_taken (gives refl))

letters_tell : {B : List Literal} (ks : List ℕ) → plain ks ≡ true → Plain B (w.letters ks)
unfolding w.letters
letters_tell [] h = gives refl
letters_tell (x ∷ ks) h = nexts (λ n. is_false (39 == x) (and_left (not (39 == x)) _ h)) (λ n b. letters_tell ks (and_right (not (39 == x)) _ h))

word_tells : {B : List Literal} (ks : List ℕ) → plain ks ≡ true → Plain B (w.word ks)
unfolding w.word
word_tells ks h = and_then (letters_tell ks h) (λ a. gap_tells)

keyword_tells : {B : List Literal} (free : Bool) (x : ℕ) (ks : List ℕ) → (39 == x) ≡ false → plain ks ≡ true → Plain B (w.keyword free x ks)
unfolding w.keyword
keyword_tells free x ks e h = nexts (λ n. and_false (39 == x) free e) (λ n b. word_tells ks h)

sign_tells : {B : List Literal} (b : ℕ) → (39 == b) ≡ false → Plain B (w.sign b)
unfolding w.sign
sign_tells b e = nexts (λ n. e) (λ n c. gap_tells)

more_of_name_tells : {B : List Literal} (x : List ℕ) → Plain B (w.more_of_name x)
unfolding w.more_of_name w.name_step
more_of_name_tells x = manys (λ a n. refl) (λ a n b. withins (nat_lt (length a) 64) (gives refl))

name_tells : {B : List Literal} (b : ℕ) → Plain B (w.name b)
unfolding w.name w.lawful
name_tells b = and_then (more_of_name_tells (b ∷ [])) (λ x. choices (is_reserved x) (nevers x) (gives refl))

name_from_tells : {B : List Literal} (b : ℕ) → Plain B (name_from b)
unfolding w.name_from
name_from_tells b = and_then (name_tells b) (λ x. and_then gap_tells (λ g. gives refl))

named_tells : {B : List Literal} (free : Bool) → Plain B (w.named free)
unfolding w.named
named_tells free = nexts (λ n. refl) (λ n b. name_from_tells b)

digits_tell : {B : List Literal} (most n b : ℕ) → Plain B (t.digits most (record { at = n; byte = b }))
unfolding t.digits t.more_digits t.digit_step
digits_tell most n b = manys (λ a m. refl) (λ a m x. withins (nat_le (with_digit a.0 x) most) (gives refl))

-- ---- literals

-- one more
texts_one : (B : List Literal) (x : Literal) → texts (B ++ x ∷ []) ≡ texts B ++ of_text x
texts_one B x = sym (flat_map_more of_text [] B x)

no_text : (B : List Literal) (x : Literal) → of_text x ≡ [] → texts (B ++ x ∷ []) ≡ texts B
no_text B x e = texts_one B x ∙ ap (λ ps. texts B ++ ps) e ∙ append-nil (texts B)

abbrev and_one : List Literal → Literal → List Literal
and_one B x = B ++ x ∷ []

abbrev ended_one : List Literal → Ended Literal → List Literal
ended_one B s = B ++ s.0 ∷ []

integer_tells : {B : List Literal} (negative : Bool) (from n b : ℕ) → Tells B (and_one B) (t.integer negative from (record { at = n; byte = b }))
unfolding t.integer
integer_tells {B = B} negative from n b = and_then (digits_tell (greatest negative) n b) (λ v. gives (no_text B (l.Integer (t.signed negative v.0) (record { from = from; to = v.1 })) refl))

negative_tells : {B : List Literal} (from : ℕ) → Tells B (and_one B) (t.negative from)
unfolding t.negative
negative_tells from = nexts (λ n. refl) (λ n b. integer_tells true from n b)

spaced_tells : {B : List Literal} (F : Rule Literal) → Tells B (and_one B) F → Tells B (ended_one B) (t.spaced F)
unfolding t.spaced
spaced_tells F h = and_then h (λ v. and_then gap_tells (λ g. gives refl))

null_tells : {B : List Literal} → Tells B (ended_one B) t.null
unfolding t.null
null_tells {B = B} = and_then (word_tells (codes "ull") refl) (λ g. gives (no_text B l.Null refl))

closes_is : (n : ℕ) (x : List ℕ) → closes_at n x ≡ n + length x
closes_is n [] = omega arith
closes_is n (b ∷ x) = closes_is (suc n) x ∙ omega arith

-- the text between two quotes is one literal more
one_text : (B : List Literal) (n : ℕ) (x r u : List ℕ) (z : Requoted r u)
    → texts B ++ ((suc n, suc n + length x) ∷ stretches (suc (suc n + length x)) z) ≡ texts (B ++ l.Text (record { from = n + 1; to = closes_at (suc n) x }) ∷ []) ++ stretches (suc (closes_at (suc n) x)) z
one_text B n x r u z =
    let at = closes_at (suc n) x in
    let same : suc n ≡ n + 1 = omega arith in
    ap (λ m. texts B ++ ((suc n, m) ∷ stretches (suc m) z)) (sym (closes_is (suc n) x))
    ∙ ap (λ m. texts B ++ ((m, at) ∷ stretches (suc at) z)) same
    ∙ sym (append_assoc (texts B) ((n + 1, at) ∷ []) (stretches (suc at) z))
    ∙ ap (λ ps. ps ++ stretches (suc at) z) (sym (texts_one B (l.Text (record { from = n + 1; to = at }))))

-- the blanks behind a text
gap_tells_at : (B : List Literal) (x : Literal) (n : ℕ) (r u : List ℕ) (g : Bool) (rest : List Placed) (z : Requoted r u) → Spells w.gap (placed n r) g rest → Told (B ++ x ∷ []) rest (texts (B ++ x ∷ []) ++ stretches n z)
gap_tells_at B x n r u g rest z s = let h : Plain (B ++ x ∷ []) w.gap = gap_tells in h.tell n r u g rest z s

text_tells : (B : List Literal) (n : ℕ) (bs cs x y r u : List ℕ) (v : Ended Literal) (rest : List Placed) → bs ≡ doubled x ++ 39 ∷ r → NotBefore (λ b. b == 39) r → (z : Requoted r u)
    → Spells (t.spaced (t.text (n + 1))) (placed (suc n) bs) v rest → Told (B ++ v.0 ∷ []) rest (texts B ++ ((suc n, suc n + length (doubled x)) ∷ stretches (suc (suc n + length (doubled x))) z))
unfolding t.spaced
text_tells B n bs cs x y r u v rest e h z s =
    let old : Spells (t.text (n + 1)) (placed (suc n) (doubled x ++ 39 ∷ r)) s.0 s.1 = subst (λ xs. Spells (t.text (n + 1)) (placed (suc n) xs) s.0 s.1) e s.2 in
    let k = text_is (n + 1) (suc n) x r s.0 s.1 h old in
    let at = suc (closes_at (suc n) (doubled x)) in
    let g = gap_tells_at B s.0 at r u s.3.0 s.3.1 z (subst (λ us. Spells w.gap us s.3.0 s.3.1) k.1 s.3.2) in
    let one : texts (B ++ s.0 ∷ []) ≡ texts (B ++ v.0 ∷ []) = ap (λ (o : Ended Literal). texts (B ++ o.0 ∷ [])) (sym s.3.3.0) in
    record {
      there = g.there;
      others = g.others;
      others_too = g.others_too;
      left = g.left;
      at = s.3.3.1 ∙ g.at;
      sum = one_text B n (doubled x) r u z
          ∙ ap (λ (o : Literal). texts (B ++ o ∷ []) ++ stretches at z) (sym k.0)
          ∙ g.sum
          ∙ ap (λ ps. ps ++ stretches g.there g.left) one;
    }

plain_literal_tells : (B : List Literal) (n b : ℕ) → (b == 39) ≡ false → Tells B (ended_one B) (t.literal_from (record { at = n; byte = b }))
unfolding t.literal_from
plain_literal_tells B n b ne =
    choices (is_digit b) (spaced_tells _ (integer_tells false n n b))
    (choices (b == 45) (spaced_tells _ (negative_tells n))
    (no_quote (b == 39) ne (t.spaced (t.text (n + 1)))))
  where
    no_quote : (is : Bool) → is ≡ false → (F : Rule (Ended Literal)) → Tells B (ended_one B) (either is F t.null)
    no_quote true e F = cc
    no_quote false e F = null_tells

literal_told : (B : List Literal) (n : ℕ) (bs cs : List ℕ) (v : Ended Literal) (rest : List Placed) (r : Requoted bs cs) → Spells t.literal (placed n bs) v rest → Told (B ++ v.0 ∷ []) rest (texts B ++ stretches n r)
unfolding t.literal t.literal_from
literal_told B n bs cs v rest q.done s = absurd s
literal_told B n bs cs v rest (q.same {b = b} {r = r} {s = u} ne p) s = (plain_literal_tells B n b ne).tell (suc n) r u v rest p s.1
literal_told B n bs cs v rest (q.other x y {r = r} {s = u} {bs = xs} {cs = ys} e f h p) s = text_tells B n xs ys x y r u v rest e h p s.1

literal_tells : {B : List Literal} → Tells B (ended_one B) t.literal
literal_tells {B = B} = record { tell = literal_told B }

-- ---- tests

null_of : (B : List Literal) (column : List ℕ) (negated : Bool) → texts (B ++ of_condition (c.Test (test.Null column negated))) ≡ texts B
null_of B column negated = ap (λ ls. texts (B ++ ls)) (of_one (test.Null column negated)) ∙ ap texts (append-nil B)

abbrev and_condition : List Literal → Ended Condition → List Literal
and_condition B s = B ++ of_condition s.0

comparison_tells : {B : List Literal} (b : ℕ) → Plain B (k.comparison b)
unfolding k.comparison k.less k.greater
comparison_tells b = choices (b == 61) (gives refl) (choices (b == 60) (maybes (λ n. refl) (λ n x. gives refl) refl) (maybes (λ n. refl) (λ n x. gives refl) refl))

compared_tells : {B : List Literal} (column : List ℕ) (b : ℕ) → Tells B (and_condition B) (k.compared column b)
unfolding k.compared
compared_tells {B = B} column b = and_then (comparison_tells b) (λ op. and_then (and_then gap_tells (λ g. literal_tells)) (λ v. gives (ap (λ ls. texts (B ++ ls)) (of_one (test.Compare column op v.0)))))

nullness_tells : {B : List Literal} (free : Bool) → Plain B (k.nullness free)
unfolding k.nullness k.null_or_not k.not_null k.only_null
nullness_tells free = nexts (λ n. refl) (λ n b. nexts (λ m. refl) (λ m x. choices (lower x == 111)
    (and_then (word_tells (codes "t") refl) (λ g. and_then (keyword_tells g 110 (codes "ull") refl refl) (λ h. gives refl)))
    (and_then (word_tells (codes "ll") refl) (λ g. gives refl))))

null_test_tells : {B : List Literal} (column : List ℕ) → Tells B (and_condition B) (k.null_test column)
unfolding k.null_test
null_test_tells {B = B} column = and_then (word_tells (codes "s") refl) (λ g. and_then (nullness_tells g) (λ n. gives (null_of B column n.0)))

tested_tells : {B : List Literal} (column : List ℕ) (b : ℕ) → Tells B (and_condition B) (k.tested column b)
unfolding k.tested
tested_tells column b = choices (lower b == 105) (null_test_tells column) (compared_tells column b)

one_test_tells : {B : List Literal} (b : ℕ) → Tells B (and_condition B) (k.one_test name_from b)
unfolding k.one_test
one_test_tells b = and_then (name_from_tells b) (λ x. nexts (λ n. refl) (λ n y. tested_tells x.0 y))

-- ---- AND and OR, over what reads a test or brackets

-- one more condition
more_of : (B : List Literal) (ps : List Condition) (p : Condition) → texts (B ++ flat_map of_condition (ps ++ p ∷ [])) ≡ texts ((B ++ flat_map of_condition ps) ++ of_condition p)
more_of B ps p = ap texts (sym (flat_map_more of_condition B ps p))

module _ (A : Atom) (h : (B : List Literal) (free : Bool) → Tells B (and_condition B) (A free)) where
  abbrev several : List Literal → Several → List Literal
  several B s = B ++ flat_map of_condition s.0

  abbrev ways : List Literal → Ways → List Literal
  ways B s = B ++ flat_map of_condition s.0

  part_tells : (B : List Literal) (free : Bool) (ps : List Condition) → Tells (B ++ flat_map of_condition ps) (several B) (k.part A free ps)
  unfolding k.part
  part_tells B free ps = and_then (h (B ++ flat_map of_condition ps) free) (λ p. gives (more_of B ps p.0))

  and_part_tells : (B : List Literal) (ps : List Condition) → Tells (B ++ flat_map of_condition ps) (several B) (k.and_part A ps)
  unfolding k.and_part
  and_part_tells B ps = and_then (word_tells (codes "nd") refl) (λ g. part_tells B g ps)

  more_parts_tell : (B : List Literal) (s : Several) → Tells (several B s) (several B) (k.more_parts A s)
  unfolding k.more_parts
  more_parts_tell B s = manys (λ a n. refl) (λ a n x. behind_taken (and_part_tells B a.0))

  all_of_tells : (B : List Literal) (free : Bool) → Tells B (and_condition B) (k.all_of A free)
  unfolding k.all_of
  all_of_tells B free = from (append-nil B) (and_then (and_then (part_tells B free []) (λ s. more_parts_tell B s)) (λ s. gives (ap (λ ls. texts (B ++ ls)) (of_all s.0))))

  way_tells : (B : List Literal) (free : Bool) (ps : List Condition) → Tells (B ++ flat_map of_condition ps) (ways B) (k.way A free ps)
  unfolding k.way
  way_tells B free ps = and_then (all_of_tells (B ++ flat_map of_condition ps) free) (λ p. gives (more_of B ps p.0))

  order_ending_tells : (B : List Literal) (orders : Bool) → Plain B (k.order_ending orders)
  unfolding k.order_ending
  order_ending_tells B orders = maybes (λ n. refl) (λ n b. and_then (letters_tell (codes "er") refl) (λ y. gives refl)) refl

  or_way_tells : (B : List Literal) (orders : Bool) (ps : List Condition) → Tells (B ++ flat_map of_condition ps) (ways B) (k.or_way A orders ps)
  unfolding k.or_way
  or_way_tells B orders ps = and_then (and_then (letters_tell (codes "r") refl) (λ x. order_ending_tells (B ++ flat_map of_condition ps) orders))
      (λ ordered. and_then gap_tells (λ g. choices ordered (gives refl) (way_tells B g ps)))

  more_ways_tell : (B : List Literal) (orders : Bool) (s : Ways) → Tells (ways B s) (ways B) (k.more_ways A orders s)
  unfolding k.more_ways
  more_ways_tell B orders s = manys (λ a n. refl) (λ a n x. behind_taken (or_way_tells B orders a.0))

  any_of_tells : (B : List Literal) (orders free : Bool) → Tells B (λ s. B ++ of_condition s.0) (k.any_of A orders free)
  unfolding k.any_of
  any_of_tells B orders free = from (append-nil B) (and_then (and_then (way_tells B free []) (λ s. more_ways_tell B orders s)) (λ s. gives (ap (λ ls. texts (B ++ ls)) (of_any s.0))))

  bracketed_tells : (B : List Literal) → Tells B (and_condition B) (k.bracketed A)
  unfolding k.bracketed
  bracketed_tells B = and_then (and_then gap_tells (λ g. any_of_tells B false true)) (λ s. and_then (sign_tells 41 refl) (λ g. gives refl))

begun_tells : (B : List Literal) (room : Bool) (F : Rule (Ended Condition)) → Tells B (and_condition B) F → (free : Bool) → Tells B (and_condition B) (k.begun name_from room F free)
unfolding k.begun
begun_tells B room F h free = nexts (λ n. refl) (λ n b. choices (b == 40) h (one_test_tells b))

atom_tells : (room : ℕ) (B : List Literal) (free : Bool) → Tells B (and_condition B) (k.atom name_from room free)
unfolding k.atom
atom_tells zero B free = begun_tells B false _ (nevers _) free
atom_tells (suc room) B free = begun_tells B true _ (bracketed_tells (k.atom name_from room) (λ B free. atom_tells room B free) B) free

-- ---- CREATE and INSERT

kind_tells : {B : List Literal} (free : Bool) → Plain B (f.kind free)
unfolding f.kind
kind_tells free = nexts (λ n. refl) (λ n b. choices (lower b == 105) (and_then (word_tells (codes "nteger") refl) (λ g. gives refl)) (and_then (word_tells (codes "ext") refl) (λ g. gives refl)))

definition_tells : {B : List Literal} (xs : List Column) → Plain B (f.definition xs)
unfolding f.definition
definition_tells xs = and_then (named_tells true) (λ x. and_then (kind_tells x.1) (λ y. gives refl))

more_definitions_tell : {B : List Literal} (xs : List Column) → Plain B (f.more_definitions xs)
unfolding f.more_definitions f.one_more_definition
more_definitions_tell xs = manys (λ a n. refl) (λ a n x. behind_taken (and_then gap_tells (λ g. definition_tells a)))

definitions_tell : {B : List Literal} → Plain B f.definitions
unfolding f.definitions
definitions_tell = and_then (and_then (and_then (sign_tells 40 refl) (λ g. definition_tells [])) (λ xs. more_definitions_tell xs)) (λ xs. and_then (sign_tells 41 refl) (λ g. gives refl))

create_tells : Tells [] literals f.create
unfolding f.create
create_tells = and_then (word_tells (codes "reate") refl) (λ g. and_then (and_then (keyword_tells g 116 (codes "able") refl refl) (λ h. named_tells h)) (λ x. and_then definitions_tell (λ xs. gives refl)))

names_from_tells : {B : List Literal} (b : ℕ) → Plain B (f.names_from b)
unfolding f.names_from f.more_names f.one_more_name
names_from_tells b = and_then (name_from_tells b) (λ x. manys (λ a n. refl) (λ a n y. behind_taken (and_then (and_then gap_tells (λ g. named_tells true)) (λ z. gives refl))))

cell_tells : (B ls : List Literal) → Tells (B ++ ls) (λ xs. B ++ xs) (f.cell ls)
unfolding f.cell
cell_tells B ls = and_then (and_then gap_tells (λ g. literal_tells)) (λ v. gives (ap texts (sym (append_assoc B ls (v.0 ∷ [])))))

more_cells_tell : (B ls : List Literal) → Tells (B ++ ls) (λ xs. B ++ xs) (f.more_cells ls)
unfolding f.more_cells
more_cells_tell B ls = manys (λ a n. refl) (λ a n x. behind_taken (cell_tells B a))

more_rows_of : (rs : List (List Literal)) (ls : List Literal) → of_rows (rs ++ ls ∷ []) ≡ of_rows rs ++ ls
more_rows_of [] ls = append-nil ls
more_rows_of (r ∷ rs) ls = ap (λ xs. r ++ xs) (more_rows_of rs ls) ∙ sym (append_assoc r (of_rows rs) ls)

row_tells : (rs : List (List Literal)) → Tells (of_rows rs) of_rows (f.row rs)
unfolding f.row
row_tells rs = and_then (and_then (and_then (sign_tells 40 refl) (λ g. from (append-nil (of_rows rs)) (cell_tells (of_rows rs) []))) (λ ls. more_cells_tell (of_rows rs) ls)) (λ ls. and_then (sign_tells 41 refl) (λ g. gives (ap texts (more_rows_of rs ls))))

rows_tell : Tells [] of_rows f.rows
unfolding f.rows f.more_rows f.one_more_row
rows_tell = and_then (row_tells []) (λ rs. manys (λ a n. refl) (λ a n x. behind_taken (and_then gap_tells (λ g. row_tells a))))

first_names_tell : {B : List Literal} → Plain B f.first_names
unfolding f.first_names
first_names_tell = nexts (λ n. refl) (λ n x. and_then (names_from_tells x) (λ y. gives refl))

listed_tells : {B : List Literal} → Plain B f.listed
unfolding f.listed
listed_tells = and_then (and_then gap_tells (λ g. first_names_tell)) (λ x. and_then (and_then (sign_tells 41 refl) (λ g. keyword_tells true 118 (codes "alues") refl refl)) (λ g. gives refl))

targets_tell : {B : List Literal} (free : Bool) → Plain B (f.targets free)
unfolding f.targets f.unlisted
targets_tell free = nexts (λ n. refl) (λ n b. choices (b == 40) listed_tells (and_then (word_tells (codes "alues") refl) (λ g. gives refl)))

insert_tells : Tells [] literals f.insert
unfolding f.insert
insert_tells = and_then (word_tells (codes "nsert") refl) (λ g. and_then (and_then (keyword_tells g 105 (codes "nto") refl refl) (λ h. named_tells h)) (λ x. and_then (targets_tell x.1) (λ cs. and_then rows_tell (λ rs. gives refl))))

-- ---- WHERE, ORDER BY and LIMIT

chosen_tells : (B : List Literal) (orders free : Bool) → Tells B (λ (x : Chosen). B ++ of_where x.0) (f.chosen name_from orders free)
unfolding f.chosen f.behind_where
chosen_tells B orders free = maybes (λ n. refl) (λ n b. and_then (word_tells (codes "here") refl) (λ g. and_then (any_of_tells (atom name_from 50) (λ B free. atom_tells 50 B free) B orders g) (λ x. gives refl))) (ap texts (append-nil B))

items_tell : {B : List Literal} (free : Bool) → Plain B (f.items free)
unfolding f.items f.star f.some_names
items_tell free = nexts (λ n. refl) (λ n b. choices (b == 42) (and_then gap_tells (λ g. gives refl)) (and_then (names_from_tells b) (λ x. gives refl)))

source_tells : {B : List Literal} (free : Bool) → Plain B (f.source free)
unfolding f.source
source_tells free = and_then (keyword_tells free 102 (codes "rom") refl refl) (λ g. named_tells g)

direction_tells : {B : List Literal} (free : Bool) → Plain B (f.direction free)
unfolding f.direction f.ascending f.descending
direction_tells free = maybes (λ n. refl) (λ n b. choices (lower b == 97) (and_then (word_tells (codes "sc") refl) (λ g. gives refl)) (and_then (word_tells (codes "esc") refl) (λ g. gives refl))) refl

order_column_tells : {B : List Literal} (free : Bool) → Plain B (f.order_column free)
unfolding f.order_column
order_column_tells free = and_then (and_then (keyword_tells free 98 (codes "y") refl refl) (λ g. named_tells g)) (λ x. and_then (direction_tells x.1) (λ d. gives refl))

ordering_tells : {B : List Literal} (behind : Behind) → Plain B (f.ordering behind)
unfolding f.ordering f.behind_order
ordering_tells behind = choices behind.1 (order_column_tells behind.0) (maybes (λ n. refl) (λ n b. and_then (word_tells (codes "rder") refl) (λ g. order_column_tells g)) refl)

limit_tells : {B : List Literal} (free : Bool) → Plain B (f.limit free)
unfolding f.limit f.behind_limit f.limit_number f.counted
limit_tells free = maybes (λ n. refl) (λ n b. and_then (word_tells (codes "imit") refl) (λ g. nexts (λ m. refl) (λ m x. and_then (digits_tell 9223372036854775807 m x) (λ v. and_then gap_tells (λ h. gives refl))))) refl

select_tells : Tells [] literals f.select
unfolding f.select
select_tells = and_then (and_then (word_tells (codes "elect") refl) (λ g. items_tell g)) (λ cs. and_then (source_tells cs.1) (λ x. and_then (chosen_tells [] true x.1) (λ y. and_then (ordering_tells y.1) (λ o. and_then (limit_tells o.1) (λ n. gives refl)))))

-- ---- UPDATE and DELETE

change_tells : (free : Bool) (xs : List Change) → Tells (of_changes xs) (λ (s : Ended (List Change)). of_changes s.0) (f.change free xs)
unfolding f.change
change_tells free xs = and_then (named_tells free) (λ x. and_then (and_then (sign_tells 61 refl) (λ g. literal_tells)) (λ v. gives (ap texts (map-append (λ (y : Change). y.literal) xs (record { column = x.0; literal = v.0 } ∷ [])))))

changes_tell : (free : Bool) → Tells [] (λ (s : Ended (List Change)). of_changes s.0) (f.changes free)
unfolding f.changes f.more_changes f.one_more_change
changes_tell free = and_then (change_tells free []) (λ s. manys (λ a n. refl) (λ a n x. behind_taken (and_then gap_tells (λ g. change_tells true a.0))))

update_tells : Tells [] literals f.update
unfolding f.update
update_tells = and_then (and_then (word_tells (codes "pdate") refl) (λ g. named_tells g)) (λ x. and_then (and_then (keyword_tells x.1 115 (codes "et") refl refl) (λ g. changes_tell g)) (λ cs. and_then (chosen_tells (of_changes cs.0) false cs.1) (λ y. gives refl)))

delete_tells : Tells [] literals f.delete
unfolding f.delete
delete_tells = and_then (and_then (word_tells (codes "elete") refl) (λ g. source_tells g)) (λ x. and_then (chosen_tells [] false x.1) (λ y. gives refl))

-- ---- statements

opening_tells : Tells [] literals f.opening
unfolding f.opening f.begun_by
opening_tells = nexts (λ n. refl) (λ n b. choices (lower b == 99) create_tells (choices (lower b == 105) insert_tells (choices (lower b == 115) select_tells (choices (lower b == 117) update_tells delete_tells))))

ending_tells : {B : List Literal} → Plain B f.ending
unfolding f.ending
ending_tells = maybes (λ n. refl) (λ n b. gap_tells) refl

statement_tells : Tells [] literals f.statement
unfolding f.statement
statement_tells = and_then (and_then gap_tells (λ g. opening_tells)) (λ x. and_then ending_tells (λ e. gives refl))

nothing_after : (m : ℕ) (r s : List ℕ) (z : Requoted r s) → [] ≡ placed m r → stretches m z ≡ []
nothing_after m r s q.done e = refl
nothing_after m r s (q.same {b = b} ne z) e = (let h : [] ≡ record { at = m; byte = b } ∷ placed (suc m) _ = e in cc)
nothing_after m r s (q.other x y e f h z) g = cc

pub requotes_texts : RequotesTexts IsStatement
requotes_texts bytes others x s r =
    let k = statement_tells.tell 0 bytes others x [] r s in
    k.sum ∙ ap (λ ps. texts (literals x) ++ ps) (nothing_after k.there k.others k.others_too k.left k.at) ∙ append-nil (texts (literals x))
