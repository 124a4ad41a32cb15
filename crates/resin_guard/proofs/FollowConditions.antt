-- Conditions in a text with other bytes between its quotes.
use Rattle.std.proofs.Common.{◌≡◌, ℕ, zero, suc, Bool, true, false, List, [], ◌∷◌, ◌++◌, map, refl, sym, ap, ◌∙◌}
use Rattle.std.specs.Prelude.{◌==◌, codes}
use Rattle.std.proofs.lemmas.List.{map-append}
use Rattle.resin_scan.specs.Bytes.{lower}
use Rattle.resin_sql_words.specs.declared.literals.Literal.{Literal}
use Rattle.resin_sql_words.specs.Forms.{Rule}
use Rattle.resin_sql_words.specs.Words.{Ended}
use Rattle.resin_sql.specs.Conditions as f
use Rattle.resin_sql.specs.Conditions.{Tested, Atom, Several, Ways, Behind, is_and, is_or, begins_test}
use Rattle.resin_sql.specs.declared.tree.Comparison.{Comparison}
use Rattle.resin_sql.specs.declared.tree.Condition.{Condition, Condition-F, fold-Condition, fold-roll-Condition}
use Rattle.resin_sql.specs.declared.tree.Condition.TheVariants as c
use Rattle.resin_sql.specs.declared.tree.Test.{Test}
use Rattle.resin_sql.specs.declared.tree.Test.TheVariants as t
use Rattle.resin_guard.specs.Requoted.{shape_of_test, shape_of_level, shape_of_condition}
use Rattle.resin_guard.proofs.Follows.{Follows, whole, behind_taken, gives, followed_by, and_then, nexts, maybes, manys, choices, nevers, weaken}
use Rattle.resin_guard.proofs.FollowWords.{gap_follows, letters_follow, word_follows, keyword_follows, sign_follows, ended_shape, literal_follows}

-- ---- shapes by their parts

shape_test : (x : Test) → shape_of_condition (c.Test x) ≡ c.Test (shape_of_test x)
unfolding shape_of_condition
shape_test x = ap (fold-Condition Condition shape_of_level) (sym (c.rolls-Test x)) ∙ fold-roll-Condition Condition shape_of_level (Condition-F.Test x)

shape_all : (ps : List Condition) → shape_of_condition (c.All ps) ≡ c.All (map shape_of_condition ps)
unfolding shape_of_condition
shape_all ps = ap (fold-Condition Condition shape_of_level) (sym (c.rolls-All ps)) ∙ fold-roll-Condition Condition shape_of_level (Condition-F.All ps)

shape_any : (ps : List Condition) → shape_of_condition (c.Any ps) ≡ c.Any (map shape_of_condition ps)
unfolding shape_of_condition
shape_any ps = ap (fold-Condition Condition shape_of_level) (sym (c.rolls-Any ps)) ∙ fold-roll-Condition Condition shape_of_level (Condition-F.Any ps)

pub pair : {A B : Type 0} (s u : A × B) → s.0 ≡ u.0 → s.1 ≡ u.1 → s ≡ u
pair {A} {B} s u p q = ap (λ x. let z : A × B = (x, s.1) in z) p ∙ ap (λ y. let z : A × B = (u.0, y) in z) q

pub pushed : {A B : Type 0} (f : A → B) (xs ys : List A) (x y : A) → map f ys ≡ map f xs → f y ≡ f x → map f (ys ++ y ∷ []) ≡ map f (xs ++ x ∷ [])
pushed f xs ys x y e h = map-append f ys (y ∷ []) ∙ ap (λ zs. zs ++ f y ∷ []) e ∙ ap (λ z. map f xs ++ z ∷ []) h ∙ sym (map-append f xs (x ∷ []))

abbrev pub condition_shape : Ended Condition → Ended Condition
condition_shape s = (shape_of_condition s.0, s.1)

abbrev pub several_shape : Several → Several
several_shape s = (map shape_of_condition s.0, s.1)

abbrev pub ways_shape : Ways → Ways
ways_shape s = (map shape_of_condition s.0, s.1)

abbrev pub any_shape : Condition × Behind → Condition × Behind
any_shape s = (shape_of_condition s.0, s.1)

-- ---- a test

less_follows : Follows whole f.less f.less
unfolding f.less
less_follows = maybes (λ n m b. refl) (λ n. refl) (λ n m b. gives refl) refl

greater_follows : Follows whole f.greater f.greater
unfolding f.greater
greater_follows = maybes (λ n m b. refl) (λ n. refl) (λ n m b. gives refl) refl

comparison_follows : (b : ℕ) → Follows whole (f.comparison b) (f.comparison b)
unfolding f.comparison
comparison_follows b = choices (b == 61) (gives refl) (choices (b == 60) less_follows greater_follows)

compared_alike : (column : List ℕ) (op : Comparison) (v u : Ended Literal) → ended_shape u ≡ ended_shape v → condition_shape (c.Test (t.Compare column op u.0), u.1) ≡ condition_shape (c.Test (t.Compare column op v.0), v.1)
compared_alike column op v u e =
    pair (condition_shape (c.Test (t.Compare column op u.0), u.1)) (condition_shape (c.Test (t.Compare column op v.0), v.1))
    (shape_test (t.Compare column op u.0) ∙ ap (λ x. c.Test (t.Compare column op x)) (ap (λ (s : Ended Literal). s.0) e) ∙ sym (shape_test (t.Compare column op v.0)))
    (ap (λ (s : Ended Literal). s.1) e)

compared_follows : (column : List ℕ) (b : ℕ) → Follows condition_shape (f.compared column b) (f.compared column b)
unfolding f.compared
compared_follows column b = and_then (comparison_follows b) (λ op. followed_by (and_then gap_follows (λ g. literal_follows)) (λ v u e. gives (compared_alike column op v u e)))

only_null_follows : Follows whole f.only_null f.only_null
unfolding f.only_null
only_null_follows = and_then (word_follows (codes "ll") refl) (λ g. gives refl)

not_null_follows : Follows whole f.not_null f.not_null
unfolding f.not_null
not_null_follows = and_then (word_follows (codes "t") refl) (λ g. and_then (keyword_follows g 110 (codes "ull") refl refl) (λ h. gives refl))

null_or_not_follows : Follows whole f.null_or_not f.null_or_not
unfolding f.null_or_not
null_or_not_follows = nexts (λ n m b. refl) (λ n. refl) (λ n m b. choices (lower b == 111) not_null_follows only_null_follows)

nullness_follows : (free : Bool) → Follows whole (f.nullness free) (f.nullness free)
unfolding f.nullness
nullness_follows free = nexts (λ n m b. refl) (λ n. refl) (λ n m b. null_or_not_follows)

null_test_follows : (column : List ℕ) → Follows whole (f.null_test column) (f.null_test column)
unfolding f.null_test
null_test_follows column = and_then (word_follows (codes "s") refl) (λ g. and_then (nullness_follows g) (λ n. gives refl))

tested_follows : (column : List ℕ) (b : ℕ) → Follows condition_shape (f.tested column b) (f.tested column b)
unfolding f.tested
tested_follows column b = choices (lower b == 105) (weaken (null_test_follows column)) (compared_follows column b)

one_test_follows : (C : Tested) → ((b : ℕ) → Follows whole (C b) (C b)) → (b : ℕ) → Follows condition_shape (f.one_test C b) (f.one_test C b)
unfolding f.one_test
one_test_follows C h b = and_then (h b) (λ x. nexts (λ n m b. refl) (λ n. refl) (λ n m b. tested_follows x.0 b))

-- ---- AND and OR, over what reads a test or brackets

module _ (A : Atom) (h : (free : Bool) → Follows condition_shape (A free) (A free)) where
  part_follows : (free : Bool) (xs ys : List Condition) → map shape_of_condition ys ≡ map shape_of_condition xs → Follows several_shape (f.part A free xs) (f.part A free ys)
  unfolding f.part
  part_follows free xs ys e = followed_by (h free) (λ p u k. gives (pair (several_shape (ys ++ u.0 ∷ [], u.1)) (several_shape (xs ++ p.0 ∷ [], p.1))
      (pushed shape_of_condition xs ys p.0 u.0 e (ap (λ (s : Ended Condition). s.0) k)) (ap (λ (s : Ended Condition). s.1) k)))

  and_part_follows : (xs ys : List Condition) → map shape_of_condition ys ≡ map shape_of_condition xs → Follows several_shape (f.and_part A xs) (f.and_part A ys)
  unfolding f.and_part
  and_part_follows xs ys e = and_then (word_follows (codes "nd") refl) (λ g. part_follows g xs ys e)

  more_parts_follow : (s u : Several) → several_shape u ≡ several_shape s → Follows several_shape (f.more_parts A s) (f.more_parts A u)
  unfolding f.more_parts
  more_parts_follow s u e = manys (λ a b k n m x. ap (λ free. is_and free x) (sym (ap (λ (s : Several). s.1) k))) (λ a n. refl)
      (λ a b k n m x. behind_taken (and_part_follows a.0 b.0 (ap (λ (s : Several). s.0) k))) e

  all_of_follows : (free : Bool) → Follows condition_shape (f.all_of A free) (f.all_of A free)
  unfolding f.all_of
  all_of_follows free = followed_by (followed_by (part_follows free [] [] refl) (λ s u e. more_parts_follow s u e)) (λ s u e. gives (pair (condition_shape (c.All u.0, u.1)) (condition_shape (c.All s.0, s.1))
      (shape_all u.0 ∙ ap c.All (ap (λ (s : Several). s.0) e) ∙ sym (shape_all s.0)) (ap (λ (s : Several). s.1) e)))

  way_follows : (free : Bool) (xs ys : List Condition) → map shape_of_condition ys ≡ map shape_of_condition xs → Follows ways_shape (f.way A free xs) (f.way A free ys)
  unfolding f.way
  way_follows free xs ys e = followed_by (all_of_follows free) (λ p u k. gives (pair (ways_shape (ys ++ u.0 ∷ [], (u.1, false))) (ways_shape (xs ++ p.0 ∷ [], (p.1, false)))
      (pushed shape_of_condition xs ys p.0 u.0 e (ap (λ (s : Ended Condition). s.0) k)) (ap (λ free. let z : Behind = (free, false) in z) (ap (λ (s : Ended Condition). s.1) k))))

  or_way_follows : (orders : Bool) (xs ys : List Condition) → map shape_of_condition ys ≡ map shape_of_condition xs → Follows ways_shape (f.or_way A orders xs) (f.or_way A orders ys)
  unfolding f.or_way f.order_ending
  or_way_follows orders xs ys e = and_then (and_then (letters_follow (codes "r") refl) (λ x. maybes (λ n m b. refl) (λ n. refl) (λ n m b. and_then (letters_follow (codes "er") refl) (λ y. gives refl)) refl))
      (λ ordered. and_then gap_follows (λ g. choices ordered (gives (pair (ways_shape (ys, (g, true))) (ways_shape (xs, (g, true))) e refl)) (way_follows g xs ys e)))

  more_ways_follow : (orders : Bool) (s u : Ways) → ways_shape u ≡ ways_shape s → Follows ways_shape (f.more_ways A orders s) (f.more_ways A orders u)
  unfolding f.more_ways
  more_ways_follow orders s u e = manys (λ a b k n m x. ap (λ behind. is_or behind x) (sym (ap (λ (s : Ways). s.1) k))) (λ a n. refl)
      (λ a b k n m x. behind_taken (or_way_follows orders a.0 b.0 (ap (λ (s : Ways). s.0) k))) e

  pub any_of_follows : (orders free : Bool) → Follows any_shape (f.any_of A orders free) (f.any_of A orders free)
  unfolding f.any_of
  any_of_follows orders free = followed_by (followed_by (way_follows free [] [] refl) (λ s u e. more_ways_follow orders s u e)) (λ s u e. gives (pair (any_shape (c.Any u.0, u.1)) (any_shape (c.Any s.0, s.1))
      (shape_any u.0 ∙ ap c.Any (ap (λ (s : Ways). s.0) e) ∙ sym (shape_any s.0)) (ap (λ (s : Ways). s.1) e)))

  bracketed_follows : Follows condition_shape (f.bracketed A) (f.bracketed A)
  unfolding f.bracketed
  bracketed_follows = followed_by (and_then gap_follows (λ g. any_of_follows false true)) (λ s u e. and_then (sign_follows 41 refl) (λ g. gives (pair (condition_shape (u.0, true)) (condition_shape (s.0, true)) (ap (λ (s : Condition × Behind). s.0) e) refl)))

-- ---- brackets

begun_follows : (C : Tested) → ((b : ℕ) → Follows whole (C b) (C b)) → (room : Bool) (F G : Rule (Ended Condition)) → Follows condition_shape F G → (free : Bool) → Follows condition_shape (f.begun C room F free) (f.begun C room G free)
unfolding f.begun
begun_follows C h room F G k free = nexts (λ n m b. refl) (λ n. refl) (λ n m b. choices (b == 40) k (one_test_follows C h b))

pub atom_follows : (C : Tested) → ((b : ℕ) → Follows whole (C b) (C b)) → (room : ℕ) (free : Bool) → Follows condition_shape (f.atom C room free) (f.atom C room free)
unfolding f.atom
atom_follows C h zero free = begun_follows C h false _ _ (nevers _ _) free
atom_follows C h (suc room) free = begun_follows C h true _ _ (bracketed_follows (f.atom C room) (λ free. atom_follows C h room free)) free
