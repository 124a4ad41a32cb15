-- The literals of a condition by its parts, and one turn of a loop that puts literals last.
use Rattle.std.proofs.Common.{◌≡◌, ℕ, ◌+◌, ◌<◌, List, ◌∷◌, [], ◌++◌, length, map, take, get_or, sym, ap, ◌∙◌, append_assoc}
use Rattle.std.specs.List.{flat_map}
use Rattle.std.proofs.lemmas.List.{take_more, flat_map_more}
use Rattle.std.proofs.lemmas.List.Folds.{flat_map-map}
use Rattle.resin_sql_words.specs.declared.literals.Literal.{Literal}
use Rattle.resin_sql.specs.declared.tree.Condition.{Condition, Condition-F, fold-Condition, fold-roll-Condition}
use Rattle.resin_sql.specs.declared.tree.Condition.TheVariants as c
use Rattle.resin_sql.specs.declared.tree.Test.{Test}
use Rattle.resin_sql.specs.Literals.{of_test, of_level, of_condition}

pub of_one : (t : Test) → of_condition (c.Test t) ≡ of_test t
unfolding of_condition
of_one t = ap (fold-Condition (List Literal) of_level) (sym (c.rolls-Test t)) ∙ fold-roll-Condition (List Literal) of_level (Condition-F.Test t)

pub of_all : (ps : List Condition) → of_condition (c.All ps) ≡ flat_map of_condition ps
unfolding of_condition
of_all ps = ap (fold-Condition (List Literal) of_level) (sym (c.rolls-All ps)) ∙ fold-roll-Condition (List Literal) of_level (Condition-F.All ps) ∙ flat_map-map (λ part. part) of_condition ps

pub of_any : (ps : List Condition) → of_condition (c.Any ps) ≡ flat_map of_condition ps
unfolding of_condition
of_any ps = ap (fold-Condition (List Literal) of_level) (sym (c.rolls-Any ps)) ∙ fold-roll-Condition (List Literal) of_level (Condition-F.Any ps) ∙ flat_map-map (λ part. part) of_condition ps

pub put_more : {X : Type 0} (f : X → List Literal) (xs : List X) (k : ℕ) (x : X) (old cur new : List Literal) → k < length xs → x ≡ get_or xs k x → cur ≡ old ++ flat_map f (take k xs) → new ≡ cur ++ f x → new ≡ old ++ flat_map f (take (k + 1) xs)
put_more f xs k x old cur new lt is c n =
    n ∙ ap (λ ls. ls ++ f x) c ∙ flat_map_more f old (take k xs) x
    ∙ ap (λ ys. old ++ flat_map f ys) (ap (λ y. take k xs ++ y ∷ []) is ∙ sym (take_more xs k x lt))
