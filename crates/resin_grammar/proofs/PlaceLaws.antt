-- Targets: one more postfix, and the expression that reads one.
use Rattle.std.proofs.Common.{◌≡◌, ℕ, ◌+◌, max, Bool, true, false, cond, List, [], ◌∷◌, ◌++◌, map, refl, sym, ◌∙◌, ap, subst, arith}
use Rattle.std.specs.Prelude.{◌||◌}
use Rattle.std.specs.List.{fold, list_any}
use Rattle.std.proofs.lemmas.List.Folds.{list_any-append}
use Rattle.resin_tree.specs.declared.expression.Expr.{Expr}
use Rattle.resin_tree.specs.declared.expression.PathStep.{PathStep, PathStep-F, out-PathStep, roll-PathStep, roll-out-PathStep, fold-roll-PathStep}
use Rattle.resin_tree.specs.declared.expression.PathStep.TheVariants as step
use Rattle.resin_grammar.specs.Heights.{along, step_height, height, of_access, of_assignment, of_call, of_expr, of_operation, of_step, of_test, of_item, of_target}
use Rattle.resin_grammar.specs.Trees as tree
use Rattle.resin_grammar.specs.Places.{Place, longer, has_next, is_next, step_is_next, place_height, read_step, read_further, tree_of}
use Rattle.resin_grammar.specs.Layers.{Step}
use Rattle.resin_grammar.proofs.HeightLaws.{height_of_index, height_of_property, height_of_append, height_index, height_property, height_variable}

fold_push : (h : ℕ) (path : List PathStep) (s : PathStep) → fold along h (map step_height (path ++ s ∷ [])) ≡ max (fold along h (map step_height path)) (step_height s) + 1
fold_push h [] s = refl
fold_push h (r ∷ path) s = fold_push (along h (step_height r)) path s

pub height_further : (p : Place) (s : PathStep) → place_height (longer p s) ≡ max (place_height p) (step_height s) + 1
height_further p s = fold_push 1 p.path s

one_more : (a b c : Bool) → c ≡ (a || (b || false)) → c ≡ (a || b)
one_more true b c e = e
one_more false true c e = e
one_more false false c e = e

pub next_further : (p : Place) (s : PathStep) → has_next (longer p s) ≡ (has_next p || step_is_next s)
next_further p s = one_more (has_next p) (step_is_next s) (has_next (longer p s)) (list_any-append step_is_next p.path (s ∷ []))

pub next_of_index : (e : Expr) → step_is_next (step.Index e) ≡ false
unfolding out-PathStep denote.Hole.Carrier.out
next_of_index e = refl

pub next_of_property : (n : List ℕ) → step_is_next (step.Property n) ≡ false
unfolding out-PathStep denote.Hole.Carrier.out
next_of_property n = refl

pub next_of_append : step_is_next step.Append ≡ true
unfolding out-PathStep denote.Hole.Carrier.out
next_of_append = refl

pub or_false : (a : Bool) → (a || false) ≡ a
or_false true = refl
or_false false = refl

pub or_true : (a : Bool) → (a || true) ≡ true
or_true true = refl
or_true false = refl

pub index_height : (p : Place) (e : Expr) → place_height (longer p (step.Index e)) ≡ max (place_height p) (height e) + 1
index_height p e = height_further p (step.Index e) ∙ ap (along (place_height p)) (height_of_index e)

pub append_height : (p : Place) → place_height (longer p step.Append) ≡ max (place_height p) 0 + 1
append_height p = height_further p step.Append ∙ ap (along (place_height p)) height_of_append

pub property_height : (p : Place) (n : List ℕ) → place_height (longer p (step.Property n)) ≡ max (place_height p) 0 + 1
property_height p n = height_further p (step.Property n) ∙ ap (along (place_height p)) (height_of_property n)

pub index_next : (p : Place) (e : Expr) → has_next (longer p (step.Index e)) ≡ has_next p
index_next p e = next_further p (step.Index e) ∙ ap (λ b. has_next p || b) (next_of_index e) ∙ or_false (has_next p)

pub append_next : (p : Place) → has_next (longer p step.Append) ≡ true
append_next p = next_further p step.Append ∙ ap (λ b. has_next p || b) next_of_append ∙ or_true (has_next p)

pub property_next : (p : Place) (n : List ℕ) → has_next (longer p (step.Property n)) ≡ has_next p
property_next p n = next_further p (step.Property n) ∙ ap (λ b. has_next p || b) (next_of_property n) ∙ or_false (has_next p)

max_zero : (n : ℕ) → max n 0 ≡ n
max_zero n = omega arith

by_layer : (e : Expr) (l : Step) → is_next l ≡ false → height (read_step e l) ≡ along (height e) (step_height (roll-PathStep l))
unfolding height step_height
by_layer e (PathStep-F.«PathStep::Index» i) h = height_index e i ∙ ap (along (height e)) (sym (fold-roll-PathStep ℕ ℕ ℕ ℕ ℕ ℕ ℕ ℕ ℕ of_access of_assignment of_call of_expr of_operation of_step of_test of_item of_target (PathStep-F.«PathStep::Index» i)))
by_layer e PathStep-F.Append h = cc
by_layer e (PathStep-F.«PathStep::Property» n) h = height_property e n ∙ ap (λ k. k + 1) (sym (max_zero (height e))) ∙ ap (along (height e)) (sym (fold-roll-PathStep ℕ ℕ ℕ ℕ ℕ ℕ ℕ ℕ ℕ of_access of_assignment of_call of_expr of_operation of_step of_test of_item of_target (PathStep-F.«PathStep::Property» n)))

read_height_of : (e : Expr) (s : PathStep) → step_is_next s ≡ false → height (read_further e s) ≡ along (height e) (step_height s)
read_height_of e s h = subst (λ r. height (read_further e s) ≡ along (height e) (step_height r)) (roll-out-PathStep s) (by_layer e (out-PathStep s) h)

either_none : (a b : Bool) → (a || b) ≡ false → (a ≡ false) × (b ≡ false)
either_none true b h = cc
either_none false b h = (refl, h)

reads : (e : Expr) (path : List PathStep) → list_any step_is_next path ≡ false → height (fold read_further e path) ≡ fold along (height e) (map step_height path)
reads e [] h = refl
reads e (s ∷ path) h =
    let none = either_none (step_is_next s) (list_any step_is_next path) h in
    reads (read_further e s) path none.1 ∙ ap (λ k. fold along k (map step_height path)) (read_height_of e s none.0)

-- the expression that reads a target is as high as the target
pub height_read : (p : Place) → has_next p ≡ false → height (tree_of p) ≡ place_height p
height_read p h = reads (tree.variable p.variable) p.path h ∙ ap (λ k. fold along k (map step_height p.path)) (height_variable p.variable)
