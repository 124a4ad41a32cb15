-- Targets while they are read: a variable, and the postfixes behind it.
use Rattle.std.specs.Prelude.{ℕ, Bool, true, false, List, [], ◌∷◌, ◌++◌, map}
use Rattle.std.specs.List.{fold, list_any}
use Rattle.resin_tree.specs.declared.expression.Expr.{Expr}
use Rattle.resin_tree.specs.declared.expression.PathStep.{PathStep, PathStep-F, out-PathStep}
use Rattle.resin_tree.specs.declared.expression.PathStep.TheVariants as step
use Rattle.resin_tree.specs.declared.expression.Target.{Target}
use Rattle.resin_grammar.specs.Layers.{Step}
use Rattle.resin_grammar.specs.Heights.{along, step_height}
use Rattle.resin_grammar.specs.Trees as tree

pub record Place : Type 0 where
  pub variable : List ℕ
  pub path : List PathStep

abbrev pub place : List ℕ → Place
place v = record { variable = v; path = [] }

abbrev pub longer : Place → PathStep → Place
longer p s = record { variable = p.variable; path = p.path ++ s ∷ [] }

-- `[e]`, `[]` and `->n` behind a target
abbrev pub at_index : Place → Expr → Place
at_index p e = longer p (step.Index e)

abbrev pub at_next : Place → Place
at_next p = longer p step.Append

abbrev pub at_property : Place → List ℕ → Place
at_property p n = longer p (step.Property n)

abbrev pub is_next : Step → Bool
is_next PathStep-F.Append = true
is_next (PathStep-F.«PathStep::Index» e) = false
is_next (PathStep-F.«PathStep::Property» n) = false

abbrev pub step_is_next : PathStep → Bool
step_is_next s = is_next (out-PathStep s)

-- whether `[]` is among the postfixes
abbrev pub has_next : Place → Bool
has_next p = list_any step_is_next p.path

abbrev pub read_step : Expr → Step → Expr
read_step e (PathStep-F.«PathStep::Index» i) = tree.index e i
read_step e (PathStep-F.«PathStep::Property» n) = tree.property e n
read_step e PathStep-F.Append = e

abbrev pub read_further : Expr → PathStep → Expr
read_further e s = read_step e (out-PathStep s)

-- the expression that reads a target, which has no `[]`
abbrev pub tree_of : Place → Expr
tree_of p = fold read_further (tree.variable p.variable) p.path

-- how high that is
abbrev pub place_height : Place → ℕ
place_height p = fold along 1 (map step_height p.path)

-- the target of an assignment
abbrev pub target_of : Place → Target
target_of p = record { variable = p.variable; path = p.path }
