use Rattle.std.proofs.Common.{[]}
use Rattle.resin_eval_merges.specs.Under.meaning_forms.Programs.{evals}
use Rattle.resin_eval_functions.proofs.Places.{no_left_integer, no_right_integer}
use Rattle.resin_eval_merges.proofs.eval_nested_lemmas.Arms.{does_given}
use Rattle.resin_eval_merges.proofs.eval_nested_lemmas.Exits.{does_is}
use Rattle.resin_eval_functions.proofs.arguments.Builtins.quotient_set.Goals as goal

pub returns-in_default-b : goal.returns-in_default-b
returns-in_default-b g c =
    rw c.in-Int.is (does_is (no_right_integer (evals c.args.self.now.by.now.room) c.in-Int.field-0 c.in-Int.left c.args.b.now [] c.in_default-b.not-Int) (does_given _ _ c.empty.ensures))

pub returns-in_default : goal.returns-in_default
returns-in_default g c =
    does_is (no_left_integer (evals c.args.self.now.by.now.room) _ _ _ c.in_default.not-Int) (does_given _ _ c.empty-in_default.ensures)

pub returns-in-Int-b : goal.returns-in-Int-b
returns-in-Int-b g c =
    rw (c.in-Int.is, c.in-Int-b.is) c.merge.ensures
