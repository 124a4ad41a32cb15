use Rattle.resin_eval_nested.specs.Under.meaning_forms.Operators.{set_of_number}
use Rattle.resin_eval_nested.specs.Under.meaning_forms.Programs.{evals}
use Rattle.resin_eval_merges.proofs.Arguments.{number_of_other}
use Rattle.resin_eval_nested.proofs.Arms.{does_given, does_none}
use Rattle.resin_eval_nested.proofs.Exits.{does_is}
use Rattle.resin_eval_nested.specs.Under.value.Seen.{tree_of}
use Rattle.resin_eval_nested.specs.Under.value.declared.value.Value.{Value}
use Rattle.std.proofs.Common.{ap}
use Rattle.resin_eval_merges.proofs.merges.Merger.set_of_number.Goals as goal

pub returns-in-Text : goal.returns-in-Text
returns-in-Text g c =
    does_is (ap (λ (x : Value). set_of_number (evals c.args.self.now.by.now.room) (tree_of x)) c.in-Text.is) c.folded.ensures

pub returns-in_err-own_set-in_default : goal.returns-in_err-own_set-in_default
returns-in_err-own_set-in_default g c =
    does_is (number_of_other (evals c.args.self.now.by.now.room) _ c.in_default.not-Text) (does_none _ _ c.from_residual.ensures.1)

pub returns-in_ok-own_set-in_default : goal.returns-in_ok-own_set-in_default
returns-in_ok-own_set-in_default g c =
    does_is (number_of_other (evals c.args.self.now.by.now.room) _ c.in_default.not-Text) (does_given _ _ c.in_ok-own_set-in_default.ensures)
