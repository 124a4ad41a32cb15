use Rattle.resin_eval_merges.specs.Under.meaning_forms.Functions.{sprintf_arguments}
use Rattle.resin_eval_merges.specs.Under.meaning_forms.Programs.{evals}
use Rattle.resin_eval_merges.proofs.eval_nested_lemmas.Arms.{does_given}
use Rattle.resin_eval_merges.proofs.eval_nested_lemmas.Arguments.{empty_list, opened_rest}
use Rattle.resin_eval_merges.proofs.eval_nested_lemmas.Exits.{does_is, does_seen_exit}
use Rattle.resin_eval_functions.proofs.Formats.{no_format}
use Rattle.resin_eval_merges.proofs.meaning_lemmas.Composition.{does_next}
use Rattle.resin_eval_merges.specs.Under.value.Seen.{trees_of}
use Rattle.resin_eval_merges.specs.Under.value.declared.value.Value.{Value}
use Rattle.std.proofs.Common.{List, ap}
use Rattle.resin_eval_functions.proofs.arguments.Builtins.format_arguments.Goals as goal

pub returns-in_default : goal.returns-in_default
returns-in_default g c =
    does_is (ap (λ (xs : List Value). sprintf_arguments (evals c.args.self.now.by.now.room) (trees_of xs)) (empty_list _ c.in_default.len_below)) (does_given _ _ (ap trees_of c.new.ensures))

pub returns-in_err-format : goal.returns-in_err-format
returns-in_err-format g c =
    does_is (ap (λ (xs : List Value). sprintf_arguments (evals c.args.self.now.by.now.room) (trees_of xs)) (opened_rest _ _ c.in-len1-up.len_at_least c.first-item.is)) (does_seen_exit _ _ _ _ c.from_residual.ensures.1 (rw (c.requires.format) at c.in_err-format.ensures))

pub returns-in-Text : goal.returns-in-Text
returns-in-Text g c =
    does_is (ap (λ (xs : List Value). sprintf_arguments (evals c.args.self.now.by.now.room) (trees_of xs)) (opened_rest _ _ c.in-len1-up.len_at_least c.first-item.is)) (does_next _ _ (rw (c.requires.format) at c.in_ok-format.ensures) (rw c.in-Text.is c.behind_format.ensures))

pub returns : goal.returns
returns g c =
    does_is (ap (λ (xs : List Value). sprintf_arguments (evals c.args.self.now.by.now.room) (trees_of xs)) (opened_rest _ _ c.in-len1-up.len_at_least c.first-item.is)) (does_next _ _ (rw (c.requires.format) at c.in_ok-format.ensures) (does_is (no_format (evals c.args.self.now.by.now.room) _ _ c.in_default-format.not-Text) (does_given _ _ (ap trees_of c.new-in_default-format.ensures))))
