use Rattle.resin_eval_nested.specs.Under.meaning_forms.Merges.{fold_sets}
use Rattle.resin_eval_nested.specs.Under.meaning_forms.Programs.{evals}
use Rattle.resin_eval_nested.proofs.Arms.{does_given}
use Rattle.resin_eval_nested.proofs.Arguments.{empty_list, opened_rest}
use Rattle.resin_eval_nested.proofs.Exits.{does_is}
use Rattle.resin_eval_merges.proofs.Exits.{does_unfolded}
use Rattle.resin_eval_nested.specs.Under.label.Sets.{NumberSet}
use Rattle.std.proofs.Common.{List, ap}
use Rattle.resin_eval_merges.proofs.merges.Merger.fold_asked.Goals as goal

pub returns-in_default : goal.returns-in_default
returns-in_default g c =
    does_is (ap (λ (xs : List NumberSet). fold_sets (evals c.args.self.now.by.now.room) xs) (empty_list _ c.in_default.len_below)) (does_given _ _ c.empty.ensures)

pub returns-in_err-first : goal.returns-in_err-first
returns-in_err-first g c =
    does_unfolded (evals c.args.self.now.by.now.room) _ _ c.from_residual.ensures.1

pub returns : goal.returns
returns g c =
    does_is (ap (λ (xs : List NumberSet). fold_sets (evals c.args.self.now.by.now.room) xs) (opened_rest _ _ c.in-len1-up.len_at_least c.first-item.is)) (rw c.in_ok-first.ensures.cases at c.fold_on.ensures)
