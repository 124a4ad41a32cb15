use Rattle.resin_eval_nested.specs.Under.meaning_forms.Programs.{evals}
use Rattle.resin_eval_merges.proofs.Exits.{does_unfolded}
use Rattle.resin_eval_merges.proofs.Unasked.{does_fold}
use Rattle.resin_eval_merges.proofs.merges.Merger.fold_sets.Goals as goal

pub returns-in_err-all : goal.returns-in_err-all
returns-in_err-all g c =
    does_unfolded (evals c.args.self.now.by.now.room) _ _ c.from_residual.ensures.1

pub returns-then-answer_themselves : goal.returns-then-answer_themselves
returns-then-answer_themselves g c =
    does_fold (evals c.args.self.now.by.now.room) c.args.sets.now _ _ _ c.in_ok-all.ensures c.as_slice.ensures.members (c.answer_themselves.ensures c.if-answer_themselves.true)
