use Rattle.resin_eval_nested.specs.Under.meaning_forms.Programs.{evals}
use Rattle.resin_eval_merges.proofs.Exits.{does_unfolded}
use Rattle.resin_eval_merges.proofs.merges.Merger.folded.Goals as goal

pub returns-in_err-sets : goal.returns-in_err-sets
returns-in_err-sets g c =
    does_unfolded (evals c.args.self.now.by.now.room) _ _ c.from_residual.ensures.1

pub returns : goal.returns
returns g c =
    rw (c.as_slice.ensures, c.in_ok-sets.ensures) at c.fold_sets.ensures
