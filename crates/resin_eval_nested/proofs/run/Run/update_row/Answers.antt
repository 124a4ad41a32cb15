use Rattle.resin_eval_nested.proofs.run.Run.update_row.Goals as goal

pub returns : goal.returns
returns g c = c.update_row.ensures _
