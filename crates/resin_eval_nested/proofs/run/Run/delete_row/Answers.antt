use Rattle.resin_eval_nested.proofs.run.Run.delete_row.Goals as goal

pub returns : goal.returns
returns g c = c.delete_row.ensures _
