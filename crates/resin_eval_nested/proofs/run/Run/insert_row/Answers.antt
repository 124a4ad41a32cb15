use Rattle.resin_eval_nested.proofs.run.Run.insert_row.Goals as goal

pub returns : goal.returns
returns g c = c.insert_row.ensures _
