use Rattle.resin_eval_nested.proofs.run.Run.create_table.Goals as goal

pub returns : goal.returns
returns g c = c.create_table.ensures _
