use Rattle.resin_eval_nested.proofs.run.Run.table_rows.Goals as goal

pub returns : goal.returns
returns g c = c.table_rows.ensures _
