use Rattle.resin_eval_nested.proofs.run.Run.table_columns.Goals as goal

pub returns : goal.returns
returns g c = c.table_columns.ensures _
