use Rattle.resin_eval_nested.proofs.run.Run.file_exists.Goals as goal

pub returns : goal.returns
returns g c = c.file_exists.ensures _
