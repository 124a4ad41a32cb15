use Rattle.resin_eval_nested.proofs.run.Run.read_file.Goals as goal

pub returns : goal.returns
returns g c = c.read_file.ensures _
