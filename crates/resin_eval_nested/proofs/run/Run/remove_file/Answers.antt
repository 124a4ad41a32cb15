use Rattle.resin_eval_nested.proofs.run.Run.remove_file.Goals as goal

pub returns : goal.returns
returns g c = c.remove_file.ensures _
