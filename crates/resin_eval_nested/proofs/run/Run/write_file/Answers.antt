use Rattle.resin_eval_nested.proofs.run.Run.write_file.Goals as goal

pub returns : goal.returns
returns g c = λ d w. c.write_file.ensures d w _
