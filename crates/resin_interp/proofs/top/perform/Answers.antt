use Rattle.resin_interp.proofs.Exits.{does_program}
use Rattle.resin_interp.proofs.top.perform.Goals as goal

pub returns : goal.returns
returns g c =
    does_program _ _ c.program_end.ensures c.run_file-end.ensures
