use Rattle.resin_interp.proofs.Places.{read_none}
use Rattle.resin_request.proofs.Kept_scripts.{exits}
use Rattle.resin_request.proofs.scripts.Scripts.read_anew.Goals as goal

pub returns-in_err-read_source : goal.returns-in_err-read_source
returns-in_err-read_source c = λ w. exits _ _ c.from_residual.ensures.1 (c.in_err-read_source.ensures w)

pub keep-kept-requires : goal.keep-kept-requires
keep-kept-requires c = λ w. rw c.in_ok-program.ensures (c.in_ok-read_source.ensures w)

pub returns : goal.returns
returns c = λ w. rw c.in_ok-program.ensures (c.in_ok-read_source.ensures w)

pub returns-in_err-program : goal.returns-in_err-program
returns-in_err-program c = λ w. exits _ _ c.from_residual-in_err-program.ensures.1 (read_none _ _ w)
